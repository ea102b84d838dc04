pub mod Judge
pub mod FirstFailing
pub mod Told
pub mod Meaning
pub mod way

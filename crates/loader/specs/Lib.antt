pub mod Load
pub mod Told
pub mod way

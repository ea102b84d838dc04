pub mod Spelling
pub mod Finding
pub mod Told
pub mod way

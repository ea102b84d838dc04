pub mod Write
pub mod Told
pub mod way

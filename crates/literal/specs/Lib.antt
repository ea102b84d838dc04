pub mod Literal
pub mod way

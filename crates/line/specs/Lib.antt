pub mod Line
pub mod way

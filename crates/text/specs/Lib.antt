pub mod Grammar
pub mod Text
pub mod Told
pub mod way

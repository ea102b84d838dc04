pub mod Tag
pub mod Fault
pub mod Header
pub mod Bytes
pub mod Test
pub mod way

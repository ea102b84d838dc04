pub mod Filled
pub mod Put
pub mod Said

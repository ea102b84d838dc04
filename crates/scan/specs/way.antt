-- The code's way: definitions that the contracts of inner functions name, and that laws join to the definitions beside this file.
pub mod Columns
pub mod Block
pub mod Holds
pub mod Table
pub mod Entries
pub mod Eight

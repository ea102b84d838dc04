-- The code's way: definitions that the contracts of inner functions name, and that laws join to the definitions beside this file.
pub mod Place
pub mod Page

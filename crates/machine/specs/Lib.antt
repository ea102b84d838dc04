pub mod Past
pub mod Machine
pub mod Told
pub mod History

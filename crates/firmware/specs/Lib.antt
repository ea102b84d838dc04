pub mod Past
pub mod Loading
pub mod Judging
pub mod Starting
pub mod Scanning
pub mod Preparing
pub mod Finding

pub mod BoolLaws
pub mod ListLaws
pub mod BitLaws
pub mod PopcountLaws
pub mod ShiftLaws
pub mod LoopLaws
pub mod LoopTurns
pub mod Orbit

pub mod LoadLaws
pub mod LoadWayLaws
pub mod LoadTurns
pub mod RefusedZero

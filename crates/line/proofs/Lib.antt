pub mod LineLaws
pub mod LoadedSets

pub mod NamesWayLaws
pub mod ShapeWayLaws
pub mod SpellingLaws
pub mod FindingLaws
pub mod FoundPoints
pub mod ListTests

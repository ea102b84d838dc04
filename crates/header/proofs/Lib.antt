pub mod TagLaws
pub mod HeaderLaws
pub mod TestLaws

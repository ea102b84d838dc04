pub mod DecimalLaws
pub mod DigitsLaws

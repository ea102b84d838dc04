pub mod PlaceLaws
pub mod PageLaws
pub mod LiteralLaws
pub mod LinesLaws
pub mod TextLaws

pub mod LiteralLaws
pub mod LiteralWayLaws

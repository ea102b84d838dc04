pub mod LiteralBodyLaws
pub mod LowestBit
pub mod WriteLaws

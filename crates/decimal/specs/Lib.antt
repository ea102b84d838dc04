pub mod Decimal
pub mod Digits

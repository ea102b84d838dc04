pub mod Word
pub mod Loop

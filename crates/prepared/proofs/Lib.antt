mod FilledLaws
mod PutLaws
pub mod SaidBack

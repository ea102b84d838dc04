-- What the contracts of `bytes_io` cite.
pub mod Counts

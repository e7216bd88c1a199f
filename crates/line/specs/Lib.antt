-- The one line that the program prints: what the contracts of this crate cite.
pub mod Line

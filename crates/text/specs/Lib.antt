-- Numbers and texts as bytes: what the contracts of this crate cite.
pub mod Numbers
pub mod Ascii
pub mod Decimal

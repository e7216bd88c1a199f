-- The laws of numbers and texts as bytes. For the crates above: `Digits` and `Unpacking`.
pub mod Digits
pub mod Unpacking
pub mod Outcomes
pub mod Examples

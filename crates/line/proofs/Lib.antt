-- The laws of the line.
pub mod Counted
pub mod Parts
pub mod Examples

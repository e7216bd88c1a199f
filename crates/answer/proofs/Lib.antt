-- The laws of the steps from a file's bytes to the line.
pub mod Answers
pub mod Refusals

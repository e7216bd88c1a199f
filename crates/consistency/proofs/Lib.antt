-- The laws of the consistency check.
pub mod Spelling
pub mod Laying
pub mod Collecting
pub mod Deciding
pub mod Comparing
pub mod Seeking
pub mod Checking
pub mod Refusals

-- The laws of one placing.
pub mod Tails
pub mod Clearing
pub mod Copies
pub mod Exchanging
pub mod Settling
pub mod Raising
pub mod Meaning
pub mod Spelled
pub mod Stepping

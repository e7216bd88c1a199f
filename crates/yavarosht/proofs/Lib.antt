-- The C face: any two outcomes of a function coincide, and what the number of a verdict tells.
pub mod Outcomes
pub mod Telling

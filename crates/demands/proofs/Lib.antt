-- The headline theorems: what the calls promise, in the words of the demands. Demands has those of the calls, Checking those of the check,
-- Marked the examples; Meaning and Joining are how they are come by.
pub mod Meaning
pub mod Demands
pub mod Joining
pub mod Checking
pub mod Marked
pub mod Outcomes

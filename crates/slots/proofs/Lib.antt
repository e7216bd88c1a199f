-- The laws of slots, for the proofs of this crate and of those above it. Callers want Stacks and Letters, and of the others
-- `length-stack`, `brought-from` and `stretch-step`; Stores, Brings, Remaining and Reading carry the functions of this crate.
pub mod OnTop
pub mod Stores
pub mod Brings
pub mod Strings
pub mod Letters
pub mod Stacks
pub mod Remaining
pub mod Reading

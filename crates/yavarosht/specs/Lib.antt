-- The C face: what its functions hand out.
pub mod Handed
pub mod Verdict

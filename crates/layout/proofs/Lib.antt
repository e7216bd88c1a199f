-- The laws of the lent layout. For the crates above: `Accepted`, `Bounds`, `Relations` and `Valid`, `Pairs` for the pairs of a stretch,
-- `Views`, `Outcomes`. The others are steps on the way.
pub mod Every
pub mod Views
pub mod Primes
pub mod Rows
pub mod Stretches
pub mod Pairs
pub mod Cascade
pub mod Accepted
pub mod Fetching
pub mod Relations
pub mod Valid
pub mod Bounds
pub mod Refusals
pub mod Outcomes
pub mod Examples

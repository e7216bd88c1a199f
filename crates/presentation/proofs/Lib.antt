-- The opened presentation: what a judged number tells of an opening, what a refused opening and no numbers answer, and that any two outcomes
-- of a call coincide.
pub mod Accepting
pub mod Outcomes
pub mod Refusal

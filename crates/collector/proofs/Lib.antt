-- The laws of the run and the calls.
pub mod Looking
pub mod Judging
pub mod Grounding
pub mod Answered
pub mod Once
pub mod Outcomes
pub mod Turning
pub mod Holding
pub mod Finished
pub mod Inverses
pub mod Starts
pub mod Calling
pub mod Depths

-- Collecting under budget and room, and the calls. Read in this order.
pub mod Run
pub mod Given
pub mod Inputs
pub mod Starting
pub mod Running
pub mod Calls

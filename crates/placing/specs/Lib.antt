-- One placing on slots, as document 01 rules it. Read in this order.
pub mod Settable
pub mod Exchange
pub mod Step
pub mod Ready
pub mod Grounds

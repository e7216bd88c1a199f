-- The C library: each export promises what the function of yavarosht promises that has its name.
pub mod Promises

-- The laws of the theory, in the order in which they are built.
pub mod Words
pub mod Collecting
pub mod Leftmost
pub mod Joining
pub mod Consistency
pub mod Inverse
pub mod Prefix
pub mod Group
pub mod Arrays
pub mod Listing
pub mod Deciding
pub mod Examples

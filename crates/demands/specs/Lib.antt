-- What the headline theorems say, in the words of the demands, and document 01's marked examples.
pub mod Demands
pub mod Marked

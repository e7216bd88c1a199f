-- From the bytes of a file to the line: what the contracts of this crate cite.
pub mod File

-- The consistency check: the overlaps' sides as starting slots, judging one overlap, and the verdict. Read in this order.
pub mod Verdict
pub mod Sides
pub mod Check
pub mod Laying

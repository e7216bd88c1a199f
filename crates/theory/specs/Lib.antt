-- The mathematics of collection, with no layout, no slots and no limits: what a reader must believe of words and groups.
-- Read in this order.
pub mod Presentation
pub mod Replacement
pub mod Joined
pub mod Placing
pub mod Overlaps
pub mod Examples

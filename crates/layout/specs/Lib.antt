-- The lent layout of a presentation: what the contracts of this crate cite, in the order of document 01. Read in this order.
pub mod Every
pub mod Header
pub mod Prime
pub mod Contents
pub mod Bodies
pub mod Refusals
pub mod Judged
pub mod Relations
pub mod Words

-- Slots, from the lent numbers up to the word that they stand for. Read in this order.
pub mod Slots
pub mod Pieces
pub mod Stacked

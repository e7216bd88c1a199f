-- What the second collector's contracts say of a row of letters.
pub mod Normal
pub mod Reach

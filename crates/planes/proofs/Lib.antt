-- The laws of the crate, in the order in which they rest on each other.
pub mod Digits
pub mod Spelling
pub mod Masks
pub mod Vanishings
pub mod Quadratics
pub mod Once

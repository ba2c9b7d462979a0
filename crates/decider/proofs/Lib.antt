-- The laws of the crate, in the order in which they rest on each other.
pub mod Halves
pub mod Growing

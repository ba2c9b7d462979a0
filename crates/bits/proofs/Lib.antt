-- The laws of the crate, in the order in which they rest on each other.
pub mod Digits
pub mod Shifts
pub mod Sums
pub mod Distances
pub mod Placing
pub mod Remainders
pub mod Falling
pub mod Numbers
pub mod Octets
pub mod Sides
pub mod Chunks
pub mod Parts
pub mod Copies
pub mod Informing

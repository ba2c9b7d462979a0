-- The laws of the crate, in the order in which they rest on each other.
pub mod Zeros
pub mod Pieces
pub mod Writings
pub mod Sending
pub mod Waits
pub mod Turns

-- The laws of the crate, in the order in which they rest on each other.
pub mod Mending
pub mod Progress
pub mod Taking
pub mod Closing
pub mod Plain
pub mod Leaving
pub mod Faults
pub mod Stops
pub mod Receiving
pub mod Stepping

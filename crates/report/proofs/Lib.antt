-- The laws of the crate, in the order in which they rest on each other.
pub mod Decimals
pub mod Texts
pub mod Journeys
pub mod Outputs

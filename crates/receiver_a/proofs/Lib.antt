-- The laws of the crate, in the order in which they rest on each other.
pub mod Faults
pub mod Bursts
pub mod Deliveries
pub mod Settling

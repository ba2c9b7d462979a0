-- The laws of the crate, in the order in which they rest on each other.
mod Cubing
mod Rows
pub mod Horner
pub mod Once

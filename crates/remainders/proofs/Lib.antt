-- The laws of the crate, in the order in which they rest on each other.
pub mod Fours
pub mod Narrow
pub mod Entries
pub mod Turns
pub mod Windows
pub mod Leftovers

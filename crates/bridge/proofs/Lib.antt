pub mod Counts
pub mod Holds
pub mod Holdings
pub mod Once

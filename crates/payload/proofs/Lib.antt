-- The laws of the crate.
pub mod LineQuality
pub mod Scrambling
pub mod Forming
pub mod Periods
pub mod Turns
pub mod Writing
pub mod Packing
pub mod Once
pub mod Wires

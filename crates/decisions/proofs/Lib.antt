-- The laws of the crate, in the order in which they rest on each other.
pub mod Tables
pub mod Moves
pub mod OnceDecided
pub mod AfterA
pub mod PointsB
pub mod AfterB

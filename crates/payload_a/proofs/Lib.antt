-- The laws of the crate, in the order in which they rest on each other.
pub mod Known
pub mod Checks
pub mod Halves
pub mod Sums
pub mod Coding
pub mod Puttings
pub mod Fields
pub mod Framing
pub mod Turnings
pub mod VerdictsA
pub mod UniqueA
pub mod OnceA
pub mod TripsA
pub mod Rules

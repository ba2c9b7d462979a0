-- The laws of the crate, in the order in which they rest on each other.
pub mod Ours
pub mod Places
pub mod Lending
pub mod Legal
pub mod Rules
pub mod Turns

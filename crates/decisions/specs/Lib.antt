pub mod Decided
pub mod Deciding
pub mod Moves

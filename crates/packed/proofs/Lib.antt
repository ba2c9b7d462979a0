-- The laws of the crate, in the order in which they rest on each other.
pub mod Walks
pub mod Amid
pub mod Beginnings
pub mod Flips
pub mod Paddings
pub mod Windows
pub mod Stores
pub mod Places
pub mod Downs
pub mod Fronts
pub mod Runs
pub mod Once
pub mod Wordings
pub mod Endings

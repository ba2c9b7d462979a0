-- The laws of the crate.
pub mod Splitting
pub mod Symbols

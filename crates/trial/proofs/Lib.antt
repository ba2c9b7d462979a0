-- The laws of the crate.
pub mod Packing
pub mod Naming
pub mod Streaming

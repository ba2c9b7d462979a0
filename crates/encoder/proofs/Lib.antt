-- The laws of the crate, in the order in which they rest on each other.
pub mod Behind
pub mod PackedCodewords
pub mod Once

pub mod Check
pub mod Segments
pub mod CodedA
pub mod Modes
pub mod PromiseA

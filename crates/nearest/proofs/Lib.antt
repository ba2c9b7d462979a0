-- The laws of the crate, in the order in which they rest on each other.
pub mod Signed
pub mod Gaps
pub mod Distances
pub mod Margins
pub mod Spacings
pub mod Charts
pub mod Cells
pub mod Raised
pub mod Stretches
pub mod Squares
pub mod Holed
pub mod Eights
pub mod Nears
pub mod Phases

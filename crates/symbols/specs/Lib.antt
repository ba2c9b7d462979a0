pub mod Grid
pub mod Grids
pub mod Faults
pub mod Schemes
pub mod ByScheme
pub mod ByPhase
pub mod Quick

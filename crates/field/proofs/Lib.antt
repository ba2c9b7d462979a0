pub mod Linear
pub mod Sums
pub mod Products
pub mod Powers
mod Constants
pub mod Logarithms
pub mod Inverses
pub mod Elements
pub mod Values

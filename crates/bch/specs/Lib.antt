pub mod Codes
pub mod Promise
pub mod Registers
pub mod Held

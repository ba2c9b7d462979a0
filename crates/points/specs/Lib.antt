-- The definitions that the contracts and the laws cite: the standard's tables, and what is read from them.
pub mod Levels
pub mod AnnexB
pub mod Constellations
pub mod Rules
pub mod Dqpsk
pub mod Lent
pub mod Sizes

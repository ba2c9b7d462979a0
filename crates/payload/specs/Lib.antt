pub mod Scrambler
pub mod Wire

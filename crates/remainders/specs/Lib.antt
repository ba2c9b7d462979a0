pub mod Taking
pub mod Seen

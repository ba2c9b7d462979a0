pub mod Words
pub mod Places
pub mod Remainders
pub mod Bytes
pub mod Sides

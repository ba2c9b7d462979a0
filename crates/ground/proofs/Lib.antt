pub mod Firsts
pub mod Tests
pub mod Xors
pub mod Zips

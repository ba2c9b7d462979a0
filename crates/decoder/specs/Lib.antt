pub mod Promise
pub mod Locators
pub mod Marks
pub mod Candidates
pub mod Syndromes

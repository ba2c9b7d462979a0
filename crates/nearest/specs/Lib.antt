pub mod Nearest
pub mod Margins
pub mod Axes

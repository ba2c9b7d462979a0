pub mod Field
pub mod Tables

pub mod Tallying
pub mod Lines

pub mod Example
pub mod Network
pub mod Opened

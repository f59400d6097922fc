pub mod Keeping
pub mod Lines
pub mod Own
pub mod Reading
pub mod Sending

pub mod Value
pub mod Layout
pub mod Faults
pub mod Streams
pub mod Reading
pub mod Views
pub mod Names

pub mod Value
pub mod Views
pub mod Layout
pub mod Reading
pub mod Faults

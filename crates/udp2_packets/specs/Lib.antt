pub mod Value
pub mod Views
pub mod Layout
pub mod Faults
pub mod Reading

pub mod Value
pub mod Reading
pub mod ListViews
pub mod Views
pub mod Layout
pub mod Faults
pub mod Moves
pub mod Names

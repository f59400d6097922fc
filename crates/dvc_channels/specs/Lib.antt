pub mod Pieces
pub mod Cutting
pub mod Acts
pub mod Table
pub mod Fragments
pub mod Carrying

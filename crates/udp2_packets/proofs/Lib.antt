pub mod WriterLemmas
pub mod Pieces
pub mod Words
pub mod BehindPrefix
pub mod Frames
pub mod Theorems

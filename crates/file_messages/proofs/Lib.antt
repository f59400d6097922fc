pub mod Coming
pub mod Cutting
pub mod EachCut
pub mod LastFiles
pub mod Meaning
pub mod PathParts
pub mod ReaderSteps

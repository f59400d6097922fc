pub mod CoreView
pub mod JoinedCores

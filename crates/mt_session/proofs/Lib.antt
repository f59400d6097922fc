pub mod Stepping
pub mod Tallies
pub mod Lists
pub mod Counts

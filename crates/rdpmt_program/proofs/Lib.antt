pub mod Loop
pub mod Runs
pub mod Rows
pub mod Causes

pub mod Command
pub mod Script
pub mod Captures
pub mod Table
pub mod Fate
pub mod Outcome

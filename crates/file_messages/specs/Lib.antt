pub mod Files
pub mod Kept
pub mod Names
pub mod Read
pub mod Written

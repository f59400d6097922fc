pub mod Joining
pub mod Lines
pub mod Runs
pub mod Taken
pub mod Flags
pub mod FirstWords
pub mod OneOutput
pub mod ChannelParts

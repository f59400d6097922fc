pub mod MainStreams
pub mod Wires

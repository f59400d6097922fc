pub mod Faults
pub mod Told
pub mod Files
pub mod Streams
pub mod Wires
pub mod Reading
pub mod Memory
pub mod Shelf

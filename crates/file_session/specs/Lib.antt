pub mod Attaching
pub mod Messages
pub mod Opening
pub mod Sending
pub mod Taking

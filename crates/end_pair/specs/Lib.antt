pub mod Attaching
pub mod Delivered
pub mod Given
pub mod Joined
pub mod Laws
pub mod Moving

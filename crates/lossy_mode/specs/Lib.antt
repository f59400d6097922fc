pub mod Rings
pub mod Thin
pub mod LossyView
pub mod TwoLossy
pub mod OneLossy

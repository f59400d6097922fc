mod Adding
pub mod Halves
mod Places
mod OpenTunnels
mod ByHand

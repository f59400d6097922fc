pub mod Grammars
pub mod Windows
pub mod SubHeaders
pub mod Headers
pub mod Tunnels
pub mod Frames

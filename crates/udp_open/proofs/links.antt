-- The proof of the law of two joined links that open.
pub mod Flag
pub mod Opened
pub mod Machines
pub mod Network
pub mod JoinedMachines
pub mod OneLink
pub mod ThirdLink
pub mod Joined

pub mod Further
pub mod Making
mod Cuts
mod Portions
pub mod Sending
mod Fewest
pub mod Entries
pub mod Standing
pub mod Calls

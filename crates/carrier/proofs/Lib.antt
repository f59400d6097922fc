pub mod links
pub mod PartsJoined
pub mod Perfect
pub mod PerfectJoined
pub mod PerfectThin

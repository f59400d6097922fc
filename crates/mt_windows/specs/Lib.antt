pub mod Noted
pub mod BitsView
pub mod NotedView
pub mod Arrived
pub mod ArrivedView
pub mod Sending
pub mod FlightView
pub mod SendingView

pub mod Listed
pub mod Answering
pub mod Growing
pub mod Finding
pub mod Asking
pub mod InOrder
pub mod Given
pub mod Places

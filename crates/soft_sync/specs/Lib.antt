pub mod Exchanges
pub mod Words
pub mod Table
pub mod Session

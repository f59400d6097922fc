pub mod Grammar
pub mod Words
pub mod SecondWords
pub mod StreamWords
pub mod ChannelWords
pub mod Answer
pub mod Steps

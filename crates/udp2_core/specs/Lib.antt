pub mod SecondLayout
pub mod Exchange
pub mod Wrapping
pub mod TellingView
pub mod ContentsView
pub mod SettleView
pub mod MachineView
pub mod SecondLink

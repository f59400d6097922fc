pub mod Elements
pub mod RunsView
pub mod Longest
pub mod Numbers
pub mod RunWriting

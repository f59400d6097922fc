pub mod CodedBytes
pub mod CodedView
pub mod Written
pub mod Numbers
pub mod CodedWriting

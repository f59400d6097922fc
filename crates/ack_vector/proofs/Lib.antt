pub mod FlagLemmas
pub mod LongestLemmas
pub mod WriterLemmas

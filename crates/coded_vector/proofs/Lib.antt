pub mod FlagLemmas
pub mod PieceLemmas
pub mod WriterLemmas

-- What an end with its links keeps.
use Rattle.std.specs.Prelude.{Option}
use Rattle.end_calls.specs.Calls.{Postings}
use Rattle.end_reader.specs.declared.reader.Reader.{Reader}

pub record Kept (C P : Type 0) : Type 0 where
  pub reader : Reader
  pub postings : Postings
  pub reliable : Option C
  pub lossy : Option P

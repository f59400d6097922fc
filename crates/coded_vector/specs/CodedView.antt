-- The flags that an iterator has left, each with its offset.
use Rattle.std.specs.Prelude.{ℕ, Bool, List, [], ◌∷◌, ◌++◌, drop}
use Rattle.std.specs.List.{enumerate_from}
use Rattle.coded_vector.specs.declared.flags.Coded.{Coded}
use Rattle.coded_vector.specs.CodedBytes.{flags_in, flags_of}

-- the flags of coded bytes, behind those that were taken of the first byte
abbrev pub flags_left : ℕ → List ℕ → List Bool
flags_left taken [] = []
flags_left taken (c ∷ cs) = drop taken (flags_in c) ++ flags_of cs

abbrev pub coded_left : Coded → List (ℕ × Bool)
coded_left c = enumerate_from c.offset (flags_left c.taken c.bytes.now)

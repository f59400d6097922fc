-- The elements of an acknowledgement vector (MS-RDPEUDP section 2.2.2.7): bytes whose upper two
-- bits are a state and whose lower six bits count datagrams.
use Rattle.std.specs.Prelude.{◌≡◌, ℕ, ◌/◌, ◌%◌, ◌==◌, ◌⊎◌, Bool, List, replicate, All, flat_map}
use Rattle.ack_vector.specs.declared.reader.Run.{Run}

-- the state is 0, the datagrams were received, or 3, they were not
abbrev pub IsGood : ℕ → Type 0
IsGood e = (e / 64 ≡ 0) ⊎ (e / 64 ≡ 3)

-- the run of an element
abbrev pub run_of : ℕ → Run
run_of e = record { received = e / 64 == 0; length = e % 64 }

-- the flags of a run, one for each datagram
abbrev pub flags_in : Run → List Bool
flags_in run = replicate run.length run.received

-- the flags of elements, the oldest datagram first
abbrev pub flags_of : List ℕ → List Bool
flags_of es = flat_map (λ e. flags_in (run_of e)) es

-- these elements are good, and spell these flags
pub record Spell (es : List ℕ) (flags : List Bool) : Type 0 where
  pub good : All IsGood es
  pub flags_are : flags ≡ flags_of es

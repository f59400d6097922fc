-- What a stream tells of its calls.
use Rattle.std.specs.Prelude.{ℕ, ◌<◌, ◌≤◌, ◌==◌, List, [], ◌∷◌, Bool, true, length, take, Option, if◌then◌else◌}
use Rattle.mt_base.specs.declared.kinds.Role.{Role}
use Rattle.mt_outside.specs.declared.got.Got.{Got}
use Rattle.mt_outside.specs.declared.got.Got.TheVariants as got
use Rattle.mt_outside.specs.Told.{added, counted}

-- what a read gave
pub data Heard : Type 0 where
  Bytes : (bytes : List ℕ) → Heard
  Nothing : Heard
  Ended : Heard

-- what the answer of a read says, with the buffer that it left
abbrev pub heard_of : Got → List ℕ → Heard
heard_of (got.Bytes n) out = Bytes (take n out)
heard_of got.Nothing out = Nothing
heard_of got.End out = Ended

-- as many bytes as fit the buffer, and some where it has room
abbrev pub IsWithin : Got → List ℕ → Type 0
IsWithin (got.Bytes n) out = (n ≤ length out) × (0 < length out → 0 < n)
IsWithin got.Nothing out = Unit {0}
IsWithin got.End out = Unit {0}

-- The roles and ports of all opens, the bytes read and those written, how many reads gave nothing
-- or the end, how many writes took nothing of a piece that isn't empty, and whether a read told the
-- end. The lists are of streams that tell them, the rest is told by all.
pub record StreamTold : Type 0 where
  pub opened : Option (List (Role × ℕ))
  pub read : Option (List ℕ)
  pub written : Option (List ℕ)
  pub quiet : ℕ
  pub stuck : ℕ
  pub ended : Bool

-- after a call that opens it, whether it fails or not
abbrev pub opening : Role → ℕ → StreamTold → StreamTold
opening role port told = record told { opened = added told.opened ((role, port) ∷ []) }

-- after a read
abbrev pub heard : Heard → StreamTold → StreamTold
heard (Bytes bytes) told = record told { read = added told.read bytes }
heard Nothing told = record told { quiet = counted told.quiet }
heard Ended told = record told { quiet = counted told.quiet; ended = true }

-- the writes that took nothing, after one of these bytes that took n of them
abbrev pub stuck_by : List ℕ → ℕ → ℕ → ℕ
stuck_by [] n count = count
stuck_by (byte ∷ bytes) n count = if n == 0 then counted count else count

-- after a write of these bytes that took n of them
abbrev pub wrote : List ℕ → ℕ → StreamTold → StreamTold
wrote bytes n told = record told { written = added told.written (take n bytes); stuck = stuck_by bytes n told.stuck }

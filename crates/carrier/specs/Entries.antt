-- What happened to a link, call by call.
use Rattle.std.specs.Prelude.{ℕ, max, List, [], ◌∷◌, ◌++◌, Option}
use Rattle.mt_base.specs.Trace.{Trace, Start, ◌▷◌}
use Rattle.carrier.specs.declared.state.Took.{Took}

-- one call
pub data Entry : Type 0 where
  -- these bytes were given to be sent
  Gave : (bytes : List ℕ) → Entry
  -- this datagram came at this moment, and was answered so
  In : (now : ℕ) → (datagram : List ℕ) → (took : Took) → Entry
  -- at this moment this datagram was sent, or none
  Polled : (now : ℕ) → (out : Option (List ℕ)) → Entry
  -- these bytes were pulled into a buffer of this length
  Pulled : (room : ℕ) → (bytes : List ℕ) → Entry
  -- so many tellings more are owed
  Owed : (count : ℕ) → Entry
  -- this part was posted on a lossy link
  Posted : (bytes : List ℕ) → Entry
  -- this part, or none, was handed out by a lossy link
  Next : (bytes : Option (List ℕ)) → Entry

-- the last moment: the greatest that was given so far
abbrev pub moment : Trace Entry → ℕ
moment Start = 0
moment (t ▷ In now datagram took) = max (moment t) now
moment (t ▷ Polled now out) = max (moment t) now
moment (t ▷ e) = moment t

-- all bytes given, in order
abbrev pub given : Trace Entry → List ℕ
given Start = []
given (t ▷ Gave bytes) = given t ++ bytes
given (t ▷ e) = given t

-- all bytes pulled, in order
abbrev pub pulled : Trace Entry → List ℕ
pulled Start = []
pulled (t ▷ Pulled room bytes) = pulled t ++ bytes
pulled (t ▷ e) = pulled t

-- all parts posted, in order
abbrev pub posted : Trace Entry → List (List ℕ)
posted Start = []
posted (t ▷ Posted bytes) = posted t ++ bytes ∷ []
posted (t ▷ e) = posted t

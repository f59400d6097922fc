-- What goes over a link: the bytes that were given to it and those that were pulled from it.
use Rattle.std.specs.Prelude.{◌≡◌, ℕ, List, ◌++◌}
use Rattle.mt_base.specs.Trace.{Trace}
use Rattle.carrier.specs.Entries.{Entry, given, pulled}

-- Whatever calls a link stood for before, it now stands for calls by which just these bytes more
-- were given to it, and just those more were pulled from it.
pub record IsLater (now : Trace Entry → Type 0) (in_more out_more : List ℕ) (before : Trace Entry) : Type 0 where
  pub after : Trace Entry
  pub stands : now after
  pub gives : given after ≡ given before ++ in_more
  pub pulls : pulled after ≡ pulled before ++ out_more

abbrev pub Passes : (Trace Entry → Type 0) → (Trace Entry → Type 0) → List ℕ → List ℕ → Type 0
Passes old new in_more out_more = (t : Trace Entry) → old t → IsLater new in_more out_more t

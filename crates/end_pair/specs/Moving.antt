-- Bytes of the main stream on their way from one end to the other.
use Rattle.std.specs.Prelude.{◌≡◌, ℕ, ◌-◌, ◌≤◌, min, List, ◌++◌, length, take, drop, Option, Some, None}
use Rattle.mt_base.specs.declared.kinds.Role.{Role}
use Rattle.mt_base.specs.Ends.{other}
use Rattle.mt_base.specs.Trace.{Trace, ◌▷◌}
use Rattle.carrier.specs.declared.state.LinkState.{LinkState}
use Rattle.carrier.specs.Entries as link
use Rattle.mt_endpoint.specs.Acts.{Act}
use Rattle.end_calls.specs.Calls.{Entry, MainIn, MainOut}
use Rattle.end_calls.specs.Law.{unsent}
use Rattle.end_calls.specs.Net.{at}
use Rattle.endpoint.specs.Kept.{Kept}
use Rattle.endpoint.specs.Standing.{EndStands}
use Rattle.end_wires.specs.MainStreams.{under_way}

-- how many bytes more are asked of the sender, where so many are under way and so many wait there
abbrev pub needed : Option ℕ → ℕ → ℕ → ℕ
needed None kept waiting = waiting
needed (Some limit) kept waiting = min waiting (limit - kept)

-- the bytes that are offered to the receiver
abbrev pub up_to : Option ℕ → List ℕ → List ℕ
up_to None bytes = bytes
up_to (Some limit) bytes = take limit bytes

-- the sender handed out what was needed, behind what was under way
abbrev pub more_of : Role → Trace Entry → Option ℕ → List ℕ → ℕ
more_of role t limit kept = needed limit (length kept) (length (unsent role t))

pub record HandsOut {C P : Type 0} (carrier_stands : C → Trace link.Entry → Type 0) (carrier_left : C → List ℕ) (carrier_condition : C → LinkState) (post_stands : P → Trace link.Entry → Type 0) (post_left : P → List (List ℕ)) (post_condition : P → LinkState) (role : Role) (t : Trace Entry) (limit : Option ℕ) (kept bytes : List ℕ) (end : Kept C P) : Type 0 where
  pub bytes_are : bytes ≡ kept ++ take (more_of role t limit kept) (unsent role t)
  pub stands : EndStands carrier_stands carrier_left carrier_condition post_stands post_left post_condition end role (t ▷ MainOut (more_of role t limit kept) (take (more_of role t limit kept) (unsent role t)))

-- the receiver took so many of the bytes that it was offered; the others stay under way
pub record TakesIn {C P : Type 0} (carrier_stands : C → Trace link.Entry → Type 0) (carrier_left : C → List ℕ) (carrier_condition : C → LinkState) (post_stands : P → Trace link.Entry → Type 0) (post_left : P → List (List ℕ)) (post_condition : P → LinkState) (role : Role) (t : Trace Entry) (limit : Option ℕ) (bytes rest : List ℕ) (count : ℕ) (end : Kept C P) : Type 0 where
  pub within : count ≤ length (up_to limit bytes)
  pub rest_is : rest ≡ drop count bytes
  pub load : ℕ
  pub lack : Option (ℕ × Trace Act)
  pub stands : EndStands carrier_stands carrier_left carrier_condition post_stands post_left post_condition end role (t ▷ MainIn (up_to limit bytes) count load lack)

-- Bytes move from this side to the other, at most so many: those that are under way first, and then those that wait at
-- the sender. One call hands them out, and one takes them.
pub record Moves (side : Role) (limit : Option ℕ) (count : ℕ) (w v : Trace (Role × Entry)) : Type 0 where
  pub load : ℕ
  pub lack : Option (ℕ × Trace Act)
  pub list_is : let more = needed limit (length (under_way side w)) (length (unsent side (at side w))) in
      let bytes = take more (unsent side (at side w)) in
      v ≡ w ▷ (side, MainOut more bytes) ▷ (other side, MainIn (up_to limit (under_way side w ++ bytes)) count load lack)

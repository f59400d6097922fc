-- What giving and posting answer, and what is handed out.
use Rattle.std.specs.Prelude.{◌≡◌, ℕ, ◌+◌, nat_le, nat_lt, List, [], ◌∷◌, if◌then◌else◌, Option, Some, None, Result, Ok, Err, ⊤}
use Rattle.mt_windows.specs.declared.limits.TheConstants.{QUEUE, WINDOW}
use Rattle.carrier.specs.declared.state.LinkState.{LinkState}
use Rattle.carrier.specs.declared.state.LinkState.TheVariants.{Opening, Open, Closed}
use Rattle.carrier.specs.declared.reliable.GiveRefusal.{GiveRefusal}
use Rattle.carrier.specs.declared.reliable.GiveRefusal.TheVariants as give
use Rattle.carrier.specs.declared.lossy.PostRefusal.{PostRefusal}
use Rattle.carrier.specs.declared.lossy.PostRefusal.TheVariants as post

-- so many bytes are taken, where the link isn't closed and they fit the queue beside its load
abbrev pub give_open : ℕ → ℕ → Result ⊤ GiveRefusal
give_open load count = if nat_lt QUEUE (load + count) then Err (give.Full load) else Ok tt

abbrev pub give_answer : LinkState → ℕ → ℕ → Result ⊤ GiveRefusal
give_answer Opening load count = give_open load count
give_answer Open load count = give_open load count
give_answer (Closed expiries) load count = Err (give.Closed expiries)

-- a part is taken, where the link isn't closed and fewer parts wait than the window has
abbrev pub post_open : ℕ → Result ⊤ PostRefusal
post_open load = if nat_le WINDOW load then Err (post.Full load) else Ok tt

abbrev pub post_answer : LinkState → ℕ → Result ⊤ PostRefusal
post_answer Opening load = post_open load
post_answer Open load = post_open load
post_answer (Closed expiries) load = Err (post.Closed expiries)

-- the first part is handed out, where there is one
abbrev pub HandsOut : List (List ℕ) → List (List ℕ) → Option (List ℕ) → Type 0
HandsOut old new None = (old ≡ []) × (new ≡ [])
HandsOut old new (Some bytes) = old ≡ bytes ∷ new

-- how many bytes of the output a call wrote: those of the datagram that it gave, or none
abbrev pub written : Option ℕ → ℕ
written None = 0
written (Some length) = length

-- The words of both sides for their channels so far.
use Rattle.std.specs.Prelude.{◌≡◌, ◌↔◌, ◌⊎◌, ℕ, nat_eq, ◌^◌, ◌≤◌, ◌&&◌, Bool, true, List, length, map}
use Rattle.std.specs.List.{list_any}
use Rattle.mt_base.specs.declared.kinds.Kind.{Kind}
use Rattle.mt_base.specs.declared.kinds.Kind.TheVariants.{Reliable, Lossy}
use Rattle.capture_check.specs.declared.moves.Move.{Move}
use Rattle.capture_check.specs.declared.moves.Named.{Named}
use Rattle.capture_check.specs.declared.words.Words.{Words}
use Rattle.capture_check.specs.Arrivals.{has}
use Rattle.capture_check.specs.Sayings.{Saying, DataOf, Moves, Takes, Nothing, HasWord, HasTaken, moves_id, requests_in, responses_in}

abbrev pub is_named : Named → Kind → Bool
is_named named Reliable = named.reliable
is_named named Lossy = named.lossy

-- a channel is moved to a tunnel of a kind that is named
abbrev pub names_id : Named → ℕ → List Move → Bool
names_id named id moves = list_any (λ m. nat_eq id m.id && is_named named m.kind) moves

-- The count is that of so many responses; both may be greater than any list of requests is long.
abbrev pub Counts : ℕ → ℕ → Type 0
Counts count responses = (count ≡ responses) ⊎ ((2 ^ 63 ≤ count) × (2 ^ 63 ≤ responses))

-- what is kept of what was said
pub record AreWords (said : List Saying) (words : Words) : Type 0 where
  pub requests : map (λ moves. moves.items) words.requests.items ≡ requests_in said
  pub responses : Counts words.responses (length (responses_in said))
  pub server : (id : ℕ) → has words.server id ≡ list_any (moves_id id) (requests_in said)
  pub client : (id : ℕ) → (has words.client id ≡ true) ↔ HasTaken said id

-- what is said next keeps the words: it is no data of a channel for which the word of its side came
abbrev pub MaySay : List Saying → Saying → Type 0
MaySay said (DataOf side id) = ¬ HasWord side said id
MaySay said (Moves moves) = Unit {0}
MaySay said (Takes kinds) = Unit {0}
MaySay said Nothing = Unit {0}

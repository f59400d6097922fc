-- What holds between a sender and a receiver, and of the datagrams under way, of which the ages are
-- known: `k` datagrams were sent on the link since. Where `kind` is true parts are told, else
-- transmissions.
use Rattle.std.proofs.Common.{◌≡◌, ℕ, ◌+◌, ◌-◌, ◌<◌, ◌≤◌, ◌⊎◌, Bool, true, false, cond, List, length, All, Option, Some, None, is_some, unwrap_or}
use Rattle.mt_base.specs.Trace.{Trace}
use Rattle.mt_windows.specs.Arrived.{part_at, drained, end_of, has_part}
use Rattle.mt_windows.specs.Noted.{greatest_of, is_noted}
use Rattle.mt_windows.specs.Sending.{Act, Limits, cuts, given, is_open, part_of, piece, reach, settled, told, transmissions}
use Rattle.carrier.specs.Layout.{Carried, Datagram, Received, Telling, named_in, tells}
use Rattle.carrier.specs.TwoLinks.{WasMade, ahead}

-- ---- what is told

-- how many numbers there are that may be told
abbrev pub count : Bool → Trace Act → ℕ
count kind a = cond kind (cuts a) (transmissions a)

-- a number was received
abbrev pub has : Bool → ℕ → Received → ℕ → Bool
has kind own r q = cond kind (has_part own r.parts q) (is_noted q r.seen)

-- the number behind the last one received
abbrev pub behind : Bool → ℕ → Received → ℕ
behind kind own r = cond kind (own + end_of r.parts) (unwrap_or (greatest_of r.seen) (own - 1) + 1)

-- ---- a sender alone

pub record Even (l : Limits) (own : ℕ) (a : Trace Act) : Type 0 where
  pub window : (p : ℕ) → is_open l a p ≡ true → cuts a ≤ p + l.window
  pub numbers : own ≤ l.numbers → own + cuts a ≤ l.numbers
  pub made : own ≤ l.numbers → own + transmissions a ≤ l.numbers
  pub reaches : reach l a ≤ l.span
  pub bytes : All (λ b. b < 256) (given a)
  pub pieces : (p : ℕ) → (length (piece l a p) ≤ l.part) × All (λ b. b < 256) (piece l a p)

-- ---- the two ends now

-- what is accepted are the pieces that were cut; what is settled is accepted; the accepted parts are
-- within a window; the transmissions that were seen were made; and those known as told were seen
pub record Follows (kind : Bool) (l : Limits) (own : ℕ) (a : Trace Act) (r : Received) (n : ℕ) : Type 0 where
  pub same : (p : ℕ) (bytes : List ℕ) → part_at r.parts p ≡ Some bytes → (p < cuts a) × (bytes ≡ piece l a p)
  pub got : (p : ℕ) → settled l a p ≡ true → is_some (part_at r.parts p) ≡ true
  pub room : end_of r.parts ≤ drained r.parts n + l.window
  pub seen : kind ≡ false → (q : ℕ) → is_noted q r.seen ≡ true → WasMade own a r.parts q
  pub known : kind ≡ false → (j : ℕ) → told l a j ≡ true → is_noted (own + j) r.seen ≡ true

-- ---- what a datagram keeps that is under way

-- a part that is carried, under a transmission
pub record Flies (l : Limits) (own k : ℕ) (a : Trace Act) (c : Carried) : Type 0 where
  pub place : ℕ
  pub number : c.part ≡ own + place
  pub cut : place < cuts a
  pub bytes : c.bytes ≡ piece l a place
  pub near : cuts a ≤ place + l.window + k
  pub sent : ℕ
  pub sending : c.transmission ≡ own + sent
  pub made : sent < transmissions a
  pub stands : part_of a sent ≡ place
  pub recent : transmissions a ≤ sent + 1 + k

abbrev pub FliesLoad : Limits → ℕ → ℕ → Trace Act → Option Carried → Type 0
FliesLoad l own k a None = Unit {0}
FliesLoad l own k a (Some c) = Flies l own k a c

-- a floor: a part below which all are settled, or a transmission
pub record Low (kind : Bool) (l : Limits) (own k : ℕ) (a : Trace Act) (floor : ℕ) : Type 0 where
  pub place : ℕ
  pub number : floor ≡ own + place
  pub cut : kind ≡ true → place < cuts a
  pub below : kind ≡ true → (q : ℕ) → q < place → settled l a q ≡ true
  pub near : kind ≡ true → cuts a ≤ place + l.window + k
  pub made : kind ≡ false → place < transmissions a
  pub recent : kind ≡ false → transmissions a ≤ place + l.span + 1 + k

abbrev pub LowFloor : Bool → Limits → ℕ → ℕ → Trace Act → Option ℕ → Type 0
LowFloor kind l own k a None = Unit {0}
LowFloor kind l own k a (Some floor) = Low kind l own k a floor

-- a telling, from the receiver to the sender
pub record Told (kind : Bool) (l : Limits) (tell own k : ℕ) (a : Trace Act) (r : Received) (t : Telling) : Type 0 where
  pub got : (q : ℕ) → own ≤ q → tells t q ≡ true → has kind own r q ≡ true
  pub within : named_in t < behind kind own r
  pub near : own + count kind a ≤ named_in t + 1 + ahead kind l + tell + k

-- ---- one direction

-- `S k f` says that the sender sent the datagram f, after which k more were sent; `R` says the same of
-- the receiver
pub record Way (kind : Bool) (l : Limits) (tell own : ℕ) (a : Trace Act) (r : Received) (n : ℕ) (S R : ℕ → Datagram → Type 0) : Type 0 where
  pub now : Follows kind l own a r n
  pub loads : (k : ℕ) (f : Datagram) → S k f → FliesLoad l own k a f.load
  pub floors : (k : ℕ) (f : Datagram) → S k f → LowFloor kind l own k a f.floor
  pub tellings : (k : ℕ) (f : Datagram) → R k f → Told kind l tell own k a r f.telling

-- ---- steps

-- a datagram more was sent, with a new part, or with one again, or with none
pub record Grown (l : Limits) (a b : Trace Act) : Type 0 where
  pub more : cuts a ≤ cuts b
  pub most : cuts b ≤ cuts a + 1
  pub made_more : transmissions a ≤ transmissions b
  pub made_most : transmissions b ≤ transmissions a + 1
  pub same : (p : ℕ) → p < cuts a → piece l b p ≡ piece l a p
  pub stands : (j : ℕ) → j < transmissions a → part_of b j ≡ part_of a j
  pub settles : (p : ℕ) → settled l b p ≡ settled l a p
  pub knows : (j : ℕ) → told l b j ≡ told l a j
  pub given_is : given b ≡ given a

-- nothing was sent, and what is settled or known as told stays so
pub record Keeps (l : Limits) (a b : Trace Act) : Type 0 where
  pub cuts_are : cuts b ≡ cuts a
  pub made_are : transmissions b ≡ transmissions a
  pub pieces_are : (p : ℕ) → piece l b p ≡ piece l a p
  pub stands : (j : ℕ) → part_of b j ≡ part_of a j
  pub settles : (p : ℕ) → settled l a p ≡ true → settled l b p ≡ true
  pub knows : (j : ℕ) → told l a j ≡ true → told l b j ≡ true

-- what was settled by it was accepted, and what is known by it was seen
pub record Hears (kind : Bool) (l : Limits) (own : ℕ) (a b : Trace Act) (r : Received) : Type 0 where
  pub keeps : Keeps l a b
  pub settled_by : (p : ℕ) → settled l b p ≡ true → (settled l a p ≡ true) ⊎ (is_some (part_at r.parts p) ≡ true)
  pub known_by : kind ≡ false → (j : ℕ) → told l b j ≡ true → (told l a j ≡ true) ⊎ (is_noted (own + j) r.seen ≡ true)

-- more was received
pub record Accepts (kind : Bool) (own : ℕ) (old new : Received) : Type 0 where
  pub stay : (p : ℕ) → is_some (part_at old.parts p) ≡ true → is_some (part_at new.parts p) ≡ true
  pub kept : (q : ℕ) → is_noted q old.seen ≡ true → is_noted q new.seen ≡ true
  pub far : behind kind own old ≤ behind kind own new

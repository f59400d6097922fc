-- Soft-Sync requests and the answers to them (MS-RDPEDYC sections 2.2.5.1 and 2.2.5.2), and what they
-- say of a channel.
use Rattle.std.specs.Prelude.{ℕ, zero, suc, ◌+◌, List, [], ◌∷◌, ◌++◌, nat_eq, Bool, true, false, Option, Some, None, if◌then◌else◌}
use Rattle.std.specs.Option.{option_or}
use Rattle.std.specs.Map.{lookup}
use Rattle.mt_base.specs.declared.kinds.Kind.{Kind}
use Rattle.mt_base.specs.declared.kinds.Kind.TheVariants.{Reliable, Lossy}
use Rattle.soft_sync.specs.declared.kinds.Kinds.{Kinds}

-- ---- kinds of tunnel

abbrev pub no_kinds : Kinds
no_kinds = record { reliable = false; lossy = false }

abbrev pub has : Kind → Kinds → Bool
has Reliable kinds = kinds.reliable
has Lossy kinds = kinds.lossy

-- the kinds, of which this one is set so
abbrev pub set_kind : Kind → Bool → Kinds → Kinds
set_kind Reliable b kinds = record kinds { reliable = b }
set_kind Lossy b kinds = record kinds { lossy = b }

-- ---- requests and answers

-- a request: the kinds that it names, and the channels that it lists, in order, each under a kind
pub record Request : Type 0 where
  pub named : Kinds
  pub channels : List (ℕ × Kind)

-- an answer: whether it was given, and the kinds that it names so far
pub record Answer : Type 0 where
  pub is_given : Bool
  pub named : Kinds

pub record Exchange : Type 0 where
  pub request : Request
  pub answer : Answer

-- a request without an answer
abbrev pub unanswered : Request → Exchange
unanswered request = record { request = request; answer = record { is_given = false; named = no_kinds } }

-- a request with the answer that names these kinds
abbrev pub answered : Request → Kinds → Exchange
answered request kinds = record { request = request; answer = record { is_given = true; named = kinds } }

-- requests and the answers given to them: the k-th answer is that to the k-th request
abbrev pub exchanges : List Request → List Kinds → List Exchange
exchanges [] answers = []
exchanges (request ∷ requests) [] = unanswered request ∷ exchanges requests []
exchanges (request ∷ requests) (kinds ∷ answers) = answered request kinds ∷ exchanges requests answers

-- ---- what they say

-- the kind under which a request lists a channel
abbrev pub kind_in : ℕ → Request → Option Kind
kind_in id request = lookup (nat_eq id) request.channels

-- a kind, where it is among these
abbrev pub if_among : Kinds → Option Kind → Option Kind
if_among kinds None = None
if_among kinds (Some kind) = if has kind kinds then Some kind else None

-- the kind under which requests list a channel: that of the first one that does
abbrev pub listed : ℕ → List Exchange → Option Kind
listed id [] = None
listed id (x ∷ xs) = option_or (kind_in id x.request) (listed id xs)

-- the kind under which a request lists a channel whose answer names that kind
abbrev pub moved : ℕ → List Exchange → Option Kind
moved id [] = None
moved id (x ∷ xs) = option_or (if_among x.answer.named (kind_in id x.request)) (moved id xs)

-- the number of the oldest request without an answer, where the first has this number
abbrev pub behind_from : ℕ → List Exchange → Option ℕ
behind_from number [] = None
behind_from number (x ∷ xs) = if x.answer.is_given then behind_from (number + 1) xs else Some number

-- the number of the oldest request without an answer
abbrev pub behind : List Exchange → Option ℕ
behind xs = behind_from 0 xs

-- the request of this number names the kind
abbrev pub names : ℕ → Kind → List Exchange → Bool
names number kind [] = false
names zero kind (x ∷ xs) = has kind x.request.named
names (suc number) kind (x ∷ xs) = names number kind xs

-- the answer to it does
abbrev pub is_named : ℕ → Kind → List Exchange → Bool
is_named number kind [] = false
is_named zero kind (x ∷ xs) = has kind x.answer.named
is_named (suc number) kind (x ∷ xs) = is_named number kind xs

-- the answer to it was given
abbrev pub is_given : ℕ → List Exchange → Bool
is_given number [] = false
is_given zero (x ∷ xs) = x.answer.is_given
is_given (suc number) (x ∷ xs) = is_given number xs

-- the channels that the request of this number lists
abbrev pub channels_at : ℕ → List Exchange → List (ℕ × Kind)
channels_at number [] = []
channels_at zero (x ∷ xs) = x.request.channels
channels_at (suc number) (x ∷ xs) = channels_at number xs

-- ---- what changes them

-- a channel more that the last request lists
abbrev pub with_channel : ℕ → Kind → List Exchange → List Exchange
with_channel id kind [] = []
with_channel id kind (x ∷ []) =
    record x { request = record x.request { channels = x.request.channels ++ (id, kind) ∷ [] } } ∷ []
with_channel id kind (x ∷ y ∷ xs) = x ∷ with_channel id kind (y ∷ xs)

-- the answer to the request of this number, changed so
abbrev pub with_answer : ℕ → (Answer → Answer) → List Exchange → List Exchange
with_answer number change [] = []
with_answer zero change (x ∷ xs) = record x { answer = change x.answer } ∷ xs
with_answer (suc number) change (x ∷ xs) = x ∷ with_answer number change xs

-- the answer names this kind too
abbrev pub naming : Kind → Answer → Answer
naming kind answer = record answer { named = set_kind kind true answer.named }

-- the answer is given
abbrev pub giving : Answer → Answer
giving answer = record answer { is_given = true }

-- The law of an end's calls.
use Rattle.std.specs.Prelude.{◌≡◌, ℕ, ◌+◌, ◌^◌, ◌<◌, ◌≤◌, Bool, true, false, not, List, [], ◌++◌, length, take, drop, All, is_some, Option, Some, None}
use Rattle.mt_base.specs.declared.kinds.Kind.{Kind}
use Rattle.mt_base.specs.declared.kinds.Kind.TheVariants.{Reliable, Lossy}
use Rattle.mt_base.specs.declared.kinds.Role.{Role}
use Rattle.mt_base.specs.Trace.{Trace, Start, ◌▷◌}
use Rattle.carrier.specs.declared.state.Took.{Took}
use Rattle.carrier.specs.declared.state.Took.TheVariants.{Ignored}
use Rattle.carrier.specs.declared.state.Reason.TheVariants as reason
use Rattle.mt_endpoint.specs.Acts.{Act, Began, Opens, Sends, Takes, Asks, Attaches, Refuses, Syncs, Closes, Hears, Draws, Releases, Spoken, Carried}
use Rattle.mt_endpoint.specs.Said.{Said, Capable, Creates, Created, Brings, Ends, Moves, Moved, said}
use Rattle.mt_endpoint.specs.Holding.{held, weight}
use Rattle.mt_endpoint.specs.Tunnels.{is_attached}
use Rattle.mt_endpoint.specs.World.{IsStep, begins, is_begun}
use Rattle.mt_endpoint.specs.Writing.{main_bytes}
use Rattle.end_calls.specs.declared.limits.TheConstants.{MAIN_QUEUE, HOLD}
use Rattle.end_calls.specs.Streams.{Past}
use Rattle.end_calls.specs.Calls.{Entry, Own, MainIn, MainOut, WireIn, WireOut, Came, Pull, Handed, after_bytes, after_pulls, after_parts, past, acts}
use Rattle.end_calls.specs.Stops.{Outset, count_from, AreNext, IsDone, AreHanded, AreAll, pulled_bytes, handed_parts}

-- ---- what came and went

-- the bytes of the main stream that were taken, and those that were handed out
abbrev pub taken_main : Trace Entry → List ℕ
taken_main Start = []
taken_main (t ▷ MainIn offered count load lack) = taken_main t ++ take count offered
taken_main (t ▷ entry) = taken_main t

abbrev pub given_main : Trace Entry → List ℕ
given_main Start = []
given_main (t ▷ MainOut room bytes) = given_main t ++ bytes
given_main (t ▷ entry) = given_main t

-- the bytes of the main stream that wait to be handed out
abbrev pub unsent : Role → Trace Entry → List ℕ
unsent role t = drop (length (given_main t)) (main_bytes role (acts role t))

-- the bytes in order of the reliable link that were not pulled, and the parts of the lossy link that
-- were not handed out
abbrev pub unpulled : Trace Entry → List ℕ
unpulled Start = []
unpulled (t ▷ WireIn kind now datagram took load came pulls parts lack) = drop (length (pulled_bytes pulls)) (unpulled t ++ came.bytes)
unpulled (t ▷ entry) = unpulled t

abbrev pub unhanded : Trace Entry → List (List ℕ)
unhanded Start = []
unhanded (t ▷ WireIn kind now datagram took load came pulls parts lack) = drop (length (handed_parts parts)) (unhanded t ++ came.parts)
unhanded (t ▷ entry) = unhanded t

abbrev pub outset : Role → Trace Entry → ℕ → Outset
outset role t load = record { sent = length (given_main t); load = load; before = past role t }

-- ---- want of memory

-- t is the front of u
pub data IsFront : Trace Act → Trace Act → Type 0 where
  whole : (t : Trace Act) → IsFront t t
  shorter : (t u : Trace Act) (act : Act) → IsFront t u → IsFront t (u ▷ act)

-- a frame that takes memory brings data, or creates a channel
abbrev pub is_for_memory : Said → Bool
is_for_memory (Capable version) = false
is_for_memory (Creates id name) = true
is_for_memory (Created id status) = false
is_for_memory (Brings id) = true
is_for_memory (Ends id) = false
is_for_memory (Moves lists) = false
is_for_memory (Moved kinds) = false

-- acts that take memory: such a frame, and data of a tunnel, as they are pulled behind their word or
-- released
abbrev pub takes_memory : Act → Bool
takes_memory (Hears (Spoken pdu)) = is_for_memory (said pdu)
takes_memory (Draws kind at (Carried bytes pdu)) = is_for_memory (said pdu)
takes_memory (Releases kind at bytes pdu) = is_for_memory (said pdu)
takes_memory act = false

-- between these two pasts the acts came only so far: the next one takes memory
pub record IsLack (p q : Past) (reached : Trace Act) : Type 0 where
  pub begun : IsFront p.acts reached
  pub next : Act
  pub takes : takes_memory next ≡ true
  pub due : IsFront (reached ▷ next) q.acts

abbrev pub IsMainLack : Role → Past → List ℕ → Option (ℕ × Trace Act) → Type 0
IsMainLack role p offered None = Unit {0}
IsMainLack role p offered (Some (count, reached)) =
    (n : ℕ) × (count ≡ n + 1) × (count ≤ length offered)
    × IsLack (after_bytes role p (take n offered)) (after_bytes role p (take count offered)) reached

abbrev pub IsLinkLack : Role → Past → Trace Pull → Trace Handed → Option (Trace Act) → Type 0
IsLinkLack role p pulls parts None = Unit {0}
IsLinkLack role p Start Start (Some reached) = ⊥
IsLinkLack role p (pulls ▷ pull) Start (Some reached) = IsLack (after_pulls role p pulls) (after_pulls role p (pulls ▷ pull)) reached
IsLinkLack role p pulls (parts ▷ part) (Some reached) =
    let q = after_pulls role p pulls in IsLack (after_parts role q parts) (after_parts role q (parts ▷ part)) reached

-- ---- each call

-- the steps of the end's own
abbrev pub IsOwn : Act → Type 0
IsOwn Began = Unit {0}
IsOwn (Opens id name) = Unit {0}
IsOwn (Sends id message) = Unit {0}
IsOwn (Takes id message) = Unit {0}
IsOwn (Asks kind id cookie) = Unit {0}
IsOwn (Attaches kind) = Unit {0}
IsOwn (Refuses kind hr) = Unit {0}
IsOwn (Syncs reliable lossy) = Unit {0}
IsOwn (Closes id) = Unit {0}
IsOwn act = ⊥

-- the bytes that a call is given are bytes, and its numbers have 32 bits
abbrev pub IsGiven : Act → Type 0
IsGiven (Sends id message) = All (λ b. b < 2 ^ 8) message
IsGiven (Asks kind id cookie) = (id < 2 ^ 32) × All (λ b. b < 2 ^ 8) cookie
IsGiven (Refuses kind hr) = hr < 2 ^ 32
IsGiven act = Unit {0}

-- a broken end hands out messages, and makes no other step
abbrev pub IsAllowed : Past → Act → Type 0
IsAllowed p (Takes id message) = Unit {0}
IsAllowed p act = p.broken ≡ None

-- the whole of the bytes offered counts as taken where memory was wanting
abbrev pub IsCount : Role → Outset → List ℕ → ℕ → Option (ℕ × Trace Act) → Type 0
IsCount role outset offered count None = count ≡ count_from role outset true outset.before offered
IsCount role outset offered count (Some lack) =
    (count ≡ length offered) × (lack.0 ≤ count_from role outset true outset.before offered)

-- a link that isn't there takes nothing
abbrev pub nothing_came : Came
nothing_came = record { bytes = []; parts = [] }

-- bytes come in order on the reliable link, parts on the lossy one
abbrev pub IsOf : Kind → Came → Type 0
IsOf Reliable came = came.parts ≡ []
IsOf Lossy came = came.bytes ≡ []

-- what is read of the reliable link, by a datagram of its own; memory may be wanting at the last pull
abbrev pub Pulls : Role → Outset → Kind → List ℕ → Trace Pull → Bool → Type 0
Pulls role outset Lossy left pulls is_lack = pulls ≡ Start
Pulls role outset Reliable left pulls true = AreNext role outset left pulls
Pulls role outset Reliable left pulls false = AreNext role outset left pulls × IsDone role outset pulls

abbrev pub Hands : Role → Outset → Past → List (List ℕ) → Trace Handed → Bool → Type 0
Hands role outset p left parts true = AreHanded role outset p left parts
Hands role outset p left parts false = AreHanded role outset p left parts × AreAll role outset p left parts

-- memory was wanting at a pull, or at a part
abbrev pub lacks_pull : Trace Handed → Option (Trace Act) → Bool
lacks_pull Start lack = is_some lack
lacks_pull (parts ▷ part) lack = false

abbrev pub lacks_part : Trace Handed → Option (Trace Act) → Bool
lacks_part Start lack = is_some lack
lacks_part (parts ▷ part) lack = is_some lack

-- a datagram for a link that is there, or that isn't
pub record TakesIn (role : Role) (t : Trace Entry) (kind : Kind) (load : ℕ) (came : Came) (pulls : Trace Pull) (parts : Trace Handed) (lack : Option (Trace Act)) : Type 0 where
  pub of_kind : IsOf kind came
  pub pulled : Pulls role (outset role t load) kind (unpulled t ++ came.bytes) pulls (lacks_pull parts lack)
  pub handed : Hands role (outset role t load) (after_pulls role (past role t) pulls) (unhanded t ++ came.parts) parts (lacks_part parts lack)
  pub lacking : IsLinkLack role (past role t) pulls parts lack

pub record TakesNone (took : Took) (came : Came) (pulls : Trace Pull) (parts : Trace Handed) (lack : Option (Trace Act)) : Type 0 where
  pub took_is : took ≡ Ignored reason.NotOpen
  pub none_came : came ≡ nothing_came
  pub none_pulled : pulls ≡ Start
  pub none_handed : parts ≡ Start
  pub none_lacking : lack ≡ None

abbrev pub IsWireIn : Bool → Role → Trace Entry → Kind → Took → ℕ → Came → Trace Pull → Trace Handed → Option (Trace Act) → Type 0
IsWireIn true role t kind took load came pulls parts lack = TakesIn role t kind load came pulls parts lack
IsWireIn false role t kind took load came pulls parts lack = TakesNone took came pulls parts lack

-- each call does what the calls before it ask for
abbrev pub IsCall : Role → Trace Entry → Entry → Type 0
IsCall role t (Own act) =
    IsOwn act × IsAllowed (past role t) act × IsGiven act × (begins act ≡ not (is_begun (acts role t)))
    × IsStep role (acts role t) act
IsCall role t (MainIn offered count load lack) =
    (is_begun (acts role t) ≡ true) × IsCount role (outset role t load) offered count lack × IsMainLack role (past role t) offered lack
IsCall role t (MainOut room bytes) = bytes ≡ take room (unsent role t)
IsCall role t (WireIn kind now datagram took load came pulls parts lack) =
    IsWireIn (is_attached kind (acts role t)) role t kind took load came pulls parts lack
IsCall role t (WireOut kind now is_full out state) = is_attached kind (acts role t) ≡ true

-- what waits and what is held keeps its limits
pub record IsWithin (role : Role) (t : Trace Entry) : Type 0 where
  pub unsent_fits : length (unsent role t) ≤ MAIN_QUEUE
  pub reliable_fits : weight (held role Reliable (acts role t)) ≤ HOLD
  pub lossy_fits : weight (held role Lossy (acts role t)) ≤ HOLD

-- the law of an end
abbrev pub EndTrace : Role → Trace Entry → Type 0
EndTrace role Start = Unit {0}
EndTrace role (t ▷ entry) = IsCall role t entry × IsWithin role (t ▷ entry) × EndTrace role t

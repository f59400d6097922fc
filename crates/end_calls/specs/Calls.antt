-- The calls of an end: the acts that they are, and the calls that they make of its links.
use Rattle.std.specs.Prelude.{ℕ, ◌+◌, ◌==◌, nat_le, Bool, false, not, ◌&&◌, List, take, is_some, option_map, Option, Some, None, if◌then◌else◌}
use Rattle.std.specs.List.{fold}
use Rattle.mt_base.specs.declared.kinds.Kind.{Kind}
use Rattle.mt_base.specs.declared.kinds.Kind.TheVariants.{Reliable, Lossy}
use Rattle.mt_base.specs.declared.kinds.Role.{Role}
use Rattle.mt_base.specs.declared.kinds.Role.TheVariants.{Client}
use Rattle.mt_base.specs.Trace.{Trace, Start, ◌▷◌}
use Rattle.carrier.specs.declared.state.LinkState.{LinkState}
use Rattle.carrier.specs.declared.state.LinkState.TheVariants.{Opening, Open, Closed}
use Rattle.carrier.specs.declared.state.Took.{Took}
use Rattle.mt_endpoint.specs.Acts.{Act, Attaches, Takes, Repeats, Silences}
use Rattle.mt_endpoint.specs.Tunnels.{answer, is_silent}
use Rattle.end_calls.specs.declared.fault.Fault.TheVariants as fault
use Rattle.end_calls.specs.Streams.{Past, nothing, is_broken, grows, with_main, with_tunnel, with_part}

-- these bytes were pulled from the reliable link into a buffer of this length
pub record Pull : Type 0 where
  pub room : ℕ
  pub bytes : List ℕ

-- the lossy link handed out this part, and was full, or not, for one more to be posted
pub record Handed : Type 0 where
  pub bytes : List ℕ
  pub is_full : Bool

-- a link, by a datagram, has these bytes in order more to be pulled, or these parts to be handed out
pub record Came : Type 0 where
  pub bytes : List ℕ
  pub parts : List (List ℕ)

pub data Entry : Type 0 where
  -- a step of the end's own: its making, a channel created, a message sent or handed out, a tunnel
  -- asked for, attached or refused, channels moved or closed
  Own : (act : Act) → Entry
  -- these bytes of the main stream were offered, of which so many were taken, where the reliable link
  -- had this load; or memory was wanting at the frame that the last of so many of them ends, and the
  -- acts came this far
  MainIn : (offered : List ℕ) (count load : ℕ) (lack : Option (ℕ × Trace Act)) → Entry
  -- these bytes of the main stream went into a buffer of this length
  MainOut : (room : ℕ) (bytes : List ℕ) → Entry
  -- a datagram came at this moment for the link of this kind, was answered so and brought this, and the
  -- reliable link had this load; then these bytes were pulled from the reliable link, and these parts
  -- handed out by the lossy one; or memory was wanting at the last of them, and the acts came this far
  WireIn : (kind : Kind) (now : ℕ) (datagram : List ℕ) (took : Took) (load : ℕ) (came : Came) (pulls : Trace Pull) (parts : Trace Handed) (lack : Option (Trace Act)) → Entry
  -- the link of this kind was polled at this moment, sent this or nothing, and is now in this state;
  -- before that a lossy link was full, or not, for one more part
  WireOut : (kind : Kind) (now : ℕ) (is_full : Bool) (out : Option (List ℕ)) (state : LinkState) → Entry

-- ---- what was read

-- the acts came this far, and no further, for want of memory
abbrev pub lacking : Option (Trace Act) → Past → Past
lacking None p = p
lacking (Some acts) p = record p { acts = acts; broken = Some fault.NoMemory }

abbrev pub after_bytes : Role → Past → List ℕ → Past
after_bytes role p bytes = fold (with_main role) p bytes

abbrev pub after_pulls : Role → Past → Trace Pull → Past
after_pulls role p Start = p
after_pulls role p (pulls ▷ pull) = fold (with_tunnel role) (after_pulls role p pulls) pull.bytes

abbrev pub after_parts : Role → Past → Trace Handed → Past
after_parts role p Start = p
after_parts role p (parts ▷ part) = with_part role (after_parts role p parts) part.bytes part.is_full

-- how many of the bytes offered were read: those taken, or those up to the want of memory
abbrev pub read_count : ℕ → Option (ℕ × Trace Act) → ℕ
read_count count None = count
read_count count (Some lack) = lack.0

-- ---- the create request of a lossy tunnel

-- how often the client posted it, and the moment of the last time, once that is known
pub record Postings : Type 0 where
  pub count : ℕ
  pub last : Option ℕ

abbrev pub no_postings : Postings
no_postings = record { count = 0; last = None }

-- it is due once more: 500 ms passed, no answer was read, and the tunnel isn't silent
abbrev pub is_over : Option ℕ → ℕ → Bool
is_over None now = false
is_over (Some last) now = nat_le (last + 500) now

abbrev pub is_due : Trace Act → Postings → ℕ → Bool
is_due acts postings now =
    is_over postings.last now && (not (is_some (answer Lossy acts)) && not (is_silent Lossy acts))

-- the act before a poll of the lossy link: the request is posted once more, or after 17 times the
-- tunnel is silent
abbrev pub posts_again : Postings → Bool → Act
posts_again postings is_full = if postings.count == 17 then Silences Lossy 17 else Repeats is_full

abbrev pub before_poll : Kind → Trace Act → Postings → ℕ → Bool → Option Act
before_poll Reliable acts postings now is_full = None
before_poll Lossy acts postings now is_full =
    if is_due acts postings now then Some (posts_again postings is_full) else None

-- the postings after a poll of the lossy link: the first poll gives the first posting its moment
abbrev pub posted_once : ℕ → Bool → ℕ → Postings → Postings
posted_once now is_due_now count postings =
    if is_due_now && not (count == 17) then record { count = count + 1; last = Some now } else postings

abbrev pub at_moment : Option ℕ → ℕ → Option ℕ
at_moment None now = Some now
at_moment (Some last) now = Some last

abbrev pub polled_at : Trace Act → ℕ → Postings → Postings
polled_at acts now postings =
    if postings.count == 0 then postings
    else posted_once now (is_due acts postings now) postings.count (record postings { last = at_moment postings.last now })

-- the first posting is the client's attaching
abbrev pub attached_by : Role → Act → Postings → Postings
attached_by Client (Attaches Lossy) postings = record { count = 1; last = None }
attached_by role act postings = postings

-- ---- what happened

-- an act of the end's own; of a broken end nothing is made due, and nothing is posted
abbrev pub bare : Act → Past → Past
bare (Takes id message) p = record p { acts = p.acts ▷ Takes id message }
bare (Silences kind expiries) p = record p { acts = p.acts ▷ Silences kind expiries }
bare act p = p

abbrev pub steps : Role → Act → Past → Past
steps role act p = if is_broken p then bare act p else grows role act p

abbrev pub if_steps : Role → Option Act → Past → Past
if_steps role None p = p
if_steps role (Some act) p = steps role act p

-- a link that is found closed makes its tunnel silent
abbrev pub closed_act : Kind → Bool → LinkState → Option Act
closed_act kind is_silent_now Opening = None
closed_act kind is_silent_now Open = None
closed_act kind is_silent_now (Closed expiries) = if is_silent_now then None else Some (Silences kind expiries)

abbrev pub polled : Role → Kind → Postings → ℕ → Bool → LinkState → Past → Past
polled role kind postings now is_full state p =
    let q = if_steps role (before_poll kind p.acts postings now is_full) p in
    if_steps role (closed_act kind (is_silent kind q.acts) state) q

-- what happened, and how often a create request was posted
pub record Story : Type 0 where
  pub past : Past
  pub postings : Postings

abbrev pub told : Role → Entry → Story → Story
told role (Own act) s = record { past = steps role act s.past; postings = attached_by role act s.postings }
told role (MainIn offered count load lack) s =
    record s { past = lacking (option_map (λ (l : ℕ × Trace Act). l.1) lack) (after_bytes role s.past (take (read_count count lack) offered)) }
told role (MainOut room bytes) s = s
told role (WireIn kind now datagram took load came pulls parts lack) s =
    record s { past = lacking lack (after_parts role (after_pulls role s.past pulls) parts) }
told role (WireOut Reliable now is_full out state) s =
    record s { past = polled role Reliable s.postings now is_full state s.past }
told role (WireOut Lossy now is_full out state) s = record {
  past = polled role Lossy s.postings now is_full state s.past;
  postings = polled_at (s.past).acts now s.postings;
}

abbrev pub story : Role → Trace Entry → Story
story role Start = record { past = nothing; postings = no_postings }
story role (t ▷ entry) = told role entry (story role t)

abbrev pub past : Role → Trace Entry → Past
past role t = (story role t).past

abbrev pub acts : Role → Trace Entry → Trace Act
acts role t = (past role t).acts

-- An end on its way through bytes of the main stream: its reader and its reliable link.
use Rattle.std.specs.Prelude.{◌≡◌, ℕ, ◌+◌, ◌-◌, true, false, List, [], length, take, Option, Some, None}
use Rattle.std.specs.List.{flat_map}
use Rattle.mt_base.specs.declared.kinds.Kind.TheVariants.{Reliable, Lossy}
use Rattle.mt_base.specs.declared.kinds.Role.{Role}
use Rattle.mt_base.specs.Trace.{Trace, Start}
use Rattle.carrier.specs.declared.state.LinkState.{LinkState}
use Rattle.carrier.specs.Entries as link
use Rattle.mt_endpoint.specs.Acts.{Act}
use Rattle.mt_endpoint.specs.Tunnels.{is_attached, is_silent}
use Rattle.mt_endpoint.specs.World.{draws}
use Rattle.mt_endpoint.specs.Writing.{tunneled}
use Rattle.end_calls.specs.Calls.{after_bytes, lacking}
use Rattle.end_calls.specs.Law.{IsLack}
use Rattle.end_calls.specs.Links.{gives_all}
use Rattle.end_calls.specs.Streams.{Past, written}
use Rattle.end_session.specs.Outgoing.{waiting_for}
use Rattle.end_session.specs.Standing.{Gone}
use Rattle.end_reader.specs.Standing.{Reads}
use Rattle.end_reader.specs.declared.reader.Reader.{Reader}
use Rattle.endpoint.specs.Attached.{is_closed}

-- the reliable link of an end that read so much: these calls were made of it, these bytes in order were not
-- pulled from it, and it has this load
pub record LinkOn {L : Type 0} (stands : L → Trace link.Entry → Type 0) (left : L → List ℕ) (condition : L → LinkState) (load : L → ℕ) (unread : List ℕ) (p : Past) (l : Trace link.Entry) (queued : ℕ) (c : L) : Type 0 where
  pub attached : is_attached Reliable p.acts ≡ true
  pub called : stands c l
  pub left_is : left c ≡ unread
  pub is_open : is_silent Reliable p.acts ≡ false → is_closed (condition c) ≡ false
  pub load_is : load c ≡ queued

-- an end without one
pub record LinkOff (unread : List ℕ) (p : Past) (l : Trace link.Entry) : Type 0 where
  pub unattached : is_attached Reliable p.acts ≡ false
  pub uncalled : l ≡ Start
  pub undrawn : draws Reliable p.acts ≡ []
  pub unread_is : unread ≡ []

abbrev pub LinkAt : {L : Type 0} → (L → Trace link.Entry → Type 0) → (L → List ℕ) → (L → LinkState) → (L → ℕ) → List ℕ → Past → Trace link.Entry → ℕ → Option L → Type 0
LinkAt stands left condition load unread p l queued (Some c) = LinkOn stands left condition load unread p l queued c
LinkAt stands left condition load unread p l queued None = LinkOff unread p l

-- these bytes of the main stream were handed out, and nothing waits for the links
pub record OnWay {L : Type 0} (stands : L → Trace link.Entry → Type 0) (left : L → List ℕ) (condition : L → LinkState) (load : L → ℕ) (unread sent : List ℕ) (role : Role) (p : Past) (l : Trace link.Entry) (queued : ℕ) (r : Reader) (c : Option L) : Type 0 where
  pub gone : Gone
  pub gone_is : gone.main ≡ sent
  pub reads : Reads r p gone
  pub role_is : (r.session).role ≡ role
  pub reliable_waits : waiting_for Reliable ((r.session).outgoing) ≡ []
  pub lossy_waits : waiting_for Lossy ((r.session).outgoing) ≡ []
  pub has_link : LinkAt stands left condition load unread p l queued c

-- it is so for some past
abbrev pub SomeWay : {L : Type 0} → (L → Trace link.Entry → Type 0) → (L → List ℕ) → (L → LinkState) → (L → ℕ) → Reader → Option L → Type 0
SomeWay stands left condition load r c =
    (unread : List ℕ) × (sent : List ℕ) × (role : Role) × (p : Past) × (l : Trace link.Entry) × (queued : ℕ) × OnWay stands left condition load unread sent role p l queued r c

-- memory may be wanting at the frame that the last of these bytes ends
abbrev pub IsFrameLack : Role → Past → List ℕ → ℕ → Option (Trace Act) → Type 0
IsFrameLack role p bytes count None = Unit {0}
IsFrameLack role p bytes count (Some reached) = IsLack (after_bytes role p (take (count - 1) bytes)) (after_bytes role p (take count bytes)) reached

-- so many of these bytes more were read, and what they made the end write for the link was given to it at once
pub record Reached {L : Type 0} (stands : L → Trace link.Entry → Type 0) (left : L → List ℕ) (condition : L → LinkState) (load : L → ℕ) (unread sent : List ℕ) (role : Role) (p : Past) (l : Trace link.Entry) (queued : ℕ) (bytes : List ℕ) (count : ℕ) (r : Reader) (c : Option L) : Type 0 where
  pub lack : Option (Trace Act)
  pub lacks : IsFrameLack role p bytes count lack
  pub way : OnWay stands left condition load unread sent role (lacking lack (after_bytes role p (take count bytes)))
      (gives_all Reliable role p (lacking lack (after_bytes role p (take count bytes))) l)
      (queued + length (flat_map tunneled (written Reliable role p (lacking lack (after_bytes role p (take count bytes)))))) r c

-- An end on its way through the parts that its lossy link hands out.
use Rattle.std.specs.Prelude.{◌≡◌, ◌+◌, ◌≤◌, ◌||◌, nat_le, ℕ, true, false, not, List, [], ◌∷◌, length, drop, is_some, Option, Some, None}
use Rattle.mt_base.specs.declared.kinds.Kind.TheVariants.{Reliable, Lossy}
use Rattle.mt_base.specs.declared.kinds.Role.{Role}
use Rattle.mt_base.specs.Trace.{Trace, Start, ◌▷◌}
use Rattle.mt_windows.specs.declared.limits.TheConstants.{WINDOW}
use Rattle.carrier.specs.declared.state.LinkState.{LinkState}
use Rattle.carrier.specs.Entries as link
use Rattle.mt_endpoint.specs.Acts.{Act}
use Rattle.mt_endpoint.specs.Tunnels.{is_attached, is_silent}
use Rattle.end_calls.specs.Calls.{Handed, after_parts, lacking}
use Rattle.end_calls.specs.Law.{Hands, IsLack}
use Rattle.end_calls.specs.Links.{asks_once_more, by_parts, gives_all}
use Rattle.end_calls.specs.Stops.{Outset, handed_parts, is_link_stopped, load_at}
use Rattle.end_calls.specs.Streams.{Past, with_part, written}
use Rattle.end_session.specs.Outgoing.{waiting_for}
use Rattle.end_session.specs.Standing.{Gone}
use Rattle.end_reader.specs.Standing.{Reads}
use Rattle.end_reader.specs.declared.reader.Reader.{Reader}
use Rattle.endpoint.specs.Attached.{is_closed}
use Rattle.endpoint.specs.Pulled.{IsReadLack}

-- the end stands for this past, these bytes of the main stream were handed out, and nothing waits for the links;
-- these calls were made of the lossy link, and these parts were not handed out by it
pub record PartWay {L : Type 0} (stands : L → Trace link.Entry → Type 0) (left : L → List (List ℕ)) (condition : L → LinkState) (unhanded : List (List ℕ)) (sent : List ℕ) (role : Role) (p : Past) (m : Trace link.Entry) (r : Reader) (c : L) : Type 0 where
  pub gone : Gone
  pub gone_is : gone.main ≡ sent
  pub reads : Reads r p gone
  pub role_is : (r.session).role ≡ role
  pub reliable_waits : waiting_for Reliable ((r.session).outgoing) ≡ []
  pub lossy_waits : waiting_for Lossy ((r.session).outgoing) ≡ []
  pub attached : is_attached Lossy p.acts ≡ true
  pub called : stands c m
  pub left_is : left c ≡ unhanded
  pub is_open : is_silent Lossy p.acts ≡ false → is_closed (condition c) ≡ false

-- it is so for some past
abbrev pub SomePart : {L : Type 0} → (L → Trace link.Entry → Type 0) → (L → List (List ℕ)) → (L → LinkState) → Reader → L → Type 0
SomePart stands left condition r c =
    (unhanded : List (List ℕ)) × (sent : List ℕ) × (role : Role) × (p : Past) × (m : Trace link.Entry) × PartWay stands left condition unhanded sent role p m r c

-- the call's reliable link has this load at this past, or 0 where there is none
pub record LoadAt (role : Role) (outset : Outset) (sent : List ℕ) (p : Past) (load : ℕ) : Type 0 where
  pub sent_is : length sent ≡ outset.sent
  pub load_is : is_attached Reliable p.acts ≡ true → load ≡ load_at role outset p
  pub none_loaded : is_attached Reliable p.acts ≡ false → load ≡ 0

-- the past behind a part, up to the want of memory
abbrev pub behind_part : Role → Past → Handed → Option (Trace Act) → Past
behind_part role p part lack = lacking lack (with_part role p part.bytes part.is_full)

-- The next part was handed out and read; what it made the end write was posted on the lossy link, and nothing was
-- written for the reliable one. The part counts as full where the link was full for one more.
pub record OnePart {L : Type 0} (stands : L → Trace link.Entry → Type 0) (left : L → List (List ℕ)) (condition : L → LinkState) (load : L → ℕ) (old : L) (unhanded : List (List ℕ)) (sent : List ℕ) (role : Role) (p : Past) (m : Trace link.Entry) (r : Reader) (c : L) : Type 0 where
  pub part : Handed
  pub rest : List (List ℕ)
  pub unhanded_is : unhanded ≡ part.bytes ∷ rest
  pub lack : Option (Trace Act)
  pub lacks : IsReadLack p (with_part role p part.bytes part.is_full) lack
  pub way : PartWay stands left condition rest sent role (behind_part role p part lack) (gives_all Lossy role p (behind_part role p part lack) (m ▷ link.Next (Some part.bytes))) r c
  pub none_reliable : written Reliable role p (behind_part role p part lack) ≡ []
  pub is_full : part.is_full ≡ nat_le WINDOW (load old)
  pub loads_one : load c ≤ load old + 1

-- the past behind these parts, up to the want of memory
abbrev pub handed_by : Role → Past → Trace Handed → Option (Trace Act) → Past
handed_by role p parts lack = lacking lack (after_parts role p parts)

-- memory may be wanting at the last part
abbrev pub IsPartLack : Role → Past → Trace Handed → Option (Trace Act) → Type 0
IsPartLack role p parts None = Unit {0}
IsPartLack role p Start (Some reached) = ⊥
IsPartLack role p (parts ▷ part) (Some reached) = IsLack (after_parts role p parts) (after_parts role p (parts ▷ part)) reached

-- a part counts as full only where the link's load and the parts handed out before it fill its window
abbrev pub FullFrom : ℕ → Trace Handed → Type 0
FullFrom load Start = Unit {0}
FullFrom load (parts ▷ part) = (part.is_full ≡ true → WINDOW ≤ load + length (handed_parts parts)) × FullFrom load parts

-- All parts that the lossy link had were handed out and read, up to a stop, and nothing was written for the
-- reliable one. Where no stop stands behind them the link was asked for one more.
pub record AllHanded {L : Type 0} (stands : L → Trace link.Entry → Type 0) (left : L → List (List ℕ)) (condition : L → LinkState) (load : L → ℕ) (old : L) (unhanded : List (List ℕ)) (sent : List ℕ) (role : Role) (outset : Outset) (p : Past) (m : Trace link.Entry) (r : Reader) (c : L) : Type 0 where
  pub parts : Trace Handed
  pub lack : Option (Trace Act)
  pub handed : Hands role outset p unhanded parts (is_some lack)
  pub lacks : IsPartLack role p parts lack
  pub way : PartWay stands left condition (drop (length (handed_parts parts)) unhanded) sent role (handed_by role p parts lack)
      (asks_once_more Lossy (not (is_some lack || is_link_stopped role outset (after_parts role p parts))) (by_parts Lossy role p parts lack m)) r c
  pub none_reliable : written Reliable role p (handed_by role p parts lack) ≡ []
  pub none_called : (l : Trace link.Entry) → by_parts Reliable role p parts lack l ≡ l
  pub full_from : FullFrom (load old) parts

-- A message that goes through a tunnel: its PDUs are given to the tunnel's link, one by one.
use Rattle.std.specs.Prelude.{◌≡◌, ℕ, ◌+◌, ◌≤◌, false, List, [], length, map, Option, Some, None, if◌then◌else◌}
use Rattle.std.specs.List.{fold, flat_map}
use Rattle.mt_base.specs.declared.kinds.Kind.{Kind}
use Rattle.mt_base.specs.declared.kinds.Kind.TheVariants.{Reliable, Lossy}
use Rattle.mt_base.specs.Ends.{same_kind}
use Rattle.mt_base.specs.Trace.{Trace}
use Rattle.mt_windows.specs.declared.limits.TheConstants.{QUEUE, WINDOW}
use Rattle.carrier.specs.declared.state.LinkState.{LinkState}
use Rattle.carrier.specs.Entries as link
use Rattle.dvc_pdus.specs.Value.{Pdu}
use Rattle.soft_sync.specs.declared.kinds.Path.{Path}
use Rattle.soft_sync.specs.declared.kinds.Path.TheVariants.{Main, Tunnel}
use Rattle.mt_endpoint.specs.Acts.{Drawn}
use Rattle.mt_endpoint.specs.Writing.{tunneled}
use Rattle.end_calls.specs.Links.{gives}
use Rattle.end_session.specs.MessageGiven.{carrying}
use Rattle.endpoint.specs.Attached.{is_closed}

-- the PDUs for the link of this kind
abbrev pub through : Kind → Path → List Pdu → List Drawn
through kind Main pdus = []
through kind (Tunnel made) pdus = if same_kind kind made then map carrying pdus else []

-- what they count of the link's queue, and its limit: bytes of a reliable link, parts of a lossy one
abbrev pub counted : Kind → List Drawn → ℕ
counted Reliable drawn = length (flat_map tunneled drawn)
counted Lossy drawn = length drawn

abbrev pub limit_of : Kind → ℕ
limit_of Reliable = QUEUE
limit_of Lossy = WINDOW

-- Each of these was given to a link, as far as it took them: one that isn't closed and has room takes all.
pub record TookEach {L A : Type 0} (kind : Kind) (stands : L → Trace link.Entry → Type 0) (left : L → List A) (condition : L → LinkState) (load : L → ℕ) (drawn : List Drawn) (old new : L) : Type 0 where
  pub called : (u : Trace link.Entry) → stands old u → is_closed (condition old) ≡ false → load old + counted kind drawn ≤ limit_of kind → stands new (fold (gives kind) u drawn)
  pub unless_some : drawn ≡ [] → new ≡ old
  pub left_is : left new ≡ left old
  pub state_is : condition new ≡ condition old

-- the same of the link that an end may have
abbrev pub TookIf : {L A : Type 0} → Kind → (L → Trace link.Entry → Type 0) → (L → List A) → (L → LinkState) → (L → ℕ) → List Drawn → Option L → Option L → Type 0
TookIf kind stands left condition load drawn None None = Unit {0}
TookIf kind stands left condition load drawn (Some old) (Some new) = TookEach kind stands left condition load drawn old new
TookIf kind stands left condition load drawn None (Some new) = ⊥
TookIf kind stands left condition load drawn (Some old) None = ⊥

-- The links of an end.
use Rattle.std.specs.Prelude.{◌≡◌, ℕ, ◌+◌, ◌≤◌, length, Bool, true, false, List, [], ◌∷◌, Option, Some, None}
use Rattle.mt_base.specs.declared.kinds.Kind.{Kind}
use Rattle.mt_base.specs.declared.kinds.Role.{Role}
use Rattle.mt_base.specs.Trace.{Trace, Start, ◌▷◌}
use Rattle.carrier.specs.declared.state.LinkState.{LinkState}
use Rattle.carrier.specs.declared.state.LinkState.TheVariants.{Opening, Open, Closed}
use Rattle.carrier.specs.Entries as link
use Rattle.mt_endpoint.specs.Tunnels.{is_attached, is_silent}
use Rattle.mt_endpoint.specs.World.{draws}
use Rattle.end_calls.specs.Calls.{Entry, acts}
use Rattle.end_calls.specs.Links.{gives_bytes, linked}
use Rattle.mt_windows.specs.declared.limits.TheConstants.{QUEUE}

abbrev pub is_closed : LinkState → Bool
is_closed Opening = false
is_closed Open = false
is_closed (Closed expiries) = true

-- A link that an end has stands for the calls that the end made of it, and has left what the end was not
-- handed of it. It is closed only where its tunnel is silent.
pub record Serves {L A : Type 0} (stands : L → Trace link.Entry → Type 0) (left : L → List A) (condition : L → LinkState) (kind : Kind) (unread : List A) (role : Role) (t : Trace Entry) (l : L) : Type 0 where
  pub attached : is_attached kind (acts role t) ≡ true
  pub called : stands l (linked kind role t)
  pub left_is : left l ≡ unread
  pub is_open : is_silent kind (acts role t) ≡ false → is_closed (condition l) ≡ false

-- where an end has no link, none was attached: nothing was called of it, and nothing came
pub record Lacks {A : Type 0} (kind : Kind) (unread : List A) (role : Role) (t : Trace Entry) : Type 0 where
  pub unattached : is_attached kind (acts role t) ≡ false
  pub uncalled : linked kind role t ≡ Start
  pub undrawn : draws kind (acts role t) ≡ []
  pub unread_is : unread ≡ []

abbrev pub HasLink : {L A : Type 0} → (L → Trace link.Entry → Type 0) → (L → List A) → (L → LinkState) → Kind → List A → Role → Trace Entry → Option L → Type 0
HasLink stands left condition kind unread role t (Some l) = Serves stands left condition kind unread role t l
HasLink stands left condition kind unread role t None = Lacks kind unread role t

-- one part is posted, where it has a byte
abbrev pub posts_bytes : List ℕ → Trace link.Entry → Trace link.Entry
posts_bytes [] t = t
posts_bytes (byte ∷ bytes) t = t ▷ link.Posted (byte ∷ bytes)

-- what a link that an end may have holds of its queue
abbrev pub load_in : {L : Type 0} → (L → ℕ) → Option L → ℕ
load_in load None = 0
load_in load (Some l) = load l

-- these bytes were given to a link, as far as it took them: one that isn't closed and has room takes all
pub record GaveTo {L : Type 0} (stands : L → Trace link.Entry → Type 0) (left : L → List ℕ) (condition : L → LinkState) (load : L → ℕ) (bytes : List ℕ) (old new : L) : Type 0 where
  pub called : (u : Trace link.Entry) → stands old u → is_closed (condition old) ≡ false → load old + length bytes ≤ QUEUE → stands new (gives_bytes bytes u)
  pub unless_some : bytes ≡ [] → new ≡ old
  pub left_is : left new ≡ left old
  pub state_is : condition new ≡ condition old

-- the same of the link that an end may have
abbrev pub GaveIf : {L : Type 0} → (L → Trace link.Entry → Type 0) → (L → List ℕ) → (L → LinkState) → (L → ℕ) → List ℕ → Option L → Option L → Type 0
GaveIf stands left condition load bytes None None = Unit {0}
GaveIf stands left condition load bytes (Some old) (Some new) = GaveTo stands left condition load bytes old new
GaveIf stands left condition load bytes None (Some new) = ⊥
GaveIf stands left condition load bytes (Some old) None = ⊥

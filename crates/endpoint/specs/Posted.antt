-- What an end posts on its lossy link before a poll: its create request, once more.
use Rattle.std.specs.Prelude.{◌≡◌, ◌<◌, ◌==◌, nat_le, ℕ, Bool, true, false, Option, Some, None, is_some, if◌then◌else◌}
use Rattle.mt_base.specs.declared.kinds.Kind.TheVariants.{Lossy}
use Rattle.mt_base.specs.declared.kinds.Role.{Role}
use Rattle.mt_base.specs.declared.kinds.Role.TheVariants.{Client}
use Rattle.mt_base.specs.Trace.{Trace}
use Rattle.mt_windows.specs.declared.limits.TheConstants.{WINDOW}
use Rattle.carrier.specs.declared.state.LinkState.{LinkState}
use Rattle.carrier.specs.Entries as link
use Rattle.mt_endpoint.specs.Tunnels.{is_silent}
use Rattle.end_calls.specs.Calls.{Postings, at_moment, posted_once}
use Rattle.end_calls.specs.Links.{gives_all}
use Rattle.end_calls.specs.Streams.{Past}
use Rattle.end_session.specs.Standing.{Gone}
use Rattle.end_session.specs.Store.{Store}
use Rattle.endpoint.specs.Attached.{is_closed}
use Rattle.endpoint.specs.Idle.{IsIdle}

-- a client that asks through its lossy link, was not answered yet, and isn't silent
pub record IsAsking (s : Store) : Type 0 where
  pub role_is : s.role ≡ Client
  pub asked : is_some (s.lossy).asked ≡ true
  pub attached : (s.lossy).is_attached ≡ true
  pub unanswered : (s.lossy).answer ≡ None
  pub loud : (s.lossy).silence ≡ None

-- the link takes a part: it is closed only where its tunnel is silent, and has room unless it is full
pub record IsReady {L : Type 0} (condition : L → LinkState) (load : L → ℕ) (is_full : Bool) (p : Past) (l : L) : Type 0 where
  pub is_open : is_silent Lossy p.acts ≡ false → is_closed (condition l) ≡ false
  pub has_room : is_full ≡ false → load l < WINDOW

-- the end came from the past p to q, and what it wrote for its lossy link was posted there
pub record Posts {L : Type 0} (stands : L → Trace link.Entry → Type 0) (role : Role) (p q : Past) (gone : Gone) (s : Store) (old new : L) : Type 0 where
  pub after : Gone
  pub after_is : after.main ≡ gone.main
  pub idle : IsIdle role q after s
  pub called : (c : Trace link.Entry) → stands old c → stands new (gives_all Lossy role p q c)

-- how often it was posted, and when, behind a poll at which it was due once more, or wasn't
abbrev pub polled_if : Bool → ℕ → Postings → Postings
polled_if is_due now postings =
    if postings.count == 0 then postings else posted_once now is_due postings.count (record postings { last = at_moment postings.last now })

-- whether the link that an end may have is full for one more part
abbrev pub is_full_in : {L : Type 0} → (L → ℕ) → Option L → Bool
is_full_in load None = false
is_full_in load (Some l) = nat_le WINDOW (load l)

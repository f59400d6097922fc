-- What an end with its links stands for: the calls that were made of it.
use Rattle.std.specs.Prelude.{◌≡◌, ℕ, ◌+◌, ◌≤◌, List, [], length, Option, is_some, if◌then◌else◌}
use Rattle.mt_base.specs.declared.kinds.Kind.{Kind}
use Rattle.mt_base.specs.declared.kinds.Kind.TheVariants.{Reliable, Lossy}
use Rattle.mt_base.specs.declared.kinds.Role.{Role}
use Rattle.mt_base.specs.Trace.{Trace}
use Rattle.carrier.specs.declared.state.LinkState.{LinkState}
use Rattle.carrier.specs.Entries as link
use Rattle.mt_endpoint.specs.Acts.{Act}
use Rattle.mt_endpoint.specs.Tunnels.{told_refusal}
use Rattle.end_calls.specs.declared.limits.TheConstants.{MAIN_QUEUE}
use Rattle.end_calls.specs.Calls.{Entry, Postings, acts, past, story}
use Rattle.end_calls.specs.Law.{EndTrace, given_main, unhanded, unpulled, unsent}
use Rattle.end_calls.specs.Stops.{answers_owed}
use Rattle.end_session.specs.Outgoing.{waiting_for}
use Rattle.end_session.specs.Standing.{Gone}
use Rattle.end_reader.specs.declared.reader.Reader.{Reader}
use Rattle.endpoint.specs.Attached.{HasLink}
use Rattle.endpoint.specs.Kept.{Kept}
use Rattle.end_reader.specs.Standing.{Reads}

-- the bytes of the main queue that refusals of tunnels may still take
abbrev pub refusal_owed : Role → Kind → Trace Act → ℕ
refusal_owed role kind t = if is_some (told_refusal role kind t) then 0 else 11

abbrev pub refusals_owed : Role → Trace Act → ℕ
refusals_owed role t = refusal_owed role Reliable t + refusal_owed role Lossy t

-- The end without its links.
pub record Tells (reader : Reader) (postings : Postings) (role : Role) (t : Trace Entry) : Type 0 where
  pub law : EndTrace role t
  pub gone : Gone
  pub gone_is : gone.main ≡ given_main t
  pub reads : Reads reader (past role t) gone
  pub role_is : (reader.session).role ≡ role
  -- what the main queue owes has room beside what waits
  pub room : length (unsent role t) + (answers_owed (acts role t) + refusals_owed role (acts role t)) ≤ MAIN_QUEUE
  -- between calls nothing waits for the links
  pub reliable_waits : waiting_for Reliable ((reader.session).outgoing) ≡ []
  pub lossy_waits : waiting_for Lossy ((reader.session).outgoing) ≡ []
  pub postings_are : postings ≡ (story role t).postings

-- An end with its links: what its calls made of it.
pub record IsEnd {C P : Type 0} (carrier_stands : C → Trace link.Entry → Type 0) (carrier_left : C → List ℕ) (carrier_condition : C → LinkState) (post_stands : P → Trace link.Entry → Type 0) (post_left : P → List (List ℕ)) (post_condition : P → LinkState) (reader : Reader) (postings : Postings) (reliable : Option C) (lossy : Option P) (role : Role) (t : Trace Entry) : Type 0 where
  pub tells : Tells reader postings role t
  pub has_reliable : HasLink carrier_stands carrier_left carrier_condition Reliable (unpulled t) role t reliable
  pub has_lossy : HasLink post_stands post_left post_condition Lossy (unhanded t) role t lossy

-- An end of this role stands for these calls; the six words are those of its two links.
abbrev pub EndStands : {C P : Type 0} → (C → Trace link.Entry → Type 0) → (C → List ℕ) → (C → LinkState) → (P → Trace link.Entry → Type 0) → (P → List (List ℕ)) → (P → LinkState) → Kept C P → Role → Trace Entry → Type 0
EndStands carrier_stands carrier_left carrier_condition post_stands post_left post_condition kept role t =
    IsEnd carrier_stands carrier_left carrier_condition post_stands post_left post_condition kept.reader kept.postings kept.reliable kept.lossy role t

-- It stands for some calls.
abbrev pub IsLawful : {C P : Type 0} → (C → Trace link.Entry → Type 0) → (C → List ℕ) → (C → LinkState) → (P → Trace link.Entry → Type 0) → (P → List (List ℕ)) → (P → LinkState) → Kept C P → Type 0
IsLawful carrier_stands carrier_left carrier_condition post_stands post_left post_condition kept =
    (role : Role) × (t : Trace Entry) × EndStands carrier_stands carrier_left carrier_condition post_stands post_left post_condition kept role t

-- An end with its links, behind a step of its own that is nothing to them.
use Rattle.std.proofs.Common.{◌≡◌, ℕ, ◌+◌, ◌≤◌, false, true, List, length, Option, refl, sym}
use Rattle.std.specs.List.{flat_map}
use Rattle.mt_base.specs.declared.kinds.Kind.TheVariants.{Reliable, Lossy}
use Rattle.mt_base.specs.declared.kinds.Role.{Role}
use Rattle.mt_base.specs.declared.kinds.Role.TheVariants.{Server, Client}
use Rattle.mt_base.specs.Trace.{Trace, ◌▷◌}
use Rattle.carrier.specs.declared.state.LinkState.{LinkState}
use Rattle.carrier.specs.Entries as link
use Rattle.mt_endpoint.specs.Acts.{Act, Attaches}
use Rattle.mt_endpoint.specs.Tunnels.{attaches}
use Rattle.mt_endpoint.specs.Writing.{adds, framed, on_main}
use Rattle.end_calls.specs.declared.limits.TheConstants.{MAIN_QUEUE}
use Rattle.end_calls.specs.Calls.{Entry, Own, Postings, acts, attached_by}
use Rattle.end_calls.specs.Law.{unhanded, unpulled}
use Rattle.end_calls.specs.Stops.{answers_owed}
use Rattle.end_session.specs.Standing.{Stands}
use Rattle.end_session.specs.Store.{Store}
use Rattle.end_reader.specs.declared.reader.Reader.{Reader}
use Rattle.endpoint.specs.Standing.{IsEnd, refusals_owed}
use Rattle.endpoint.proofs.Added.{added, room_on}
use Rattle.endpoint.proofs.Links.{IsApart, link_same}
use Rattle.endpoint.proofs.Steps.{IsLone, IsPlain, acts_after, tells_on}

pub posts_same : (role : Role) (act : Act) (postings : Postings) → attaches Lossy act ≡ false → attached_by role act postings ≡ postings
posts_same Server act postings none = refl
posts_same Client (Attaches Lossy) postings none = absurd (let no : true ≡ false = none in cc)
posts_same Client (Attaches Reliable) postings none = refl
posts_same Client act postings none = refl

pub stands_apart : {C P : Type 0} (carrier_stands : C → Trace link.Entry → Type 0) (carrier_left : C → List ℕ) (carrier_condition : C → LinkState) (post_stands : P → Trace link.Entry → Type 0) (post_left : P → List (List ℕ)) (post_condition : P → LinkState) (r : Reader) (postings : Postings) (reliable : Option C) (lossy : Option P) (role : Role) (t : Trace Entry) (act : Act) (s : Store)
    → (e : IsEnd carrier_stands carrier_left carrier_condition post_stands post_left post_condition r postings reliable lossy role t) → IsPlain role (acts role t) act → IsLone role t act → IsApart Reliable role (acts role t) act → IsApart Lossy role (acts role t) act
    → Stands s (acts role t ▷ act) (e.tells).gone → s.role ≡ (r.session).role → s.broken ≡ (r.session).broken
    → length ((r.session).outgoing).main + length (flat_map framed (on_main (adds role (acts role t) act))) + (answers_owed (acts role t) + refusals_owed role (acts role t)) ≤ MAIN_QUEUE
    → IsEnd carrier_stands carrier_left carrier_condition post_stands post_left post_condition (record r { session = s }) postings reliable lossy role (t ▷ Own act)
stands_apart carrier_stands carrier_left carrier_condition post_stands post_left post_condition r postings reliable lossy role t act s e plain l no_reliable no_lossy st role_is broken_is room =
    let on = acts_after role t act l in
    let new = added r postings role t act s e.tells st role_is broken_is no_reliable.none_written no_lossy.none_written in record {
      tells = tells_on r postings postings role t act s (e.tells).gone e.tells plain l new (sym (posts_same role act postings no_lossy.no_link)) (room_on r postings role t act s (e.tells).gone e.tells plain new room);
      has_reliable = link_same carrier_stands carrier_left carrier_condition Reliable (unpulled t) role t act reliable on no_reliable e.has_reliable;
      has_lossy = link_same post_stands post_left post_condition Lossy (unhanded t) role t act lossy on no_lossy e.has_lossy;
    }

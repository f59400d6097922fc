-- An end that a datagram came for, with its links: the reliable one.
use Rattle.std.proofs.Common.{◌≡◌, inl, IfSome, ℕ, ◌+◌, Bool, true, false, List, [], ◌++◌, length, Option, Some, None, is_some, refl, sym, ap, subst, ◌∙◌, append-nil}
use Rattle.std.specs.List.{flat_map}
use Rattle.mt_base.specs.declared.kinds.Kind.TheVariants.{Reliable, Lossy}
use Rattle.mt_base.specs.declared.kinds.Role.{Role}
use Rattle.mt_base.specs.Trace.{Trace, Start, ◌▷◌}
use Rattle.carrier.specs.declared.state.LinkState.{LinkState}
use Rattle.carrier.specs.declared.state.LinkState.TheVariants.{Closed}
use Rattle.carrier.specs.declared.state.Took.{Took}
use Rattle.carrier.specs.Entries as link
use Rattle.mt_endpoint.specs.Acts.{Act, Drawn}
use Rattle.mt_endpoint.specs.Tunnels.{is_attached, is_silent}
use Rattle.mt_endpoint.specs.World.{draws}
use Rattle.mt_endpoint.specs.Writing.{tunneled}
use Rattle.end_calls.specs.Calls.{Came, Entry, Handed, Postings, Pull, WireIn, acts, past}
use Rattle.end_calls.specs.Law.{Hands, Pulls, given_main, outset, unhanded, unpulled}
use Rattle.end_calls.specs.Links.{by_parts, linked}
use Rattle.end_calls.specs.Streams.{Past, written}
use Rattle.end_session.specs.Outgoing.{waiting_for}
use Rattle.end_session.specs.Standing.{Gone}
use Rattle.end_reader.specs.declared.reader.Reader.{Reader}
use Rattle.end_reader.specs.Standing.{Reads}
use Rattle.endpoint.specs.Attached.{HasLink, Lacks, Serves, load_in}
use Rattle.endpoint.specs.Handed.{AllHanded, FullFrom, IsPartLack, SomePart, handed_by}
use Rattle.endpoint.specs.MainRead.{KeepsRoom}
use Rattle.endpoint.specs.OnWay.{LinkOn, OnWay}
use Rattle.endpoint.specs.Pulled.{AllPulled, pulled_by}
use Rattle.endpoint.specs.Standing.{IsEnd}
use Rattle.endpoint.specs.WiredIn.{HandedIf, WiredIn}
use Rattle.endpoint.proofs.PullActs.{IsStill}
use Rattle.endpoint.proofs.WiredIn.{HeldFits, told_in}
use Rattle.endpoint.proofs.WiredLossy.{attached_some}
use Rattle.endpoint.proofs.WiredReliable.{PulledIn, load_behind, lossy_linked, part_behind, pull_way, reliable_linked}
use Rattle.endpoint.proofs.ReadBoth.{first_lack, joined, keeps_then, none_written, still_handed_by, still_pulled_by, still_pulls, written_same}

-- ---- behind both

-- What the lossy link brought, or nothing where there is none.
record IsBehind (role : Role) (t : Trace Entry) (queued : ℕ) (q : Past) (r : Reader) : Type 0 where
  parts : Trace Handed
  lack : Option (Trace Act)
  handed : Hands role (outset role t queued) q (unhanded t ++ []) parts (is_some lack)
  lacks : IsPartLack role q parts lack
  gone : Gone
  gone_is : gone.main ≡ given_main t
  reads : Reads r (handed_by role q parts lack) gone
  role_is : (r.session).role ≡ role
  reliable_waits : waiting_for Reliable ((r.session).outgoing) ≡ []
  lossy_waits : waiting_for Lossy ((r.session).outgoing) ≡ []
  none_reliable : written Reliable role q (handed_by role q parts lack) ≡ []
  none_called : (l : Trace link.Entry) → by_parts Reliable role q parts lack l ≡ l

of_parts : {P : Type 0} (stands : P → Trace link.Entry → Type 0) (left : P → List (List ℕ)) (condition : P → LinkState) (load : P → ℕ) (old : P) (role : Role) (t : Trace Entry) (queued : ℕ) (q : Past) (m : Trace link.Entry) (r : Reader) (c : P)
    → AllHanded stands left condition load old (unhanded t ++ []) (given_main t) role (outset role t queued) q m r c → IsBehind role t queued q r
of_parts stands left condition load old role t queued q m r c all =
    let way = all.way in record {
      parts = all.parts;
      lack = all.lack;
      handed = all.handed;
      lacks = all.lacks;
      gone = way.gone;
      gone_is = way.gone_is;
      reads = way.reads;
      role_is = way.role_is;
      reliable_waits = way.reliable_waits;
      lossy_waits = way.lossy_waits;
      none_reliable = all.none_reliable;
      none_called = all.none_called;
    }

of_none : {C : Type 0} (stands : C → Trace link.Entry → Type 0) (left : C → List ℕ) (condition : C → LinkState) (load : C → ℕ) (r : Reader) (c : C) (role : Role) (t : Trace Entry) (now : ℕ) (datagram : List ℕ) (took : Took) (more : List ℕ) (queued : ℕ)
    → (all : PulledIn stands left condition load role t now datagram took more queued r c) → unhanded t ≡ [] → IsBehind role t queued (pulled_by role (past role t) all.pulls all.lack) r
of_none stands left condition load r c role t now datagram took more queued all none =
    let way = all.way in record {
      parts = Start;
      lack = None;
      handed = (tt, inl (append-nil (unhanded t) ∙ none));
      lacks = tt;
      gone = way.gone;
      gone_is = way.gone_is;
      reads = way.reads;
      role_is = way.role_is;
      reliable_waits = way.reliable_waits;
      lossy_waits = way.lossy_waits;
      none_reliable = none_written Reliable role (pulled_by role (past role t) all.pulls all.lack);
      none_called = λ l. refl;
    }

-- ---- all of it

-- the entry of such a call
abbrev Entered : Trace Entry → ℕ → List ℕ → Took → ℕ → List ℕ → Trace Pull → Option (Trace Act) → Trace Handed → Option (Trace Act) → Trace Entry
Entered t now datagram took queued more pulls pulls_lack parts parts_lack = t ▷ WireIn Reliable now datagram took queued (record { bytes = more; parts = [] }) pulls parts (first_lack pulls_lack parts_lack)

wired_by : {C P : Type 0} (carrier_stands : C → Trace link.Entry → Type 0) (carrier_left : C → List ℕ) (carrier_condition : C → LinkState) (carrier_load : C → ℕ) (post_stands : P → Trace link.Entry → Type 0) (post_left : P → List (List ℕ)) (post_condition : P → LinkState) (post_load : P → ℕ) (r mid after : Reader) (postings : Postings) (reliable : Option C) (lossy behind : Option P) (new : C) (role : Role) (t : Trace Entry) (now : ℕ) (datagram : List ℕ) (took : Took) (more : List ℕ) (queued : ℕ)
    → IsEnd carrier_stands carrier_left carrier_condition post_stands post_left post_condition r postings reliable lossy role t → is_attached Reliable (acts role t) ≡ true
    → (all : PulledIn carrier_stands carrier_left carrier_condition carrier_load role t now datagram took more queued mid new) → (b : IsBehind role t queued (pulled_by role (past role t) all.pulls all.lack) after)
    → FullFrom (load_in post_load lossy) b.parts → KeepsRoom r.session after.session → HeldFits after.session
    → HasLink post_stands post_left post_condition Lossy (unhanded (Entered t now datagram took queued more all.pulls all.lack b.parts b.lack)) role (Entered t now datagram took queued more all.pulls all.lack b.parts b.lack) behind
    → WiredIn carrier_stands carrier_left carrier_condition carrier_load post_stands post_left post_condition post_load role t Reliable now datagram took (record { reader = r; postings = postings; reliable = reliable; lossy = lossy }) (record { reader = after; postings = postings; reliable = Some new; lossy = behind })
wired_by carrier_stands carrier_left carrier_condition carrier_load post_stands post_left post_condition post_load r mid after postings reliable lossy behind new role t now datagram took more queued e attached all b full keeps fits has_lossy =
    let p = past role t in
    let q = pulled_by role p all.pulls all.lack in
    let lack = first_lack all.lack b.lack in
    let came : Came = record { bytes = more; parts = [] } in
    let u = Entered t now datagram took queued more all.pulls all.lack b.parts b.lack in
    let j = joined role (outset role t queued) p all.pulls all.lack (unhanded t ++ []) b.parts b.lack all.lacks b.handed b.lacks in
    let on : LinkOn carrier_stands carrier_left carrier_condition carrier_load (unpulled u) q _ _ new = (all.way).has_link in
    let over = still_handed_by role q b.parts b.lack b.lacks in
    let still : IsStill Lossy role q.acts (acts role u) = subst (λ (x : Past). IsStill Lossy role q.acts x.acts) (sym j.past_is) over in
    let written_is : written Reliable role p (past role u) ≡ written Reliable role p q = ap (λ (x : Past). written Reliable role p x) j.past_is ∙ written_same Reliable role p q b.parts b.lack b.lacks b.none_reliable in record {
      load = queued;
      came = came;
      pulls = all.pulls;
      parts = b.parts;
      lack = lack;
      stands = record {
        tells =
            told_in r after postings role t Reliable now datagram took queued came all.pulls b.parts lack e.tells attached
            (record {
              takes = record {
                of_kind = refl;
                pulled = subst (λ (is_lack : Bool). Pulls role (outset role t queued) Reliable (unpulled t ++ more) all.pulls is_lack) (sym j.pulls_lack_is) all.pulled;
                handed = j.handed;
                lacking = j.lacks;
              };
              gone = b.gone;
              gone_is = b.gone_is;
              reads = subst (λ (x : Past). Reads after x b.gone) (sym j.past_is) b.reads;
              role_is = b.role_is;
              reliable_waits = b.reliable_waits;
              lossy_waits = b.lossy_waits;
            })
            keeps fits;
        has_reliable = record {
          attached = still.attached Reliable ∙ on.attached;
          called = subst (carrier_stands new) (sym (reliable_linked role t now datagram took queued more all.pulls all.lack (unhanded t ++ []) b.parts b.lack j attached b.none_called)) on.called;
          left_is = on.left_is;
          is_open = λ loud. on.is_open (sym (still.silent Reliable) ∙ loud);
        };
        has_lossy = has_lossy;
      };
      load_is = on.load_is ∙ ap (λ (ds : List Drawn). queued + length (flat_map tunneled ds)) (sym written_is);
      full_from = full;
    }

-- where there is no lossy link
wired_alone : {C P : Type 0} (carrier_stands : C → Trace link.Entry → Type 0) (carrier_left : C → List ℕ) (carrier_condition : C → LinkState) (carrier_load : C → ℕ) (post_stands : P → Trace link.Entry → Type 0) (post_left : P → List (List ℕ)) (post_condition : P → LinkState) (post_load : P → ℕ) (r mid : Reader) (postings : Postings) (reliable : Option C) (old new : C) (role : Role) (t : Trace Entry) (now : ℕ) (datagram : List ℕ) (took : Took) (more : List ℕ) (queued : ℕ)
    → IsEnd carrier_stands carrier_left carrier_condition post_stands post_left post_condition r postings reliable None role t → reliable ≡ Some old
    → PulledIn carrier_stands carrier_left carrier_condition carrier_load role t now datagram took more queued mid new → KeepsRoom r.session mid.session → HeldFits mid.session
    → WiredIn carrier_stands carrier_left carrier_condition carrier_load post_stands post_left post_condition post_load role t Reliable now datagram took (record { reader = r; postings = postings; reliable = reliable; lossy = None }) (record { reader = mid; postings = postings; reliable = Some new; lossy = None })
unfolding of_none
wired_alone carrier_stands carrier_left carrier_condition carrier_load post_stands post_left post_condition post_load r mid postings reliable old new role t now datagram took more queued e is all keeps fits =
    let p = past role t in
    let attached = attached_some carrier_stands carrier_left carrier_condition Reliable (unpulled t) role t reliable old e.has_reliable is in
    let lacks : Lacks Lossy (unhanded t) role t = e.has_lossy in
    let b = of_none carrier_stands carrier_left carrier_condition carrier_load mid new role t now datagram took more queued all lacks.unread_is in
    let still = still_pulled_by role p all.pulls all.lack all.lacks in
    let j = joined role (outset role t queued) p all.pulls all.lack (unhanded t ++ []) Start None all.lacks b.handed b.lacks in
    wired_by carrier_stands carrier_left carrier_condition carrier_load post_stands post_left post_condition post_load r mid mid postings reliable None None new role t now datagram took more queued e attached all b tt keeps fits
    (record {
      unattached = ap (λ (x : Past). is_attached Lossy x.acts) j.past_is ∙ still.attached Lossy ∙ lacks.unattached;
      uncalled =
          lossy_linked role t now datagram took queued more all.pulls all.lack (unhanded t ++ []) Start None false j attached ((still_pulls role p all.pulls).attached Lossy ∙ lacks.unattached) all.none_called ∙ lacks.uncalled;
      undrawn = ap (λ (x : Past). draws Lossy x.acts) j.past_is ∙ still.undrawn Lossy refl ∙ lacks.undrawn;
      unread_is = append-nil (unhanded t) ∙ lacks.unread_is;
    })

-- where there is one
wired_both : {C P : Type 0} (carrier_stands : C → Trace link.Entry → Type 0) (carrier_left : C → List ℕ) (carrier_condition : C → LinkState) (carrier_load : C → ℕ) (post_stands : P → Trace link.Entry → Type 0) (post_left : P → List (List ℕ)) (post_condition : P → LinkState) (post_load : P → ℕ) (r mid after : Reader) (postings : Postings) (reliable : Option C) (lossy behind : P) (old new : C) (role : Role) (t : Trace Entry) (now : ℕ) (datagram : List ℕ) (took : Took) (more : List ℕ) (queued : ℕ)
    → IsEnd carrier_stands carrier_left carrier_condition post_stands post_left post_condition r postings reliable (Some lossy) role t → reliable ≡ Some old
    → (all : PulledIn carrier_stands carrier_left carrier_condition carrier_load role t now datagram took more queued mid new)
    → AllHanded post_stands post_left post_condition post_load lossy (unhanded t ++ []) (given_main t) role (outset role t queued) (pulled_by role (past role t) all.pulls all.lack) (linked Lossy role t) after behind
    → KeepsRoom r.session after.session → HeldFits after.session
    → WiredIn carrier_stands carrier_left carrier_condition carrier_load post_stands post_left post_condition post_load role t Reliable now datagram took (record { reader = r; postings = postings; reliable = reliable; lossy = Some lossy }) (record { reader = after; postings = postings; reliable = Some new; lossy = Some behind })
unfolding of_parts
wired_both carrier_stands carrier_left carrier_condition carrier_load post_stands post_left post_condition post_load r mid after postings reliable lossy behind old new role t now datagram took more queued e is all h keeps fits =
    let p = past role t in
    let attached = attached_some carrier_stands carrier_left carrier_condition Reliable (unpulled t) role t reliable old e.has_reliable is in
    let serves : Serves post_stands post_left post_condition Lossy (unhanded t) role t lossy = e.has_lossy in
    let q = pulled_by role p all.pulls all.lack in
    let b = of_parts post_stands post_left post_condition post_load lossy role t queued q (linked Lossy role t) after behind h in
    let way = h.way in
    let j = joined role (outset role t queued) p all.pulls all.lack (unhanded t ++ []) h.parts h.lack all.lacks h.handed h.lacks in
    let u = Entered t now datagram took queued more all.pulls all.lack h.parts h.lack in
    let silent_is : is_silent Lossy (acts role u) ≡ is_silent Lossy (handed_by role q h.parts h.lack).acts = ap (λ (x : Past). is_silent Lossy x.acts) j.past_is in
    wired_by carrier_stands carrier_left carrier_condition carrier_load post_stands post_left post_condition post_load r mid after postings reliable (Some lossy) (Some behind) new role t now datagram took more queued e attached all b h.full_from keeps fits
    (record {
      attached = ap (λ (x : Past). is_attached Lossy x.acts) j.past_is ∙ way.attached;
      called = subst (post_stands behind)
          (sym (lossy_linked role t now datagram took queued more all.pulls all.lack (unhanded t ++ []) h.parts h.lack true j attached ((still_pulls role p all.pulls).attached Lossy ∙ serves.attached) all.none_called)) way.called;
      left_is = way.left_is;
      is_open = λ loud. way.is_open (sym silent_is ∙ loud);
    })

pub wired_reliable : {C P : Type 0} (carrier_stands : C → Trace link.Entry → Type 0) (carrier_left : C → List ℕ) (carrier_condition : C → LinkState) (carrier_load : C → ℕ) (post_stands : P → Trace link.Entry → Type 0) (post_left : P → List (List ℕ)) (post_condition : P → LinkState) (post_load : P → ℕ) (r mid after : Reader) (postings : Postings) (reliable : Option C) (lossy behind : Option P) (old new : C) (role : Role) (t : Trace Entry) (now : ℕ) (datagram : List ℕ) (took : Took) (more : List ℕ) (queued current : ℕ)
    → IsEnd carrier_stands carrier_left carrier_condition post_stands post_left post_condition r postings reliable lossy role t → reliable ≡ Some old
    → PulledIn carrier_stands carrier_left carrier_condition carrier_load role t now datagram took more queued mid new → current ≡ carrier_load new → HandedIf post_stands post_left post_condition post_load current mid after lossy behind
    → KeepsRoom r.session after.session → HeldFits after.session
    → WiredIn carrier_stands carrier_left carrier_condition carrier_load post_stands post_left post_condition post_load role t Reliable now datagram took (record { reader = r; postings = postings; reliable = reliable; lossy = lossy }) (record { reader = after; postings = postings; reliable = Some new; lossy = behind })
wired_reliable carrier_stands carrier_left carrier_condition carrier_load post_stands post_left post_condition post_load r mid after postings reliable (Some c) (Some d) old new role t now datagram took more queued current e is all current_is handed keeps fits =
    wired_both carrier_stands carrier_left carrier_condition carrier_load post_stands post_left post_condition post_load r mid after postings reliable c d old new role t now datagram took more queued e is all
    (handed (unhanded t ++ []) (given_main t) role (outset role t queued) (pulled_by role (past role t) all.pulls all.lack) (linked Lossy role t)
    (part_behind carrier_stands carrier_left carrier_condition carrier_load post_stands post_left post_condition mid new c role t now datagram took more queued all e.has_lossy)
    (load_behind carrier_stands carrier_left carrier_condition carrier_load mid new role t now datagram took more queued current all current_is))
    keeps fits
wired_reliable carrier_stands carrier_left carrier_condition carrier_load post_stands post_left post_condition post_load r mid after postings reliable None None old new role t now datagram took more queued current e is all current_is handed keeps fits =
    subst (λ (x : Reader). WiredIn carrier_stands carrier_left carrier_condition carrier_load post_stands post_left post_condition post_load role t Reliable now datagram took (record { reader = r; postings = postings; reliable = reliable; lossy = None }) (record { reader = x; postings = postings; reliable = Some new; lossy = None })) (sym handed)
    (wired_alone carrier_stands carrier_left carrier_condition carrier_load post_stands post_left post_condition post_load r mid postings reliable old new role t now datagram took more queued e is all (subst (λ (x : Reader). KeepsRoom r.session x.session) handed keeps)
    (subst (λ (x : Reader). HeldFits x.session) handed fits))
wired_reliable carrier_stands carrier_left carrier_condition carrier_load post_stands post_left post_condition post_load r mid after postings reliable (Some c) None old new role t now datagram took more queued current e is all current_is handed keeps fits = absurd handed
wired_reliable carrier_stands carrier_left carrier_condition carrier_load post_stands post_left post_condition post_load r mid after postings reliable None (Some d) old new role t now datagram took more queued current e is all current_is handed keeps fits = absurd handed

-- as the calls tell it
pub reliable_read : {C P : Type 0} (carrier_stands : C → Trace link.Entry → Type 0) (carrier_left : C → List ℕ) (carrier_condition : C → LinkState) (carrier_load : C → ℕ) (post_stands : P → Trace link.Entry → Type 0) (post_left : P → List (List ℕ)) (post_condition : P → LinkState) (post_load : P → ℕ) (r mid after : Reader) (postings : Postings) (reliable : Option C) (lossy behind : Option P) (old drawn new : C) (role : Role) (t : Trace Entry) (now : ℕ) (datagram : List ℕ) (took : Took) (queued : ℕ)
    → IsEnd carrier_stands carrier_left carrier_condition post_stands post_left post_condition r postings reliable lossy role t → reliable ≡ Some old
    → ((c : Trace link.Entry) → carrier_stands old c → carrier_stands drawn (c ▷ link.In now datagram took)) → (more : List ℕ) × (carrier_left drawn ≡ carrier_left old ++ more) → ((e : ℕ) → carrier_condition drawn ≡ Closed e → carrier_condition old ≡ Closed e)
    → ((unread sent : List ℕ) (role : Role) (p : Past) (l : Trace link.Entry) (queued : ℕ) → OnWay carrier_stands carrier_left carrier_condition carrier_load unread sent role p l queued r (Some drawn) → AllPulled carrier_stands carrier_left carrier_condition carrier_load unread sent role p l queued mid new)
    → queued ≡ carrier_load new → HandedIf post_stands post_left post_condition post_load queued mid after lossy behind → KeepsRoom r.session mid.session → KeepsRoom mid.session after.session → HeldFits after.session
    → WiredIn carrier_stands carrier_left carrier_condition carrier_load post_stands post_left post_condition post_load role t Reliable now datagram took (record { reader = r; postings = postings; reliable = reliable; lossy = lossy }) (record { reader = after; postings = postings; reliable = Some new; lossy = behind })
reliable_read carrier_stands carrier_left carrier_condition carrier_load post_stands post_left post_condition post_load r mid after postings reliable lossy behind old drawn new role t now datagram took queued e is trace left_is back pulled queued_is handed keeps keeps_on fits =
    let all =
    pulled (unpulled t ++ left_is.0) (given_main t) role (past role t) (linked Reliable role t ▷ link.In now datagram took) (carrier_load drawn)
    (pull_way carrier_stands carrier_left carrier_condition carrier_load post_stands post_left post_condition r postings reliable lossy old drawn role t now datagram took left_is.0 e is trace left_is.1 back) in
    wired_reliable carrier_stands carrier_left carrier_condition carrier_load post_stands post_left post_condition post_load r mid after postings reliable lossy behind old new role t now datagram took left_is.0 (carrier_load drawn) queued e is all queued_is handed
    (keeps_then r.session mid.session after.session keeps keeps_on) fits

-- where the lossy link stands then, as what is done next wants it
pub part_next : {C P : Type 0} (carrier_stands : C → Trace link.Entry → Type 0) (carrier_left : C → List ℕ) (carrier_condition : C → LinkState) (carrier_load : C → ℕ) (post_stands : P → Trace link.Entry → Type 0) (post_left : P → List (List ℕ)) (post_condition : P → LinkState) (r mid : Reader) (postings : Postings) (reliable : Option C) (lossy : Option P) (old drawn new : C) (role : Role) (t : Trace Entry) (now : ℕ) (datagram : List ℕ) (took : Took)
    → IsEnd carrier_stands carrier_left carrier_condition post_stands post_left post_condition r postings reliable lossy role t → reliable ≡ Some old
    → ((c : Trace link.Entry) → carrier_stands old c → carrier_stands drawn (c ▷ link.In now datagram took)) → (more : List ℕ) × (carrier_left drawn ≡ carrier_left old ++ more) → ((e : ℕ) → carrier_condition drawn ≡ Closed e → carrier_condition old ≡ Closed e)
    → ((unread sent : List ℕ) (role : Role) (p : Past) (l : Trace link.Entry) (queued : ℕ) → OnWay carrier_stands carrier_left carrier_condition carrier_load unread sent role p l queued r (Some drawn) → AllPulled carrier_stands carrier_left carrier_condition carrier_load unread sent role p l queued mid new)
    → IfSome lossy (λ l. SomePart post_stands post_left post_condition mid l)
part_next carrier_stands carrier_left carrier_condition carrier_load post_stands post_left post_condition r mid postings reliable None old drawn new role t now datagram took e is trace left_is back pulled = tt
part_next carrier_stands carrier_left carrier_condition carrier_load post_stands post_left post_condition r mid postings reliable (Some l) old drawn new role t now datagram took e is trace left_is back pulled =
    let all =
    pulled (unpulled t ++ left_is.0) (given_main t) role (past role t) (linked Reliable role t ▷ link.In now datagram took) (carrier_load drawn)
    (pull_way carrier_stands carrier_left carrier_condition carrier_load post_stands post_left post_condition r postings reliable (Some l) old drawn role t now datagram took left_is.0 e is trace left_is.1 back) in (
      unhanded t ++ [],
      given_main t,
      role,
      pulled_by role (past role t) all.pulls all.lack,
      linked Lossy role t,
      part_behind carrier_stands carrier_left carrier_condition carrier_load post_stands post_left post_condition mid new l role t now datagram took left_is.0 (carrier_load drawn) all e.has_lossy,
    )

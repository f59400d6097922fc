-- An end on its way through what a datagram for its reliable link brought.
use Rattle.std.proofs.Common.{◌≡◌, ℕ, Bool, true, false, not, cond, ◌&&◌, ◌||◌, List, [], ◌++◌, Option, Some, is_some, refl, sym, ap, subst, ◌∙◌, append-nil}
use Rattle.mt_base.specs.declared.kinds.Kind.TheVariants.{Reliable, Lossy}
use Rattle.mt_base.specs.declared.kinds.Role.{Role}
use Rattle.mt_base.specs.Trace.{Trace, ◌▷◌}
use Rattle.carrier.specs.declared.state.LinkState.{LinkState}
use Rattle.carrier.specs.declared.state.LinkState.TheVariants.{Closed}
use Rattle.carrier.specs.declared.state.Took.{Took}
use Rattle.carrier.specs.Entries as link
use Rattle.mt_endpoint.specs.Acts.{Act}
use Rattle.mt_endpoint.specs.Tunnels.{is_attached}
use Rattle.end_calls.specs.Calls.{Entry, Handed, Postings, Pull, WireIn, acts, after_parts, after_pulls, past}
use Rattle.end_calls.specs.Law.{given_main, outset, unhanded, unpulled}
use Rattle.end_calls.specs.Links.{asks_once_more, by_parts, by_pulls, linked, of_pulls}
use Rattle.end_calls.specs.Stops.{is_link_stopped}
use Rattle.end_reader.specs.declared.reader.Reader.{Reader}
use Rattle.endpoint.specs.Attached.{HasLink, Serves}
use Rattle.endpoint.specs.Handed.{LoadAt, PartWay}
use Rattle.endpoint.specs.OnWay.{LinkOn, OnWay}
use Rattle.endpoint.specs.Pulled.{AllPulled, pulled_by}
use Rattle.endpoint.specs.Standing.{IsEnd}
use Rattle.endpoint.proofs.WiredLossy.{open_still}
use Rattle.endpoint.proofs.ReadBoth.{Joined, first_lack, still_pulled_by}

-- ---- up to what the reliable link brings

pub pull_way : {C P : Type 0} (carrier_stands : C → Trace link.Entry → Type 0) (carrier_left : C → List ℕ) (carrier_condition : C → LinkState) (carrier_load : C → ℕ) (post_stands : P → Trace link.Entry → Type 0) (post_left : P → List (List ℕ)) (post_condition : P → LinkState) (r : Reader) (postings : Postings) (reliable : Option C) (lossy : Option P) (old mid : C) (role : Role) (t : Trace Entry) (now : ℕ) (datagram : List ℕ) (took : Took) (more : List ℕ)
    → IsEnd carrier_stands carrier_left carrier_condition post_stands post_left post_condition r postings reliable lossy role t → reliable ≡ Some old
    → ((c : Trace link.Entry) → carrier_stands old c → carrier_stands mid (c ▷ link.In now datagram took)) → carrier_left mid ≡ carrier_left old ++ more → ((e : ℕ) → carrier_condition mid ≡ Closed e → carrier_condition old ≡ Closed e)
    → OnWay carrier_stands carrier_left carrier_condition carrier_load (unpulled t ++ more) (given_main t) role (past role t) (linked Reliable role t ▷ link.In now datagram took) (carrier_load mid) r (Some mid)
pull_way carrier_stands carrier_left carrier_condition carrier_load post_stands post_left post_condition r postings reliable lossy old mid role t now datagram took more e is trace left_is back =
    let tells = e.tells in
    let serves : Serves carrier_stands carrier_left carrier_condition Reliable (unpulled t) role t old = subst (λ (l : Option _). HasLink carrier_stands carrier_left carrier_condition Reliable (unpulled t) role t l) is e.has_reliable in record {
      gone = tells.gone;
      gone_is = tells.gone_is;
      reads = tells.reads;
      role_is = tells.role_is;
      reliable_waits = tells.reliable_waits;
      lossy_waits = tells.lossy_waits;
      has_link = record {
        attached = serves.attached;
        called = trace (linked Reliable role t) serves.called;
        left_is = left_is ∙ ap (λ xs. xs ++ more) serves.left_is;
        is_open = λ loud. open_still (carrier_condition old) (carrier_condition mid) back (serves.is_open loud);
        load_is = refl;
      };
    }

-- what was pulled, where the link took a datagram and had this load
abbrev pub PulledIn : {C : Type 0} → (C → Trace link.Entry → Type 0) → (C → List ℕ) → (C → LinkState) → (C → ℕ) → Role → Trace Entry → ℕ → List ℕ → Took → List ℕ → ℕ → Reader → C → Type 0
PulledIn stands left condition load role t now datagram took more queued r c =
    AllPulled stands left condition load (unpulled t ++ more) (given_main t) role (past role t) (linked Reliable role t ▷ link.In now datagram took) queued r c

-- ---- from there to what the lossy link brings

pub part_behind : {C P : Type 0} (carrier_stands : C → Trace link.Entry → Type 0) (carrier_left : C → List ℕ) (carrier_condition : C → LinkState) (carrier_load : C → ℕ) (post_stands : P → Trace link.Entry → Type 0) (post_left : P → List (List ℕ)) (post_condition : P → LinkState) (r : Reader) (c : C) (lossy : P) (role : Role) (t : Trace Entry) (now : ℕ) (datagram : List ℕ) (took : Took) (more : List ℕ) (queued : ℕ)
    → (all : PulledIn carrier_stands carrier_left carrier_condition carrier_load role t now datagram took more queued r c) → Serves post_stands post_left post_condition Lossy (unhanded t) role t lossy
    → PartWay post_stands post_left post_condition (unhanded t ++ []) (given_main t) role (pulled_by role (past role t) all.pulls all.lack) (linked Lossy role t) r lossy
part_behind carrier_stands carrier_left carrier_condition carrier_load post_stands post_left post_condition r c lossy role t now datagram took more queued all serves =
    let way = all.way in
    let still = still_pulled_by role (past role t) all.pulls all.lack all.lacks in record {
      gone = way.gone;
      gone_is = way.gone_is;
      reads = way.reads;
      role_is = way.role_is;
      reliable_waits = way.reliable_waits;
      lossy_waits = way.lossy_waits;
      attached = still.attached Lossy ∙ serves.attached;
      called = serves.called;
      left_is = serves.left_is ∙ sym (append-nil (unhanded t));
      is_open = λ loud. serves.is_open (sym (still.silent Lossy) ∙ loud);
    }

pub load_behind : {C : Type 0} (stands : C → Trace link.Entry → Type 0) (left : C → List ℕ) (condition : C → LinkState) (load : C → ℕ) (r : Reader) (c : C) (role : Role) (t : Trace Entry) (now : ℕ) (datagram : List ℕ) (took : Took) (more : List ℕ) (queued current : ℕ)
    → (all : PulledIn stands left condition load role t now datagram took more queued r c) → current ≡ load c → LoadAt role (outset role t queued) (given_main t) (pulled_by role (past role t) all.pulls all.lack) current
load_behind stands left condition load r c role t now datagram took more queued current all is =
    let on : LinkOn stands left condition load _ (pulled_by role (past role t) all.pulls all.lack) _ _ c = (all.way).has_link in
    record { sent_is = refl; load_is = λ at. is ∙ on.load_is; none_loaded = λ off. absurd (let no : true ≡ false = sym on.attached ∙ off in cc) }

-- ---- the calls of the links

-- those of the lossy link: where there is one it is asked for parts
pub lossy_linked : (role : Role) (t : Trace Entry) (now : ℕ) (datagram : List ℕ) (took : Took) (queued : ℕ) (more : List ℕ) (pulls : Trace Pull) (pulls_lack : Option (Trace Act)) (left : List (List ℕ)) (parts : Trace Handed) (parts_lack : Option (Trace Act)) (has_lossy : Bool)
    → Joined role (outset role t queued) (past role t) pulls pulls_lack left parts parts_lack → is_attached Reliable (acts role t) ≡ true → is_attached Lossy (after_pulls role (past role t) pulls).acts ≡ has_lossy
    → ((m : Trace link.Entry) → by_pulls Lossy role (past role t) pulls pulls_lack m ≡ m)
    → linked Lossy role (t ▷ WireIn Reliable now datagram took queued (record { bytes = more; parts = [] }) pulls parts (first_lack pulls_lack parts_lack))
    ≡ asks_once_more Lossy (has_lossy && not (is_some parts_lack || is_link_stopped role (outset role t queued) (after_parts role (pulled_by role (past role t) pulls pulls_lack) parts)))
    (by_parts Lossy role (pulled_by role (past role t) pulls pulls_lack) parts parts_lack (linked Lossy role t))
lossy_linked role t now datagram took queued more pulls pulls_lack left parts parts_lack has_lossy j attached lossy_is none =
    let p = past role t in
    let q = after_pulls role p pulls in
    let lack = first_lack pulls_lack parts_lack in
    let l = linked Lossy role t in
    let asked = not (is_some lack || is_link_stopped role (outset role t queued) (after_parts role q parts)) in
    let first : linked Lossy role (t ▷ WireIn Reliable now datagram took queued (record { bytes = more; parts = [] }) pulls parts lack)
    ≡ asks_once_more Lossy (is_attached Lossy q.acts && asked) (by_parts Lossy role q parts lack (by_pulls Lossy role p pulls (of_pulls parts lack) l))
    = ap (λ (b : Bool). cond b (asks_once_more Lossy (is_attached Lossy q.acts && asked) (by_parts Lossy role q parts lack (by_pulls Lossy role p pulls (of_pulls parts lack) l))) l) attached in
    first
    ∙ ap (λ (b : Bool). asks_once_more Lossy (b && asked) (by_parts Lossy role q parts lack (by_pulls Lossy role p pulls (of_pulls parts lack) l))) lossy_is
    ∙ ap (λ (b : Bool). asks_once_more Lossy (has_lossy && b) (by_parts Lossy role q parts lack (by_pulls Lossy role p pulls (of_pulls parts lack) l))) j.asked_is
    ∙ ap (λ (m : Trace link.Entry). asks_once_more Lossy (has_lossy && not (is_some parts_lack || is_link_stopped role (outset role t queued) (after_parts role (pulled_by role p pulls pulls_lack) parts))) m)
    (ap (λ (m : Trace link.Entry). by_parts Lossy role q parts lack m) (ap (λ (o : Option (Trace Act)). by_pulls Lossy role p pulls o l) j.of_pulls_is ∙ none l) ∙ j.by_parts_are Lossy l)

-- those of the reliable link
pub reliable_linked : (role : Role) (t : Trace Entry) (now : ℕ) (datagram : List ℕ) (took : Took) (queued : ℕ) (more : List ℕ) (pulls : Trace Pull) (pulls_lack : Option (Trace Act)) (left : List (List ℕ)) (parts : Trace Handed) (parts_lack : Option (Trace Act))
    → Joined role (outset role t queued) (past role t) pulls pulls_lack left parts parts_lack → is_attached Reliable (acts role t) ≡ true
    → ((m : Trace link.Entry) → by_parts Reliable role (pulled_by role (past role t) pulls pulls_lack) parts parts_lack m ≡ m)
    → linked Reliable role (t ▷ WireIn Reliable now datagram took queued (record { bytes = more; parts = [] }) pulls parts (first_lack pulls_lack parts_lack))
    ≡ by_pulls Reliable role (past role t) pulls pulls_lack (linked Reliable role t ▷ link.In now datagram took)
reliable_linked role t now datagram took queued more pulls pulls_lack left parts parts_lack j attached none =
    let p = past role t in
    let q = after_pulls role p pulls in
    let lack = first_lack pulls_lack parts_lack in
    let l = linked Reliable role t in
    let behind = l ▷ link.In now datagram took in
    let first : linked Reliable role (t ▷ WireIn Reliable now datagram took queued (record { bytes = more; parts = [] }) pulls parts lack) ≡ by_parts Reliable role q parts lack (by_pulls Reliable role p pulls (of_pulls parts lack) behind)
    = ap (λ (b : Bool). cond b (by_parts Reliable role q parts lack (by_pulls Reliable role p pulls (of_pulls parts lack) behind)) l) attached in
    first ∙ ap (λ (o : Option (Trace Act)). by_parts Reliable role q parts lack (by_pulls Reliable role p pulls o behind)) j.of_pulls_is
    ∙ j.by_parts_are Reliable (by_pulls Reliable role p pulls pulls_lack behind) ∙ none (by_pulls Reliable role p pulls pulls_lack behind)

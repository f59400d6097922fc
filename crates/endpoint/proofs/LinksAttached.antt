-- A tunnel that gets its link.
use Rattle.std.proofs.Common.{◌≡◌, ℕ, ◌+◌, ◌<◌, ◌≤◌, Bool, true, false, ◌||◌, List, [], length, append-nil, Option, Some, None, refl, sym, ap, subst, ◌∙◌, arith}
use Rattle.std.specs.List.{flat_map}
use Rattle.mt_base.specs.Ends.{same_kind}
use Rattle.mt_base.specs.declared.kinds.Kind.{Kind}
use Rattle.mt_base.specs.declared.kinds.Kind.TheVariants.{Reliable, Lossy}
use Rattle.mt_base.specs.declared.kinds.Role.{Role}
use Rattle.mt_base.specs.declared.kinds.Role.TheVariants.{Server, Client}
use Rattle.mt_base.specs.Trace.{Trace, Start, ◌▷◌}
use Rattle.mt_windows.specs.declared.limits.TheConstants.{QUEUE, WINDOW}
use Rattle.carrier.specs.declared.state.LinkState.{LinkState}
use Rattle.carrier.specs.Entries as link
use Rattle.mt_endpoint.specs.Acts.{Act, Attaches, CreateAsked, Drawn, Heard}
use Rattle.mt_endpoint.specs.Tunnels.{Request, asked, is_attached, is_silent}
use Rattle.mt_endpoint.specs.Writing.{adds, carried, create_request, framed, into, on_main, tunneled}
use Rattle.end_calls.specs.Calls.{Entry, Own, Postings, acts, attached_by}
use Rattle.end_calls.specs.Law.{unhanded, unpulled}
use Rattle.end_calls.specs.declared.limits.TheConstants.{MAIN_QUEUE}
use Rattle.end_calls.specs.Stops.{answers_owed}
use Rattle.end_calls.specs.Links.{gives_bytes, gives_joined, linked}
use Rattle.end_session.specs.Giving.{all_given}
use Rattle.end_session.specs.Known.{Known}
use Rattle.end_session.specs.OfKind.{tunnel_of}
use Rattle.end_session.specs.Outgoing.{emptied, waiting_for}
use Rattle.end_session.specs.Standing.{Stands}
use Rattle.end_session.specs.Store.{Store}
use Rattle.end_reader.specs.declared.reader.Reader.{Reader}
use Rattle.endpoint.specs.Attached.{HasLink, Lacks, is_closed, posts_bytes}
use Rattle.endpoint.specs.Standing.{IsEnd, Tells, refusals_owed}
use Rattle.endpoint.proofs.Added.{room_before, room_on, waits_by}
use Rattle.endpoint.proofs.Due.{Settles}
use Rattle.endpoint.proofs.Left.{none_waits}
use Rattle.endpoint.proofs.Links.{link_same, written_by}
use Rattle.endpoint.proofs.Requests.{request_waits}
use Rattle.endpoint.proofs.Steps.{Added, IsPlain, acts_after, lone, tells_on}

settles : (made kind : Kind) (t : Trace Act) → Settles made t (Attaches kind)
settles made kind t = record { no_silence = refl; no_answer = refl; no_refusal = refl }

plain : (role : Role) (t : Trace Act) (kind : Kind) → IsPlain role t (Attaches kind)
plain role t kind = record {
  own = tt;
  given = tt;
  fits = λ a. a.0;
  faultless = tt;
  none_freed = refl;
  none_read = refl;
  none_made = refl;
  reliable = settles Reliable kind t;
  lossy = settles Lossy kind t;
  no_heavier = λ kind queue. omega arith;
}

-- a create request goes into its own tunnel alone
none_other : (role : Role) (silent : Bool) (request : Option Request) → into Lossy silent (create_request role Reliable request) ≡ []
none_other Server silent request = refl
none_other Client silent None = refl
none_other Client silent (Some request) = refl

pub none_reliable : (role : Role) (silent : Bool) (request : Option Request) → into Reliable silent (create_request role Lossy request) ≡ []
none_reliable Server silent request = refl
none_reliable Client silent None = refl
none_reliable Client silent (Some request) = refl

pub none_main : (role : Role) (kind : Kind) (request : Option Request) → on_main (create_request role kind request) ≡ []
none_main Server kind request = refl
none_main Client kind None = refl
none_main Client kind (Some request) = refl

or_true : (b : Bool) → b || true ≡ true
or_true true = refl
or_true false = refl

attaches_it : (kind : Kind) → same_kind kind kind ≡ true
attaches_it Reliable = refl
attaches_it Lossy = refl

attached_now : (kind : Kind) (t : Trace Act) → is_attached kind (t ▷ Attaches kind) ≡ true
attached_now kind t = ap (λ b. is_attached kind t || b) (attaches_it kind) ∙ or_true (is_attached kind t)

-- ---- the link

-- where no link was attached, the end has none
has_none : {L A : Type 0} (stands : L → Trace link.Entry → Type 0) (left : L → List A) (condition : L → LinkState) (kind : Kind) (unread : List A) (role : Role) (t : Trace Entry) (l : Option L)
    → is_attached kind (acts role t) ≡ false → HasLink stands left condition kind unread role t l → Lacks kind unread role t
has_none stands left condition kind unread role t None before h = h
has_none stands left condition kind unread role t (Some l) before h = absurd (let bad : true ≡ false = sym h.attached ∙ before in cc)

new_link : {L A : Type 0} (stands : L → Trace link.Entry → Type 0) (left : L → List A) (condition : L → LinkState) (kind : Kind) (unread : List A) (role : Role) (t : Trace Entry) (l : L)
    → acts role (t ▷ Own (Attaches kind)) ≡ acts role t ▷ Attaches kind → Lacks kind unread role t
    → stands l (gives_joined kind (into kind (is_silent kind (acts role t)) (adds role (acts role t) (Attaches kind))) Start) → left l ≡ [] → is_closed (condition l) ≡ false
    → HasLink stands left condition kind unread role (t ▷ Own (Attaches kind)) (Some l)
new_link stands left condition kind unread role t l on none called empty free = record {
  attached = ap (is_attached kind) on ∙ attached_now kind (acts role t);
  called =
      subst (λ ds. stands l (gives_joined kind ds (linked kind role t))) (sym (written_by kind role t (Attaches kind) on))
      (subst (λ u. stands l (gives_joined kind (into kind (is_silent kind (acts role t)) (adds role (acts role t) (Attaches kind))) u)) (sym none.uncalled) called);
  left_is = empty ∙ sym none.unread_is;
  is_open = λ loud. free;
}

-- at most one PDU is posted, as one part
pub one_part : (role : Role) (silent : Bool) (request : Option Request) (t : Trace link.Entry) → posts_bytes (flat_map tunneled (into Lossy silent (create_request role Lossy request))) t ≡ gives_joined Lossy (into Lossy silent (create_request role Lossy request)) t
one_part Server silent request t = refl
one_part Client silent None t = refl
one_part Client true (Some request) t = refl
one_part Client false (Some request) t = ap (λ bytes. posts_bytes bytes t) (append-nil (tunneled (CreateAsked request.id request.cookie)))

-- ---- the end

-- what a session attached, and then gave
added : (r : Reader) (postings : Postings) (role : Role) (t : Trace Entry) (kind : Kind) (s now : Store) → (tells : Tells r postings role t) → Stands s (acts role t ▷ Attaches kind) tells.gone → s.role ≡ (r.session).role → s.broken ≡ (r.session).broken
    → now ≡ record s { outgoing = emptied kind s.outgoing } → Stands now (acts role t ▷ Attaches kind) (all_given s.role kind (acts role t ▷ Attaches kind) tells.gone)
    → Added r.session now (acts role t) (Attaches kind) tells.gone (all_given s.role kind (acts role t ▷ Attaches kind) tells.gone)
added r postings role t Reliable s now tells st role_is broken_is is given =
    let gone = tells.gone in
    let before = waits_by r.session role (acts role t) gone tells.role_is (tells.reads).stands in
    let behind = waits_by s role (acts role t ▷ Attaches Reliable) gone (role_is ∙ tells.role_is) st in record {
      stands = given;
      role_is = ap (λ (x : Store). x.role) is ∙ role_is;
      broken_is = ap (λ (x : Store). x.broken) is ∙ broken_is;
      gone_is = refl;
      reliable_waits = ap (λ (x : Store). (x.outgoing).reliable) is;
      lossy_waits =
          ap (λ (x : Store). (x.outgoing).lossy) is
          ∙ none_waits (carried Lossy role (acts role t)) (carried Lossy role (acts role t ▷ Attaches Reliable)) gone.lossy (into Lossy (is_silent Lossy (acts role t)) (create_request role Reliable (asked Reliable (acts role t)))) ((r.session).outgoing).lossy (s.outgoing).lossy refl
          (none_other role (is_silent Lossy (acts role t)) (asked Reliable (acts role t))) tells.lossy_waits before.lossy_waits behind.lossy_waits;
    }
added r postings role t Lossy s now tells st role_is broken_is is given =
    let gone = tells.gone in
    let before = waits_by r.session role (acts role t) gone tells.role_is (tells.reads).stands in
    let behind = waits_by s role (acts role t ▷ Attaches Lossy) gone (role_is ∙ tells.role_is) st in record {
      stands = given;
      role_is = ap (λ (x : Store). x.role) is ∙ role_is;
      broken_is = ap (λ (x : Store). x.broken) is ∙ broken_is;
      gone_is = refl;
      reliable_waits =
          ap (λ (x : Store). (x.outgoing).reliable) is
          ∙ none_waits (carried Reliable role (acts role t)) (carried Reliable role (acts role t ▷ Attaches Lossy)) gone.reliable (into Reliable (is_silent Reliable (acts role t)) (create_request role Lossy (asked Lossy (acts role t)))) ((r.session).outgoing).reliable (s.outgoing).reliable refl
          (none_reliable role (is_silent Reliable (acts role t)) (asked Lossy (acts role t))) tells.reliable_waits before.reliable_waits behind.reliable_waits;
      lossy_waits = ap (λ (x : Store). (x.outgoing).lossy) is;
    }

tells_attached : (r : Reader) (postings posted : Postings) (role : Role) (t : Trace Entry) (kind : Kind) (s now : Store) → (tells : Tells r postings role t) → (r.session).broken ≡ None → Stands s (acts role t ▷ Attaches kind) tells.gone → s.role ≡ (r.session).role
    → s.broken ≡ (r.session).broken → now ≡ record s { outgoing = emptied kind s.outgoing } → Stands now (acts role t ▷ Attaches kind) (all_given s.role kind (acts role t ▷ Attaches kind) tells.gone) → posted ≡ attached_by role (Attaches kind) postings
    → Tells (record r { session = now }) posted role (t ▷ Own (Attaches kind))
tells_attached r postings posted role t kind s now tells whole st role_is broken_is is given posts =
    let act = Attaches kind in
    let after = all_given s.role kind (acts role t ▷ act) tells.gone in
    let new = added r postings role t kind s now tells st role_is broken_is is given in
    let l = lone r postings role t act tells whole (plain role (acts role t) kind) (λ p w. w) in
    tells_on r postings posted role t act now after tells (plain role (acts role t) kind) l new posts
    (room_on r postings role t act now after tells (plain role (acts role t) kind) new (subst (λ (heard : List Heard). length ((r.session).outgoing).main + length (flat_map framed heard) + (answers_owed (acts role t) + refusals_owed role (acts role t)) ≤ MAIN_QUEUE) (sym (none_main role kind (asked kind (acts role t)))) (room_before r postings role t tells)))

unattached_is : (r : Reader) (postings : Postings) (role : Role) (t : Trace Entry) (kind : Kind) → Tells r postings role t → (tunnel_of kind r.session).is_attached ≡ false → is_attached kind (acts role t) ≡ false
unattached_is r postings role t Reliable tells before = sym (ap (λ (k : Known). k.is_attached) (((tells.reads).stands).knows).reliable_is) ∙ before
unattached_is r postings role t Lossy tells before = sym (ap (λ (k : Known). k.is_attached) (((tells.reads).stands).knows).lossy_is) ∙ before

abbrev newly : Kind → Role → Trace Act → List Drawn
newly kind role t = into kind (is_silent kind t) (create_request role kind (asked kind t))

waits_newly : (r : Reader) (postings : Postings) (role : Role) (t : Trace Entry) (kind : Kind) (s : Store) → (tells : Tells r postings role t) → Stands s (acts role t ▷ Attaches kind) tells.gone → s.role ≡ (r.session).role → waiting_for kind (r.session).outgoing ≡ []
    → waiting_for kind s.outgoing ≡ flat_map tunneled (newly kind role (acts role t))
waits_newly r postings role t kind s tells st role_is none =
    request_waits r.session s kind (acts role t) tells.gone (tells.reads).stands st role_is none ∙ ap (λ x. flat_map tunneled (newly kind x (acts role t))) tells.role_is

pub attached_reliable : {C P : Type 0} (carrier_stands : C → Trace link.Entry → Type 0) (carrier_left : C → List ℕ) (carrier_condition : C → LinkState) (carrier_load : C → ℕ) (post_stands : P → Trace link.Entry → Type 0) (post_left : P → List (List ℕ)) (post_condition : P → LinkState) (r : Reader) (postings : Postings) (reliable : Option C) (lossy : Option P) (role : Role) (t : Trace Entry) (s now : Store) (l given_l : C)
    → (e : IsEnd carrier_stands carrier_left carrier_condition post_stands post_left post_condition r postings reliable lossy role t) → (r.session).broken ≡ None → (tunnel_of Reliable r.session).is_attached ≡ false
    → Stands s (acts role t ▷ Attaches Reliable) (e.tells).gone → s.role ≡ (r.session).role → s.broken ≡ (r.session).broken → length (waiting_for Reliable s.outgoing) ≤ 28
    → now ≡ record s { outgoing = emptied Reliable s.outgoing } → Stands now (acts role t ▷ Attaches Reliable) (all_given s.role Reliable (acts role t ▷ Attaches Reliable) (e.tells).gone)
    → carrier_stands l Start → carrier_left l ≡ [] → carrier_load l ≡ 0 → is_closed (carrier_condition l) ≡ false
    → ((u : Trace link.Entry) → carrier_stands l u → is_closed (carrier_condition l) ≡ false → carrier_load l + length (waiting_for Reliable s.outgoing) ≤ QUEUE → carrier_stands given_l (gives_bytes (waiting_for Reliable s.outgoing) u))
    → carrier_left given_l ≡ carrier_left l → carrier_condition given_l ≡ carrier_condition l
    → IsEnd carrier_stands carrier_left carrier_condition post_stands post_left post_condition (record r { session = now }) postings (Some given_l) lossy role (t ▷ Own (Attaches Reliable))
attached_reliable carrier_stands carrier_left carrier_condition carrier_load post_stands post_left post_condition r postings reliable lossy role t s now l given_l e whole before st role_is broken_is short is given fresh empty idle free gave left_is state_is =
    let tells = e.tells in
    let u = acts role t in
    let on = acts_after role t (Attaches Reliable) (lone r postings role t (Attaches Reliable) tells whole (plain role u Reliable) (λ p w. w)) in
    let none = has_none carrier_stands carrier_left carrier_condition Reliable (unpulled t) role t reliable (unattached_is r postings role t Reliable tells before) e.has_reliable in
    let posts : (x : Role) → postings ≡ attached_by x (Attaches Reliable) postings = λ x. same_posts x postings in record {
      tells = tells_attached r postings postings role t Reliable s now tells whole st role_is broken_is is given (posts role);
      has_reliable =
          new_link carrier_stands carrier_left carrier_condition Reliable (unpulled t) role t given_l on none
          (subst (λ bytes. carrier_stands given_l (gives_bytes bytes Start)) (waits_newly r postings role t Reliable s tells st role_is tells.reliable_waits) (gave Start fresh free (omega (arith, idle, short))))
          (left_is ∙ empty) (ap is_closed state_is ∙ free);
      has_lossy =
          link_same post_stands post_left post_condition Lossy (unhanded t) role t (Attaches Reliable) lossy on
          (record { none_written = none_other role (is_silent Lossy u) (asked Reliable u); no_link = refl; no_silence = refl; none_drawn = refl }) e.has_lossy;
    } where
      same_posts : (x : Role) (postings : Postings) → postings ≡ attached_by x (Attaches Reliable) postings
      same_posts Server postings = refl
      same_posts Client postings = refl

pub attached_lossy : {C P : Type 0} (carrier_stands : C → Trace link.Entry → Type 0) (carrier_left : C → List ℕ) (carrier_condition : C → LinkState) (post_stands : P → Trace link.Entry → Type 0) (post_left : P → List (List ℕ)) (post_condition : P → LinkState) (post_load : P → ℕ) (r : Reader) (postings posted : Postings) (reliable : Option C) (lossy : Option P) (role : Role) (t : Trace Entry) (s now : Store) (l given_l : P)
    → (e : IsEnd carrier_stands carrier_left carrier_condition post_stands post_left post_condition r postings reliable lossy role t) → (r.session).broken ≡ None → (tunnel_of Lossy r.session).is_attached ≡ false
    → Stands s (acts role t ▷ Attaches Lossy) (e.tells).gone → s.role ≡ (r.session).role → s.broken ≡ (r.session).broken
    → now ≡ record s { outgoing = emptied Lossy s.outgoing } → Stands now (acts role t ▷ Attaches Lossy) (all_given s.role Lossy (acts role t ▷ Attaches Lossy) (e.tells).gone)
    → post_stands l Start → post_left l ≡ [] → post_load l ≡ 0 → is_closed (post_condition l) ≡ false
    → ((u : Trace link.Entry) → post_stands l u → is_closed (post_condition l) ≡ false → post_load l < WINDOW → post_stands given_l (posts_bytes (waiting_for Lossy s.outgoing) u))
    → post_left given_l ≡ post_left l → post_condition given_l ≡ post_condition l → posted ≡ attached_by now.role (Attaches Lossy) postings
    → IsEnd carrier_stands carrier_left carrier_condition post_stands post_left post_condition (record r { session = now }) posted reliable (Some given_l) role (t ▷ Own (Attaches Lossy))
attached_lossy carrier_stands carrier_left carrier_condition post_stands post_left post_condition post_load r postings posted reliable lossy role t s now l given_l e whole before st role_is broken_is is given fresh empty idle free gave left_is state_is posts =
    let tells = e.tells in
    let u = acts role t in
    let on = acts_after role t (Attaches Lossy) (lone r postings role t (Attaches Lossy) tells whole (plain role u Lossy) (λ p w. w)) in
    let none = has_none post_stands post_left post_condition Lossy (unhanded t) role t lossy (unattached_is r postings role t Lossy tells before) e.has_lossy in
    let now_is : now.role ≡ role = ap (λ (x : Store). x.role) is ∙ role_is ∙ tells.role_is in record {
      tells = tells_attached r postings posted role t Lossy s now tells whole st role_is broken_is is given (posts ∙ ap (λ x. attached_by x (Attaches Lossy) postings) now_is);
      has_reliable =
          link_same carrier_stands carrier_left carrier_condition Reliable (unpulled t) role t (Attaches Lossy) reliable on
          (record { none_written = none_reliable role (is_silent Reliable u) (asked Lossy u); no_link = refl; no_silence = refl; none_drawn = refl }) e.has_reliable;
      has_lossy =
          new_link post_stands post_left post_condition Lossy (unhanded t) role t given_l on none
          (subst (post_stands given_l) (one_part role (is_silent Lossy u) (asked Lossy u) Start)
          (subst (λ bytes. post_stands given_l (posts_bytes bytes Start)) (waits_newly r postings role t Lossy s tells st role_is tells.lossy_waits) (gave Start fresh free (omega (arith, idle)))))
          (left_is ∙ empty) (ap is_closed state_is ∙ free);
    }

-- An end that a datagram came for, with its links: the link that isn't there, and the lossy one.
use Rattle.std.proofs.Common.{◌≡◌, ℕ, ◌+◌, ◌≤◌, Bool, true, false, not, cond, ◌&&◌, ◌||◌, List, [], ◌++◌, length, Option, Some, None, is_some, refl, sym, ap, subst, ◌∙◌, arith, append-nil}
use Rattle.std.specs.List.{flat_map}
use Rattle.mt_base.specs.declared.kinds.Kind.{Kind}
use Rattle.mt_base.specs.declared.kinds.Kind.TheVariants.{Reliable, Lossy}
use Rattle.mt_base.specs.declared.kinds.Role.{Role}
use Rattle.mt_base.specs.Ends.{same_kind}
use Rattle.mt_base.specs.Trace.{Trace, Start, ◌▷◌}
use Rattle.carrier.specs.declared.state.LinkState.{LinkState}
use Rattle.carrier.specs.declared.state.LinkState.TheVariants.{Opening, Open, Closed}
use Rattle.carrier.specs.declared.state.Reason.TheVariants as reason
use Rattle.carrier.specs.declared.state.Took.{Took}
use Rattle.carrier.specs.declared.state.Took.TheVariants.{Ignored}
use Rattle.carrier.specs.Entries as link
use Rattle.mt_endpoint.specs.Acts.{Drawn}
use Rattle.mt_endpoint.specs.Tunnels.{is_attached}
use Rattle.mt_endpoint.specs.Writing.{tunneled}
use Rattle.end_calls.specs.Calls.{Came, Entry, Handed, Postings, WireIn, acts, after_parts, past}
use Rattle.end_calls.specs.Law.{IsWireIn, given_main, nothing_came, outset, unhanded, unpulled}
use Rattle.end_calls.specs.Links.{asks_once_more, by_parts, linked, reads_in, takes_in}
use Rattle.end_calls.specs.Stops.{Outset, is_link_stopped}
use Rattle.end_calls.specs.Streams.{Past, written}
use Rattle.end_calls.proofs.Within.{within}
use Rattle.end_reader.specs.declared.reader.Reader.{Reader}
use Rattle.endpoint.specs.Attached.{HasLink, Serves, is_closed, load_in}
use Rattle.endpoint.specs.Handed.{AllHanded, FullFrom, LoadAt, PartWay}
use Rattle.endpoint.specs.Kept.{Kept}
use Rattle.endpoint.specs.MainRead.{KeepsRoom}
use Rattle.endpoint.specs.Standing.{IsEnd, IsLawful, Tells}
use Rattle.endpoint.specs.WiredIn.{WiredIn}
use Rattle.endpoint.proofs.PullActs.{IsStill}
use Rattle.endpoint.proofs.WiredIn.{HeldFits, told_in}
use Rattle.endpoint.proofs.ReadBoth.{joined, none_written, still_handed_by}

-- ---- it stands for some calls

pub lawful_in : {C P : Type 0} (carrier_stands : C → Trace link.Entry → Type 0) (carrier_left : C → List ℕ) (carrier_condition : C → LinkState) (carrier_load : C → ℕ) (post_stands : P → Trace link.Entry → Type 0) (post_left : P → List (List ℕ)) (post_condition : P → LinkState) (post_load : P → ℕ) (role : Role) (t : Trace Entry) (kind : Kind) (now : ℕ) (datagram : List ℕ) (took : Took) (old kept : Kept C P)
    → WiredIn carrier_stands carrier_left carrier_condition carrier_load post_stands post_left post_condition post_load role t kind now datagram took old kept → IsLawful carrier_stands carrier_left carrier_condition post_stands post_left post_condition kept
lawful_in carrier_stands carrier_left carrier_condition carrier_load post_stands post_left post_condition post_load role t kind now datagram took old kept w =
    (role, t ▷ WireIn kind now datagram took w.load w.came w.pulls w.parts w.lack, w.stands)

-- the end before the call as clauses see it
pub wired_seen : {C P : Type 0} (carrier_stands : C → Trace link.Entry → Type 0) (carrier_left : C → List ℕ) (carrier_condition : C → LinkState) (carrier_load : C → ℕ) (post_stands : P → Trace link.Entry → Type 0) (post_left : P → List (List ℕ)) (post_condition : P → LinkState) (post_load : P → ℕ) (role : Role) (t : Trace Entry) (kind : Kind) (now : ℕ) (datagram : List ℕ) (took : Took) (fields seen kept : Kept C P)
    → fields ≡ seen → WiredIn carrier_stands carrier_left carrier_condition carrier_load post_stands post_left post_condition post_load role t kind now datagram took fields kept → WiredIn carrier_stands carrier_left carrier_condition carrier_load post_stands post_left post_condition post_load role t kind now datagram took seen kept
wired_seen carrier_stands carrier_left carrier_condition carrier_load post_stands post_left post_condition post_load role t kind now datagram took fields seen kept is w =
    subst (λ (k : Kept _ _). WiredIn carrier_stands carrier_left carrier_condition carrier_load post_stands post_left post_condition post_load role t kind now datagram took k kept) is w

-- ---- whether there is a link

pub attached_some : {L A : Type 0} (stands : L → Trace link.Entry → Type 0) (left : L → List A) (condition : L → LinkState) (kind : Kind) (unread : List A) (role : Role) (t : Trace Entry) (l : Option L) (old : L) → HasLink stands left condition kind unread role t l → l ≡ Some old → is_attached kind (acts role t) ≡ true
attached_some stands left condition kind unread role t (Some l) old h is = h.attached
attached_some stands left condition kind unread role t None old h is = absurd (let no : None ≡ Some old = is in cc)

pub attached_none : {L A : Type 0} (stands : L → Trace link.Entry → Type 0) (left : L → List A) (condition : L → LinkState) (kind : Kind) (unread : List A) (role : Role) (t : Trace Entry) (l : Option L) → HasLink stands left condition kind unread role t l → l ≡ None → is_attached kind (acts role t) ≡ false
attached_none stands left condition kind unread role t (Some l) h is = absurd (let no : Some l ≡ None = is in cc)
attached_none stands left condition kind unread role t None h is = h.unattached

-- ---- a link that isn't there

none_linked : (kind made : Kind) (role : Role) (t : Trace Entry) (now : ℕ) (datagram : List ℕ) (load : ℕ) → is_attached made (acts role t) ≡ false → linked kind role (t ▷ WireIn made now datagram (Ignored reason.NotOpen) load nothing_came Start Start None) ≡ linked kind role t
none_linked kind made role t now datagram load off =
    ap (λ (b : Bool). cond b (reads_in kind role (outset role t load) Start Start None (takes_in kind made now datagram (Ignored reason.NotOpen) (linked kind role t))) (linked kind role t)) off

none_has : {L A : Type 0} (stands : L → Trace link.Entry → Type 0) (left : L → List A) (condition : L → LinkState) (kind made : Kind) (unread now_unread : List A) (role : Role) (t : Trace Entry) (now : ℕ) (datagram : List ℕ) (load : ℕ) (l : Option L) → is_attached made (acts role t) ≡ false → now_unread ≡ unread
    → HasLink stands left condition kind unread role t l → HasLink stands left condition kind now_unread role (t ▷ WireIn made now datagram (Ignored reason.NotOpen) load nothing_came Start Start None) l
none_has stands left condition kind made unread now_unread role t now datagram load (Some l) off same s = record {
  attached = s.attached;
  called = subst (stands l) (sym (none_linked kind made role t now datagram load off)) s.called;
  left_is = s.left_is ∙ sym same;
  is_open = s.is_open;
}
none_has stands left condition kind made unread now_unread role t now datagram load None off same s = record {
  unattached = s.unattached;
  uncalled = none_linked kind made role t now datagram load off ∙ s.uncalled;
  undrawn = s.undrawn;
  unread_is = same ∙ s.unread_is;
}

none_told : (r : Reader) (postings : Postings) (role : Role) (t : Trace Entry) (kind : Kind) (now : ℕ) (datagram : List ℕ) (load : ℕ) → Tells r postings role t → is_attached kind (acts role t) ≡ false
    → Tells r postings role (t ▷ WireIn kind now datagram (Ignored reason.NotOpen) load nothing_came Start Start None)
none_told r postings role t kind now datagram load tells off =
    let fits = within role t tells.law in record {
      law = (
        subst (λ (b : Bool). IsWireIn b role t kind (Ignored reason.NotOpen) load nothing_came Start Start None) (sym off)
            (record { took_is = refl; none_came = refl; none_pulled = refl; none_handed = refl; none_lacking = refl }),
        record { unsent_fits = fits.unsent_fits; reliable_fits = fits.reliable_fits; lossy_fits = fits.lossy_fits },
        tells.law,
      );
      gone = tells.gone;
      gone_is = tells.gone_is;
      reads = tells.reads;
      role_is = tells.role_is;
      room = tells.room;
      reliable_waits = tells.reliable_waits;
      lossy_waits = tells.lossy_waits;
      postings_are = tells.postings_are;
    }

no_more : (role : Role) (t : Trace Entry) (queued : ℕ) → queued ≡ queued + length (flat_map tunneled (written Reliable role (past role t) (past role t)))
no_more role t queued = omega (arith, ap (λ (ds : List Drawn). length (flat_map tunneled ds)) (none_written Reliable role (past role t)))

pub wired_none : {C P : Type 0} (carrier_stands : C → Trace link.Entry → Type 0) (carrier_left : C → List ℕ) (carrier_condition : C → LinkState) (carrier_load : C → ℕ) (post_stands : P → Trace link.Entry → Type 0) (post_left : P → List (List ℕ)) (post_condition : P → LinkState) (post_load : P → ℕ) (kept : Kept C P) (role : Role) (t : Trace Entry) (kind : Kind) (now : ℕ) (datagram : List ℕ)
    → IsEnd carrier_stands carrier_left carrier_condition post_stands post_left post_condition kept.reader kept.postings kept.reliable kept.lossy role t → is_attached kind (acts role t) ≡ false
    → WiredIn carrier_stands carrier_left carrier_condition carrier_load post_stands post_left post_condition post_load role t kind now datagram (Ignored reason.NotOpen) kept kept
wired_none carrier_stands carrier_left carrier_condition carrier_load post_stands post_left post_condition post_load kept role t kind now datagram e off =
    let queued = load_in carrier_load kept.reliable in record {
      load = queued;
      came = nothing_came;
      pulls = Start;
      parts = Start;
      lack = None;
      stands = record {
        tells = none_told kept.reader kept.postings role t kind now datagram queued e.tells off;
        has_reliable = none_has carrier_stands carrier_left carrier_condition Reliable kind (unpulled t) (unpulled t ++ []) role t now datagram queued kept.reliable off (append-nil (unpulled t)) e.has_reliable;
        has_lossy = none_has post_stands post_left post_condition Lossy kind (unhanded t) (unhanded t ++ []) role t now datagram queued kept.lossy off (append-nil (unhanded t)) e.has_lossy;
      };
      load_is = no_more role t queued;
      full_from = tt;
    }

-- ---- a link took a datagram

pub open_still : (old new : LinkState) → ((e : ℕ) → new ≡ Closed e → old ≡ Closed e) → is_closed old ≡ false → is_closed new ≡ false
open_still old Opening back h = refl
open_still old Open back h = refl
open_still old (Closed e) back h = absurd (let no : true ≡ false = sym (ap is_closed (back e refl)) ∙ h in cc)

pub load_here : {L : Type 0} (stands : L → Trace link.Entry → Type 0) (left : L → List ℕ) (condition : L → LinkState) (load : L → ℕ) (role : Role) (t : Trace Entry) (c : Option L) (queued : ℕ) → HasLink stands left condition Reliable (unpulled t) role t c → queued ≡ load_in load c
    → LoadAt role (outset role t (load_in load c)) (given_main t) (past role t) queued
load_here stands left condition load role t c queued h is =
    record { sent_is = refl; load_is = λ at. is ∙ no_more role t (load_in load c); none_loaded = λ off. is ∙ none_loaded c h off } where
      none_loaded : (c : Option _) → HasLink stands left condition Reliable (unpulled t) role t c → is_attached Reliable (acts role t) ≡ false → load_in load c ≡ 0
      none_loaded None h off = refl
      none_loaded (Some l) h off = absurd (let no : true ≡ false = sym h.attached ∙ off in cc)

pub part_way : {C P : Type 0} (carrier_stands : C → Trace link.Entry → Type 0) (carrier_left : C → List ℕ) (carrier_condition : C → LinkState) (post_stands : P → Trace link.Entry → Type 0) (post_left : P → List (List ℕ)) (post_condition : P → LinkState) (r : Reader) (postings : Postings) (reliable : Option C) (lossy : Option P) (old mid : P) (role : Role) (t : Trace Entry) (now : ℕ) (datagram : List ℕ) (took : Took) (more : List (List ℕ))
    → IsEnd carrier_stands carrier_left carrier_condition post_stands post_left post_condition r postings reliable lossy role t → lossy ≡ Some old
    → ((c : Trace link.Entry) → post_stands old c → post_stands mid (c ▷ link.In now datagram took)) → post_left mid ≡ post_left old ++ more → ((e : ℕ) → post_condition mid ≡ Closed e → post_condition old ≡ Closed e)
    → PartWay post_stands post_left post_condition (unhanded t ++ more) (given_main t) role (past role t) (linked Lossy role t ▷ link.In now datagram took) r mid
part_way carrier_stands carrier_left carrier_condition post_stands post_left post_condition r postings reliable lossy old mid role t now datagram took more e is trace left_is back =
    let tells = e.tells in
    let serves : Serves post_stands post_left post_condition Lossy (unhanded t) role t old = subst (λ (l : Option _). HasLink post_stands post_left post_condition Lossy (unhanded t) role t l) is e.has_lossy in record {
      gone = tells.gone;
      gone_is = tells.gone_is;
      reads = tells.reads;
      role_is = tells.role_is;
      reliable_waits = tells.reliable_waits;
      lossy_waits = tells.lossy_waits;
      attached = serves.attached;
      called = trace (linked Lossy role t) serves.called;
      left_is = left_is ∙ ap (λ xs. xs ++ more) serves.left_is;
      is_open = λ loud. open_still (post_condition old) (post_condition mid) back (serves.is_open loud);
    }

-- ---- what was read of the lossy link is nothing to the reliable one

pub link_aside : {L A : Type 0} (stands : L → Trace link.Entry → Type 0) (left : L → List A) (condition : L → LinkState) (kind made : Kind) (unread now_unread : List A) (role : Role) (t u : Trace Entry) (l : Option L) → same_kind kind made ≡ false → IsStill made role (acts role t) (acts role u) → linked kind role u ≡ linked kind role t
    → now_unread ≡ unread → HasLink stands left condition kind unread role t l → HasLink stands left condition kind now_unread role u l
link_aside stands left condition kind made unread now_unread role t u (Some l) other still same unread_same s = record {
  attached = still.attached kind ∙ s.attached;
  called = subst (stands l) (sym same) s.called;
  left_is = s.left_is ∙ sym unread_same;
  is_open = λ loud. s.is_open (sym (still.silent kind) ∙ loud);
}
link_aside stands left condition kind made unread now_unread role t u None other still same unread_same s = record {
  unattached = still.attached kind ∙ s.unattached;
  uncalled = same ∙ s.uncalled;
  undrawn = still.undrawn kind other ∙ s.undrawn;
  unread_is = unread_same ∙ s.unread_is;
}

-- a link that holds more is full no later
full_above : (less more : ℕ) (parts : Trace Handed) → less ≤ more → FullFrom less parts → FullFrom more parts
full_above less more Start most full = tt
full_above less more (parts ▷ part) most full = (λ is. omega (arith, most, full.0 is), full_above less more parts most full.1)

pub wired_lossy : {C P : Type 0} (carrier_stands : C → Trace link.Entry → Type 0) (carrier_left : C → List ℕ) (carrier_condition : C → LinkState) (carrier_load : C → ℕ) (post_stands : P → Trace link.Entry → Type 0) (post_left : P → List (List ℕ)) (post_condition : P → LinkState) (post_load : P → ℕ) (r after : Reader) (postings : Postings) (reliable : Option C) (lossy : Option P) (old mid new : P) (role : Role) (t : Trace Entry) (now : ℕ) (datagram : List ℕ) (took : Took) (more : List (List ℕ))
    → IsEnd carrier_stands carrier_left carrier_condition post_stands post_left post_condition r postings reliable lossy role t → lossy ≡ Some old
    → post_load mid ≤ post_load old → AllHanded post_stands post_left post_condition post_load mid (unhanded t ++ more) (given_main t) role (outset role t (load_in carrier_load reliable)) (past role t) (linked Lossy role t ▷ link.In now datagram took) after new
    → KeepsRoom r.session after.session → HeldFits after.session
    → WiredIn carrier_stands carrier_left carrier_condition carrier_load post_stands post_left post_condition post_load role t Lossy now datagram took (record { reader = r; postings = postings; reliable = reliable; lossy = lossy }) (record { reader = after; postings = postings; reliable = reliable; lossy = Some new })
wired_lossy carrier_stands carrier_left carrier_condition carrier_load post_stands post_left post_condition post_load r after postings reliable lossy old mid new role t now datagram took more e is lower all keeps fits =
    let p = past role t in
    let l = linked Lossy role t in
    let other = linked Reliable role t in
    let queued = load_in carrier_load reliable in
    let start = outset role t queued in
    let came : Came = record { bytes = []; parts = more } in
    let way = all.way in
    let serves : Serves post_stands post_left post_condition Lossy (unhanded t) role t old = subst (λ (l : Option _). HasLink post_stands post_left post_condition Lossy (unhanded t) role t l) is e.has_lossy in
    let attached : is_attached Lossy (acts role t) ≡ true = serves.attached in
    let j = joined role start p Start None (unhanded t ++ more) all.parts all.lack tt all.handed all.lacks in
    let u = t ▷ WireIn Lossy now datagram took queued came Start all.parts all.lack in
    let still = still_handed_by role p all.parts all.lack all.lacks in
    let asked = not (is_some all.lack || is_link_stopped role start (after_parts role p all.parts)) in
    let handed = by_parts Lossy role p all.parts all.lack (l ▷ link.In now datagram took) in
    let linked_is : linked Lossy role u ≡ asks_once_more Lossy asked handed = ap (λ (b : Bool). cond b (asks_once_more Lossy (b && asked) handed) l) attached in
    let other_is : linked Reliable role u ≡ other = ap (λ (b : Bool). cond b (by_parts Reliable role p all.parts all.lack other) other) attached ∙ all.none_called other in record {
      load = queued;
      came = came;
      pulls = Start;
      parts = all.parts;
      lack = all.lack;
      stands = record {
        tells =
            told_in r after postings role t Lossy now datagram took queued came Start all.parts all.lack e.tells attached
            (record {
              takes = record { of_kind = refl; pulled = refl; handed = j.handed; lacking = j.lacks };
              gone = way.gone;
              gone_is = way.gone_is;
              reads = way.reads;
              role_is = way.role_is;
              reliable_waits = way.reliable_waits;
              lossy_waits = way.lossy_waits;
            })
            keeps fits;
        has_reliable = link_aside carrier_stands carrier_left carrier_condition Reliable Lossy (unpulled t) (unpulled t ++ []) role t u reliable refl still other_is (append-nil (unpulled t)) e.has_reliable;
        has_lossy = record {
          attached = way.attached;
          called = subst (post_stands new) (sym linked_is) way.called;
          left_is = way.left_is;
          is_open = way.is_open;
        };
      };
      load_is = omega (arith, ap (λ (ds : List Drawn). length (flat_map tunneled ds)) all.none_reliable);
      full_from = subst (λ (l : Option _). FullFrom (load_in post_load l) all.parts) (sym is) (full_above (post_load mid) (post_load old) all.parts lower all.full_from);
    }

-- as the calls tell it
pub lossy_read : {C P : Type 0} (carrier_stands : C → Trace link.Entry → Type 0) (carrier_left : C → List ℕ) (carrier_condition : C → LinkState) (carrier_load : C → ℕ) (post_stands : P → Trace link.Entry → Type 0) (post_left : P → List (List ℕ)) (post_condition : P → LinkState) (post_load : P → ℕ) (r after : Reader) (postings : Postings) (reliable : Option C) (lossy : Option P) (old mid new : P) (role : Role) (t : Trace Entry) (now : ℕ) (datagram : List ℕ) (took : Took) (queued : ℕ)
    → IsEnd carrier_stands carrier_left carrier_condition post_stands post_left post_condition r postings reliable lossy role t → lossy ≡ Some old
    → ((c : Trace link.Entry) → post_stands old c → post_stands mid (c ▷ link.In now datagram took)) → (more : List (List ℕ)) × (post_left mid ≡ post_left old ++ more) → ((e : ℕ) → post_condition mid ≡ Closed e → post_condition old ≡ Closed e)
    → post_load mid ≤ post_load old → queued ≡ load_in carrier_load reliable
    → ((unhanded : List (List ℕ)) (sent : List ℕ) (role : Role) (outset : Outset) (p : Past) (m : Trace link.Entry) → PartWay post_stands post_left post_condition unhanded sent role p m r mid → LoadAt role outset sent p queued → AllHanded post_stands post_left post_condition post_load mid unhanded sent role outset p m after new)
    → KeepsRoom r.session after.session → HeldFits after.session
    → WiredIn carrier_stands carrier_left carrier_condition carrier_load post_stands post_left post_condition post_load role t Lossy now datagram took (record { reader = r; postings = postings; reliable = reliable; lossy = lossy }) (record { reader = after; postings = postings; reliable = reliable; lossy = Some new })
lossy_read carrier_stands carrier_left carrier_condition carrier_load post_stands post_left post_condition post_load r after postings reliable lossy old mid new role t now datagram took queued e is trace left_is back lower queued_is handed keeps fits =
    let all =
    handed (unhanded t ++ left_is.0) (given_main t) role (outset role t (load_in carrier_load reliable)) (past role t) (linked Lossy role t ▷ link.In now datagram took)
    (part_way carrier_stands carrier_left carrier_condition post_stands post_left post_condition r postings reliable lossy old mid role t now datagram took left_is.0 e is trace left_is.1 back)
    (load_here carrier_stands carrier_left carrier_condition carrier_load role t reliable queued e.has_reliable queued_is) in
    wired_lossy carrier_stands carrier_left carrier_condition carrier_load post_stands post_left post_condition post_load r after postings reliable lossy old mid new role t now datagram took left_is.0 e is lower all keeps fits

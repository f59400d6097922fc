-- An end that bytes of the main stream were offered to.
use Rattle.std.proofs.Common.{◌≡◌, inl, inr, ℕ, ◌+◌, ◌≤◌, List, [], ◌∷◌, length, take, drop, Option, Some, None, option_map, refl, sym, ap, subst, ◌∙◌, arith}
use Rattle.std.proofs.Math.Seq.{drop-length}
use Rattle.mt_base.specs.declared.kinds.Kind.{Kind}
use Rattle.mt_base.specs.declared.kinds.Kind.TheVariants.{Reliable, Lossy}
use Rattle.mt_base.specs.declared.kinds.Role.{Role}
use Rattle.mt_base.specs.Trace.{Trace, ◌▷◌}
use Rattle.carrier.specs.declared.state.LinkState.{LinkState}
use Rattle.carrier.specs.Entries as link
use Rattle.mt_endpoint.specs.Acts.{Act, Drawn}
use Rattle.mt_endpoint.specs.Writing.{carried}
use Rattle.end_calls.specs.declared.limits.TheConstants.{MAIN_QUEUE}
use Rattle.end_calls.specs.Calls.{Entry, MainIn, Postings, acts, after_bytes, past, read_count}
use Rattle.end_calls.specs.Law.{IsFront, IsMainLack, given_main, shorter, unhanded, unpulled, unsent, whole}
use Rattle.end_calls.specs.Links.{by_bytes, gives_all, gives_joined, linked}
use Rattle.end_calls.specs.Stops.{answers_owed}
use Rattle.end_calls.specs.Streams.{Past, with_main}
use Rattle.end_calls.proofs.Onward.{front_then, goes_bytes}
use Rattle.end_reader.specs.declared.reader.Reader.{Reader}
use Rattle.endpoint.specs.Attached.{HasLink, load_in}
use Rattle.endpoint.specs.MainRead.{AllRead, KeepsRoom, reached_by}
use Rattle.endpoint.specs.OnWay.{LinkAt, OnWay}
use Rattle.endpoint.specs.Standing.{IsEnd, Tells, refusals_owed}
use Rattle.endpoint.proofs.FrameActs.{OfFrames, attached_still, draws_still, frames_between, frames_bytes, frames_front, held_still, silent_still}
use Rattle.endpoint.proofs.FrameWrites.{lossy_still}
use Rattle.endpoint.proofs.Links.{joins_none}
use Rattle.endpoint.proofs.Rooms.{refusals_few, refusals_less}
use Rattle.endpoint.proofs.Steps.{held_within, unsent_is}

-- the entry's lack, as the acts that were reached
abbrev pub acts_of : Option (ℕ × Trace Act) → Option (Trace Act)
acts_of lack = option_map (λ (l : ℕ × Trace Act). l.1) lack

-- ---- the acts are those of frames

frames_main : (role : Role) (p : Past) (bytes : List ℕ) (count : ℕ) (lack : Option (ℕ × Trace Act)) → IsMainLack role p bytes lack → OfFrames p.acts (reached_by role p (take (read_count count lack) bytes) (acts_of lack)).acts
frames_main role p bytes count None h = frames_bytes role (take count bytes) p
frames_main role p bytes count (Some (n, reached)) h =
    let before = after_bytes role p (take h.0 bytes) in
    let after = after_bytes role p (take n bytes) in
    let l = h.3 in
    frames_between p.acts reached after.acts (front_then p.acts before.acts reached (goes_bytes role (take h.0 bytes) p) l.begun)
    (front_then reached (reached ▷ l.next) after.acts (shorter reached reached l.next (whole reached)) l.due) (frames_bytes role (take n bytes) p)

pub refusals_front : (role : Role) (t u : Trace Act) → IsFront t u → refusals_owed role u ≤ refusals_owed role t
refusals_front role t u (whole v) = omega arith
refusals_front role t u (shorter v w act f) = omega (arith, refusals_less role w act, refusals_front role v w f)

-- ---- the lossy link is called for nothing

gives_same : (role : Role) (p q : Past) (l : Trace link.Entry) → carried Lossy role q.acts ≡ carried Lossy role p.acts → gives_all Lossy role p q l ≡ l
gives_same role p q l same =
    let before = carried Lossy role p.acts in
    ap (λ (ds : List Drawn). gives_joined Lossy ds l) (ap (λ (c : List Drawn). drop (length before) c) same ∙ drop-length before) ∙ joins_none Lossy l

lossy_linked : (role : Role) (bytes : List ℕ) (lack : Option (Trace Act)) (p : Past) (l : Trace link.Entry) → carried Lossy role (reached_by role p bytes lack).acts ≡ carried Lossy role p.acts → by_bytes Lossy role p bytes lack l ≡ l
lossy_linked role [] lack p l same = refl
lossy_linked role (byte ∷ []) lack p l same = gives_same role p (reached_by role p (byte ∷ []) lack) l same
lossy_linked role (byte ∷ next ∷ bytes) lack p l same =
    let q = with_main role p byte in
    let here = lossy_still role p.acts q.acts (frames_bytes role (byte ∷ []) p) in
    lossy_linked role (next ∷ bytes) lack q (gives_all Lossy role p q l) (same ∙ sym here) ∙ gives_same role p q l here

-- ---- from an end to its way

link_at : {L : Type 0} (stands : L → Trace link.Entry → Type 0) (left : L → List ℕ) (condition : L → LinkState) (load : L → ℕ) (role : Role) (t : Trace Entry) (c : Option L)
    → HasLink stands left condition Reliable (unpulled t) role t c → LinkAt stands left condition load (unpulled t) (past role t) (linked Reliable role t) (load_in load c) c
link_at stands left condition load role t (Some c) s = record {
  attached = s.attached;
  called = s.called;
  left_is = s.left_is;
  is_open = s.is_open;
  load_is = refl;
}
link_at stands left condition load role t None s = record {
  unattached = s.unattached;
  uncalled = s.uncalled;
  undrawn = s.undrawn;
  unread_is = s.unread_is;
}

pub on_way : {C P : Type 0} (carrier_stands : C → Trace link.Entry → Type 0) (carrier_left : C → List ℕ) (carrier_condition : C → LinkState) (carrier_load : C → ℕ) (post_stands : P → Trace link.Entry → Type 0) (post_left : P → List (List ℕ)) (post_condition : P → LinkState) (r : Reader) (postings : Postings) (reliable : Option C) (lossy : Option P) (role : Role) (t : Trace Entry)
    → IsEnd carrier_stands carrier_left carrier_condition post_stands post_left post_condition r postings reliable lossy role t
    → OnWay carrier_stands carrier_left carrier_condition carrier_load (unpulled t) (given_main t) role (past role t) (linked Reliable role t) (load_in carrier_load reliable) r reliable
on_way carrier_stands carrier_left carrier_condition carrier_load post_stands post_left post_condition r postings reliable lossy role t e = record {
  gone = (e.tells).gone;
  gone_is = (e.tells).gone_is;
  reads = (e.tells).reads;
  role_is = (e.tells).role_is;
  reliable_waits = (e.tells).reliable_waits;
  lossy_waits = (e.tells).lossy_waits;
  has_link = link_at carrier_stands carrier_left carrier_condition carrier_load role t reliable e.has_reliable;
}

-- ---- and back

has_link : {L : Type 0} (stands : L → Trace link.Entry → Type 0) (left : L → List ℕ) (condition : L → LinkState) (load : L → ℕ) (role : Role) (t : Trace Entry) (queued : ℕ) (c : Option L)
    → LinkAt stands left condition load (unpulled t) (past role t) (linked Reliable role t) queued c → HasLink stands left condition Reliable (unpulled t) role t c
has_link stands left condition load role t queued (Some c) on = record {
  attached = on.attached;
  called = on.called;
  left_is = on.left_is;
  is_open = on.is_open;
}
has_link stands left condition load role t queued None off = record {
  unattached = off.unattached;
  uncalled = off.uncalled;
  undrawn = off.undrawn;
  unread_is = off.unread_is;
}

link_still : {L A : Type 0} (stands : L → Trace link.Entry → Type 0) (left : L → List A) (condition : L → LinkState) (kind : Kind) (unread : List A) (role : Role) (t u : Trace Entry) (l : Option L) → OfFrames (acts role t) (acts role u) → linked kind role u ≡ linked kind role t
    → HasLink stands left condition kind unread role t l → HasLink stands left condition kind unread role u l
link_still stands left condition kind unread role t u (Some l) f same s = record {
  attached = attached_still kind (acts role t) (acts role u) f ∙ s.attached;
  called = subst (stands l) (sym same) s.called;
  left_is = s.left_is;
  is_open = λ loud. s.is_open (sym (silent_still kind (acts role t) (acts role u) f) ∙ loud);
}
link_still stands left condition kind unread role t u None f same s = record {
  unattached = attached_still kind (acts role t) (acts role u) f ∙ s.unattached;
  uncalled = same ∙ s.uncalled;
  undrawn = draws_still kind (acts role t) (acts role u) f ∙ s.undrawn;
  unread_is = s.unread_is;
}

-- the end without its links
told : {L : Type 0} (stands : L → Trace link.Entry → Type 0) (left : L → List ℕ) (condition : L → LinkState) (load : L → ℕ) (r now : Reader) (postings : Postings) (role : Role) (t : Trace Entry) (bytes : List ℕ) (count queued : ℕ) (c : Option L)
    → (tells : Tells r postings role t) → (all : AllRead stands left condition load (unpulled t) (given_main t) role (past role t) (linked Reliable role t) queued bytes count now c) → KeepsRoom r.session now.session
    → Tells now postings role (t ▷ MainIn bytes count queued all.lack)
told stands left condition load r now postings role t bytes count queued c tells all keeps =
    let u = t ▷ MainIn bytes count queued all.lack in
    let way = all.way in
    let f = frames_main role (past role t) bytes count all.lack all.lacks in
    let before = unsent_is role t tells.gone r.session tells.gone_is tells.role_is (tells.reads).stands in
    let behind = unsent_is role u way.gone now.session way.gone_is way.role_is (way.reads).stands in
    let room : length (unsent role u) + (answers_owed (acts role u) + refusals_owed role (acts role u)) ≤ MAIN_QUEUE = by_room keeps before behind (refusals_front role (acts role t) (acts role u) (frames_front (acts role t) (acts role u) f)) in record {
      law = (
        (((tells.reads).stands).knows.begun, all.counts, all.lacks),
        record {
          unsent_fits = omega (arith, room);
          reliable_fits = omega (arith, held_still role Reliable (acts role t) (acts role u) f, held_within role t tells.law Reliable);
          lossy_fits = omega (arith, held_still role Lossy (acts role t) (acts role u) f, held_within role t tells.law Lossy);
        },
        tells.law,
      );
      gone = way.gone;
      gone_is = way.gone_is;
      reads = way.reads;
      role_is = way.role_is;
      room = room;
      reliable_waits = way.reliable_waits;
      lossy_waits = way.lossy_waits;
      postings_are = tells.postings_are;
    }
  where
    u : Trace Entry
    u = t ▷ MainIn bytes count queued all.lack

    by_room : KeepsRoom r.session now.session → unsent role t ≡ ((r.session).outgoing).main → unsent role u ≡ ((now.session).outgoing).main → refusals_owed role (acts role u) ≤ refusals_owed role (acts role t)
        → length (unsent role u) + (answers_owed (acts role u) + refusals_owed role (acts role u)) ≤ MAIN_QUEUE
    by_room (inl less) before behind fewer =
        omega (arith, tells.room, less, fewer, ap (λ (b : List ℕ). length b) before, ap (λ (b : List ℕ). length b) behind, (((tells.reads).stands).knows).owed_is, ((((all.way).reads).stands).knows).owed_is)
    by_room (inr room) before behind fewer =
        omega (arith, room, refusals_few role (acts role u), ap (λ (b : List ℕ). length b) behind, ((((all.way).reads).stands).knows).owed_is)

pub taken : {C P : Type 0} (carrier_stands : C → Trace link.Entry → Type 0) (carrier_left : C → List ℕ) (carrier_condition : C → LinkState) (carrier_load : C → ℕ) (post_stands : P → Trace link.Entry → Type 0) (post_left : P → List (List ℕ)) (post_condition : P → LinkState) (r now : Reader) (postings : Postings) (reliable after : Option C) (lossy : Option P) (role : Role) (t : Trace Entry) (bytes : List ℕ) (count : ℕ)
    → IsEnd carrier_stands carrier_left carrier_condition post_stands post_left post_condition r postings reliable lossy role t
    → (all : AllRead carrier_stands carrier_left carrier_condition carrier_load (unpulled t) (given_main t) role (past role t) (linked Reliable role t) (load_in carrier_load reliable) bytes count now after) → KeepsRoom r.session now.session
    → IsEnd carrier_stands carrier_left carrier_condition post_stands post_left post_condition now postings after lossy role (t ▷ MainIn bytes count (load_in carrier_load reliable) all.lack)
taken carrier_stands carrier_left carrier_condition carrier_load post_stands post_left post_condition r now postings reliable after lossy role t bytes count e all keeps =
    let queued = load_in carrier_load reliable in
    let u = t ▷ MainIn bytes count queued all.lack in
    let p = past role t in
    let f = frames_main role p bytes count all.lack all.lacks in record {
      tells = told carrier_stands carrier_left carrier_condition carrier_load r now postings role t bytes count queued after e.tells all keeps;
      has_reliable = has_link carrier_stands carrier_left carrier_condition carrier_load role u _ after (all.way).has_link;
      has_lossy = link_still post_stands post_left post_condition Lossy (unhanded t) role t u lossy f (lossy_linked role (take (read_count count all.lack) bytes) (acts_of all.lack) p (linked Lossy role t) (lossy_still role (acts role t) (acts role u) f)) e.has_lossy;
    }

-- the load of the link, as clauses see it
pub taken_with : {C P : Type 0} (carrier_stands : C → Trace link.Entry → Type 0) (carrier_left : C → List ℕ) (carrier_condition : C → LinkState) (carrier_load : C → ℕ) (post_stands : P → Trace link.Entry → Type 0) (post_left : P → List (List ℕ)) (post_condition : P → LinkState) (r now : Reader) (postings : Postings) (reliable after : Option C) (lossy : Option P) (role : Role) (t : Trace Entry) (bytes : List ℕ) (count queued : ℕ)
    → load_in carrier_load reliable ≡ queued → IsEnd carrier_stands carrier_left carrier_condition post_stands post_left post_condition r postings reliable lossy role t
    → AllRead carrier_stands carrier_left carrier_condition carrier_load (unpulled t) (given_main t) role (past role t) (linked Reliable role t) (load_in carrier_load reliable) bytes count now after → KeepsRoom r.session now.session
    → (lack : Option (ℕ × Trace Act)) × IsEnd carrier_stands carrier_left carrier_condition post_stands post_left post_condition now postings after lossy role (t ▷ MainIn bytes count queued lack)
taken_with carrier_stands carrier_left carrier_condition carrier_load post_stands post_left post_condition r now postings reliable after lossy role t bytes count queued load_is e all keeps = (
  all.lack,
  subst (λ n. IsEnd carrier_stands carrier_left carrier_condition post_stands post_left post_condition now postings after lossy role (t ▷ MainIn bytes count n all.lack)) load_is
      (taken carrier_stands carrier_left carrier_condition carrier_load post_stands post_left post_condition r now postings reliable after lossy role t bytes count e all keeps),
)

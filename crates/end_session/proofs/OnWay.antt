-- What is held is released, channel by channel.
use Rattle.std.proofs.Common.{◌≡◌, inl, inr, ℕ, zero, suc, ◌+◌, ◌*◌, ◌<◌, ◌≤◌, Bool, true, false, cond, List, [], ◌∷◌, length, drop, slice_get, Option, Some, None, Result, Ok, Err, IfErr, IsErrAnd, refl, sym, ap, subst, ◌∙◌, arith}
use Rattle.mt_base.specs.declared.kinds.Kind.{Kind}
use Rattle.mt_base.specs.declared.kinds.Kind.TheVariants.{Reliable, Lossy}
use Rattle.mt_base.specs.declared.kinds.Role.{Role}
use Rattle.mt_base.specs.Trace.{Trace, ◌▷◌}
use Rattle.soft_sync.specs.Exchanges.{channels_at, has}
use Rattle.soft_sync.specs.Words.{inward}
use Rattle.soft_sync.specs.declared.kinds.Kinds.{Kinds}
use Rattle.mt_endpoint.specs.Acts.{Act, Releases, Discards}
use Rattle.mt_endpoint.specs.Channels.{is_closed}
use Rattle.mt_endpoint.specs.Faults.{Why, release_fault}
use Rattle.mt_endpoint.specs.Growing.{Grown, among, fine, release_all, released}
use Rattle.mt_endpoint.specs.Holding.{Held, held, is_through, only}
use Rattle.mt_endpoint.specs.Moving.{made}
use Rattle.end_calls.specs.Law.{IsFront, shorter, whole}
use Rattle.end_calls.specs.declared.limits.TheConstants.{MAIN_QUEUE}
use Rattle.end_calls.proofs.Onward.{front_then}
use Rattle.end_session.specs.declared.untaken.Untaken.{Untaken}
use Rattle.end_session.specs.Coming.{Came, Ended, Met}
use Rattle.end_session.specs.Freeing.{AreThrough, HasRoomFor, WroteCloses}
use Rattle.end_session.specs.Outgoing.{waiting_for}
use Rattle.end_session.specs.Standing.{Gone, Stands}
use Rattle.end_session.specs.Store.{Store}
use Rattle.end_session.proofs.Still.{made_same}

-- ---- what releases keep

-- a property that releases and drops keep
record Lasts (Q : Trace Act → Type 0) : Type 0 where
  releases : (t : Trace Act) (kind : Kind) (h : Held) → Q t → Q (t ▷ Releases kind h.at h.bytes h.pdu)
  discards : (t : Trace Act) (h : Held) → Q t → Q (t ▷ Discards h.at h.bytes h.pdu)

-- what becomes of the oldest PDU, by what there is against it
abbrev by_fault : Role → Kind → ℕ → Held → List Held → Trace Act → Option Why → Grown
by_fault role kind id h queue t None = released role kind id queue (t ▷ Releases kind h.at h.bytes h.pdu)
by_fault role Reliable id h queue t (Some why) = record { acts = t; fault = Some (h.at, why) }
by_fault role Lossy id h queue t (Some why) = released role Lossy id queue (t ▷ Discards h.at h.bytes h.pdu)

released_is : (role : Role) (kind : Kind) (id : ℕ) (h : Held) (queue : List Held) (t : Trace Act)
    → released role kind id (h ∷ queue) t ≡ cond (is_closed role id t) (fine t) (by_fault role kind id h queue t (release_fault role t h.pdu))
released_is role Reliable id h queue t = by_why (release_fault role t h.pdu) where
  by_why : (w : Option Why) → cond (is_closed role id t) (fine t) (elim w as (λ w. Grown) [
    | None ↦ released role Reliable id queue (t ▷ Releases Reliable h.at h.bytes h.pdu)
    | Some why ↦ record { acts = t; fault = Some (h.at, why) }
  ]) ≡ cond (is_closed role id t) (fine t) (by_fault role Reliable id h queue t w)
  by_why None = refl
  by_why (Some why) = refl
released_is role Lossy id h queue t = by_why (release_fault role t h.pdu) where
  by_why : (w : Option Why) → cond (is_closed role id t) (fine t) (elim w as (λ w. Grown) [
    | None ↦ released role Lossy id queue (t ▷ Releases Lossy h.at h.bytes h.pdu)
    | Some why ↦ released role Lossy id queue (t ▷ Discards h.at h.bytes h.pdu)
  ]) ≡ cond (is_closed role id t) (fine t) (by_fault role Lossy id h queue t w)
  by_why None = refl
  by_why (Some why) = refl

released_lasts : (Q : Trace Act → Type 0) → Lasts Q → (role : Role) (kind : Kind) (id : ℕ) (queue : List Held) (t : Trace Act) → Q t → Q (released role kind id queue t).acts
released_lasts Q l role kind id [] t q = q
released_lasts Q l role kind id (h ∷ queue) t q =
    subst (λ (g : Grown). Q g.acts) (sym (released_is role kind id h queue t))
    (by_test (is_closed role id t)
    (by_why kind (release_fault role t h.pdu) (released_lasts Q l role kind id queue (t ▷ Releases kind h.at h.bytes h.pdu) (l.releases t kind h q))
    (released_lasts Q l role Lossy id queue (t ▷ Discards h.at h.bytes h.pdu) (l.discards t h q)))) where
      by_why : (k : Kind) (w : Option Why) → Q (released role k id queue (t ▷ Releases k h.at h.bytes h.pdu)).acts → Q (released role Lossy id queue (t ▷ Discards h.at h.bytes h.pdu)).acts → Q (by_fault role k id h queue t w).acts
      by_why k None deeper other = deeper
      by_why Reliable (Some why) deeper other = q
      by_why Lossy (Some why) deeper other = other

      by_test : (b : Bool) → Q (by_fault role kind id h queue t (release_fault role t h.pdu)).acts → Q (cond b (fine t) (by_fault role kind id h queue t (release_fault role t h.pdu))).acts
      by_test true deeper = q
      by_test false deeper = deeper

-- the first of the channels, and then the others
abbrev then_all : Role → List (ℕ × Kind) → Grown → Option (ℕ × Why) → Grown
then_all role channels g (Some fault) = g
then_all role channels g None = release_all role channels g.acts

abbrev first_of : Role → ℕ → Kind → Trace Act → Grown
first_of role id kind t = released role kind id (only id (held role kind t)) t

all_is : (role : Role) (id : ℕ) (kind : Kind) (channels : List (ℕ × Kind)) (t : Trace Act) (o : Option (ℕ × Why)) → (first_of role id kind t).fault ≡ o
    → release_all role ((id, kind) ∷ channels) t ≡ then_all role channels (first_of role id kind t) o
all_is role id kind channels t o h = by_fault_of (first_of role id kind t).fault o h where
  by_fault_of : (w o : Option (ℕ × Why)) → w ≡ o → elim w as (λ w. Grown) [ Some fault ↦ first_of role id kind t | None ↦ release_all role channels (first_of role id kind t).acts ] ≡ then_all role channels (first_of role id kind t) o
  by_fault_of None None e = refl
  by_fault_of (Some f) (Some g) e = refl
  by_fault_of None (Some g) e = absurd (let no : None ≡ Some g = e in cc)
  by_fault_of (Some f) None e = absurd (let no : Some f ≡ None = e in cc)

all_last : (Q : Trace Act → Type 0) → Lasts Q → (role : Role) (channels : List (ℕ × Kind)) (t : Trace Act) → Q t → Q (release_all role channels t).acts
all_last Q l role [] t q = q
all_last Q l role ((id, kind) ∷ channels) t q =
    let first = released_lasts Q l role kind id (only id (held role kind t)) t q in
    subst (λ (g : Grown). Q g.acts) (sym (all_is role id kind channels t (first_of role id kind t).fault refl))
    (by_fault_of (first_of role id kind t).fault first (all_last Q l role channels (first_of role id kind t).acts first)) where
      by_fault_of : (w : Option (ℕ × Why)) → Q (first_of role id kind t).acts → Q (release_all role channels (first_of role id kind t).acts).acts → Q (then_all role channels (first_of role id kind t) w).acts
      by_fault_of (Some fault) k deeper = k
      by_fault_of None k deeper = deeper

front_lasts : (t : Trace Act) → Lasts (λ v. IsFront t v)
front_lasts t = record { releases = λ v kind h f. shorter t v (Releases kind h.at h.bytes h.pdu) f; discards = λ v h f. shorter t v (Discards h.at h.bytes h.pdu) f }

made_last : (t : Trace Act) → Lasts (λ v. made v ≡ made t)
made_last t = record { releases = λ v kind h e. made_same v (Releases kind h.at h.bytes h.pdu) refl refl ∙ e; discards = λ v h e. made_same v (Discards h.at h.bytes h.pdu) refl refl ∙ e }

pub first_front : (role : Role) (id : ℕ) (kind : Kind) (t : Trace Act) → IsFront t (first_of role id kind t).acts
first_front role id kind t = released_lasts (λ v. IsFront t v) (front_lasts t) role kind id (only id (held role kind t)) t (whole t)

pub first_made : (role : Role) (id : ℕ) (kind : Kind) (t : Trace Act) → made (first_of role id kind t).acts ≡ made t
first_made role id kind t = released_lasts (λ v. made v ≡ made t) (made_last t) role kind id (only id (held role kind t)) t refl

pub all_front : (role : Role) (channels : List (ℕ × Kind)) (t : Trace Act) → IsFront t (release_all role channels t).acts
all_front role channels t = all_last (λ v. IsFront t v) (front_lasts t) role channels t (whole t)

-- ---- on the way

-- From an end that has all these channels to release to one that has some of them left.
pub record IsOnWay (s now : Store) (all left : List (ℕ × Kind)) : Type 0 where
  pub is_whole : s.broken ≡ None
  pub room : HasRoomFor (length all) s.outgoing
  pub role_is : now.role ≡ s.role
  pub broken_is : now.broken ≡ s.broken
  pub owed_is : now.owed ≡ s.owed
  pub words_are : (id : ℕ) → inward id now.paths ≡ inward id s.paths
  pub made_are : (t : Trace Act) (gone : Gone) → Stands s t gone → (now.paths).made ≡ (s.paths).made
  pub through : AreThrough left s.paths
  pub main_is : length (now.outgoing).main + 8 * length left ≤ length (s.outgoing).main + 8 * length all
  pub reliable_is : length (waiting_for Reliable now.outgoing) + 9 * length left ≤ length (waiting_for Reliable s.outgoing) + 9 * length all
  pub lossy_is : waiting_for Lossy now.outgoing ≡ waiting_for Lossy s.outgoing
  pub stands : (t : Trace Act) (gone : Gone) → Stands s t gone → (u : Trace Act) × IsFront t u × Stands now u gone × (release_all s.role left u ≡ release_all s.role all t)

pub begin : (s : Store) (all : List (ℕ × Kind)) → s.broken ≡ None → AreThrough all s.paths → HasRoomFor (length all) s.outgoing → IsOnWay s s all all
begin s all is_whole h room = record {
  is_whole = is_whole;
  room = room;
  role_is = refl;
  broken_is = refl;
  owed_is = refl;
  words_are = λ id. refl;
  made_are = λ t gone st. refl;
  through = h;
  main_is = omega arith;
  reliable_is = omega arith;
  lossy_is = refl;
  stands = λ t gone st. (t, whole t, st, refl);
}

-- what the release of one channel says
pub record IsStep (now after : Store) : Type 0 where
  pub main_is : length (after.outgoing).main ≤ length (now.outgoing).main + 8
  pub reliable_is : length (waiting_for Reliable after.outgoing) ≤ length (waiting_for Reliable now.outgoing) + 9
  pub lossy_is : waiting_for Lossy after.outgoing ≡ waiting_for Lossy now.outgoing
  pub words_are : (id : ℕ) → inward id after.paths ≡ inward id now.paths
  pub role_is : after.role ≡ now.role
  pub broken_is : after.broken ≡ now.broken
  pub owed_is : after.owed ≡ now.owed

-- the next one is released
pub onward : (s now after : Store) (all left : List (ℕ × Kind)) (id : ℕ) (kind : Kind) → IsOnWay s now all ((id, kind) ∷ left) → IsStep now after
    → ((t : Trace Act) (gone : Gone) → Stands now t gone → Came (released now.role kind id (only id (held now.role kind t)) t) gone after) → IsOnWay s after all left
onward s now after all left id kind w step came = record {
  is_whole = w.is_whole;
  room = w.room;
  role_is = step.role_is ∙ w.role_is;
  broken_is = step.broken_is ∙ w.broken_is;
  owed_is = step.owed_is ∙ w.owed_is;
  words_are = λ made. step.words_are made ∙ w.words_are made;
  made_are = λ t gone st.
      let v = w.stands t gone st in
      let c = came v.0 gone v.2 in
      ((c.1.knows).words_are).made_are ∙ first_made now.role id kind v.0 ∙ sym ((v.2.knows).words_are).made_are ∙ w.made_are t gone st;
  through = w.through.1;
  main_is = omega (arith, w.main_is, step.main_is);
  reliable_is = omega (arith, w.reliable_is, step.reliable_is);
  lossy_is = step.lossy_is ∙ w.lossy_is;
  stands = λ t gone st.
      let v = w.stands t gone st in
      let c = came v.0 gone v.2 in
      let g = first_of now.role id kind v.0 in (
        g.acts,
        front_then t v.0 g.acts v.1 (first_front now.role id kind v.0),
        c.1,
        subst (λ r. release_all r left g.acts ≡ release_all s.role all t) w.role_is
            (sym (all_is now.role id kind left v.0 None c.0) ∙ ap (λ r. release_all r ((id, kind) ∷ left) v.0) w.role_is ∙ v.3),
      );
}

-- those of the first are the front of all
first_of_all : (role : Role) (id : ℕ) (kind : Kind) (channels : List (ℕ × Kind)) (u : Trace Act) → IsFront (first_of role id kind u).acts (release_all role ((id, kind) ∷ channels) u).acts
first_of_all role id kind channels u =
    subst (λ (g : Grown). IsFront (first_of role id kind u).acts g.acts) (sym (all_is role id kind channels u (first_of role id kind u).fault refl)) (by_fault_of (first_of role id kind u).fault) where
      by_fault_of : (o : Option (ℕ × Why)) → IsFront (first_of role id kind u).acts (then_all role channels (first_of role id kind u) o).acts
      by_fault_of (Some fault) = whole (first_of role id kind u).acts
      by_fault_of None = all_front role channels (first_of role id kind u).acts

-- the next one has a PDU that isn't taken
pub fails : (s now after : Store) (all left : List (ℕ × Kind)) (id : ℕ) (kind : Kind) (untaken : Untaken) → IsOnWay s now all ((id, kind) ∷ left)
    → ((t : Trace Act) (gone : Gone) → Stands now t gone → Ended t (released now.role kind id (only id (held now.role kind t)) t) gone after untaken)
    → (t : Trace Act) (gone : Gone) → Stands s t gone → Ended t (release_all s.role all t) gone after untaken
fails s now after all left id kind untaken w ended t gone st =
    let v = w.stands t gone st in
    subst (λ g. Ended t g gone after untaken) (ap (λ r. release_all r ((id, kind) ∷ left) v.0) w.role_is ∙ v.3) (of v.0 (ended v.0 gone v.2) v.1) where
      of : (u : Trace Act) → Ended u (first_of now.role id kind u) gone after untaken → IsFront t u → Ended t (release_all now.role ((id, kind) ∷ left) u) gone after untaken
      of u (inl m) f = inl (subst (λ g. Met g gone after untaken) (sym (all_is now.role id kind left u (Some (m.place, m.why)) m.fault_is)) m)
      of u (inr l) f = inr (record {
        cause_is = l.cause_is;
        reached = l.reached;
        begun = front_then t u l.reached f l.begun;
        next = l.next;
        takes = l.takes;
        due = front_then (l.reached ▷ l.next) (first_of now.role id kind u).acts (release_all now.role ((id, kind) ∷ left) u).acts l.due (first_of_all now.role id kind left u);
        stands = l.stands;
      })

-- none is left
pub done : (s now : Store) (all : List (ℕ × Kind)) → IsOnWay s now all [] → (t : Trace Act) (gone : Gone) → Stands s t gone → Came (release_all s.role all t) gone now
done s now all w t gone st =
    let v = w.stands t gone st in
    subst (λ g. Came g gone now) v.3 (refl, v.2)

-- ---- what the calls ask for

pub word_next : (s now : Store) (all left : List (ℕ × Kind)) (id : ℕ) (kind : Kind) → IsOnWay s now all ((id, kind) ∷ left) → is_through kind (inward id now.paths) ≡ true
word_next s now all left id kind w = ap (is_through kind) (w.words_are id) ∙ w.through.0

pub main_room : (s now : Store) (all left : List (ℕ × Kind)) (id : ℕ) (kind : Kind) → IsOnWay s now all ((id, kind) ∷ left) → length (now.outgoing).main + 8 ≤ MAIN_QUEUE
main_room s now all left id kind w = omega (arith, w.main_is, w.room.main_room)

pub reliable_room : (s now : Store) (all left : List (ℕ × Kind)) (id : ℕ) (kind : Kind) → IsOnWay s now all ((id, kind) ∷ left) → length (waiting_for Reliable now.outgoing) + 9 ≤ 3072
reliable_room s now all left id kind w = omega (arith, w.reliable_is, w.room.reliable_room)

pub wrote_last : (s now after : Store) (all left : List (ℕ × Kind)) (id : ℕ) (kind : Kind) → IsOnWay s now all ((id, kind) ∷ left) → IsStep now after → WroteCloses (length all) s.outgoing after.outgoing
wrote_last s now after all left id kind w step = record {
  main_is = omega (arith, w.main_is, step.main_is);
  reliable_is = omega (arith, w.reliable_is, step.reliable_is);
  lossy_is = step.lossy_is ∙ w.lossy_is;
}

-- where the call gives what it was given
pub passed_on : {X : Type 0} (P : Untaken → Type 0) (r : Result X Untaken) (untaken : Untaken) → IsErrAnd r (λ e. e ≡ untaken) → P untaken → IfErr r P
passed_on P (Ok x) untaken e h = tt
passed_on P (Err found) untaken e h = subst P (sym e) h

-- ---- places of a list

next_suc : (place : ℕ) (xs : List (ℕ × Kind)) (x : ℕ × Kind) → slice_get xs place ≡ Some x → drop place xs ≡ x ∷ drop (suc place) xs
next_suc zero [] x h = absurd (let no : None ≡ Some x = h in cc)
next_suc (suc place) [] x h = absurd (let no : None ≡ Some x = h in cc)
next_suc zero (y ∷ xs) x h = ap (λ z. z ∷ xs) (some_is y x h) where
  some_is : (a b : ℕ × Kind) → Some a ≡ Some b → a ≡ b
  some_is a b e = cc
next_suc (suc place) (y ∷ xs) x h = next_suc place xs x h

next_at : (place : ℕ) (xs : List (ℕ × Kind)) (x : ℕ × Kind) → slice_get xs place ≡ Some x → drop place xs ≡ x ∷ drop (place + 1) xs
next_at place xs x h = let same : suc place ≡ place + 1 = omega arith in next_suc place xs x h ∙ ap (λ n. x ∷ drop n xs) same

none_at : (place : ℕ) (xs : List (ℕ × Kind)) → slice_get xs place ≡ None → drop place xs ≡ []
none_at zero [] h = refl
none_at (suc place) [] h = refl
none_at zero (y ∷ xs) h = absurd (let no : Some y ≡ None = h in cc)
none_at (suc place) (y ∷ xs) h = none_at place xs h

none_behind : (place : ℕ) (xs : List (ℕ × Kind)) → length xs ≤ place → drop place xs ≡ []
none_behind zero [] h = refl
none_behind (suc place) [] h = refl
none_behind zero (y ∷ xs) h = absurd (omega (arith, h))
none_behind (suc place) (y ∷ xs) h = none_behind place xs (omega (arith, h))

-- the channels that a request lists, as the end still has them on the way
abbrev pub of_request : ℕ → Store → List (ℕ × Kind)
of_request request s = channels_at request (s.paths).made

looked_up : (s now inside : Store) (request place : ℕ) (all left : List (ℕ × Kind)) (found : Option (ℕ × Kind)) → IsOnWay s now all left → inside ≡ now → ((t : Trace Act) × (gone : Gone) × Stands s t gone)
    → found ≡ slice_get (of_request request inside) place → slice_get (of_request request s) place ≡ found
looked_up s now inside request place all left found w is some at = ap (λ xs. slice_get (channels_at request xs) place) (sym (ap (λ (s : Store). (s.paths).made) is ∙ w.made_are some.0 some.1 some.2)) ∙ sym at

pub still_made : (s now inside : Store) (request : ℕ) (all left : List (ℕ × Kind)) → IsOnWay s now all left → inside ≡ now → ((t : Trace Act) × (gone : Gone) × Stands s t gone) → request < length (s.paths).made → request < length (inside.paths).made
still_made s now inside request all left w is some h = subst (λ xs. request < length xs) (sym (ap (λ (s : Store). (s.paths).made) is ∙ w.made_are some.0 some.1 some.2)) h

pub at_place : (s now inside : Store) (request place id : ℕ) (kind : Kind) (kinds : Kinds) (b : Bool) (found : Option (ℕ × Kind)) → IsOnWay s now (among kinds (of_request request s)) (among kinds (drop place (of_request request s)))
    → inside ≡ now → ((t : Trace Act) × (gone : Gone) × Stands s t gone) → found ≡ slice_get (of_request request inside) place → found ≡ Some (id, kind) → has kind kinds ≡ b
    → IsOnWay s now (among kinds (of_request request s)) (cond b ((id, kind) ∷ among kinds (drop (place + 1) (of_request request s))) (among kinds (drop (place + 1) (of_request request s))))
at_place s now inside request place id kind kinds b found w is some at e h =
    let all = of_request request s in
    let next = next_at place all (id, kind) (looked_up s now inside request place (among kinds all) (among kinds (drop place all)) found w is some at ∙ e) in
    subst (IsOnWay s now (among kinds all)) (ap (among kinds) next ∙ ap (λ b. cond b ((id, kind) ∷ among kinds (drop (place + 1) all)) (among kinds (drop (place + 1) all))) h) w

pub past_all : (s now inside : Store) (request place : ℕ) (kinds : Kinds) (found : Option (ℕ × Kind)) → IsOnWay s now (among kinds (of_request request s)) (among kinds (drop place (of_request request s)))
    → inside ≡ now → ((t : Trace Act) × (gone : Gone) × Stands s t gone) → found ≡ slice_get (of_request request inside) place → found ≡ None → IsOnWay s now (among kinds (of_request request s)) []
past_all s now inside request place kinds found w is some at e =
    let all = of_request request s in
    subst (IsOnWay s now (among kinds all)) (ap (among kinds) (none_at place all (looked_up s now inside request place (among kinds all) (among kinds (drop place all)) found w is some at ∙ e))) w

pub behind_all : (s now : Store) (request place : ℕ) (kinds : Kinds) → IsOnWay s now (among kinds (of_request request s)) (among kinds (drop place (of_request request s))) → length (of_request request s) ≤ place
    → IsOnWay s now (among kinds (of_request request s)) []
behind_all s now request place kinds w few = let all = of_request request s in subst (IsOnWay s now (among kinds all)) (ap (among kinds) (none_behind place all few)) w

-- A frame that was read in full has done all that it makes due.
use Rattle.std.proofs.Common.{◌≡◌, inl, inr, ℕ, zero, suc, ◌+◌, ◌*◌, ◌≤◌, Bool, true, false, cond, List, [], ◌∷◌, ◌++◌, length, append-nil, Option, Some, None, option_map, Result, Ok, Err, refl, sym, ap, subst, ◌∙◌, arith, ◌<◌, IfSome}
use Rattle.mt_base.specs.declared.kinds.Kind.{Kind}
use Rattle.mt_base.specs.declared.kinds.Kind.TheVariants.{Reliable}
use Rattle.mt_base.specs.declared.kinds.Role.{Role}
use Rattle.mt_base.specs.declared.kinds.Role.TheVariants.{Server, Client}
use Rattle.mt_base.specs.Trace.{Trace, ◌▷◌}
use Rattle.dvc_pdus.specs.declared.pdu.DvcRefusal.{DvcRefusal}
use Rattle.dvc_pdus.specs.Value.{ChannelList, Pdu, Caps, CreateRequest, CreateResponse, DataFirst, Data, CompressedFirst, Compressed, Close, SyncRequest, SyncResponse}
use Rattle.soft_sync.specs.Exchanges.{Exchange, Request, behind, channels_at, exchanges, has}
use Rattle.soft_sync.specs.Words as words
use Rattle.soft_sync.specs.Words.{Words}
use Rattle.soft_sync.specs.declared.kinds.Kinds.{Kinds}
use Rattle.mt_endpoint.specs.Acts.{Act, Answers, Heard, Hears, TunnelAsked, TunnelAnswered, Spoken}
use Rattle.mt_endpoint.specs.Alone.{EndOfActs}
use Rattle.mt_endpoint.specs.Faults.{Why, main_fault}
use Rattle.mt_endpoint.specs.Growing.{among, answer_all, answered, freed, grown, oldest_among, release_all}
use Rattle.mt_endpoint.specs.Holding.{is_through}
use Rattle.mt_endpoint.specs.Moving.{all_told, answer_made, answer_read, answer_to, inward, kinds_of, made, made_by, may_answer, read, read_by, unanswered_in}
use Rattle.mt_endpoint.specs.Writing.{adds}
use Rattle.mt_endpoint.proofs.Freed.{IsRead, each_freed, inward_same}
use Rattle.mt_endpoint.proofs.Ready.{EachIn}
use Rattle.end_calls.specs.declared.fault.Fault.{Fault}
use Rattle.end_calls.specs.declared.fault.Fault.TheVariants as fault
use Rattle.end_calls.specs.declared.fault.Place.TheVariants as place
use Rattle.end_calls.specs.Law.{IsFront, shorter, whole}
use Rattle.end_calls.specs.Streams.{fault_at, in_tunnel, on_main, reads, reads_heard, told_place}
use Rattle.end_calls.specs.declared.limits.TheConstants.{ANSWER, CONTROL, MAIN_QUEUE}
use Rattle.end_calls.proofs.Fronts.{front_acts}
use Rattle.end_calls.proofs.Onward.{front_then}
use Rattle.end_session.specs.declared.unread.Unread.{Unread}
use Rattle.end_session.specs.declared.unread.Unread.TheVariants as unread
use Rattle.end_session.specs.declared.untaken.Untaken.{Untaken}
use Rattle.end_session.specs.Causes.{fault_by, why_of}
use Rattle.end_session.specs.Coming.{Came, CameTo, Ended, came, lacked, past_of}
use Rattle.end_session.specs.Freeing.{AreThrough, HasRoomFor, freed_by, moved_by}
use Rattle.end_session.specs.Hearing.{IsHeard, IsUnread, MayLack, pdu_in, unread_at, spoken_in}
use Rattle.end_session.specs.Outgoing.{waiting_for}
use Rattle.end_session.specs.Standing.{Gone, Stands}
use Rattle.end_session.specs.Store.{Store}
use Rattle.end_session.proofs.Added.{heard_quiet, answered_front, answers_front}
use Rattle.end_session.proofs.AnswersMade.{none_behind, oldest, at_least}
use Rattle.end_session.proofs.DataHeard.{inward_is}
use Rattle.end_session.proofs.FewListed.{few_at}
use Rattle.end_session.proofs.OnWay.{all_front}
use Rattle.end_session.proofs.Still.{made_same}
use Rattle.end_session.proofs.MovesHeard.{as_many_read, few_channels, may_hear}

-- ---- a broken end stands for the same acts

pub broken_stands : (s : Store) (t : Trace Act) (gone : Gone) (b : Option Fault) → Stands s t gone → Stands (record s { broken = b }) t gone
broken_stands s t gone b st =
    let k = st.knows in record {
      knows = record {
        begun = k.begun;
        lawful = k.lawful;
        channels_stand = k.channels_stand;
        words_are = k.words_are;
        issued_are = k.issued_are;
        reliable_is = k.reliable_is;
        lossy_is = k.lossy_is;
        reliable_held = k.reliable_held;
        lossy_held = k.lossy_held;
        ready_is = k.ready_is;
        owed_is = k.owed_is;
      };
      waits = st.waits;
    }

-- ---- answers to requests

all_made : (requests : List Request) (t : Trace Act) → made (answer_all Client requests t) ≡ made t
all_made [] t = refl
all_made (request ∷ requests) t = by_test (may_answer Client t request.named) (all_made requests (t ▷ Answers (answer_to Client t request.named))) where
  by_test : (b : Bool) → made (answer_all Client requests (t ▷ Answers (answer_to Client t request.named))) ≡ made (t ▷ Answers (answer_to Client t request.named))
      → made (cond b (answer_all Client requests (t ▷ Answers (answer_to Client t request.named))) t) ≡ made t
  by_test true deeper = deeper ∙ made_same t (Answers (answer_to Client t request.named)) refl refl
  by_test false deeper = refl

-- they make none
answered_made : (role : Role) (t : Trace Act) → made (answered role t) ≡ made t
answered_made Server t = refl
answered_made Client t = all_made (unanswered_in (read t)) t

all_inward : (requests : List Request) (t : Trace Act) → EndOfActs Client (answer_all Client requests t) → (id : ℕ) → inward id (answer_all Client requests t) ≡ inward id t
all_inward [] t e id = refl
all_inward (request ∷ requests) t e id = by_test (may_answer Client t request.named) (λ k. all_inward requests (t ▷ Answers (answer_to Client t request.named)) k id) e where
  act : Act
  act = Answers (answer_to Client t request.named)

  by_test : (b : Bool) → (EndOfActs Client (answer_all Client requests (t ▷ act)) → inward id (answer_all Client requests (t ▷ act)) ≡ inward id (t ▷ act)) → EndOfActs Client (cond b (answer_all Client requests (t ▷ act)) t)
      → inward id (cond b (answer_all Client requests (t ▷ act)) t) ≡ inward id t
  by_test true deeper e = deeper e ∙ inward_same Client t act (front_acts Client (t ▷ act) (answer_all Client requests (t ▷ act)) (answers_front requests (t ▷ act)) e) refl refl refl id
  by_test false deeper e = refl

-- nor do they say by which path the other end's PDUs come
answered_inward : (role : Role) (t : Trace Act) → EndOfActs role (answered role t) → (id : ℕ) → inward id (answered role t) ≡ inward id t
answered_inward Server t e id = refl
answered_inward Client t e id = all_inward (unanswered_in (read t)) t e id

-- ---- what is owed

still_owed : (rs : List Request) (zs : List Kinds) → length (unanswered_in (exchanges rs zs)) ≤ length rs
still_owed [] zs = omega arith
still_owed (r ∷ rs) [] = omega (arith, still_owed rs [])
still_owed (r ∷ rs) (z ∷ zs) = omega (arith, still_owed rs zs)

more_owed : (rs more : List Request) (zs : List Kinds) → length (unanswered_in (exchanges (rs ++ more) zs)) ≤ length (unanswered_in (exchanges rs zs)) + length more
more_owed [] more zs = omega (arith, still_owed more zs)
more_owed (r ∷ rs) more [] = omega (arith, more_owed rs more [])
more_owed (r ∷ rs) more (z ∷ zs) = more_owed rs more zs

one_read : (heard : Heard) → length (read_by (Hears heard)) ≤ 1
one_read (TunnelAsked id kind cookie) = omega arith
one_read (TunnelAnswered id hr) = omega arith
one_read (Spoken (Caps version charges)) = omega arith
one_read (Spoken (CreateRequest id priority name)) = omega arith
one_read (Spoken (CreateResponse id status)) = omega arith
one_read (Spoken (DataFirst id total bytes)) = omega arith
one_read (Spoken (Data id bytes)) = omega arith
one_read (Spoken (CompressedFirst id total bytes)) = omega arith
one_read (Spoken (Compressed id bytes)) = omega arith
one_read (Spoken (Close id)) = omega arith
one_read (Spoken (SyncRequest flags tunnels lists)) = omega arith
one_read (Spoken (SyncResponse types)) = omega arith

-- a frame makes one answer more be owed, at most
owed_then : (s now : Store) (t : Trace Act) (heard : Heard) (gone : Gone) → Stands s t gone → Stands now (t ▷ Hears heard) gone → now.owed ≤ s.owed + 1
owed_then s now t heard gone before after =
    let same : read (t ▷ Hears heard) ≡ exchanges (all_told read_by t ++ read_by (Hears heard)) (all_told answer_made t) = ap (exchanges (all_told read_by (t ▷ Hears heard))) (append-nil (all_told answer_made t)) in
    omega (
      arith,
      (before.knows).owed_is,
      (after.knows).owed_is,
      ap (λ xs. length (unanswered_in xs)) same,
      more_owed (all_told read_by t) (read_by (Hears heard)) (all_told answer_made t),
      one_read heard,
    )

-- ---- a frame that isn't read

grown_front : (role : Role) (t : Trace Act) (act : Act) → IsFront (t ▷ act) (grown role t act).acts
grown_front role t act = front_then (t ▷ act) (answered role (t ▷ act)) (grown role t act).acts (answered_front role (t ▷ act)) (all_front role (freed t act) (answered role (t ▷ act)))

unread_came : (role : Role) (at n : ℕ) (r : Result Heard DvcRefusal) (t : Trace Act) (why : Unread) (gone : Gone) (s : Store) → at ≡ told_place n → IsUnread role r t why → Stands s t gone
    → s.broken ≡ Some (unread_at (place.Main at) why) → CameTo (past_of t) (reads_heard role n r (past_of t)) gone s
unread_came role at n (Ok heard) t (unread.Pdu refusal) gone s at_is h st b = absurd h
unread_came role at n (Err refusal) t (unread.Cause cause) gone s at_is h st b = absurd h
unread_came role at n (Err refusal) t (unread.Pdu found) gone s at_is h st b = came st (b ∙ ap (λ f. Some (fault.Pdu (place.Main at) f)) h ∙ ap (λ m. Some (fault.Pdu (place.Main m) refusal)) at_is)
unread_came role at n (Ok heard) t (unread.Cause cause) gone s at_is h st b = by_why (why_of cause) refl where
  by_why : (w : Option Why) → why_of cause ≡ w → CameTo (past_of t) (reads_heard role n (Ok heard) (past_of t)) gone s
  by_why (Some w) e =
      subst (λ f. CameTo (past_of t) (reads role (on_main n) f (Hears heard) (past_of t)) gone s) (sym (h.0 ∙ e))
      (came st (b ∙ ap (λ f. Some (fault_by (place.Main at) f)) e ∙ ap (λ m. Some (fault_at (place.Main m) w)) at_is))
  by_why None e =
      subst (λ f. CameTo (past_of t) (reads role (on_main n) f (Hears heard) (past_of t)) gone s) (sym (h.0 ∙ e))
      (lacked t (record { begun = whole t; next = Hears heard; takes = subst (MayLack (Hears heard)) e h.1; due = grown_front role t (Hears heard) }) st (b ∙ ap (λ f. Some (fault_by (place.Main at) f)) e))

pub unread_whole : (s first last : Store) (f : Fault) (at n : ℕ) (r : Result Heard DvcRefusal) (t : Trace Act) (why : Unread) (gone : Gone) → at ≡ told_place n → first ≡ s → f ≡ unread_at (place.Main at) why → last ≡ record first { broken = Some f }
    → IsUnread s.role r t why → Stands s t gone → CameTo (past_of t) (reads_heard s.role n r (past_of t)) gone last
unread_whole s first last f at n r t why gone at_is same f_is last_is h st =
    subst (λ x. CameTo (past_of t) (reads_heard s.role n r (past_of t)) gone x) (sym last_is)
    (unread_came s.role at n r t why gone (record first { broken = Some f }) at_is h (broken_stands first t gone (Some f) (subst (λ x. Stands x t gone) (sym same) st)) (ap Some f_is))

-- ---- one that is read

all_came : (role : Role) (n : ℕ) (t : Trace Act) (heard : Heard) (gone : Gone) (s : Store) → main_fault role t heard ≡ None → Came (grown role t (Hears heard)) gone s → s.broken ≡ None
    → CameTo (past_of t) (reads_heard role n (Ok heard) (past_of t)) gone s
all_came role n t heard gone s fine c b =
    subst (λ f. CameTo (past_of t) (reads role (on_main n) f (Hears heard) (past_of t)) gone s) (sym fine) (came c.1 (b ∙ sym (ap (λ o. option_map (λ (f : ℕ × Why). fault_at (in_tunnel f.0) f.1) o) c.0)))

-- a PDU that was held isn't taken
ended_came : (role : Role) (n : ℕ) (t : Trace Act) (heard : Heard) (gone : Gone) (s : Store) (untaken : Untaken) → main_fault role t heard ≡ None
    → Ended (answered role (t ▷ Hears heard)) (grown role t (Hears heard)) gone s untaken
    → CameTo (past_of t) (reads_heard role n (Ok heard) (past_of t)) gone (record s { broken = Some (fault_by (place.Reliable untaken.at) (why_of untaken.cause)) })
ended_came role n t heard gone s untaken fine (inl m) =
    let b = Some (fault_by (place.Reliable untaken.at) (why_of untaken.cause)) in
    subst (λ f. CameTo (past_of t) (reads role (on_main n) f (Hears heard) (past_of t)) gone (record s { broken = b })) (sym fine)
    (came (broken_stands s _ gone b m.stands)
    (ap (λ w. Some (fault_by (place.Reliable untaken.at) w)) m.cause_is ∙ ap (λ k. Some (fault_at (place.Reliable k) m.why)) m.at_is
    ∙ sym (ap (λ o. option_map (λ (f : ℕ × Why). fault_at (in_tunnel f.0) f.1) o) m.fault_is)))
ended_came role n t heard gone s untaken fine (inr l) =
    let b = Some (fault_by (place.Reliable untaken.at) (why_of untaken.cause)) in
    let act = Hears heard in
    subst (λ f. CameTo (past_of t) (reads role (on_main n) f act (past_of t)) gone (record s { broken = b })) (sym fine)
    (lacked l.reached
    (record {
      begun = front_then t (answered role (t ▷ act)) l.reached (front_then t (t ▷ act) (answered role (t ▷ act)) (shorter t t act (whole t)) (answered_front role (t ▷ act))) l.begun;
      next = l.next;
      takes = l.takes;
      due = l.due;
    })
    (broken_stands s l.reached gone b l.stands) (ap (λ w. Some (fault_by (place.Reliable untaken.at) w)) l.cause_is))

-- ---- what it frees

none_freed : (t : Trace Act) (heard : Heard) → pdu_in heard ≡ None → freed t (Hears heard) ≡ []
none_freed t (TunnelAsked id kind cookie) h = refl
none_freed t (TunnelAnswered id hr) h = refl
none_freed t (Spoken pdu) h = absurd (let no : Some pdu ≡ None = h in cc)

spoken_is : (heard : Heard) (pdu : Pdu) → pdu_in heard ≡ Some pdu → heard ≡ Spoken pdu
spoken_is (TunnelAsked id kind cookie) pdu h = absurd (let no : None ≡ Some pdu = h in cc)
spoken_is (TunnelAnswered id hr) pdu h = absurd (let no : None ≡ Some pdu = h in cc)
spoken_is (Spoken made) pdu h = let e : Some made ≡ Some pdu = h in cc

channels_same : (number : ℕ) (rs : List Request) (zs ys : List Kinds) → channels_at number (exchanges rs zs) ≡ channels_at number (exchanges rs ys)
channels_same number [] zs ys = refl
channels_same zero (r ∷ rs) [] [] = refl
channels_same zero (r ∷ rs) [] (y ∷ ys) = refl
channels_same zero (r ∷ rs) (z ∷ zs) [] = refl
channels_same zero (r ∷ rs) (z ∷ zs) (y ∷ ys) = refl
channels_same (suc number) (r ∷ rs) [] [] = refl
channels_same (suc number) (r ∷ rs) [] (y ∷ ys) = channels_same number rs [] ys
channels_same (suc number) (r ∷ rs) (z ∷ zs) [] = channels_same number rs zs []
channels_same (suc number) (r ∷ rs) (z ∷ zs) (y ∷ ys) = channels_same number rs zs ys

moved_same : (request : Option ℕ) (rs : List Request) (zs ys : List Kinds) → moved_by request (exchanges rs zs) ≡ moved_by request (exchanges rs ys)
moved_same None rs zs ys = refl
moved_same (Some number) rs zs ys = channels_same number rs zs ys

oldest_moved : (kinds : Kinds) (xs : List Exchange) (request : Option ℕ) → behind xs ≡ request → among kinds (moved_by request xs) ≡ oldest_among kinds (unanswered_in xs)
oldest_moved kinds xs None h = sym (ap (oldest_among kinds) (none_behind 0 xs h))
oldest_moved kinds xs (Some number) h =
    let o = oldest number xs h in ap (among kinds) o.channels_are ∙ sym (ap (oldest_among kinds) o.is_oldest)

freed_is : (t : Trace Act) (pdu : Pdu) (request : Option ℕ) (xs : List Exchange) → request ≡ behind (made t) → xs ≡ made (t ▷ Hears (Spoken pdu)) → freed_by pdu request xs ≡ freed t (Hears (Spoken pdu))
freed_is t (SyncResponse types) request xs r e =
    let rs = all_told made_by t in
    let zs = all_told answer_read t in
    ap (λ l. among (kinds_of types) (moved_by request l)) (e ∙ ap (λ l. exchanges l (zs ++ kinds_of types ∷ [])) (append-nil rs))
    ∙ ap (among (kinds_of types)) (moved_same request rs (zs ++ kinds_of types ∷ []) zs) ∙ oldest_moved (kinds_of types) (made t) request (sym r)
freed_is t (SyncRequest flags tunnels lists) request xs r e = refl
freed_is t (Caps version charges) request xs r e = refl
freed_is t (CreateRequest id priority name) request xs r e = refl
freed_is t (CreateResponse id status) request xs r e = refl
freed_is t (DataFirst id total bytes) request xs r e = refl
freed_is t (Data id bytes) request xs r e = refl
freed_is t (CompressedFirst id total bytes) request xs r e = refl
freed_is t (Compressed id bytes) request xs r e = refl
freed_is t (Close id) request xs r e = refl

-- the words of what it frees are read
are_through : (t : Trace Act) (w : Words) (channels : List (ℕ × Kind)) → ((id : ℕ) → words.inward id w ≡ inward id t) → EachIn (IsRead t) channels → AreThrough channels w
are_through t w [] h e = tt
are_through t w ((id, kind) ∷ channels) h e = (ap (is_through kind) (h id) ∙ e.0, are_through t w channels h e.1)

freed_through : (s : Store) (role : Role) (t : Trace Act) (act : Act) (gone : Gone) → s.role ≡ role → Stands s (answered role (t ▷ act)) gone → AreThrough (freed t act) s.paths
freed_through s role t act gone same st =
    let u = answered role (t ▷ act) in
    let lawful : EndOfActs role u = subst (λ r. EndOfActs r u) same (st.knows).lawful in
    are_through (t ▷ act) s.paths (freed t act) (λ id. inward_is s u gone id st ∙ answered_inward role (t ▷ act) lawful id)
    (each_freed role t act (front_acts role (t ▷ act) u (answered_front role (t ▷ act)) lawful))

-- ---- how many

among_fewer : (kinds : Kinds) (channels : List (ℕ × Kind)) → length (among kinds channels) ≤ length channels
among_fewer kinds [] = omega arith
among_fewer kinds ((id, kind) ∷ channels) = by_test (has kind kinds) (among_fewer kinds channels) where
  by_test : (b : Bool) → length (among kinds channels) ≤ length channels → length (cond b ((id, kind) ∷ among kinds channels) (among kinds channels)) ≤ length ((id, kind) ∷ channels)
  by_test true deeper = omega (arith, deeper)
  by_test false deeper = omega (arith, deeper)

pub few_moved : (s : Store) (t : Trace Act) (gone : Gone) (request : Option ℕ) → Stands s t gone → length (moved_by request (s.paths).made) ≤ 256
few_moved s t gone None st = omega arith
few_moved s t gone (Some number) st = subst (λ xs. length (channels_at number xs) ≤ 256) (sym ((st.knows).words_are).made_are) (few_at s.role t number (st.knows).lawful)

few_by : (s now : Store) (pdu : Pdu) (request : Option ℕ) (t u : Trace Act) (gone : Gone) → Stands s t gone → main_fault s.role t (Spoken pdu) ≡ None → Stands now u gone → length (freed_by pdu request (now.paths).made) ≤ 256
few_by s now (SyncRequest flags tunnels lists) request t u gone before fine after = few_channels s t gone lists before (may_hear s t flags tunnels lists fine)
few_by s now (SyncResponse types) request t u gone before fine after =
    omega (arith, among_fewer (kinds_of types) (moved_by request (now.paths).made), few_moved now u gone request after)
few_by s now (Caps version charges) request t u gone before fine after = omega arith
few_by s now (CreateRequest id priority name) request t u gone before fine after = omega arith
few_by s now (CreateResponse id status) request t u gone before fine after = omega arith
few_by s now (DataFirst id total bytes) request t u gone before fine after = omega arith
few_by s now (Data id bytes) request t u gone before fine after = omega arith
few_by s now (CompressedFirst id total bytes) request t u gone before fine after = omega arith
few_by s now (Compressed id bytes) request t u gone before fine after = omega arith
few_by s now (Close id) request t u gone before fine after = omega arith

-- ---- a frame that is read, with its answers

-- what the reading of a frame says, and then its answers
pub record HasRead (s first now : Store) (r : Result Heard DvcRefusal) : Type 0 where
  pub heard : (t : Trace Act) (gone : Gone) → Stands s t gone → IsHeard s.role r t gone first
  pub role_is : first.role ≡ s.role
  pub answered_all : (t : Trace Act) (gone : Gone) → Stands first t gone → Stands now (answered first.role t) gone

pub owed_more : (s first : Store) (r : Result Heard DvcRefusal) (t : Trace Act) (gone : Gone) → Stands s t gone → IsHeard s.role r t gone first → first.owed ≤ s.owed + 1
owed_more s first (Ok heard) t gone st h = owed_then s first t heard gone st h.1
owed_more s first (Err refusal) t gone st h = absurd h

pub room_to_answer : (s first : Store) (r : Result Heard DvcRefusal) → ((t : Trace Act) × (gone : Gone) × Stands s t gone) → ((t : Trace Act) (gone : Gone) → Stands s t gone → IsHeard s.role r t gone first)
    → length (s.outgoing).main + (CONTROL + ANSWER * s.owed) ≤ MAIN_QUEUE → length (first.outgoing).main ≤ length (s.outgoing).main + 12 → length (first.outgoing).main + 17 * first.owed ≤ MAIN_QUEUE
room_to_answer s first r w heard room written = omega (arith, room, written, owed_more s first r w.0 w.1 w.2 (heard w.0 w.1 w.2))

-- an end that stands for a PDU that was heard, and for its answers
pub record IsDue (s now : Store) (r : Result Heard DvcRefusal) (pdu : Pdu) (request : Option ℕ) (t : Trace Act) (gone : Gone) : Type 0 where
  pub says : r ≡ Ok (Spoken pdu)
  pub fine : main_fault s.role t (Spoken pdu) ≡ None
  pub stands : Stands now (answered s.role (t ▷ Hears (Spoken pdu))) gone
  pub freed_are : freed_by pdu request (now.paths).made ≡ freed t (Hears (Spoken pdu))
  pub few : length (freed_by pdu request (now.paths).made) ≤ 256
  pub made_are : (now.paths).made ≡ made (t ▷ Hears (Spoken pdu))

pub due : (s first now : Store) (r : Result Heard DvcRefusal) (pdu : Pdu) (request : Option ℕ) (t : Trace Act) (gone : Gone) → HasRead s first now r → spoken_in r ≡ Some pdu → request ≡ behind (s.paths).made → Stands s t gone
    → IsDue s now r pdu request t gone
due s first now r pdu request t gone w spoken oldest st = of r spoken (w.heard t gone st) where
  of : (r : Result Heard DvcRefusal) → spoken_in r ≡ Some pdu → IsHeard s.role r t gone first → IsDue s now r pdu request t gone
  of (Err refusal) e h = absurd h
  of (Ok heard) e h =
      let is = spoken_is heard pdu e in
      let k : IsHeard s.role (Ok (Spoken pdu)) t gone first = subst (λ x. IsHeard s.role (Ok x) t gone first) is h in
      let act = Hears (Spoken pdu) in
      let stands = subst (λ role. Stands now (answered role (t ▷ act)) gone) w.role_is (w.answered_all (t ▷ act) gone k.1) in
      let made_are : (now.paths).made ≡ made (t ▷ act) = ((stands.knows).words_are).made_are ∙ answered_made s.role (t ▷ act) in record {
        says = ap Ok is;
        fine = k.0;
        stands = stands;
        freed_are = freed_is t pdu request (now.paths).made (oldest ∙ ap behind ((st.knows).words_are).made_are) made_are;
        few = few_by s now pdu request t (answered s.role (t ▷ act)) gone st k.0 stands;
        made_are = made_are;
      }

-- the number of the request that it answers stays one
pub number_stays : (s now : Store) (r : Result Heard DvcRefusal) (pdu : Pdu) (request : Option ℕ) (t : Trace Act) (gone : Gone) → Stands s t gone → IsDue s now r pdu request t gone → request ≡ behind (s.paths).made
    → IfSome request (λ number. number < length (now.paths).made)
number_stays s now r pdu None t gone st d oldest = tt
number_stays s now r pdu (Some number) t gone st d oldest =
    let act = Hears (Spoken pdu) in
    let count : length (made t) ≡ length (all_told made_by t) = as_many_read (all_told made_by t) (all_told answer_read t) in
    let count_now : length (made (t ▷ act)) ≡ length (all_told made_by (t ▷ act)) = as_many_read (all_told made_by (t ▷ act)) (all_told answer_read (t ▷ act)) in
    let same : length (all_told made_by (t ▷ act)) ≡ length (all_told made_by t) = ap (λ (rs : List Request). length rs) (append-nil (all_told made_by t)) in
    let before : length (s.paths).made ≡ length (made t) = ap (λ (xs : List Exchange). length xs) ((st.knows).words_are).made_are in
    let after : length (now.paths).made ≡ length (made (t ▷ act)) = ap (λ (xs : List Exchange). length xs) d.made_are in
    omega (arith, (at_least 0 number (s.paths).made (sym oldest)).1, before, count, same, count_now, after)

pub words_due : (s now : Store) (r : Result Heard DvcRefusal) (pdu : Pdu) (request : Option ℕ) (t : Trace Act) (gone : Gone) → now.role ≡ s.role → IsDue s now r pdu request t gone → AreThrough (freed_by pdu request (now.paths).made) now.paths
words_due s now r pdu request t gone same d = subst (λ l. AreThrough l now.paths) (sym d.freed_are) (freed_through now s.role t (Hears (Spoken pdu)) gone same d.stands)

-- the room of all that it may free
pub room_to_free : (s first now : Store) (r : Result Heard DvcRefusal) (pdu : Pdu) (request : Option ℕ) (t : Trace Act) (gone : Gone) → HasRead s first now r → Stands s t gone → IsDue s now r pdu request t gone
    → length (s.outgoing).main + (CONTROL + ANSWER * s.owed) ≤ MAIN_QUEUE → waiting_for Reliable s.outgoing ≡ []
    → (length (first.outgoing).main ≤ length (s.outgoing).main + 12) × (length (waiting_for Reliable first.outgoing) ≤ length (waiting_for Reliable s.outgoing) + 9)
    → length (now.outgoing).main ≤ length (first.outgoing).main + 17 * first.owed → ((kind : Kind) → waiting_for kind now.outgoing ≡ waiting_for kind first.outgoing) → HasRoomFor (length (freed_by pdu request (now.paths).made)) now.outgoing
room_to_free s first now r pdu request t gone w st d room empty written more same = record {
  main_room = omega (arith, room, written.0, more, d.few, owed_more s first r t gone st (w.heard t gone st));
  reliable_room = omega (arith, ap (λ (x : List ℕ). length x) empty, written.1, ap (λ (x : List ℕ). length x) (same Reliable), d.few);
}

-- ---- what comes of it

-- a frame that carries no channel PDU
pub none_came : (s first now : Store) (r : Result Heard DvcRefusal) (n : ℕ) (t : Trace Act) (gone : Gone) → HasRead s first now r → spoken_in r ≡ None → now.broken ≡ None → Stands s t gone → CameTo (past_of t) (reads_heard s.role n r (past_of t)) gone now
none_came s first now r n t gone w none b st = of r none (w.heard t gone st) where
  of : (r : Result Heard DvcRefusal) → spoken_in r ≡ None → IsHeard s.role r t gone first → CameTo (past_of t) (reads_heard s.role n r (past_of t)) gone now
  of (Err refusal) e h = absurd h
  of (Ok heard) e h =
      let act = Hears heard in
      let stands = subst (λ role. Stands now (answered role (t ▷ act)) gone) w.role_is (w.answered_all (t ▷ act) gone h.1) in
      all_came s.role n t heard gone now h.0 (subst (λ l. Came (release_all s.role l (answered s.role (t ▷ act))) gone now) (sym (none_freed t heard e)) (refl, stands)) b

-- all that was held came
pub whole_came : (s now after : Store) (r : Result Heard DvcRefusal) (pdu : Pdu) (request : Option ℕ) (n : ℕ) (t : Trace Act) (gone : Gone) → now.role ≡ s.role → IsDue s now r pdu request t gone
    → ((u : Trace Act) (gone : Gone) → Stands now u gone → Came (release_all now.role (freed_by pdu request (now.paths).made) u) gone after) → after.broken ≡ None → CameTo (past_of t) (reads_heard s.role n r (past_of t)) gone after
whole_came s now after r pdu request n t gone same d did b =
    let u = answered s.role (t ▷ Hears (Spoken pdu)) in
    subst (λ r. CameTo (past_of t) (reads_heard s.role n r (past_of t)) gone after) (sym d.says)
    (all_came s.role n t (Spoken pdu) gone after d.fine
    (subst (λ role. Came (release_all role (freed t (Hears (Spoken pdu))) u) gone after) same (subst (λ l. Came (release_all now.role l u) gone after) d.freed_are (did u gone d.stands))) b)

-- or a PDU that was held isn't taken
pub part_came : (s now after last : Store) (r : Result Heard DvcRefusal) (pdu : Pdu) (request : Option ℕ) (n : ℕ) (t : Trace Act) (gone : Gone) (untaken : Untaken) (f : Fault) → now.role ≡ s.role → IsDue s now r pdu request t gone
    → ((u : Trace Act) (gone : Gone) → Stands now u gone → Ended u (release_all now.role (freed_by pdu request (now.paths).made) u) gone after untaken) → f ≡ fault_by (place.Reliable untaken.at) (why_of untaken.cause)
    → last ≡ record after { broken = Some f } → CameTo (past_of t) (reads_heard s.role n r (past_of t)) gone last
part_came s now after last r pdu request n t gone untaken f same d ended f_is last_is =
    let u = answered s.role (t ▷ Hears (Spoken pdu)) in
    subst (λ x. CameTo (past_of t) (reads_heard s.role n r (past_of t)) gone x) (sym (last_is ∙ ap (λ (g : Fault). record after { broken = Some g }) f_is))
    (subst (λ r. CameTo (past_of t) (reads_heard s.role n r (past_of t)) gone (record after { broken = Some (fault_by (place.Reliable untaken.at) (why_of untaken.cause)) })) (sym d.says)
    (ended_came s.role n t (Spoken pdu) gone after untaken d.fine
    (subst (λ role. Ended u (release_all role (freed t (Hears (Spoken pdu))) u) gone after untaken) same (subst (λ l. Ended u (release_all now.role l u) gone after untaken) d.freed_are (ended u gone d.stands)))))

-- ---- what waits

-- a frame that frees channels is no close, and writes nothing itself
moves_write : (role : Role) (t : Trace Act) (flags : ℕ) (tunnels : ℕ) (lists : List ChannelList) → adds role t (Hears (Spoken (SyncRequest flags tunnels lists))) ≡ []
moves_write Server t flags tunnels lists = refl
moves_write Client t flags tunnels lists = refl

moved_writes : (role : Role) (t : Trace Act) (types : List Kind) → adds role t (Hears (Spoken (SyncResponse types))) ≡ []
moved_writes Server t types = refl
moved_writes Client t types = refl

closes_alone : (s first : Store) (pdu : Pdu) (request : Option ℕ) (xs : List Exchange) (t : Trace Act) (gone : Gone) → first.role ≡ s.role → Stands s t gone → Stands first (t ▷ Hears (Spoken pdu)) gone
    → length (waiting_for Reliable first.outgoing) ≤ length (waiting_for Reliable s.outgoing) + 9 → length (freed_by pdu request xs) ≤ 256
    → length (waiting_for Reliable first.outgoing) + 9 * length (freed_by pdu request xs) ≤ length (waiting_for Reliable s.outgoing) + 2304
closes_alone s first (SyncRequest flags tunnels lists) request xs t gone same before after written few =
    omega (arith, few, heard_quiet s first t (Spoken (SyncRequest flags tunnels lists)) gone same (moves_write s.role t flags tunnels lists) before after)
closes_alone s first (SyncResponse types) request xs t gone same before after written few =
    omega (arith, few, heard_quiet s first t (Spoken (SyncResponse types)) gone same (moved_writes s.role t types) before after)
closes_alone s first (Caps version charges) request xs t gone same before after written few = omega (arith, written)
closes_alone s first (CreateRequest id priority name) request xs t gone same before after written few = omega (arith, written)
closes_alone s first (CreateResponse id status) request xs t gone same before after written few = omega (arith, written)
closes_alone s first (DataFirst id total bytes) request xs t gone same before after written few = omega (arith, written)
closes_alone s first (Data id bytes) request xs t gone same before after written few = omega (arith, written)
closes_alone s first (CompressedFirst id total bytes) request xs t gone same before after written few = omega (arith, written)
closes_alone s first (Compressed id bytes) request xs t gone same before after written few = omega (arith, written)
closes_alone s first (Close id) request xs t gone same before after written few = omega (arith, written)

pub reliable_bound : (s first now after : Store) (r : Result Heard DvcRefusal) (pdu : Pdu) (request : Option ℕ) (t : Trace Act) (gone : Gone) → HasRead s first now r → Stands s t gone → IsDue s now r pdu request t gone → waiting_for Reliable s.outgoing ≡ []
    → length (waiting_for Reliable first.outgoing) ≤ length (waiting_for Reliable s.outgoing) + 9 → ((kind : Kind) → waiting_for kind now.outgoing ≡ waiting_for kind first.outgoing)
    → length (waiting_for Reliable after.outgoing) ≤ length (waiting_for Reliable now.outgoing) + 9 * length (freed_by pdu request (now.paths).made) → length (waiting_for Reliable after.outgoing) ≤ 2304
reliable_bound s first now after r pdu request t gone w st d empty written same more =
    let heard : IsHeard s.role (Ok (Spoken pdu)) t gone first = subst (λ r. IsHeard s.role r t gone first) d.says (w.heard t gone st) in
    let all = closes_alone s first pdu request (now.paths).made t gone w.role_is st heard.1 written d.few in
    omega (arith, ap (λ (x : List ℕ). length x) empty, ap (λ (x : List ℕ). length x) (same Reliable), more, all)

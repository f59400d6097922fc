-- A tunnel PDU of a link does all that it makes due.
use Rattle.std.proofs.Common.{◌≡◌, ℕ, ◌+◌, ◌*◌, ◌≤◌, Bool, true, false, cond, eqb, is_some, List, [], ◌∷◌, length, Option, Some, None, Result, Ok, Err, option_map, inl, inr, refl, sym, ap, subst, ◌∙◌, arith}
use Rattle.std.proofs.lemmas.Bool.{eqb-true}
use Rattle.mt_base.specs.Ends.{other}
use Rattle.mt_base.specs.Trace.{Trace, ◌▷◌}
use Rattle.mt_base.specs.declared.kinds.Kind.{Kind}
use Rattle.mt_base.specs.declared.kinds.Kind.TheVariants.{Reliable, Lossy}
use Rattle.mt_base.specs.declared.kinds.Role.{Role}
use Rattle.mt_base.specs.declared.kinds.Role.TheVariants.{Server, Client}
use Rattle.dvc_pdus.specs.Value.{Pdu}
use Rattle.dvc_pdus.specs.declared.pdu.DvcRefusal.{DvcRefusal}
use Rattle.dvc_pdus.specs.Reading.{reading}
use Rattle.hold_queue.specs.Held as hold
use Rattle.soft_sync.specs.Words as words
use Rattle.tunnel_pdus.specs.Reading.{reading as tunnel_reading}
use Rattle.tunnel_pdus.specs.Value.{Data}
use Rattle.tunnel_pdus.specs.Value as tunnel
use Rattle.tunnel_pdus.specs.declared.part.Part.{Part}
use Rattle.tunnel_pdus.specs.declared.part.Part.TheVariants.{Whole, More}
use Rattle.tunnel_pdus.specs.declared.part.TunnelRefusal.{TunnelRefusal}
use Rattle.tunnel_cookies.specs.Entries.{entry_of}
use Rattle.tunnel_cookies.specs.declared.entry.Verdict.{Verdict}
use Rattle.mt_endpoint.specs.Acts.{Act, Draws, Judges, Misses, Drawn, CreateAsked, CreateAnswered, Nothing, Carried}
use Rattle.mt_endpoint.specs.Faults.{Why}
use Rattle.mt_endpoint.specs.Growing.{answered, fine, freed, grown, if_through, release_all}
use Rattle.mt_endpoint.specs.Holding.{Held, channel_of, held, is_of, is_through, only}
use Rattle.mt_endpoint.specs.Moving.{inward}
use Rattle.mt_endpoint.specs.Resting.{Rests}
use Rattle.mt_endpoint.specs.World.{IsJudged}
use Rattle.end_calls.specs.Streams.{carried_by, drawing, drawn_by, fault_at, grows, if_ok, if_whole, in_tunnel, missed_or, reads, reads_drawn, told_place, verdict_by, with_part}
use Rattle.end_calls.specs.declared.fault.Fault.{Fault}
use Rattle.end_calls.specs.declared.fault.Place.TheVariants as place
use Rattle.end_calls.specs.declared.limits.TheConstants.{ANSWER, CONTROL, MAIN_QUEUE}
use Rattle.end_session.specs.declared.cause.Cause.{Cause}
use Rattle.end_session.specs.declared.untaken.Untaken.{Untaken}
use Rattle.end_session.specs.AnswerDue.{due_in}
use Rattle.end_session.specs.Behind.{IsAhead, IsBehind, NoneHeld}
use Rattle.end_session.specs.Causes.{IsCause, fault_by, why_of}
use Rattle.end_session.specs.Coming.{Came, CameTo, Ended, came, lacked, past_of}
use Rattle.end_session.specs.Drawing.{drawn_fault, held_of}
use Rattle.end_session.specs.Outgoing.{waiting_for}
use Rattle.end_session.specs.Pulling.{IsDrawn, MayDraw, reads_from, whole_part}
use Rattle.end_session.specs.Standing.{AreKept, Gone, Stands}
use Rattle.end_session.specs.Store.{Store}
use Rattle.end_session.proofs.DataHeard.{inward_is}
use Rattle.end_session.proofs.Drawn.{still, still_missed}
use Rattle.end_session.proofs.DueKept.{due_still}
use Rattle.end_session.proofs.Freed.{kept_of}
use Rattle.end_session.proofs.Passed.{quiet_by, same_channel}
use Rattle.end_session.proofs.Still.{IsStill}
use Rattle.end_session.proofs.WholeHeard.{broken_stands}

-- ---- what comes of it

-- it has no fault, and all of it came
all_drawn : (role : Role) (kind : Kind) (n : ℕ) (is_full : Bool) (drawn : Drawn) (t : Trace Act) (gone : Gone) (s : Store) → drawn_fault role kind t drawn ≡ None → Came (grown role t (drawing role kind n t is_full drawn)) gone s → s.broken ≡ None
    → CameTo (past_of t) (reads_from role kind n is_full drawn (past_of t)) gone s
all_drawn role kind n is_full drawn t gone s none c b =
    subst (λ f. CameTo (past_of t) (reads role (in_tunnel n) f (drawing role kind n t is_full drawn) (past_of t)) gone s) (sym none)
    (came c.1 (b ∙ sym (ap (λ o. option_map (λ (f : ℕ × Why). fault_at (in_tunnel f.0) f.1) o) c.0)))

-- it has a fault, which breaks the end
pub refused : (s first last : Store) (kind : Kind) (at n : ℕ) (is_full : Bool) (drawn : Drawn) (t : Trace Act) (gone : Gone) (cause : Cause) (f : Fault) → at ≡ told_place n → first ≡ s → IsCause (drawn_fault s.role kind t drawn) cause
    → is_some (why_of cause) ≡ true → f ≡ fault_by (place.Reliable at) (why_of cause) → last ≡ record first { broken = Some f } → Stands s t gone → CameTo (past_of t) (reads_from s.role kind n is_full drawn (past_of t)) gone last
refused s first last kind at n is_full drawn t gone cause f at_is same found told f_is last_is st =
    subst (λ x. CameTo (past_of t) (reads_from s.role kind n is_full drawn (past_of t)) gone x) (sym last_is) (by_why (why_of cause) refl told) where
      stands : Stands (record first { broken = Some f }) t gone
      stands = broken_stands first t gone (Some f) (subst (λ x. Stands x t gone) (sym same) st)

      by_why : (w : Option Why) → why_of cause ≡ w → is_some w ≡ true → CameTo (past_of t) (reads_from s.role kind n is_full drawn (past_of t)) gone (record first { broken = Some f })
      by_why None e h = absurd (let never : false ≡ true = h in cc)
      by_why (Some w) e h =
          subst (λ o. CameTo (past_of t) (reads s.role (in_tunnel n) o (drawing s.role kind n t is_full drawn) (past_of t)) gone (record first { broken = Some f })) (sym (found ∙ e))
          (came stands (ap (λ x. Some x) f_is ∙ ap (λ x. Some (fault_by (place.Reliable at) x)) e ∙ ap (λ m. Some (fault_at (place.Reliable m) w)) at_is))

-- its release isn't taken, which breaks the end
part_drawn : (role : Role) (after last : Store) (kind : Kind) (n : ℕ) (is_full : Bool) (drawn : Drawn) (t : Trace Act) (gone : Gone) (untaken : Untaken) (f : Fault) → drawn_fault role kind t drawn ≡ None
    → Ended t (grown role t (drawing role kind n t is_full drawn)) gone after untaken → f ≡ fault_by (place.Reliable untaken.at) (why_of untaken.cause) → last ≡ record after { broken = Some f }
    → CameTo (past_of t) (reads_from role kind n is_full drawn (past_of t)) gone last
part_drawn role after last kind n is_full drawn t gone untaken f none ended f_is last_is =
    subst (λ x. CameTo (past_of t) (reads_from role kind n is_full drawn (past_of t)) gone x) (sym last_is)
    (subst (λ o. CameTo (past_of t) (reads role (in_tunnel n) o (drawing role kind n t is_full drawn) (past_of t)) gone (record after { broken = Some f })) (sym none) (of ended)) where
      of : Ended t (grown role t (drawing role kind n t is_full drawn)) gone after untaken → CameTo (past_of t) (grows role (drawing role kind n t is_full drawn) (past_of t)) gone (record after { broken = Some f })
      of (inl m) =
          came (broken_stands after _ gone (Some f) m.stands)
          (ap (λ x. Some x) f_is ∙ ap (λ w. Some (fault_by (place.Reliable untaken.at) w)) m.cause_is ∙ ap (λ k. Some (fault_at (place.Reliable k) m.why)) m.at_is
          ∙ sym (ap (λ o. option_map (λ (f : ℕ × Why). fault_at (in_tunnel f.0) f.1) o) m.fault_is))
      of (inr l) =
          lacked l.reached (record { begun = l.begun; next = l.next; takes = l.takes; due = l.due }) (broken_stands after l.reached gone (Some f) l.stands)
          (ap (λ x. Some x) f_is ∙ ap (λ w. Some (fault_by (place.Reliable untaken.at) w)) l.cause_is)

-- ---- acts that make nothing due

one_act : (s : Store) (t : Trace Act) (gone : Gone) (act : Act) → (s.role ≡ Client → due_in s ≡ None) → (s.role ≡ Client → IsStill Client t act) → freed t act ≡ [] → Stands s t gone → grown s.role t act ≡ fine (t ▷ act)
one_act s t gone act quiet i none st =
    ap (λ l. release_all s.role l (answered s.role (t ▷ act))) none ∙ ap fine (quiet_by s.role (t ▷ act) (λ is. due_still s t gone act is st (i is) ∙ quiet is))

-- of what is pulled, a server judges a create request alone
draws_is : (role : Role) (kind : Kind) (n : ℕ) (t : Trace Act) (is_full : Bool) (drawn : Drawn) → IsJudged role drawn → drawing role kind n t is_full drawn ≡ Draws kind n drawn
draws_is Server kind n t is_full (CreateAsked id cookie) j = absurd j
draws_is Client kind n t is_full (CreateAsked id cookie) j = refl
draws_is Server kind n t is_full (CreateAnswered hr) j = refl
draws_is Client kind n t is_full (CreateAnswered hr) j = refl
draws_is Server kind n t is_full Nothing j = refl
draws_is Client kind n t is_full Nothing j = refl
draws_is Server kind n t is_full (Carried bytes pdu) j = refl
draws_is Client kind n t is_full (Carried bytes pdu) j = refl

pub carried_is : (role : Role) (kind : Kind) (n : ℕ) (t : Trace Act) (is_full : Bool) (bytes : List ℕ) (pdu : Pdu) → drawing role kind n t is_full (Carried bytes pdu) ≡ Draws kind n (Carried bytes pdu)
carried_is Server kind n t is_full bytes pdu = refl
carried_is Client kind n t is_full bytes pdu = refl

-- one that has no fault, tells nothing and releases nothing
quiet_drawn : (s now : Store) (kind : Kind) (n : ℕ) (is_full : Bool) (drawn : Drawn) (t : Trace Act) (gone : Gone) → MayDraw kind s → IsJudged s.role drawn → drawn_fault s.role kind t drawn ≡ None → IsStill Client t (Draws kind n drawn)
    → freed t (Draws kind n drawn) ≡ [] → now.broken ≡ s.broken → Stands s t gone → Stands now (t ▷ Draws kind n drawn) gone → CameTo (past_of t) (reads_from s.role kind n is_full drawn (past_of t)) gone now
quiet_drawn s now kind n is_full drawn t gone may judged none i freed_is b st after =
    let act = Draws kind n drawn in
    all_drawn s.role kind n is_full drawn t gone now none
    (subst (λ a. Came (grown s.role t a) gone now) (sym (draws_is s.role kind n t is_full drawn judged))
    (subst (λ g. Came g gone now) (sym (one_act s t gone act may.quiet (λ is. i) freed_is st)) (refl, after)))
    (b ∙ may.is_whole)

nothing_judged : (role : Role) → IsJudged role Nothing
nothing_judged Server = tt
nothing_judged Client = tt

nothing_fine : (role : Role) (kind : Kind) (t : Trace Act) → drawn_fault role kind t Nothing ≡ None
nothing_fine Server Reliable t = refl
nothing_fine Client Reliable t = refl
nothing_fine role Lossy t = refl

pub nothing_pulled : (s : Store) (kind : Kind) (n : ℕ) (is_full : Bool) (t : Trace Act) (gone : Gone) → MayDraw kind s → Stands s t gone → Stands s (t ▷ Draws kind n Nothing) gone → CameTo (past_of t) (reads_from s.role kind n is_full Nothing (past_of t)) gone s
nothing_pulled s kind n is_full t gone may st after =
    quiet_drawn s s kind n is_full Nothing t gone may (nothing_judged s.role) (nothing_fine s.role kind t) (still Client kind t n Nothing (λ k. refl)) refl refl st after

missed_part : (s : Store) (t : Trace Act) (gone : Gone) → MayDraw Lossy s → Stands s t gone → Stands s (t ▷ Misses) gone → CameTo (past_of t) (grows s.role Misses (past_of t)) gone s
missed_part s t gone may st after =
    let is = one_act s t gone Misses may.quiet (λ is. still_missed Client t) refl st in
    came (subst (λ g. Stands s g.acts gone) (sym is) after) (may.is_whole ∙ sym (ap (λ g. option_map (λ (f : ℕ × Why). fault_at (in_tunnel f.0) f.1) g.fault) is))

-- ---- create requests

pub request_pulled : (s : Store) (kind : Kind) (n : ℕ) (is_full : Bool) (id : ℕ) (cookie : List ℕ) (t : Trace Act) (gone : Gone) → s.role ≡ Client → MayDraw kind s
    → (drawn_fault s.role kind t (CreateAsked id cookie) ≡ None) × Stands s (t ▷ Draws kind n (CreateAsked id cookie)) gone → Stands s t gone
    → CameTo (past_of t) (reads_from s.role kind n is_full (CreateAsked id cookie) (past_of t)) gone s
request_pulled s kind n is_full id cookie t gone is may heard st =
    quiet_drawn s s kind n is_full (CreateAsked id cookie) t gone may (subst (λ r. IsJudged r (CreateAsked id cookie)) (sym is) tt) heard.0 (still Client kind t n (CreateAsked id cookie) (λ k. refl)) refl refl st heard.1

judged_fine : (kind : Kind) (t : Trace Act) (id : ℕ) (cookie : List ℕ) → drawn_fault Server kind t (CreateAsked id cookie) ≡ None
judged_fine Reliable t id cookie = refl
judged_fine Lossy t id cookie = refl

pub judged_pulled : (s now : Store) (kind : Kind) (n : ℕ) (is_full : Bool) (id : ℕ) (cookie : List ℕ) (verdict : Verdict) (t : Trace Act) (gone : Gone) → s.role ≡ Server → MayDraw kind s → verdict ≡ verdict_by kind cookie (entry_of id s.issued)
    → now.broken ≡ s.broken → Stands s t gone → Stands now (t ▷ Judges kind n id cookie verdict is_full) gone → CameTo (past_of t) (reads_from s.role kind n is_full (CreateAsked id cookie) (past_of t)) gone now
judged_pulled s now kind n is_full id cookie verdict t gone is may v b st after =
    subst (λ r. CameTo (past_of t) (reads_from r kind n is_full (CreateAsked id cookie) (past_of t)) gone now) (sym is)
    (all_drawn Server kind n is_full (CreateAsked id cookie) t gone now (judged_fine kind t id cookie)
    (refl, subst (λ x. Stands now (t ▷ Judges kind n id cookie x is_full) gone) (v ∙ ap (λ es. verdict_by kind cookie (entry_of id es)) (st.knows).issued_are) after) (b ∙ may.is_whole))

-- ---- answers to create requests

pub answer_pulled : (s first now : Store) (kind : Kind) (n : ℕ) (is_full : Bool) (hr : ℕ) (t : Trace Act) (gone : Gone) → first.role ≡ s.role → (drawn_fault s.role kind t (CreateAnswered hr) ≡ None) × Stands first (t ▷ Draws kind n (CreateAnswered hr)) gone
    → ((u : Trace Act) (gone : Gone) → Stands first u gone → Stands now (answered first.role u) gone) → now.broken ≡ None → CameTo (past_of t) (reads_from s.role kind n is_full (CreateAnswered hr) (past_of t)) gone now
answer_pulled s first now kind n is_full hr t gone same heard then b =
    let act = Draws kind n (CreateAnswered hr) in
    all_drawn s.role kind n is_full (CreateAnswered hr) t gone now heard.0
    (subst (λ a. Came (grown s.role t a) gone now) (sym (draws_is s.role kind n t is_full (CreateAnswered hr) (judged s.role)))
    (refl, subst (λ r. Stands now (answered r (t ▷ act)) gone) same (then (t ▷ act) gone heard.1)))
    b where
      judged : (role : Role) → IsJudged role (CreateAnswered hr)
      judged Server = tt
      judged Client = tt

-- ---- channel PDUs

none_oldest : (id : ℕ) (queue : List Held) (pdus : List hold.Pdu) → AreKept queue pdus → only id queue ≡ [] → hold.oldest id pdus ≡ None
none_oldest id [] [] k e = refl
none_oldest id [] (p ∷ pdus) k e = absurd k
none_oldest id (h ∷ queue) [] k e = absurd k
none_oldest id (h ∷ queue) (p ∷ pdus) k e = by_test (eqb p.id id) (sym (ap (λ o. cond (is_of id o) (h ∷ only id queue) (only id queue)) k.0.0) ∙ e) (none_oldest id queue pdus k.1) where
  by_test : (b : Bool) → cond b (h ∷ only id queue) (only id queue) ≡ [] → (only id queue ≡ [] → hold.oldest id pdus ≡ None) → cond b (Some p) (hold.oldest id pdus) ≡ None
  by_test true e deeper = absurd (let never : h ∷ only id queue ≡ [] = e in cc)
  by_test false e deeper = deeper e

-- an end at rest holds nothing of a channel whose word is read
pub none_held : (s : Store) (kind : Kind) (pdu : Pdu) (t : Trace Act) (gone : Gone) → Rests s.role t → IsBehind kind pdu s → Stands s t gone → NoneHeld kind pdu s
none_held s kind pdu t gone rests b st id of =
    let same = same_channel (channel_of pdu) b.id id b.channel_is of in
    let through : is_through kind (inward id t) ≡ true = ap (is_through kind) (sym (inward_is s t gone id st)) ∙ ap (λ x. is_through kind (words.inward x s.paths)) (sym same) ∙ b.through in
    none_oldest id (held s.role kind t) (held_of kind s) (kept_of s t gone kind st) (rests id kind through)

ahead_frees : (s : Store) (kind : Kind) (n : ℕ) (bytes : List ℕ) (pdu : Pdu) (t : Trace Act) (gone : Gone) → IsAhead kind pdu s → Stands s t gone → freed t (Draws kind n (Carried bytes pdu)) ≡ []
ahead_frees s kind n bytes pdu t gone ahead st = by_channel (channel_of pdu) refl where
  by_channel : (o : Option ℕ) → channel_of pdu ≡ o → if_through kind t (channel_of pdu) ≡ []
  by_channel None e = ap (if_through kind t) e
  by_channel (Some id) e = ap (if_through kind t) e ∙ ap (λ b. cond b ((id, kind) ∷ []) []) (ap (is_through kind) (sym (inward_is s t gone id st)) ∙ ahead id e)

carried_judged : (role : Role) (bytes : List ℕ) (pdu : Pdu) → IsJudged role (Carried bytes pdu)
carried_judged Server bytes pdu = tt
carried_judged Client bytes pdu = tt

pub ahead_pulled : (s now : Store) (kind : Kind) (n : ℕ) (is_full : Bool) (bytes : List ℕ) (pdu : Pdu) (t : Trace Act) (gone : Gone) → MayDraw kind s → IsAhead kind pdu s → drawn_fault s.role kind t (Carried bytes pdu) ≡ None → now.broken ≡ s.broken → Stands s t gone
    → Stands now (t ▷ Draws kind n (Carried bytes pdu)) gone → CameTo (past_of t) (reads_from s.role kind n is_full (Carried bytes pdu) (past_of t)) gone now
ahead_pulled s now kind n is_full bytes pdu t gone may ahead none b st after =
    quiet_drawn s now kind n is_full (Carried bytes pdu) t gone may (carried_judged s.role bytes pdu) none (still Client kind t n (Carried bytes pdu) (λ k. refl)) (ahead_frees s kind n bytes pdu t gone ahead st) b st after

pub behind_pulled : (s now : Store) (kind : Kind) (n : ℕ) (is_full : Bool) (bytes : List ℕ) (pdu : Pdu) (t : Trace Act) (gone : Gone) → drawn_fault s.role kind t (Carried bytes pdu) ≡ None → Came (grown s.role t (Draws kind n (Carried bytes pdu))) gone now → now.broken ≡ None
    → CameTo (past_of t) (reads_from s.role kind n is_full (Carried bytes pdu) (past_of t)) gone now
behind_pulled s now kind n is_full bytes pdu t gone none c b =
    all_drawn s.role kind n is_full (Carried bytes pdu) t gone now none (subst (λ a. Came (grown s.role t a) gone now) (sym (carried_is s.role kind n t is_full bytes pdu)) c) b

pub behind_untaken : (s after last : Store) (kind : Kind) (n : ℕ) (is_full : Bool) (bytes : List ℕ) (pdu : Pdu) (t : Trace Act) (gone : Gone) (untaken : Untaken) (f : Fault) → drawn_fault s.role kind t (Carried bytes pdu) ≡ None
    → Ended t (grown s.role t (Draws kind n (Carried bytes pdu))) gone after untaken → f ≡ fault_by (place.Reliable untaken.at) (why_of untaken.cause) → last ≡ record after { broken = Some f }
    → CameTo (past_of t) (reads_from s.role kind n is_full (Carried bytes pdu) (past_of t)) gone last
behind_untaken s after last kind n is_full bytes pdu t gone untaken f none ended f_is last_is =
    part_drawn s.role after last kind n is_full (Carried bytes pdu) t gone untaken f none (subst (λ a. Ended t (grown s.role t a) gone after untaken) (sym (carried_is s.role kind n t is_full bytes pdu)) ended) f_is last_is

-- ---- payloads

pub empty_drawn : (role : Role) (kind : Kind) (n : ℕ) (is_full : Bool) (payload : List ℕ) (t : Trace Act) (gone : Gone) (now : Store) → eqb (length payload) 0 ≡ true → CameTo (past_of t) (reads_from role kind n is_full Nothing (past_of t)) gone now
    → IsDrawn role kind n is_full (drawn_by role (Data payload)) t gone now
empty_drawn role kind n is_full [] t gone now none done = done
empty_drawn role kind n is_full (byte ∷ bytes) t gone now none done = absurd (let no : length (byte ∷ bytes) ≡ 0 = eqb-true (length (byte ∷ bytes)) 0 none in omega (arith, no))

pub carried_drawn : (role from : Role) (kind : Kind) (n : ℕ) (is_full : Bool) (payload : List ℕ) (pdu : Pdu) (t : Trace Act) (gone : Gone) (now : Store) → eqb (length payload) 0 ≡ false → from ≡ other role → reading from payload ≡ Ok pdu
    → CameTo (past_of t) (reads_from role kind n is_full (Carried payload pdu) (past_of t)) gone now → IsDrawn role kind n is_full (drawn_by role (Data payload)) t gone now
carried_drawn role from kind n is_full [] pdu t gone now some from_is read done = absurd (let never : true ≡ false = some in cc)
carried_drawn role from kind n is_full (byte ∷ bytes) pdu t gone now some from_is read done =
    subst (λ r. IsDrawn role kind n is_full r t gone now) (sym (ap (carried_by (byte ∷ bytes)) (ap (λ r. reading r (byte ∷ bytes)) (sym from_is) ∙ read))) done

-- ---- a whole tunnel PDU of the reliable link

pub whole_drawn : (role : Role) (n : ℕ) (r : Result Drawn DvcRefusal) (t : Trace Act) (gone : Gone) (now : Store) → IsDrawn role Reliable n false r t gone now → CameTo (past_of t) (reads_drawn role n r (past_of t)) gone now
whole_drawn role n (Ok drawn) t gone now done = done
whole_drawn role n (Err refusal) t gone now done = absurd done

-- ---- a part of the lossy link

abbrev by_pdu : Role → Option tunnel.Pdu → Option Drawn
by_pdu role None = None
by_pdu role (Some pdu) = if_ok (drawn_by role pdu)

part_is : (role : Role) (size : ℕ) (r : Result (Part tunnel.Pdu) TunnelRefusal) → if_whole role size r ≡ by_pdu role (whole_part size r)
part_is role size (Ok (Whole pdu used)) = by_test (eqb used size) where
  by_test : (b : Bool) → cond b (if_ok (drawn_by role pdu)) None ≡ by_pdu role (cond b (Some pdu) None)
  by_test true = refl
  by_test false = refl
part_is role size (Ok (More need)) = refl
part_is role size (Err refusal) = refl

part_read : (role : Role) (t : Trace Act) (bytes : List ℕ) (is_full : Bool) (o : Option Drawn) → by_pdu role (whole_part (length bytes) (tunnel_reading bytes)) ≡ o
    → with_part role (past_of t) bytes is_full ≡ grows role (missed_or role t is_full o) (past_of t)
unfolding with_part
part_read role t bytes is_full o is = ap (λ w. grows role (missed_or role t is_full w) (past_of t)) (part_is role (length bytes) (tunnel_reading bytes) ∙ is)

pub may_draw_lossy : (s : Store) → s.broken ≡ None → ((t : Trace Act) (gone : Gone) → Stands s t gone → Rests s.role t) → (s.role ≡ Client → due_in s ≡ None) → length (s.outgoing).main + (CONTROL + ANSWER * s.owed) ≤ MAIN_QUEUE → waiting_for Lossy s.outgoing ≡ []
    → MayDraw Lossy s
may_draw_lossy s whole rests quiet room waits = record {
  is_whole = whole;
  rests = rests;
  quiet = quiet;
  held = λ is. absurd (let never : Lossy ≡ Reliable = is in cc);
  room = room;
  waits = waits;
}

missed_by : (s : Store) (bytes : List ℕ) (is_full : Bool) (t : Trace Act) (gone : Gone) → MayDraw Lossy s → by_pdu s.role (whole_part (length bytes) (tunnel_reading bytes)) ≡ None → Stands s t gone → Stands s (t ▷ Misses) gone
    → CameTo (past_of t) (with_part s.role (past_of t) bytes is_full) gone s
missed_by s bytes is_full t gone may none st after = subst (λ q. CameTo (past_of t) q gone s) (sym (part_read s.role t bytes is_full None none)) (missed_part s t gone may st after)

-- it is no whole tunnel PDU, or its data are no channel PDU
pub part_missed : (s : Store) (bytes : List ℕ) (is_full : Bool) (found : Option tunnel.Pdu) (t : Trace Act) (gone : Gone) → MayDraw Lossy s → found ≡ whole_part (length bytes) (tunnel_reading bytes) → found ≡ None → Stands s t gone → Stands s (t ▷ Misses) gone
    → CameTo (past_of t) (with_part s.role (past_of t) bytes is_full) gone s
part_missed s bytes is_full found t gone may is none st after = missed_by s bytes is_full t gone may (ap (by_pdu s.role) (sym is ∙ none)) st after

pub part_unread : (s now : Store) (bytes : List ℕ) (is_full : Bool) (found : Option tunnel.Pdu) (pdu : tunnel.Pdu) (refusal : DvcRefusal) (t : Trace Act) (gone : Gone) → MayDraw Lossy s → found ≡ whole_part (length bytes) (tunnel_reading bytes) → found ≡ Some pdu
    → drawn_by s.role pdu ≡ Err refusal → now ≡ s → Stands s t gone → ((u : Trace Act) (gone : Gone) → Stands now u gone → Stands now (u ▷ Misses) gone) → CameTo (past_of t) (with_part s.role (past_of t) bytes is_full) gone now
part_unread s now bytes is_full found pdu refusal t gone may is some unread same st after =
    subst (λ x. CameTo (past_of t) (with_part s.role (past_of t) bytes is_full) gone x) (sym same)
    (missed_by s bytes is_full t gone may (ap (by_pdu s.role) (sym is ∙ some) ∙ ap if_ok unread) st (subst (λ x. Stands x (t ▷ Misses) gone) same (after t gone (subst (λ x. Stands x t gone) (sym same) st))))

pub part_came : (s now : Store) (bytes : List ℕ) (is_full : Bool) (found : Option tunnel.Pdu) (pdu : tunnel.Pdu) (t : Trace Act) (gone : Gone) → found ≡ whole_part (length bytes) (tunnel_reading bytes) → found ≡ Some pdu
    → IsDrawn s.role Lossy 0 is_full (drawn_by s.role pdu) t gone now → CameTo (past_of t) (with_part s.role (past_of t) bytes is_full) gone now
part_came s now bytes is_full found pdu t gone is some done = of (drawn_by s.role pdu) (ap (by_pdu s.role) (sym is ∙ some)) done where
  of : (r : Result Drawn DvcRefusal) → by_pdu s.role (whole_part (length bytes) (tunnel_reading bytes)) ≡ if_ok r → IsDrawn s.role Lossy 0 is_full r t gone now → CameTo (past_of t) (with_part s.role (past_of t) bytes is_full) gone now
  of (Err refusal) e d = absurd d
  of (Ok drawn) e d = subst (λ q. CameTo (past_of t) q gone now) (sym (part_read s.role t bytes is_full (Some drawn) e)) d

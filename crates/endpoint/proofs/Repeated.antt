-- A create request that is posted once more.
use Rattle.std.proofs.Common.{◌≡◌, ℕ, ◌<◌, ◌≤◌, ◌==◌, Bool, true, false, not, cond, ◌&&◌, List, [], ◌++◌, length, drop, append-nil, Option, Some, None, is_some, refl, sym, ap, subst, ◌∙◌, arith}
use Rattle.std.specs.List.{flat_map}
use Rattle.std.proofs.Math.Seq.{drop-append_seam}
use Rattle.mt_base.specs.declared.kinds.Kind.{Kind}
use Rattle.mt_base.specs.declared.kinds.Kind.TheVariants.{Reliable, Lossy}
use Rattle.mt_base.specs.declared.kinds.Role.{Role}
use Rattle.mt_base.specs.declared.kinds.Role.TheVariants.{Client}
use Rattle.mt_base.specs.Trace.{Trace, ◌▷◌}
use Rattle.mt_windows.specs.declared.limits.TheConstants.{WINDOW}
use Rattle.carrier.specs.declared.state.LinkState.{LinkState}
use Rattle.carrier.specs.Entries as link
use Rattle.mt_endpoint.specs.Acts.{Act, Drawn, Heard, Repeats, Silences}
use Rattle.mt_endpoint.specs.Alone.{EndOfActs}
use Rattle.mt_endpoint.specs.Growing.{Grown, fine, grown}
use Rattle.mt_endpoint.specs.Tunnels.{Request, answer, asked, is_attached, is_silent, silence, silence_in}
use Rattle.mt_endpoint.specs.World.{draws}
use Rattle.mt_endpoint.specs.Writing.{carried, create_request, framed, into, main_bytes, on_main, tunneled, unless}
use Rattle.end_calls.specs.declared.fault.Fault.{Fault}
use Rattle.end_calls.specs.Calls.{Postings, bare, is_due, is_over, posts_again, steps}
use Rattle.end_calls.specs.Links.{gives_all, gives_joined}
use Rattle.end_calls.specs.Streams.{Past, grows, written}
use Rattle.end_reader.proofs.Quiet.{IsCalm, grown_calm}
use Rattle.end_session.specs.AnswerDue.{due}
use Rattle.end_session.specs.Giving.{all_given}
use Rattle.end_session.specs.Known.{Known}
use Rattle.end_session.specs.Outgoing.{Outgoing, emptied, waiting_for}
use Rattle.end_session.specs.Standing.{Gone, Stands, Waits}
use Rattle.end_session.specs.Store.{Store}
use Rattle.endpoint.specs.Attached.{is_closed, posts_bytes}
use Rattle.endpoint.specs.Idle.{IsIdle}
use Rattle.endpoint.specs.Posted.{IsAsking, IsReady, Posts}
use Rattle.endpoint.proofs.Added.{waits_by}
use Rattle.endpoint.proofs.Answered.{Stays, main_after, some_or, unwritten_by, unwritten_silence}
use Rattle.endpoint.proofs.Due.{Settles, alone, due_same}
use Rattle.endpoint.proofs.Idle.{idle_on, idle_with, steps_silence}
use Rattle.endpoint.proofs.Left.{none_waits, waits_more}
use Rattle.endpoint.proofs.Links.{attached_same}
use Rattle.endpoint.proofs.LinksAttached.{none_main, none_reliable, one_part}
use Rattle.endpoint.proofs.PolledReliable.{gives_none}
use Rattle.endpoint.proofs.Requests.{asked_is, short}
use Rattle.endpoint.proofs.Rooms.{answers_same, refusals_less}
use Rattle.endpoint.proofs.Steps.{alone_past}

-- ---- the past

settles : (kind : Kind) (t : Trace Act) (is_full : Bool) → Settles kind t (Repeats is_full)
settles kind t is_full = record { no_silence = refl; no_answer = refl; no_refusal = refl }

quiet_still : (role : Role) (t : Trace Act) (is_full : Bool) → (role ≡ Client → due t ≡ None) → role ≡ Client → due (t ▷ Repeats is_full) ≡ None
quiet_still role t is_full quiet is = due_same t (Repeats is_full) refl refl (settles Reliable t is_full) (settles Lossy t is_full) ∙ quiet is

alone_again : (role : Role) (t : Trace Act) (is_full : Bool) → (role ≡ Client → due t ≡ None) → grown role t (Repeats is_full) ≡ fine (t ▷ Repeats is_full)
alone_again role t is_full quiet = alone role t (Repeats is_full) refl (quiet_still role t is_full quiet)

pub steps_again : (role : Role) (is_full : Bool) (p : Past) (gone : Gone) (s : Store) → IsIdle role p gone s → s.broken ≡ None → steps role (Repeats is_full) p ≡ record p { acts = p.acts ▷ Repeats is_full }
steps_again role is_full p gone s i whole =
    let none : p.broken ≡ None = sym i.broken_is ∙ whole in alone_past role (Repeats is_full) p none (alone_again role p.acts is_full (i.quiet none))

pub steps_broken : (role : Role) (is_full : Bool) (p : Past) (broken : Option Fault) → p.broken ≡ broken → is_some broken ≡ true → steps role (Repeats is_full) p ≡ p
steps_broken role is_full p None is some = absurd (let bad : false ≡ true = some in cc)
steps_broken role is_full p (Some fault) is some =
    let act = Repeats is_full in ap (λ (b : Option Fault). cond (is_some b) (bare act p) (grows role act p)) is

calm_again : (role : Role) (is_full : Bool) (p : Past) (gone : Gone) (s : Store) → IsIdle role p gone s → IsAsking s → p.broken ≡ None → IsCalm role (p.acts ▷ Repeats is_full)
calm_again role is_full p gone s i a whole =
    let t = p.acts in
    let act = Repeats is_full in
    let knows = (i.stands).knows in
    let attached : is_attached Lossy t ≡ true = sym (ap (λ (k : Known). k.is_attached) knows.lossy_is) ∙ a.attached in
    let unanswered : answer Lossy t ≡ None = sym (ap (λ (k : Known). k.answer) knows.lossy_is) ∙ a.unanswered in
    let is = alone_again role t is_full (i.quiet whole) in
    subst (λ (g : Grown). IsCalm role g.acts) is
    (grown_calm role t act (subst (λ (r : Role). EndOfActs r t) i.role_is knows.lawful) (ap not (sym knows.begun), (sym i.role_is ∙ a.role_is, attached, unanswered), tt) (i.rests whole) (ap (λ (g : Grown). g.fault) is))

-- ---- what is written

main_none : (role : Role) (is_full : Bool) (request : Option Request) → on_main (unless is_full (create_request role Lossy request)) ≡ []
main_none role true request = refl
main_none role false request = none_main role Lossy request

reliable_none : (role : Role) (is_full silent : Bool) (request : Option Request) → into Reliable silent (unless is_full (create_request role Lossy request)) ≡ []
reliable_none role true silent request = refl
reliable_none role false silent request = none_reliable role silent request

pub stays_again : (role : Role) (t : Trace Act) (is_full : Bool) → Stays role t (t ▷ Repeats is_full)
stays_again role t is_full = let act = Repeats is_full in record {
  main = omega (arith, ap length (main_after role t act ∙ ap (λ (heard : List Heard). main_bytes role t ++ flat_map framed heard) (main_none role is_full (asked Lossy t)) ∙ append-nil (main_bytes role t)), answers_same t act refl refl);
  refusals = refusals_less role t act;
  held_are = λ made. refl;
  attached_is = λ made. attached_same made t act refl;
  draws_are = λ made. append-nil (draws made t);
  silent = λ made h. some_or (silence made t) (silence_in made act) h;
}

pub unwritten_reliable : (role : Role) (t : Trace Act) (is_full : Bool) → carried Reliable role (t ▷ Repeats is_full) ≡ carried Reliable role t
unwritten_reliable role t is_full = ap (λ (ds : List Drawn). carried Reliable role t ++ ds) (reliable_none role is_full (is_silent Reliable t) (asked Lossy t)) ∙ append-nil (carried Reliable role t)

unwritten_full : (role : Role) (kind : Kind) (t : Trace Act) → carried kind role (t ▷ Repeats true) ≡ carried kind role t
unwritten_full role kind t = append-nil (carried kind role t)

-- ---- nothing is posted

pub nothing_posted : {L : Type 0} (stands : L → Trace link.Entry → Type 0) (role : Role) (p : Past) (gone : Gone) (s : Store) (l : L) → IsIdle role p gone s → Posts stands role p p gone s l l
nothing_posted stands role p gone s l i = record {
  after = gone;
  after_is = refl;
  idle = i;
  called = λ c h. subst (stands l) (sym (gives_none Lossy role p c)) h;
}

pub broken_posts : {L : Type 0} (stands : L → Trace link.Entry → Type 0) (role : Role) (is_full : Bool) (p : Past) (gone : Gone) (s : Store) (l : L) → IsIdle role p gone s → is_some s.broken ≡ true → Posts stands role p (steps role (Repeats is_full) p) gone s l l
broken_posts stands role is_full p gone s l i broken =
    subst (λ (q : Past). Posts stands role p q gone s l l) (sym (steps_broken role is_full p s.broken (sym i.broken_is) broken)) (nothing_posted stands role p gone s l i)

pub unwritten_all : (kind : Kind) (role : Role) (p q : Past) (c : Trace link.Entry) → carried kind role q.acts ≡ carried kind role p.acts → gives_all kind role p q c ≡ c
unwritten_all kind role p q c same = ap (λ (ds : List Drawn). gives_joined kind (drop (length (carried kind role p.acts)) ds) c) same ∙ gives_none kind role p c

pub full_posts : {L : Type 0} (stands : L → Trace link.Entry → Type 0) (role : Role) (p : Past) (gone : Gone) (s now : Store) (l : L) → IsIdle role p gone s → IsAsking s → s.broken ≡ None → Stands now (p.acts ▷ Repeats true) gone → now.role ≡ s.role → now.broken ≡ s.broken
    → Posts stands role p (steps role (Repeats true) p) gone now l l
full_posts stands role p gone s now l i a whole st role_is broken_is =
    let u = p.acts ▷ Repeats true in
    subst (λ (q : Past). Posts stands role p q gone now l l) (sym (steps_again role true p gone s i whole)) (record {
      after = gone;
      after_is = refl;
      idle = idle_on role p gone s now u i (stays_again role p.acts true) (λ kind. unwritten_full role kind p.acts) (calm_again role true p gone s i a) st role_is broken_is;
      called = λ c h. subst (stands l) (sym (unwritten_all Lossy role p (record p { acts = u }) c (unwritten_full role Lossy p.acts))) h;
    })

-- ---- it is posted

waits_again : (role : Role) (o now : Outgoing) (t : Trace Act) (gone : Gone) → Waits role o t gone → Waits role now (t ▷ Repeats false) gone → waiting_for Lossy o ≡ [] → waiting_for Lossy now ≡ flat_map tunneled (into Lossy (is_silent Lossy t) (create_request role Lossy (asked Lossy t)))
waits_again role o now t gone before behind none =
    let more = into Lossy (is_silent Lossy t) (create_request role Lossy (asked Lossy t)) in
    waits_more (carried Lossy role t) (carried Lossy role (t ▷ Repeats false)) gone.lossy more o.lossy now.lossy refl before.lossy_waits behind.lossy_waits ∙ ap (λ b. b ++ flat_map tunneled more) none

pub again_short : (s now : Store) (t : Trace Act) (gone : Gone) (request : Request) → Stands s t gone → Stands now (t ▷ Repeats false) gone → now.role ≡ s.role → waiting_for Lossy s.outgoing ≡ []
    → (s.lossy).asked ≡ Some request → length request.cookie ≡ 16 → length (waiting_for Lossy now.outgoing) ≤ 28
again_short s now t gone request before behind same none is long =
    subst (λ bytes. length bytes ≤ 28) (sym (waits_again s.role s.outgoing now.outgoing t gone before.waits (waits_by now s.role (t ▷ Repeats false) gone same behind) none))
    (subst (λ o. length (flat_map tunneled (into Lossy (is_silent Lossy t) (create_request s.role Lossy o))) ≤ 28) (sym (sym (asked_is s Lossy t gone before) ∙ is)) (short Lossy s.role (is_silent Lossy t) request long))

written_again : (role : Role) (p : Past) → written Lossy role p (record p { acts = p.acts ▷ Repeats false }) ≡ into Lossy (is_silent Lossy p.acts) (create_request role Lossy (asked Lossy p.acts))
written_again role p = drop-append_seam (carried Lossy role p.acts) (into Lossy (is_silent Lossy p.acts) (create_request role Lossy (asked Lossy p.acts)))

-- asked is what the session became, and s what it was before; now is it with the request given
pub again_posts : {L : Type 0} (stands : L → Trace link.Entry → Type 0) (condition : L → LinkState) (load : L → ℕ) (role : Role) (p : Past) (gone : Gone) (s put now : Store) (old new : L) → IsIdle role p gone s → IsAsking s → s.broken ≡ None → IsReady condition load false p old
    → ((t : Trace Act) (g : Gone) → Stands s t g → Stands put (t ▷ Repeats false) g) → put.role ≡ s.role → put.broken ≡ s.broken
    → ((t : Trace Act) (g : Gone) → Stands put t g → Stands now t (all_given put.role Lossy t g)) → now ≡ record put { outgoing = emptied Lossy put.outgoing }
    → ((c : Trace link.Entry) → stands old c → is_closed (condition old) ≡ false → load old < WINDOW → stands new (posts_bytes (waiting_for Lossy put.outgoing) c))
    → Posts stands role p (steps role (Repeats false) p) gone now old new
again_posts stands condition load role p gone s put now old new i a whole ready puts role_is broken_is gives is posted =
    let t = p.acts in
    let u = t ▷ Repeats false in
    let st = puts t gone i.stands in
    let before = waits_by s role t gone i.role_is i.stands in
    let behind = waits_by put role u gone (role_is ∙ i.role_is) st in
    let bytes = waits_again role s.outgoing put.outgoing t gone before behind i.lossy_waits in
    let open_now : is_silent Lossy t ≡ false = ap is_some (sym (ap (λ (k : Known). k.silence) ((i.stands).knows).lossy_is) ∙ a.loud) in
    let request = asked Lossy t in
    let reliable_waits : waiting_for Reliable put.outgoing ≡ [] =
    none_waits (carried Reliable role t) (carried Reliable role u) gone.reliable [] (s.outgoing).reliable (put.outgoing).reliable (unwritten_reliable role t false ∙ sym (append-nil (carried Reliable role t))) refl i.reliable_waits before.reliable_waits behind.reliable_waits in
    subst (λ (q : Past). Posts stands role p q gone now old new) (sym (steps_again role false p gone s i whole)) (record {
      after = all_given put.role Lossy u gone;
      after_is = refl;
      idle =
          idle_with role p gone (all_given put.role Lossy u gone) s now u i (stays_again role t false) refl (calm_again role false p gone s i a) (gives u gone st) (ap (λ (x : Store). x.role) is ∙ role_is) (ap (λ (x : Store). x.broken) is ∙ broken_is)
          (ap (λ (x : Store). (x.outgoing).reliable) is ∙ reliable_waits) (ap (λ (x : Store). (x.outgoing).lossy) is);
      called =
          λ c h.
          subst (stands new)
          (ap (λ b. posts_bytes b c) bytes ∙ one_part role (is_silent Lossy t) request c ∙ sym (ap (λ (ds : List Drawn). gives_joined Lossy ds c) (written_again role p)))
          (posted c h (ready.is_open open_now) (ready.has_room refl));
    })

-- ---- or the tunnel falls silent

pub silence_posts : {L : Type 0} (stands : L → Trace link.Entry → Type 0) (role : Role) (p : Past) (gone : Gone) (expiries : ℕ) (now : Store) (l : L) → IsIdle role (steps role (Silences Lossy expiries) p) gone now → Posts stands role p (steps role (Silences Lossy expiries) p) gone now l l
silence_posts stands role p gone expiries now l i =
    let act = Silences Lossy expiries in
    let same : carried Lossy role (steps role act p).acts ≡ carried Lossy role p.acts =
    ap (λ (q : Past). carried Lossy role q.acts) (steps_silence role Lossy expiries p) ∙ unwritten_by Lossy role p.broken (p.acts ▷ act) ∙ unwritten_silence role p.acts Lossy Lossy expiries in record {
      after = gone;
      after_is = refl;
      idle = i;
      called = λ c h. subst (stands l) (sym (unwritten_all Lossy role p (steps role act p) c same)) h;
    }

pub gives_up : {L : Type 0} (stands : L → Trace link.Entry → Type 0) (role : Role) (p : Past) (gone : Gone) (now : Store) (l : L) (postings : Postings) (is_full is_last : Bool) → is_last ≡ true → is_last ≡ (postings.count == 17) → IsIdle role (steps role (Silences Lossy 17) p) gone now
    → Posts stands role p (steps role (posts_again postings is_full) p) gone now l l
gives_up stands role p gone now l postings is_full is_last last is i =
    subst (λ (b : Bool). Posts stands role p (steps role (cond b (Silences Lossy 17) (Repeats is_full)) p) gone now l l) (sym last ∙ is) (silence_posts stands role p gone 17 now l i)

-- ---- whether it is due

pub due_by : (t : Trace Act) (postings : Postings) (now : ℕ) (over silent : Bool) (answered : Option ℕ) → over ≡ true → over ≡ is_over postings.last now → is_some answered ≡ false → answered ≡ answer Lossy t → silent ≡ is_silent Lossy t → not silent ≡ is_due t postings now
due_by t postings now over silent answered past over_is none answer_is silent_is =
    ap not silent_is
    ∙ ap (λ (b : Bool). not b && not (is_silent Lossy t)) (sym none ∙ ap is_some answer_is)
    ∙ ap (λ (b : Bool). b && (not (is_some (answer Lossy t)) && not (is_silent Lossy t))) (sym past ∙ over_is)

pub none_of : (broken : Option Fault) → is_some broken ≡ false → broken ≡ None
none_of None is = refl
none_of (Some fault) is = absurd (let bad : true ≡ false = is in cc)

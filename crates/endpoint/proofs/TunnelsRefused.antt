-- An end that refuses a tunnel, and answers the requests that waited for it.
use Rattle.std.proofs.Common.{◌≡◌, ℕ, ◌+◌, ◌*◌, ◌^◌, ◌<◌, ◌≤◌, Bool, cond, List, [], ◌++◌, length, length-append, append-nil, Option, Some, None, is_some, refl, sym, ap, subst, ◌∙◌, arith}
use Rattle.std.specs.List.{flat_map}
use Rattle.std.specs.Option.{option_or}
use Rattle.mt_base.specs.declared.kinds.Kind.{Kind}
use Rattle.mt_base.specs.declared.kinds.Kind.TheVariants.{Reliable, Lossy}
use Rattle.mt_base.specs.declared.kinds.Role.{Role}
use Rattle.mt_base.specs.declared.kinds.Role.TheVariants.{Server, Client}
use Rattle.mt_base.specs.Trace.{Trace, ◌▷◌}
use Rattle.carrier.specs.declared.state.LinkState.{LinkState}
use Rattle.carrier.specs.Entries as link
use Rattle.mt_endpoint.specs.Acts.{Act, Refuses}
use Rattle.mt_endpoint.specs.Alone.{EndOfActs}
use Rattle.mt_endpoint.specs.Growing.{answered}
use Rattle.mt_endpoint.specs.Holding.{Held, held, weight}
use Rattle.mt_endpoint.specs.Resting.{Rests}
use Rattle.mt_endpoint.specs.Tunnels.{Request, answer, asked, is_attached, is_silent, not_zero, told_refusal}
use Rattle.mt_endpoint.specs.World.{draws}
use Rattle.mt_endpoint.specs.Writing.{carried, framed, into, on_main, told_of}
use Rattle.end_calls.specs.declared.fault.Fault.{Fault}
use Rattle.end_calls.specs.declared.limits.TheConstants.{HOLD, MAIN_QUEUE}
use Rattle.end_calls.specs.Calls.{Entry, Own, Postings, acts, attached_by, bare, past, steps}
use Rattle.end_calls.specs.Law.{unhanded, unpulled, unsent}
use Rattle.end_calls.specs.Links.{linked}
use Rattle.end_calls.specs.Stops.{answers_owed}
use Rattle.end_calls.specs.Streams.{Past, grows}
use Rattle.end_reader.specs.declared.reader.Reader.{Reader}
use Rattle.end_reader.specs.Standing.{Reads}
use Rattle.end_reader.proofs.Quiet.{IsCalm, grown_calm}
use Rattle.end_session.specs.Known.{refusal_in}
use Rattle.end_session.specs.OfKind.{tunnel_of}
use Rattle.end_session.specs.Standing.{Gone, Stands}
use Rattle.end_session.specs.Store.{Store}
use Rattle.endpoint.specs.Attached.{HasLink}
use Rattle.endpoint.specs.Standing.{IsEnd, Tells, refusals_owed}
use Rattle.endpoint.proofs.Added.{waits_by}
use Rattle.endpoint.proofs.Answered.{stays_answered, unwritten_by}
use Rattle.endpoint.proofs.Apart.{posts_same}
use Rattle.endpoint.proofs.ChannelsClosed.{first_none}
use Rattle.endpoint.proofs.Left.{none_waits}
use Rattle.endpoint.proofs.Links.{attached_same, silent_same}
use Rattle.endpoint.proofs.PolledReliable.{idle, loud_before}
use Rattle.endpoint.proofs.Repeated.{unwritten_all}
use Rattle.endpoint.proofs.Rooms.{answers_same, main_waits, owes_less}
use Rattle.endpoint.proofs.Steps.{unsent_is}

-- ---- it wasn't refused before

pub unrefused : (kind : Kind) (s : Store) (t : Trace Act) (gone : Gone) → Stands s t gone → s.role ≡ Client → refusal_in s.role (tunnel_of kind s) ≡ None → told_refusal Client kind t ≡ None
unrefused kind s t gone st is none = first_none (told_refusal Client kind t) (not_zero (answer kind t)) (by_kind kind (ap (λ r. refusal_in r (tunnel_of kind s)) (sym is) ∙ none)) where
  by_kind : (kind : Kind) → refusal_in Client (tunnel_of kind s) ≡ None → option_or (told_refusal Client kind t) (not_zero (answer kind t)) ≡ None
  by_kind Reliable h = ap (λ r. option_or (told_refusal r Reliable t) (not_zero (answer Reliable t))) (sym is) ∙ ap (refusal_in Client) (sym (st.knows).reliable_is) ∙ h
  by_kind Lossy h = ap (λ r. option_or (told_refusal r Lossy t) (not_zero (answer Lossy t))) (sym is) ∙ ap (refusal_in Client) (sym (st.knows).lossy_is) ∙ h

-- so the main queue has room for the frame that tells it
still_owed : (told : Option ℕ) → told ≡ None → 11 ≤ cond (is_some told) 0 11
still_owed None h = omega arith
still_owed (Some hr) h = absurd (let no : Some hr ≡ None = h in cc)

pub frame_owed : (kind : Kind) (t : Trace Act) → told_refusal Client kind t ≡ None → 11 ≤ refusals_owed Client t
frame_owed Reliable t none = omega (arith, still_owed (told_refusal Client Reliable t) none)
frame_owed Lossy t none = omega (arith, still_owed (told_refusal Client Lossy t) none)

no_more : (told : Option ℕ) (hr : ℕ) → cond (is_some (option_or told (Some hr))) 0 11 ≤ 0
no_more None hr = omega arith
no_more (Some code) hr = omega arith

frame_told : (kind : Kind) (t : Trace Act) (hr : ℕ) → told_refusal Client kind t ≡ None → refusals_owed Client (t ▷ Refuses kind hr) + 11 ≤ refusals_owed Client t
frame_told Reliable t hr none = omega (arith, still_owed (told_refusal Client Reliable t) none, no_more (told_refusal Client Reliable t) hr, owes_less (told_refusal Client Lossy t) None)
frame_told Lossy t hr none = omega (arith, still_owed (told_refusal Client Lossy t) none, no_more (told_refusal Client Lossy t) hr, owes_less (told_refusal Client Reliable t) None)

frame_short : (request : Option Request) (hr : ℕ) → length (flat_map framed (on_main (told_of request hr))) ≤ 11
frame_short None hr = omega arith
frame_short (Some request) hr = omega arith

pub room_refused : (s now : Store) (t : Trace Act) (gone : Gone) (kind : Kind) (hr : ℕ) → Stands s t gone → s.role ≡ Client → Stands now (t ▷ Refuses kind hr) gone → now.role ≡ s.role → told_refusal Client kind t ≡ None
    → length (s.outgoing).main + (answers_owed t + refusals_owed Client t) ≤ MAIN_QUEUE → length (now.outgoing).main + (answers_owed (t ▷ Refuses kind hr) + refusals_owed Client (t ▷ Refuses kind hr)) ≤ MAIN_QUEUE
room_refused s now t gone kind hr st is behind role_is none room =
    let act = Refuses kind hr in
    let more = flat_map framed (on_main (told_of (asked kind t) hr)) in
    let main : (now.outgoing).main ≡ (s.outgoing).main ++ more = main_waits Client s.outgoing now.outgoing t act gone gone refl (waits_by s Client t gone is st) (waits_by now Client (t ▷ act) gone (role_is ∙ is) behind) in
    omega (arith, room, ap length main, length-append (s.outgoing).main more, frame_short (asked kind t) hr, answers_same t act refl refl, frame_told kind t hr none)

-- ---- what comes of it

steps_refused : (kind : Kind) (hr : ℕ) (p : Past) → p.broken ≡ None → steps Client (Refuses kind hr) p ≡ record p { acts = answered Client (p.acts ▷ Refuses kind hr) }
steps_refused kind hr p whole =
    let act = Refuses kind hr in
    ap (λ (b : Option Fault). cond (is_some b) (bare act p) (grows Client act p)) whole ∙ ap (λ (b : Option Fault). record p { acts = answered Client (p.acts ▷ act); broken = b }) (sym whole)

none_into : (kind : Kind) (silent : Bool) (request : Option Request) (hr : ℕ) → into kind silent (told_of request hr) ≡ []
none_into kind silent None hr = refl
none_into kind silent (Some request) hr = refl

unwritten : (kind made : Kind) (t : Trace Act) (hr : ℕ) → carried kind Client (answered Client (t ▷ Refuses made hr)) ≡ carried kind Client t
unwritten kind made t hr = unwritten_by kind Client None (t ▷ Refuses made hr) ∙ ap (λ ds. carried kind Client t ++ ds) (none_into kind (is_silent kind t) (asked made t) hr) ∙ append-nil (carried kind Client t)

link_refused : {L A : Type 0} (stands : L → Trace link.Entry → Type 0) (left : L → List A) (condition : L → LinkState) (kind made : Kind) (unread : List A) (t : Trace Entry) (hr : ℕ) (l : Option L)
    → acts Client (t ▷ Own (Refuses made hr)) ≡ answered Client (acts Client t ▷ Refuses made hr) → HasLink stands left condition kind unread Client t l → HasLink stands left condition kind unread Client (t ▷ Own (Refuses made hr)) l
link_refused stands left condition kind made unread t hr (Some l) on h =
    let u = acts Client t in
    let act = Refuses made hr in
    let stays = stays_answered Client (u ▷ act) in
    let later = t ▷ Own act in record {
      attached = ap (is_attached kind) on ∙ stays.attached_is kind ∙ attached_same kind u act refl ∙ h.attached;
      called = subst (stands l) (sym (unwritten_all kind Client (past Client t) (past Client later) (linked kind Client t) (ap (carried kind Client) on ∙ unwritten kind made u hr))) h.called;
      left_is = h.left_is;
      is_open =
          λ loud. h.is_open (sym (silent_same kind u act refl)
          ∙ loud_before kind (is_silent kind (u ▷ act)) (is_silent kind (answered Client (u ▷ act))) (stays.silent kind) (sym (ap (is_silent kind) on) ∙ loud));
    }
link_refused stands left condition kind made unread t hr None on h =
    let u = acts Client t in
    let act = Refuses made hr in
    let stays = stays_answered Client (u ▷ act) in
    let later = t ▷ Own act in record {
      unattached = ap (is_attached kind) on ∙ stays.attached_is kind ∙ attached_same kind u act refl ∙ h.unattached;
      uncalled = unwritten_all kind Client (past Client t) (past Client later) (linked kind Client t) (ap (carried kind Client) on ∙ unwritten kind made u hr) ∙ h.uncalled;
      undrawn = ap (draws kind) on ∙ stays.draws_are kind ∙ append-nil (draws kind u) ∙ h.undrawn;
      unread_is = h.unread_is;
    }

-- ---- the end without its links

tells_refused : (r : Reader) (postings : Postings) (t : Trace Entry) (kind : Kind) (hr : ℕ) (s now : Store) → (tells : Tells r postings Client t) → (r.session).broken ≡ None → refusal_in (r.session).role (tunnel_of kind r.session) ≡ None → hr < 2 ^ 32
    → Stands s (acts Client t ▷ Refuses kind hr) tells.gone → s.role ≡ (r.session).role → Stands now (answered Client (acts Client t ▷ Refuses kind hr)) tells.gone → now.role ≡ s.role → now.broken ≡ (r.session).broken
    → Tells (record r { session = now }) postings Client (t ▷ Own (Refuses kind hr))
tells_refused r postings t kind hr s now tells was none fits refused same st role_is broken_is =
    let act = Refuses kind hr in
    let later = t ▷ Own act in
    let u = acts Client t in
    let v = u ▷ act in
    let w = answered Client v in
    let p = past Client t in
    let gone = tells.gone in
    let reads = tells.reads in
    let i = idle r postings Client t tells in
    let whole : p.broken ≡ None = sym reads.broken_is ∙ was in
    let past_is : past Client later ≡ record p { acts = w } = steps_refused kind hr p whole in
    let on : acts Client later ≡ w = ap (λ (x : Past). x.acts) past_is in
    let is : now.role ≡ Client = role_is ∙ same ∙ tells.role_is in
    let lawful : EndOfActs Client v = subst (λ x. EndOfActs x v) (same ∙ tells.role_is) (refused.knows).lawful in
    let calm : IsCalm Client w = grown_calm Client u act lawful.2 (lawful.0, lawful.1.0, lawful.1.1) (i.rests whole) refl in
    let stays = stays_answered Client v in
    let before = waits_by r.session Client u gone tells.role_is reads.stands in
    let middle = waits_by s Client v gone (same ∙ tells.role_is) refused in
    let behind = waits_by now Client w gone is st in
    let half = room_refused r.session s u gone kind hr reads.stands tells.role_is refused same (unrefused kind r.session u gone reads.stands tells.role_is none) i.room in
    let room : length (now.outgoing).main + (answers_owed w + refusals_owed Client w) ≤ MAIN_QUEUE =
    omega (
      arith,
      half,
      stays.main,
      stays.refusals,
      ap length middle.main_waits,
      ap length behind.main_waits,
      length-append gone.main (s.outgoing).main,
      length-append gone.main (now.outgoing).main,
    ) in
    let light : (made : Kind) → weight (held Client made (acts Client later)) ≤ HOLD =
    λ made. subst (λ (queue : List Held). weight queue ≤ HOLD) (sym (ap (held Client made) on ∙ stays.held_are made)) (i.held_fits made) in
    let unsent_are : unsent Client later ≡ (now.outgoing).main = unsent_is Client later gone now tells.gone_is is (subst (λ x. Stands now x gone) (sym on) st) in record {
      law = (
        (tt, whole, fits, lawful.0, lawful.1.0),
        record {
          unsent_fits = omega (arith, ap length unsent_are, room);
          reliable_fits = light Reliable;
          lossy_fits = light Lossy;
        },
        tells.law,
      );
      gone = gone;
      gone_is = tells.gone_is;
      reads =
          subst (λ (q : Past). Reads (record r { session = now }) q gone) (sym past_is)
          (record {
            stands = st;
            broken_is = broken_is ∙ reads.broken_is;
            main_is = reads.main_is;
            tunnel_is = reads.tunnel_is;
            main_waits = reads.main_waits;
            tunnel_waits = reads.tunnel_waits;
            rests = λ b. subst (λ x. Rests x w) (sym is) calm.rests;
            quiet = λ b c. calm.quiet refl;
          });
      role_is = is;
      room =
          subst (λ (m : List ℕ). length m + (answers_owed (acts Client later) + refusals_owed Client (acts Client later)) ≤ MAIN_QUEUE) (sym unsent_are)
          (subst (λ x. length (now.outgoing).main + (answers_owed x + refusals_owed Client x) ≤ MAIN_QUEUE) (sym on) room);
      reliable_waits =
          none_waits (carried Reliable Client u) (carried Reliable Client w) gone.reliable [] ((r.session).outgoing).reliable (now.outgoing).reliable (unwritten Reliable kind u hr ∙ sym (append-nil (carried Reliable Client u))) refl tells.reliable_waits before.reliable_waits behind.reliable_waits;
      lossy_waits =
          none_waits (carried Lossy Client u) (carried Lossy Client w) gone.lossy [] ((r.session).outgoing).lossy (now.outgoing).lossy (unwritten Lossy kind u hr ∙ sym (append-nil (carried Lossy Client u))) refl tells.lossy_waits before.lossy_waits behind.lossy_waits;
      postings_are = sym (posts_same Client act postings refl) ∙ ap (attached_by Client act) tells.postings_are;
    }

-- ---- the end

pub refused : {C P : Type 0} (carrier_stands : C → Trace link.Entry → Type 0) (carrier_left : C → List ℕ) (carrier_condition : C → LinkState) (post_stands : P → Trace link.Entry → Type 0) (post_left : P → List (List ℕ)) (post_condition : P → LinkState) (r : Reader) (postings : Postings) (reliable : Option C) (lossy : Option P) (role : Role) (t : Trace Entry) (kind : Kind) (hr : ℕ) (s now : Store)
    → (e : IsEnd carrier_stands carrier_left carrier_condition post_stands post_left post_condition r postings reliable lossy role t) → (r.session).role ≡ Client → (r.session).broken ≡ None → refusal_in (r.session).role (tunnel_of kind r.session) ≡ None → hr < 2 ^ 32
    → Stands s (acts role t ▷ Refuses kind hr) (e.tells).gone → s.role ≡ (r.session).role → Stands now (answered Client (acts role t ▷ Refuses kind hr)) (e.tells).gone → now.role ≡ s.role → now.broken ≡ (r.session).broken
    → IsEnd carrier_stands carrier_left carrier_condition post_stands post_left post_condition (record r { session = now }) postings reliable lossy role (t ▷ Own (Refuses kind hr))
refused carrier_stands carrier_left carrier_condition post_stands post_left post_condition r postings reliable lossy Server t kind hr s now e is was none fits first same st role_is broken_is = absurd (let no : Server ≡ Client = sym (e.tells).role_is ∙ is in cc)
refused carrier_stands carrier_left carrier_condition post_stands post_left post_condition r postings reliable lossy Client t kind hr s now e is was none fits first same st role_is broken_is =
    let on : acts Client (t ▷ Own (Refuses kind hr)) ≡ answered Client (acts Client t ▷ Refuses kind hr) =
    ap (λ (x : Past). x.acts) (steps_refused kind hr (past Client t) (sym ((e.tells).reads).broken_is ∙ was)) in record {
      tells = tells_refused r postings t kind hr s now e.tells was none fits first same st role_is broken_is;
      has_reliable = link_refused carrier_stands carrier_left carrier_condition Reliable kind (unpulled t) t hr reliable on e.has_reliable;
      has_lossy = link_refused post_stands post_left post_condition Lossy kind (unhanded t) t hr lossy on e.has_lossy;
    }

-- ---- the room that its calls ask for

pub room_before : (r : Reader) (postings : Postings) (role : Role) (t : Trace Entry) (kind : Kind) → Tells r postings role t → (r.session).role ≡ Client → refusal_in (r.session).role (tunnel_of kind r.session) ≡ None → length ((r.session).outgoing).main + 11 ≤ MAIN_QUEUE
room_before r postings Server t kind tells is none = absurd (let no : Server ≡ Client = sym tells.role_is ∙ is in cc)
room_before r postings Client t kind tells is none =
    omega (arith, (idle r postings Client t tells).room, frame_owed kind (acts Client t) (unrefused kind r.session (acts Client t) tells.gone (tells.reads).stands is none))

pub room_between : (r : Reader) (postings : Postings) (role : Role) (t : Trace Entry) (kind : Kind) (hr : ℕ) (s : Store) → (tells : Tells r postings role t) → (r.session).role ≡ Client → refusal_in (r.session).role (tunnel_of kind r.session) ≡ None
    → Stands s (acts role t ▷ Refuses kind hr) tells.gone → s.role ≡ (r.session).role → length (s.outgoing).main + 17 * s.owed ≤ MAIN_QUEUE
room_between r postings Server t kind hr s tells is none st same = absurd (let no : Server ≡ Client = sym tells.role_is ∙ is in cc)
room_between r postings Client t kind hr s tells is none st same =
    let u = acts Client t in
    omega (
      arith,
      room_refused r.session s u tells.gone kind hr (tells.reads).stands is st same (unrefused kind r.session u tells.gone (tells.reads).stands is none) (idle r postings Client t tells).room,
      ap (λ n. 17 * n) (st.knows).owed_is,
    )

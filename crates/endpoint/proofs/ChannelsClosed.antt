-- An end that closes a channel.
use Rattle.std.proofs.Common.{◌≡◌, ℕ, ◌+◌, ◌≤◌, Bool, true, false, cond, List, [], ◌∷◌, ◌++◌, length, Option, Some, None, is_some, option_map, refl, sym, ap, subst, ◌∙◌, arith}
use Rattle.std.specs.List.{flat_map}
use Rattle.std.specs.Option.{option_or}
use Rattle.mt_base.specs.declared.kinds.Kind.{Kind}
use Rattle.mt_base.specs.declared.kinds.Kind.TheVariants.{Reliable, Lossy}
use Rattle.mt_base.specs.declared.kinds.Role.{Role}
use Rattle.mt_base.specs.Trace.{Trace, ◌▷◌}
use Rattle.mt_windows.specs.declared.limits.TheConstants.{QUEUE}
use Rattle.carrier.specs.declared.state.LinkState.{LinkState}
use Rattle.carrier.specs.Entries as link
use Rattle.dvc_pdus.specs.Value.{Close}
use Rattle.soft_sync.specs.declared.kinds.Path.{Path}
use Rattle.soft_sync.specs.declared.kinds.Path.TheVariants.{Main, Tunnel}
use Rattle.mt_endpoint.specs.Acts.{Act, Closes, Spoken}
use Rattle.mt_endpoint.specs.Alone.{EndOfActs}
use Rattle.mt_endpoint.specs.Channels.{channel}
use Rattle.mt_endpoint.specs.Holding.{Held, channel_of, is_of, weight, without}
use Rattle.mt_endpoint.specs.Moving.{outward}
use Rattle.mt_endpoint.specs.Tunnels.{is_attached, is_silent, silence}
use Rattle.mt_endpoint.specs.Writing.{carried, closing, framed, into, on_main, tunneled}
use Rattle.end_calls.specs.declared.fault.Fault.{Fault}
use Rattle.end_calls.specs.declared.limits.TheConstants.{MAIN_QUEUE}
use Rattle.end_calls.specs.declared.refusal.CloseRefusal.TheVariants as close
use Rattle.end_calls.specs.Calls.{Entry, Own, Postings, acts}
use Rattle.end_calls.specs.Law.{unhanded, unpulled}
use Rattle.end_calls.specs.Links.{gives_joined, linked}
use Rattle.end_calls.specs.Refusing.{Loads, because, frame_size, full_for_close, link_limit, main_limit, silence_for_close, tunnel_size, why_not_closed, why_not_in}
use Rattle.end_calls.specs.Stops.{answers_owed}
use Rattle.end_session.specs.Giving.{all_given}
use Rattle.end_session.specs.Outgoing.{emptied, waiting_for}
use Rattle.end_session.specs.Standing.{Stands}
use Rattle.end_session.specs.Store.{Store}
use Rattle.end_reader.specs.declared.reader.Reader.{Reader}
use Rattle.endpoint.specs.Attached.{GaveIf, GaveTo, HasLink, is_closed, load_in}
use Rattle.endpoint.specs.Standing.{IsEnd, refusals_owed}
use Rattle.endpoint.proofs.Added.{room_before, room_on, waits_by}
use Rattle.endpoint.proofs.Apart.{posts_same}
use Rattle.endpoint.proofs.Causes.{last_none, room_in}
use Rattle.endpoint.proofs.Due.{Settles}
use Rattle.endpoint.proofs.Left.{none_waits, waits_more}
use Rattle.endpoint.proofs.Links.{attached_same, link_same, silent_same, written_by}
use Rattle.endpoint.proofs.ServerSteps.{within_limit}
use Rattle.endpoint.proofs.Steps.{Added, IsPlain, acts_after, lone, tells_on}
use Rattle.endpoint.proofs.Through.{through_drew}

-- ---- the act

settles : (kind : Kind) (t : Trace Act) (id : ℕ) → Settles kind t (Closes id)
settles kind t id = record { no_silence = refl; no_answer = refl; no_refusal = refl }

lighter : (id : ℕ) (queue : List Held) → weight (without id queue) ≤ weight queue
lighter id [] = omega arith
lighter id (h ∷ queue) = by_test (is_of id (channel_of h.pdu)) (lighter id queue) where
  by_test : (b : Bool) → weight (without id queue) ≤ weight queue → weight (cond b (without id queue) (h ∷ without id queue)) ≤ weight (h ∷ queue)
  by_test true k = omega arith
  by_test false k = omega arith

plain : (role : Role) (t : Trace Act) (id : ℕ) → IsPlain role t (Closes id)
plain role t id = record {
  own = tt;
  given = tt;
  fits = λ a. a.0;
  faultless = tt;
  none_freed = refl;
  none_read = refl;
  none_made = refl;
  reliable = settles Reliable t id;
  lossy = settles Lossy t id;
  no_heavier = λ kind queue. lighter id queue;
}

no_lossy : (silent : Bool) (path : Path) (id : ℕ) → into Lossy silent (closing path id ∷ []) ≡ []
no_lossy silent Main id = refl
no_lossy silent (Tunnel Reliable) id = refl
no_lossy silent (Tunnel Lossy) id = refl

-- ---- where no cause is against it

pub first_none : {A : Type 0} (first last : Option A) → option_or first last ≡ None → first ≡ None
first_none None last h = refl
first_none (Some x) last h = h

mapped_none : {A B : Type 0} (f : A → B) (o : Option A) → option_map f o ≡ None → o ≡ None
mapped_none f None h = refl
mapped_none f (Some x) h = absurd (let bad : Some (f x) ≡ None = h in cc)

closed_whole : (broken : Option Fault) (role : Role) (t : Trace Act) (loads : Loads) (id : ℕ) → why_not_closed broken role t loads id ≡ None → broken ≡ None
closed_whole None role t loads id h = refl
closed_whole (Some fault) role t loads id h = absurd (let bad : Some (close.Broken fault) ≡ None = h in cc)

not_silent : (broken : Option Fault) (role : Role) (t : Trace Act) (loads : Loads) (id : ℕ) → why_not_closed broken role t loads id ≡ None → silence_for_close t (outward id t) ≡ None
not_silent broken role t loads id h =
    mapped_none close.TunnelSilent (silence_for_close t (outward id t)) (last_none (option_or (because close.Broken broken) (why_not_in close.UnknownChannel close.NotOpen close.ChannelClosed (channel role id t))) (because close.TunnelSilent (silence_for_close t (outward id t)))
    (first_none (option_or (option_or (because close.Broken broken) (why_not_in close.UnknownChannel close.NotOpen close.ChannelClosed (channel role id t))) (because close.TunnelSilent (silence_for_close t (outward id t)))) (full_for_close t loads (outward id t) id) h))

not_full : (broken : Option Fault) (role : Role) (t : Trace Act) (loads : Loads) (id : ℕ) → why_not_closed broken role t loads id ≡ None → full_for_close t loads (outward id t) id ≡ None
not_full broken role t loads id h = last_none _ (full_for_close t loads (outward id t) id) h

-- ---- room

main_room : (role : Role) (t : Trace Act) (loads : Loads) (path : Path) (id : ℕ) → full_for_close t loads path id ≡ None → loads.unsent + 0 + (answers_owed t + refusals_owed role t) ≤ MAIN_QUEUE
    → loads.unsent + length (flat_map framed (on_main (closing path id ∷ []))) + (answers_owed t + refusals_owed role t) ≤ MAIN_QUEUE
main_room role t loads Main id none before = within_limit role t loads.unsent (Spoken (Close id)) (room_in None loads.unsent (frame_size (Spoken (Close id))) (main_limit t) (close.QueueFull loads.unsent (main_limit t)) none)
main_room role t loads (Tunnel Reliable) id none before = before
main_room role t loads (Tunnel Lossy) id none before = within_limit role t loads.unsent (Spoken (Close id)) (room_in None loads.unsent (frame_size (Spoken (Close id))) (main_limit t) (close.QueueFull loads.unsent (main_limit t)) none)

link_room : (t : Trace Act) (loads : Loads) (id : ℕ) (silent : Bool) → full_for_close t loads (Tunnel Reliable) id ≡ None → silent ≡ false → loads.reliable + length (flat_map tunneled (into Reliable silent (closing (Tunnel Reliable) id ∷ []))) ≤ QUEUE
link_room t loads id silent none loud =
    let room = room_in None loads.reliable (tunnel_size (Close id ∷ [])) link_limit (close.QueueFull loads.reliable link_limit) none in
    subst (λ b. loads.reliable + length (flat_map tunneled (into Reliable b (closing (Tunnel Reliable) id ∷ []))) ≤ QUEUE) (sym loud) (omega (arith, room))

loud_is : (t : Trace Act) → silence Reliable t ≡ None → is_silent Reliable t ≡ false
loud_is t none = ap is_some none

-- ---- the link

given_called : {L : Type 0} (stands : L → Trace link.Entry → Type 0) (left : L → List ℕ) (condition : L → LinkState) (load : L → ℕ) (t : Trace Act) (loads : Loads) (id : ℕ) (path : Path) (u : Trace link.Entry) (old new : L)
    → GaveTo stands left condition load (flat_map tunneled (into Reliable (is_silent Reliable t) (closing path id ∷ []))) old new → load old ≡ loads.reliable → silence_for_close t path ≡ None → full_for_close t loads path id ≡ None
    → (is_silent Reliable t ≡ false → is_closed (condition old) ≡ false) → stands old u → stands new (gives_joined Reliable (into Reliable (is_silent Reliable t) (closing path id ∷ [])) u)
given_called stands left condition load t loads id Main u old new gave is loud room unclosed st = subst (λ l. stands l u) (sym (gave.unless_some refl)) st
given_called stands left condition load t loads id (Tunnel Lossy) u old new gave is loud room unclosed st = subst (λ l. stands l u) (sym (gave.unless_some refl)) st
given_called stands left condition load t loads id (Tunnel Reliable) u old new gave is loud room unclosed st =
    gave.called u st (unclosed (loud_is t loud)) (subst (λ n. n + length (flat_map tunneled (into Reliable (is_silent Reliable t) (closing (Tunnel Reliable) id ∷ []))) ≤ QUEUE) (sym is) (link_room t loads id (is_silent Reliable t) room (loud_is t loud)))

-- where an end has no link, the close goes on the main stream
none_through : (role : Role) (t : Trace Act) (id : ℕ) (path : Path) → outward id t ≡ path → EndOfActs role t → (outward id t ≡ Tunnel Reliable → ⊥) → into Reliable (is_silent Reliable t) (closing path id ∷ []) ≡ []
none_through role t id Main is e absent = refl
none_through role t id (Tunnel Lossy) is e absent = refl
none_through role t id (Tunnel Reliable) is e absent = absurd (absent is)

link_closed : {L : Type 0} (stands : L → Trace link.Entry → Type 0) (left : L → List ℕ) (condition : L → LinkState) (load : L → ℕ) (role : Role) (t : Trace Entry) (loads : Loads) (id : ℕ) (old new : Option L)
    → acts role (t ▷ Own (Closes id)) ≡ acts role t ▷ Closes id → EndOfActs role (acts role t) → load_in load old ≡ loads.reliable → silence_for_close (acts role t) (outward id (acts role t)) ≡ None → full_for_close (acts role t) loads (outward id (acts role t)) id ≡ None
    → GaveIf stands left condition load (flat_map tunneled (into Reliable (is_silent Reliable (acts role t)) (closing (outward id (acts role t)) id ∷ []))) old new
    → HasLink stands left condition Reliable (unpulled t) role t old → HasLink stands left condition Reliable (unpulled t) role (t ▷ Own (Closes id)) new
link_closed stands left condition load role t loads id None None on e is loud room gave h =
    link_same stands left condition Reliable (unpulled t) role t (Closes id) None on
    (record { none_written = none_through role (acts role t) id (outward id (acts role t)) refl e (λ through. through_drew role (acts role t) id Reliable e through h.undrawn); no_link = refl; no_silence = refl; none_drawn = refl }) h
link_closed stands left condition load role t loads id None (Some new) on e is loud room gave h = absurd gave
link_closed stands left condition load role t loads id (Some old) None on e is loud room gave h = absurd gave
link_closed stands left condition load role t loads id (Some old) (Some new) on e is loud room gave h = record {
  attached = ap (is_attached Reliable) on ∙ attached_same Reliable (acts role t) (Closes id) refl ∙ h.attached;
  called =
      subst (λ ds. stands new (gives_joined Reliable ds (linked Reliable role t))) (sym (written_by Reliable role t (Closes id) on))
      (given_called stands left condition load (acts role t) loads id (outward id (acts role t)) (linked Reliable role t) old new gave is loud room h.is_open h.called);
  left_is = gave.left_is ∙ h.left_is;
  is_open = λ quiet. ap is_closed gave.state_is ∙ h.is_open (sym (silent_same Reliable (acts role t) (Closes id) refl) ∙ sym (ap (is_silent Reliable) on) ∙ quiet);
}

-- ---- the end

pub closed : {C P : Type 0} (carrier_stands : C → Trace link.Entry → Type 0) (carrier_left : C → List ℕ) (carrier_condition : C → LinkState) (carrier_load : C → ℕ) (post_stands : P → Trace link.Entry → Type 0) (post_left : P → List (List ℕ)) (post_condition : P → LinkState) (r : Reader) (postings : Postings) (reliable new_reliable : Option C) (lossy : Option P) (role : Role) (t : Trace Entry) (id load parts : ℕ) (s now : Store)
    → (e : IsEnd carrier_stands carrier_left carrier_condition post_stands post_left post_condition r postings reliable lossy role t) → load ≡ load_in carrier_load reliable
    → Stands s (acts role t ▷ Closes id) (e.tells).gone → why_not_closed (r.session).broken (r.session).role (acts role t) (record { unsent = length ((r.session).outgoing).main; reliable = load; lossy = parts }) id ≡ None
    → s.role ≡ (r.session).role → s.broken ≡ (r.session).broken → GaveIf carrier_stands carrier_left carrier_condition carrier_load (waiting_for Reliable s.outgoing) reliable new_reliable
    → now ≡ record s { outgoing = emptied Reliable s.outgoing } → Stands now (acts role t ▷ Closes id) (all_given s.role Reliable (acts role t ▷ Closes id) (e.tells).gone)
    → IsEnd carrier_stands carrier_left carrier_condition post_stands post_left post_condition (record r { session = now }) postings new_reliable lossy role (t ▷ Own (Closes id))
closed carrier_stands carrier_left carrier_condition carrier_load post_stands post_left post_condition r postings reliable new_reliable lossy role t id load parts s now e load_is st none role_is broken_is gave is given =
    let tells = e.tells in
    let u = acts role t in
    let act = Closes id in
    let loads : Loads = record { unsent = length ((r.session).outgoing).main; reliable = load; lossy = parts } in
    let whole = closed_whole (r.session).broken (r.session).role u loads id none in
    let loud = not_silent (r.session).broken (r.session).role u loads id none in
    let room = not_full (r.session).broken (r.session).role u loads id none in
    let l = lone r postings role t act tells whole (plain role u id) (λ p w. w) in
    let on = acts_after role t act l in
    let after = all_given s.role Reliable (u ▷ act) tells.gone in
    let before = waits_by r.session role u tells.gone tells.role_is (tells.reads).stands in
    let behind = waits_by s role (u ▷ act) tells.gone (role_is ∙ tells.role_is) st in
    let lawful : EndOfActs role u = subst (λ x. EndOfActs x u) tells.role_is (((tells.reads).stands).knows).lawful in
    let more = into Reliable (is_silent Reliable u) (closing (outward id u) id ∷ []) in
    let waits : waiting_for Reliable s.outgoing ≡ flat_map tunneled more =
    waits_more (carried Reliable role u) (carried Reliable role (u ▷ act)) (tells.gone).reliable more ((r.session).outgoing).reliable (s.outgoing).reliable refl before.reliable_waits behind.reliable_waits ∙ ap (λ b. b ++ flat_map tunneled more) tells.reliable_waits in
    let new : Added r.session now u act tells.gone after = record {
      stands = given;
      role_is = ap (λ (x : Store). x.role) is ∙ role_is;
      broken_is = ap (λ (x : Store). x.broken) is ∙ broken_is;
      gone_is = refl;
      reliable_waits = ap (λ (x : Store). (x.outgoing).reliable) is;
      lossy_waits =
          ap (λ (x : Store). (x.outgoing).lossy) is
          ∙ none_waits (carried Lossy role u) (carried Lossy role (u ▷ act)) (tells.gone).lossy (into Lossy (is_silent Lossy u) (closing (outward id u) id ∷ [])) ((r.session).outgoing).lossy (s.outgoing).lossy refl (no_lossy (is_silent Lossy u) (outward id u) id) tells.lossy_waits before.lossy_waits behind.lossy_waits;
    } in record {
      tells = tells_on r postings postings role t act now after tells (plain role u id) l new (sym (posts_same role act postings refl)) (room_on r postings role t act now after tells (plain role u id) new (main_room role u loads (outward id u) id room (room_before r postings role t tells)));
      has_reliable =
          link_closed carrier_stands carrier_left carrier_condition carrier_load role t loads id reliable new_reliable on lawful (sym load_is) loud room
          (subst (λ bytes. GaveIf carrier_stands carrier_left carrier_condition carrier_load bytes reliable new_reliable) waits gave) e.has_reliable;
      has_lossy = link_same post_stands post_left post_condition Lossy (unhanded t) role t act lossy on (record { none_written = no_lossy (is_silent Lossy u) (outward id u) id; no_link = refl; no_silence = refl; none_drawn = refl }) e.has_lossy;
    }

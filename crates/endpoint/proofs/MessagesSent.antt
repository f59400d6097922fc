-- An end that sends a message.
use Rattle.std.proofs.Common.{◌≡◌, ℕ, ◌+◌, ◌^◌, ◌<◌, ◌≤◌, Bool, true, false, All, List, [], ◌∷◌, ◌++◌, map, length, length-append, Option, Some, None, refl, sym, ap, subst, ◌∙◌, arith, append-nil}
use Rattle.std.specs.List.{fold, flat_map}
use Rattle.std.proofs.lemmas.Bool.{leb-false}
use Rattle.mt_base.specs.declared.kinds.Kind.{Kind}
use Rattle.mt_base.specs.declared.kinds.Kind.TheVariants.{Reliable, Lossy}
use Rattle.mt_base.specs.declared.kinds.Role.{Role}
use Rattle.mt_base.specs.Trace.{Trace, ◌▷◌}
use Rattle.mt_windows.specs.declared.limits.TheConstants.{WINDOW}
use Rattle.carrier.specs.declared.state.LinkState.{LinkState}
use Rattle.carrier.specs.Entries as link
use Rattle.dvc_pdus.specs.Value.{Pdu}
use Rattle.dvc_channels.specs.Fragments.{fragments_of}
use Rattle.soft_sync.specs.declared.kinds.Path.{Path}
use Rattle.soft_sync.specs.declared.kinds.Path.TheVariants.{Main, Tunnel}
use Rattle.mt_endpoint.specs.Acts.{Act, Drawn, Sends, Spoken}
use Rattle.mt_endpoint.specs.Alone.{EndOfActs}
use Rattle.mt_endpoint.specs.Moving.{outward}
use Rattle.mt_endpoint.specs.Tunnels.{is_attached, is_silent}
use Rattle.mt_endpoint.specs.World.{IsLoud, IsStep, ShortOn}
use Rattle.mt_endpoint.specs.Writing.{carried, framed, into, on_main, on_path, tunneled}
use Rattle.end_calls.specs.declared.fault.Fault.{Fault}
use Rattle.end_calls.specs.declared.limits.TheConstants.{MAIN_QUEUE}
use Rattle.end_calls.specs.declared.refusal.SendRefusal.{SendRefusal}
use Rattle.end_calls.specs.declared.refusal.SendRefusal.TheVariants as send
use Rattle.end_calls.specs.Calls.{Entry, Own, Postings, acts, past}
use Rattle.end_calls.specs.Law.{unhanded, unpulled, unsent}
use Rattle.end_calls.specs.Links.{gives, linked}
use Rattle.end_calls.specs.Refusing.{Loads, frames_size, full_for, link_message_limit, main_message_limit, tunnel_size, why_not_sent}
use Rattle.end_calls.specs.Stops.{answers_owed}
use Rattle.end_session.specs.MessageGiven.{carrying, with_message}
use Rattle.end_session.specs.Standing.{Gone, IsLeft, Stands}
use Rattle.end_session.specs.Store.{Store}
use Rattle.end_reader.specs.declared.reader.Reader.{Reader}
use Rattle.endpoint.specs.Attached.{HasLink, is_closed, load_in}
use Rattle.endpoint.specs.Messages.{TookEach, TookIf, counted, limit_of, through}
use Rattle.endpoint.specs.Kept.{Kept}
use Rattle.endpoint.specs.Standing.{IsEnd, Tells, refusals_owed}
use Rattle.endpoint.proofs.Added.{room_before, room_on, waits_by}
use Rattle.endpoint.proofs.Apart.{posts_same}
use Rattle.endpoint.proofs.Causes.{last_none, room_in, when_none}
use Rattle.endpoint.proofs.Due.{Settles}
use Rattle.endpoint.proofs.Left.{nothing_left}
use Rattle.endpoint.proofs.Links.{attached_same, link_same, silent_same, written_by}
use Rattle.endpoint.proofs.MessagesGiven.{one_part}
use Rattle.endpoint.proofs.Owed.{few_owed}
use Rattle.endpoint.proofs.Rooms.{refusals_few}
use Rattle.endpoint.proofs.Steps.{Added, IsPlain, acts_after, as_told, lone, tells_on}
use Rattle.endpoint.proofs.Through.{through_drew}

-- ---- the act

settles : (kind : Kind) (t : Trace Act) (id : ℕ) (message : List ℕ) → Settles kind t (Sends id message)
settles kind t id message = record { no_silence = refl; no_answer = refl; no_refusal = refl }

plain : (role : Role) (t : Trace Act) (id : ℕ) (message : List ℕ) → All (λ b. b < 2 ^ 8) message → IsPlain role t (Sends id message)
plain role t id message are_bytes = record {
  own = tt;
  given = are_bytes;
  fits = λ a. a.0;
  faultless = tt;
  none_freed = refl;
  none_read = refl;
  none_made = refl;
  reliable = settles Reliable t id message;
  lossy = settles Lossy t id message;
  no_heavier = λ kind queue. omega arith;
}

-- it was made where it may be
pub step_of : (s : Store) (role : Role) (t : Trace Act) (id : ℕ) (message : List ℕ) (gone : Gone) → s.role ≡ role → Stands s (t ▷ Sends id message) gone → IsStep role t (Sends id message)
step_of s role t id message gone is st = (subst (λ x. EndOfActs x (t ▷ Sends id message)) is (st.knows).lawful).1.0

pub short_part : (path : Path) (message : List ℕ) → ShortOn path message → path ≡ Tunnel Lossy → length message ≤ 990
short_part Main message short is = absurd (let no : Main ≡ Tunnel Lossy = is in cc)
short_part (Tunnel Reliable) message short is = absurd (let no : Tunnel Reliable ≡ Tunnel Lossy = is in cc)
short_part (Tunnel Lossy) message short is = short

loud_through : (kind : Kind) (t : Trace Act) (path : Path) → IsLoud t path → path ≡ Tunnel kind → is_silent kind t ≡ false
loud_through kind t path loud is = subst (IsLoud t) is loud

-- ---- where no cause is against it

sent_whole : (broken : Option Fault) (role : Role) (t : Trace Act) (loads : Loads) (id : ℕ) (message : List ℕ) → why_not_sent broken role t loads id message ≡ None → broken ≡ None
sent_whole None role t loads id message h = refl
sent_whole (Some fault) role t loads id message h = absurd (let bad : Some (send.Broken fault) ≡ None = h in cc)

not_full : (broken : Option Fault) (role : Role) (t : Trace Act) (loads : Loads) (id : ℕ) (message : List ℕ) → why_not_sent broken role t loads id message ≡ None → full_for loads (outward id t) (fragments_of id message) ≡ None
not_full broken role t loads id message h = last_none _ (full_for loads (outward id t) (fragments_of id message)) h

-- ---- what it writes

frames_said : (pdus : List Pdu) → length (flat_map framed (on_main (map (on_path Main) pdus))) ≡ frames_size pdus
frames_said [] = refl
frames_said (pdu ∷ pdus) =
    omega (arith, frames_said pdus, length-append (framed (Spoken pdu)) (flat_map framed (on_main (map (on_path Main) pdus))), length-append (framed (Spoken pdu)) (flat_map (λ x. framed (Spoken x)) pdus))

none_said : (kind : Kind) (pdus : List Pdu) → on_main (map (on_path (Tunnel kind)) pdus) ≡ []
none_said kind [] = refl
none_said kind (pdu ∷ pdus) = none_said kind pdus

main_into : (kind : Kind) (silent : Bool) (pdus : List Pdu) → into kind silent (map (on_path Main) pdus) ≡ []
main_into kind silent [] = refl
main_into kind silent (pdu ∷ pdus) = main_into kind silent pdus

all_into : (kind made : Kind) (pdus : List Pdu) → into kind false (map (on_path (Tunnel made)) pdus) ≡ through kind (Tunnel made) pdus
all_into Reliable Reliable [] = refl
all_into Reliable Reliable (pdu ∷ pdus) = ap (λ ds. carrying pdu ∷ ds) (all_into Reliable Reliable pdus)
all_into Lossy Lossy [] = refl
all_into Lossy Lossy (pdu ∷ pdus) = ap (λ ds. carrying pdu ∷ ds) (all_into Lossy Lossy pdus)
all_into Reliable Lossy [] = refl
all_into Reliable Lossy (pdu ∷ pdus) = all_into Reliable Lossy pdus
all_into Lossy Reliable [] = refl
all_into Lossy Reliable (pdu ∷ pdus) = all_into Lossy Reliable pdus

other_into : (kind made : Kind) (silent : Bool) (pdus : List Pdu) → (Tunnel made ≡ Tunnel kind → silent ≡ false) → into kind silent (map (on_path (Tunnel made)) pdus) ≡ through kind (Tunnel made) pdus
other_into kind made false pdus loud = all_into kind made pdus
other_into Reliable Reliable true pdus loud = absurd (let no : true ≡ false = loud refl in cc)
other_into Lossy Lossy true pdus loud = absurd (let no : true ≡ false = loud refl in cc)
other_into Reliable Lossy true [] loud = refl
other_into Reliable Lossy true (pdu ∷ pdus) loud = other_into Reliable Lossy true pdus loud
other_into Lossy Reliable true [] loud = refl
other_into Lossy Reliable true (pdu ∷ pdus) loud = other_into Lossy Reliable true pdus loud

into_through : (kind : Kind) (silent : Bool) (path : Path) (pdus : List Pdu) → (path ≡ Tunnel kind → silent ≡ false) → into kind silent (map (on_path path) pdus) ≡ through kind path pdus
into_through kind silent Main pdus loud = main_into kind silent pdus
into_through kind silent (Tunnel made) pdus loud = other_into kind made silent pdus loud

none_through : (kind : Kind) (path : Path) (pdus : List Pdu) → (path ≡ Tunnel kind → ⊥) → through kind path pdus ≡ []
none_through kind Main pdus absent = refl
none_through Reliable (Tunnel Reliable) pdus absent = absurd (absent refl)
none_through Lossy (Tunnel Lossy) pdus absent = absurd (absent refl)
none_through Reliable (Tunnel Lossy) pdus absent = refl
none_through Lossy (Tunnel Reliable) pdus absent = refl

-- ---- room

main_room : (role : Role) (t : Trace Act) (loads : Loads) (path : Path) (pdus : List Pdu) → EndOfActs role t → full_for loads path pdus ≡ None → loads.unsent + 0 + (answers_owed t + refusals_owed role t) ≤ MAIN_QUEUE
    → loads.unsent + length (flat_map framed (on_main (map (on_path path) pdus))) + (answers_owed t + refusals_owed role t) ≤ MAIN_QUEUE
main_room role t loads Main pdus e none before =
    omega (arith, room_in None loads.unsent (frames_size pdus) main_message_limit (send.QueueFull loads.unsent main_message_limit) none, frames_said pdus, few_owed role t e, refusals_few role t)
main_room role t loads (Tunnel Reliable) pdus e none before = subst (λ hs. loads.unsent + length (flat_map framed hs) + (answers_owed t + refusals_owed role t) ≤ MAIN_QUEUE) (sym (none_said Reliable pdus)) before
main_room role t loads (Tunnel Lossy) pdus e none before = subst (λ hs. loads.unsent + length (flat_map framed hs) + (answers_owed t + refusals_owed role t) ≤ MAIN_QUEUE) (sym (none_said Lossy pdus)) before

tunnel_sized : (pdus : List Pdu) → length (flat_map tunneled (map carrying pdus)) ≡ tunnel_size pdus
tunnel_sized [] = refl
tunnel_sized (pdu ∷ pdus) =
    omega (arith, tunnel_sized pdus, length-append (tunneled (carrying pdu)) (flat_map tunneled (map carrying pdus)), length-append (tunneled (carrying pdu)) (flat_map (λ x. tunneled (carrying x)) pdus))

abbrev load_for : Kind → Loads → ℕ
load_for Reliable loads = loads.reliable
load_for Lossy loads = loads.lossy

link_room : (kind : Kind) (loads : Loads) (path : Path) (id : ℕ) (message : List ℕ) → ShortOn path message → full_for loads path (fragments_of id message) ≡ None → path ≡ Tunnel kind → load_for kind loads + counted kind (through kind path (fragments_of id message)) ≤ limit_of kind
link_room kind loads Main id message short none is = absurd (let no : Main ≡ Tunnel kind = is in cc)
link_room Lossy loads (Tunnel Reliable) id message short none is = absurd (let no : Tunnel Reliable ≡ Tunnel Lossy = is in cc)
link_room Reliable loads (Tunnel Lossy) id message short none is = absurd (let no : Tunnel Lossy ≡ Tunnel Reliable = is in cc)
link_room Reliable loads (Tunnel Reliable) id message short none is =
    let pdus = fragments_of id message in
    omega (arith, room_in None loads.reliable (tunnel_size pdus) link_message_limit (send.QueueFull loads.reliable link_message_limit) none, tunnel_sized pdus)
link_room Lossy loads (Tunnel Lossy) id message short none is =
    omega (arith, leb-false WINDOW loads.lossy (when_none _ (send.QueueFull loads.lossy WINDOW) none), ap (λ pdus. length (map carrying pdus)) (one_part id message short))

-- ---- the links

all_given : {L A : Type 0} (kind : Kind) (stands : L → Trace link.Entry → Type 0) (left : L → List A) (condition : L → LinkState) (load : L → ℕ) (path : Path) (pdus : List Pdu) (u : Trace link.Entry) (old new : L)
    → TookEach kind stands left condition load (through kind path pdus) old new → (path ≡ Tunnel kind → is_closed (condition old) ≡ false) → (path ≡ Tunnel kind → load old + counted kind (through kind path pdus) ≤ limit_of kind)
    → stands old u → stands new (fold (gives kind) u (through kind path pdus))
all_given kind stands left condition load Main pdus u old new took open_now room st = subst (λ l. stands l u) (sym (took.unless_some refl)) st
all_given Reliable stands left condition load (Tunnel Lossy) pdus u old new took open_now room st = subst (λ l. stands l u) (sym (took.unless_some refl)) st
all_given Lossy stands left condition load (Tunnel Reliable) pdus u old new took open_now room st = subst (λ l. stands l u) (sym (took.unless_some refl)) st
all_given Reliable stands left condition load (Tunnel Reliable) pdus u old new took open_now room st = took.called u st (open_now refl) (room refl)
all_given Lossy stands left condition load (Tunnel Lossy) pdus u old new took open_now room st = took.called u st (open_now refl) (room refl)

link_sent : {L A : Type 0} (kind : Kind) (stands : L → Trace link.Entry → Type 0) (left : L → List A) (condition : L → LinkState) (load : L → ℕ) (unread : List A) (role : Role) (t : Trace Entry) (id : ℕ) (message : List ℕ) (old new : Option L)
    → acts role (t ▷ Own (Sends id message)) ≡ acts role t ▷ Sends id message → EndOfActs role (acts role t) → (outward id (acts role t) ≡ Tunnel kind → is_silent kind (acts role t) ≡ false)
    → (outward id (acts role t) ≡ Tunnel kind → load_in load old + counted kind (through kind (outward id (acts role t)) (fragments_of id message)) ≤ limit_of kind)
    → TookIf kind stands left condition load (through kind (outward id (acts role t)) (fragments_of id message)) old new
    → HasLink stands left condition kind unread role t old → HasLink stands left condition kind unread role (t ▷ Own (Sends id message)) new
link_sent kind stands left condition load unread role t id message None None on e loud room took h =
    let u = acts role t in
    let pdus = fragments_of id message in
    link_same stands left condition kind unread role t (Sends id message) None on
    (record {
      none_written = into_through kind (is_silent kind u) (outward id u) pdus loud ∙ none_through kind (outward id u) pdus (λ is. through_drew role u id kind e is h.undrawn);
      no_link = refl;
      no_silence = refl;
      none_drawn = refl;
    }) h
link_sent kind stands left condition load unread role t id message None (Some new) on e loud room took h = absurd took
link_sent kind stands left condition load unread role t id message (Some old) None on e loud room took h = absurd took
link_sent kind stands left condition load unread role t id message (Some old) (Some new) on e loud room took h =
    let u = acts role t in
    let act = Sends id message in
    let pdus = fragments_of id message in record {
      attached = ap (is_attached kind) on ∙ attached_same kind u act refl ∙ h.attached;
      called =
          subst (λ ds. stands new (fold (gives kind) (linked kind role t) ds)) (sym (written_by kind role t act on ∙ into_through kind (is_silent kind u) (outward id u) pdus loud))
          (all_given kind stands left condition load (outward id u) pdus (linked kind role t) old new took (λ is. h.is_open (loud is)) room h.called);
      left_is = took.left_is ∙ h.left_is;
      is_open = λ quiet. ap is_closed took.state_is ∙ h.is_open (sym (silent_same kind u act refl) ∙ sym (ap (is_silent kind) on) ∙ quiet);
    }

-- ---- what was handed out

main_gone : (path : Path) (pdus : List Pdu) (gone : Gone) → (with_message path pdus gone).main ≡ gone.main
main_gone Main pdus gone = refl
main_gone (Tunnel Reliable) pdus gone = refl
main_gone (Tunnel Lossy) pdus gone = refl

reliable_gone : (path : Path) (pdus : List Pdu) (gone : Gone) → (with_message path pdus gone).reliable ≡ gone.reliable ++ through Reliable path pdus
reliable_gone Main pdus gone = sym (append-nil gone.reliable)
reliable_gone (Tunnel Reliable) pdus gone = refl
reliable_gone (Tunnel Lossy) pdus gone = sym (append-nil gone.reliable)

lossy_gone : (path : Path) (pdus : List Pdu) (gone : Gone) → (with_message path pdus gone).lossy ≡ gone.lossy ++ through Lossy path pdus
lossy_gone Main pdus gone = sym (append-nil gone.lossy)
lossy_gone (Tunnel Reliable) pdus gone = sym (append-nil gone.lossy)
lossy_gone (Tunnel Lossy) pdus gone = refl

-- nothing waits for the links
waits_none : (kind : Kind) (role : Role) (t : Trace Act) (id : ℕ) (message : List ℕ) (gone after : List Drawn) (waited waits : List ℕ) → (outward id t ≡ Tunnel kind → is_silent kind t ≡ false) → after ≡ gone ++ through kind (outward id t) (fragments_of id message) → waited ≡ []
    → IsLeft (carried kind role t) gone waited → IsLeft (carried kind role (t ▷ Sends id message)) after waits → waits ≡ []
waits_none kind role t id message gone after waited waits loud after_is none before behind =
    let pdus = fragments_of id message in
    nothing_left (carried kind role t) (carried kind role (t ▷ Sends id message)) gone after (through kind (outward id t) pdus) waited waits (ap (λ ds. carried kind role t ++ ds) (into_through kind (is_silent kind t) (outward id t) pdus loud)) after_is none before behind

-- ---- the end

pub sent : {C P : Type 0} (carrier_stands : C → Trace link.Entry → Type 0) (carrier_left : C → List ℕ) (carrier_condition : C → LinkState) (carrier_load : C → ℕ) (post_stands : P → Trace link.Entry → Type 0) (post_left : P → List (List ℕ)) (post_condition : P → LinkState) (post_load : P → ℕ) (r : Reader) (postings : Postings) (reliable new_reliable : Option C) (lossy new_lossy : Option P) (role : Role) (t : Trace Entry) (id : ℕ) (message : List ℕ) (load parts : ℕ) (path : Path) (s : Store)
    → (e : IsEnd carrier_stands carrier_left carrier_condition post_stands post_left post_condition r postings reliable lossy role t) → load ≡ load_in carrier_load reliable → parts ≡ load_in post_load lossy → All (λ b. b < 2 ^ 8) message
    → (path ≡ outward id (acts role t)) × Stands s (acts role t ▷ Sends id message) (with_message path (fragments_of id message) (e.tells).gone)
    → why_not_sent (r.session).broken (r.session).role (acts role t) (record { unsent = length ((r.session).outgoing).main; reliable = load; lossy = parts }) id message ≡ None → s.role ≡ (r.session).role → s.broken ≡ (r.session).broken
    → TookIf Reliable carrier_stands carrier_left carrier_condition carrier_load (through Reliable path (fragments_of id message)) reliable new_reliable
    → TookIf Lossy post_stands post_left post_condition post_load (through Lossy path (fragments_of id message)) lossy new_lossy
    → IsEnd carrier_stands carrier_left carrier_condition post_stands post_left post_condition (record r { session = s }) postings new_reliable new_lossy role (t ▷ Own (Sends id message))
sent carrier_stands carrier_left carrier_condition carrier_load post_stands post_left post_condition post_load r postings reliable new_reliable lossy new_lossy role t id message load parts path s e load_is parts_is are_bytes st none role_is broken_is gave posted =
    let tells = e.tells in
    let u = acts role t in
    let act = Sends id message in
    let pdus = fragments_of id message in
    let loads : Loads = record { unsent = length ((r.session).outgoing).main; reliable = load; lossy = parts } in
    let after = with_message path pdus tells.gone in
    let is : s.role ≡ role = role_is ∙ tells.role_is in
    let step = step_of s role u id message after is st.1 in
    let full = not_full (r.session).broken (r.session).role u loads id message none in
    let p = plain role u id message are_bytes in
    let l = lone r postings role t act tells (sent_whole (r.session).broken (r.session).role u loads id message none) p (λ p w. w) in
    let on = acts_after role t act l in
    let lawful : EndOfActs role u = subst (λ x. EndOfActs x u) tells.role_is (((tells.reads).stands).knows).lawful in
    let loud : (kind : Kind) → outward id u ≡ Tunnel kind → is_silent kind u ≡ false = λ kind. loud_through kind u (outward id u) (step.0).loud in
    let before = waits_by r.session role u tells.gone tells.role_is (tells.reads).stands in
    let behind = waits_by s role (u ▷ act) after is st.1 in
    let new : Added r.session s u act tells.gone after = record {
      stands = st.1;
      role_is = role_is;
      broken_is = broken_is;
      gone_is = main_gone path pdus tells.gone;
      reliable_waits =
          waits_none Reliable role u id message (tells.gone).reliable after.reliable ((r.session).outgoing).reliable (s.outgoing).reliable (loud Reliable)
          (reliable_gone path pdus tells.gone ∙ ap (λ x. (tells.gone).reliable ++ through Reliable x pdus) st.0) tells.reliable_waits before.reliable_waits behind.reliable_waits;
      lossy_waits =
          waits_none Lossy role u id message (tells.gone).lossy after.lossy ((r.session).outgoing).lossy (s.outgoing).lossy (loud Lossy)
          (lossy_gone path pdus tells.gone ∙ ap (λ x. (tells.gone).lossy ++ through Lossy x pdus) st.0) tells.lossy_waits before.lossy_waits behind.lossy_waits;
    } in record {
      tells = tells_on r postings postings role t act s after tells p l new (sym (posts_same role act postings refl)) (room_on r postings role t act s after tells p new (main_room role u loads (outward id u) pdus lawful full (room_before r postings role t tells)));
      has_reliable =
          link_sent Reliable carrier_stands carrier_left carrier_condition carrier_load (unpulled t) role t id message reliable new_reliable on lawful (loud Reliable)
          (λ through_it. subst (λ n. n + counted Reliable (through Reliable (outward id u) pdus) ≤ limit_of Reliable) load_is (link_room Reliable loads (outward id u) id message step.2 full through_it))
          (subst (λ x. TookIf Reliable carrier_stands carrier_left carrier_condition carrier_load (through Reliable x pdus) reliable new_reliable) st.0 gave) e.has_reliable;
      has_lossy =
          link_sent Lossy post_stands post_left post_condition post_load (unhanded t) role t id message lossy new_lossy on lawful (loud Lossy)
          (λ through_it. subst (λ n. n + counted Lossy (through Lossy (outward id u) pdus) ≤ limit_of Lossy) parts_is (link_room Lossy loads (outward id u) id message step.2 full through_it))
          (subst (λ x. TookIf Lossy post_stands post_left post_condition post_load (through Lossy x pdus) lossy new_lossy) st.0 posted) e.has_lossy;
    }

-- what the session says of a message, as the calls tell it
pub as_sent : {C P : Type 0} (Q : Option SendRefusal → Type 0) (carrier_load : C → ℕ) (post_load : P → ℕ) (fields seen : Kept C P) (role : Role) (t : Trace Entry) (id : ℕ) (message : List ℕ) (load parts : ℕ) → fields ≡ seen → Tells fields.reader fields.postings role t
    → load ≡ load_in carrier_load fields.reliable → parts ≡ load_in post_load fields.lossy
    → Q (why_not_sent ((fields.reader).session).broken ((fields.reader).session).role (acts role t) (record { unsent = length (((fields.reader).session).outgoing).main; reliable = load; lossy = parts }) id message)
    → Q (why_not_sent (past role t).broken role (acts role t) (record { unsent = length (unsent role t); reliable = load_in carrier_load seen.reliable; lossy = load_in post_load seen.lossy }) id message)
as_sent {C = C} {P = P} Q carrier_load post_load fields seen role t id message load parts is tells load_is parts_is h =
    let s = (fields.reader).session in
    let u = acts role t in
    let by_load : Q (why_not_sent s.broken s.role u (record { unsent = length (s.outgoing).main; reliable = load_in carrier_load fields.reliable; lossy = parts }) id message) =
    subst (λ n. Q (why_not_sent s.broken s.role u (record { unsent = length (s.outgoing).main; reliable = n; lossy = parts }) id message)) load_is h in
    let by_parts : Q (why_not_sent s.broken s.role u (record { unsent = length (s.outgoing).main; reliable = load_in carrier_load fields.reliable; lossy = load_in post_load fields.lossy }) id message) =
    subst (λ n. Q (why_not_sent s.broken s.role u (record { unsent = length (s.outgoing).main; reliable = load_in carrier_load fields.reliable; lossy = n }) id message)) parts_is by_load in
    let by_role : Q (why_not_sent s.broken role u (record { unsent = length (s.outgoing).main; reliable = load_in carrier_load fields.reliable; lossy = load_in post_load fields.lossy }) id message) =
    subst (λ x. Q (why_not_sent s.broken x u (record { unsent = length (s.outgoing).main; reliable = load_in carrier_load fields.reliable; lossy = load_in post_load fields.lossy }) id message)) tells.role_is by_parts in
    subst (λ (k : Kept C P). Q (why_not_sent (past role t).broken role u (record { unsent = length (unsent role t); reliable = load_in carrier_load k.reliable; lossy = load_in post_load k.lossy }) id message)) is
    (as_told (λ broken bytes. Q (why_not_sent broken role u (record { unsent = length bytes; reliable = load_in carrier_load fields.reliable; lossy = load_in post_load fields.lossy }) id message)) fields.reader fields.postings role t tells by_role)

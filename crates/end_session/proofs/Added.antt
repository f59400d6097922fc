-- How much an end writes for a frame that it hears, and for the requests that it answers, at most.
use Rattle.std.proofs.Common.{◌≡◌, ℕ, ◌+◌, ◌≤◌, Bool, true, false, cond, List, [], ◌∷◌, ◌++◌, length, length-append, append-nil, None, refl, sym, ap, subst, ◌∙◌, arith, ◌*◌}
use Rattle.std.specs.List.{flat_map}
use Rattle.std.proofs.lemmas.Grind.{flat_map-append}
use Rattle.std.proofs.lemmas.List.{append_cancel_left}
use Rattle.mt_base.specs.declared.kinds.Kind.{Kind}
use Rattle.mt_base.specs.declared.kinds.Kind.TheVariants.{Reliable, Lossy}
use Rattle.mt_base.specs.declared.kinds.Role.{Role}
use Rattle.mt_base.specs.declared.kinds.Role.TheVariants.{Server, Client}
use Rattle.mt_base.specs.Trace.{Trace, ◌▷◌}
use Rattle.dvc_pdus.specs.Layout.{id_in}
use Rattle.dvc_pdus.specs.Value.{Caps, CreateResponse, Close, smallest, spelled, SyncResponse}
use Rattle.dvc_channels.proofs.Sending.{sizes}
use Rattle.soft_sync.specs.declared.kinds.Path.{Path}
use Rattle.soft_sync.specs.declared.kinds.Path.TheVariants.{Main, Tunnel}
use Rattle.mt_endpoint.specs.Acts.{Act, Heard, Hears, TunnelAsked, TunnelAnswered, Spoken, Drawn, Carried, Answers}
use Rattle.mt_endpoint.specs.Channels.{has_place, is_closed, table}
use Rattle.mt_endpoint.specs.Moving.{outward, answer_to, may_answer, read, unanswered_in}
use Rattle.mt_endpoint.specs.Said.{Said, Capable, Creates, Created, Brings, Ends, Moves, Moved, said}
use Rattle.mt_endpoint.specs.Tunnels.{is_silent}
use Rattle.mt_endpoint.specs.Writing.{DENIED, OnMain, Written, adds, carried, closing, framed, into, main_bytes, on_main, reply, spoken, tunnel_bytes, tunneled, unless, types_of}
use Rattle.end_calls.specs.Law.{IsFront, shorter, whole}
use Rattle.end_calls.proofs.Fronts.{front_carried}
use Rattle.end_session.specs.Outgoing.{Outgoing, waiting_for}
use Rattle.end_session.specs.Standing.{Gone, IsLeft, Stands}
use Rattle.end_session.specs.Store.{Store}
use Rattle.end_session.proofs.Sizes.{close_short}
use Rattle.soft_sync.specs.declared.kinds.Kinds.{Kinds}
use Rattle.soft_sync.specs.Exchanges.{Request}
use Rattle.mt_endpoint.specs.Growing.{answer_all, answered}
use Rattle.end_calls.proofs.Onward.{front_then}
use Rattle.end_session.proofs.AnswersMade.{answer_short}

-- ---- bytes of what is written

abbrev pub main_size : List Written → ℕ
main_size written = length (flat_map framed (on_main written))

abbrev pub link_size : Kind → Bool → List Written → ℕ
link_size kind silent written = length (flat_map tunneled (into kind silent written))

-- at most so many on the main stream, into the reliable tunnel and into the lossy one
pub record AreShort (written : List Written) (main reliable lossy : ℕ) : Type 0 where
  pub main_short : main_size written ≤ main
  pub reliable_short : (silent : Bool) → link_size Reliable silent written ≤ reliable
  pub lossy_short : (silent : Bool) → link_size Lossy silent written ≤ lossy

nothing_short : (main reliable lossy : ℕ) → AreShort [] main reliable lossy
nothing_short main reliable lossy = record { main_short = omega arith; reliable_short = λ silent. omega arith; lossy_short = λ silent. omega arith }

frame_short : (heard : Heard) (n m : ℕ) → length (framed heard) ≤ n → AreShort (OnMain heard ∷ []) n m 0
frame_short heard n m h = record {
  main_short = omega (arith, h, length-append (framed heard) []);
  reliable_short = λ silent. omega arith;
  lossy_short = λ silent. omega arith;
}

-- a status takes four bytes, as the longest id
created_short : (id status : ℕ) → length (spelled (CreateResponse id status)) ≤ 9
created_short id status = omega (arith, sizes id, length-append (smallest id) (id_in 2 status ++ []))

-- a close on its path
closing_short : (path : Path) (id : ℕ) → AreShort (closing path id ∷ []) 8 9 0
closing_short Main id = frame_short (Spoken (Close id)) 8 9 (omega (arith, length-append (spelled (Close id)) [], close_short id))
closing_short (Tunnel Lossy) id = frame_short (Spoken (Close id)) 8 9 (omega (arith, length-append (spelled (Close id)) [], close_short id))
closing_short (Tunnel Reliable) id = record { main_short = omega arith; reliable_short = by_silence; lossy_short = λ silent. omega arith } where
  by_silence : (silent : Bool) → link_size Reliable silent (closing (Tunnel Reliable) id ∷ []) ≤ 9
  by_silence true = omega arith
  by_silence false = omega (arith, length-append (tunneled (Carried (spelled (Close id)) (Close id))) [], length-append (spelled (Close id)) [], close_short id)

ends_short : (b : Bool) (path : Path) (id : ℕ) → AreShort (unless b (closing path id ∷ [])) 8 9 0
ends_short true path id = nothing_short 8 9 0
ends_short false path id = closing_short path id

wider : (written : List Written) (n m : ℕ) → n ≤ m → AreShort written n 9 0 → AreShort written m 9 0
wider written n m h a = record { main_short = omega (arith, h, a.main_short); reliable_short = a.reliable_short; lossy_short = a.lossy_short }

reply_short : (role : Role) (t : Trace Act) (s : Said) → AreShort (reply role t s) 12 9 0
reply_short Server t (Capable version) = nothing_short 12 9 0
reply_short Client t (Capable version) = frame_short (Spoken (Caps 3 None)) 12 9 (omega arith)
reply_short Server t (Creates id name) = nothing_short 12 9 0
reply_short Client t (Creates id name) =
    let status = cond (has_place (table Client t)) 0 DENIED in
    frame_short (Spoken (CreateResponse id status)) 12 9 (omega (arith, length-append (spelled (CreateResponse id status)) [], created_short id status))
reply_short role t (Created id status) = nothing_short 12 9 0
reply_short role t (Brings id) = nothing_short 12 9 0
reply_short role t (Ends id) = wider (reply role t (Ends id)) 8 12 (omega arith) (ends_short (is_closed role id t) (outward id t) id)
reply_short role t (Moves lists) = nothing_short 12 9 0
reply_short role t (Moved kinds) = nothing_short 12 9 0

heard_short : (role : Role) (t : Trace Act) (heard : Heard) → AreShort (adds role t (Hears heard)) 12 9 0
heard_short role t (TunnelAsked id kind cookie) = nothing_short 12 9 0
heard_short role t (TunnelAnswered id hr) = nothing_short 12 9 0
heard_short role t (Spoken pdu) = subst (λ w. AreShort w 12 9 0) (sym (append-nil (reply role t (said pdu)))) (reply_short role t (said pdu))

-- ---- bytes that acts wrote

-- from the one moment to the other at most so many more were written
pub record IsMore (role : Role) (t u : Trace Act) (main reliable lossy : ℕ) : Type 0 where
  pub main_more : length (main_bytes role u) ≤ length (main_bytes role t) + main
  pub reliable_more : length (tunnel_bytes Reliable role u) ≤ length (tunnel_bytes Reliable role t) + reliable
  pub lossy_more : length (tunnel_bytes Lossy role u) ≤ length (tunnel_bytes Lossy role t) + lossy

main_after : (role : Role) (t : Trace Act) (act : Act) → length (main_bytes role (t ▷ act)) ≡ length (main_bytes role t) + main_size (adds role t act)
main_after role t act =
    ap (λ (b : List ℕ). length b) (flat_map-append framed (spoken role t) (on_main (adds role t act))) ∙ length-append (main_bytes role t) (flat_map framed (on_main (adds role t act)))

link_after : (kind : Kind) (role : Role) (t : Trace Act) (act : Act) → length (tunnel_bytes kind role (t ▷ act)) ≡ length (tunnel_bytes kind role t) + link_size kind (is_silent kind t) (adds role t act)
link_after kind role t act =
    ap (λ (b : List ℕ). length b) (flat_map-append tunneled (carried kind role t) (into kind (is_silent kind t) (adds role t act)))
    ∙ length-append (tunnel_bytes kind role t) (flat_map tunneled (into kind (is_silent kind t) (adds role t act)))

more_by : (role : Role) (t : Trace Act) (act : Act) (main reliable lossy : ℕ) → AreShort (adds role t act) main reliable lossy → IsMore role t (t ▷ act) main reliable lossy
more_by role t act main reliable lossy a = record {
  main_more = omega (arith, main_after role t act, a.main_short);
  reliable_more = omega (arith, link_after Reliable role t act, a.reliable_short (is_silent Reliable t));
  lossy_more = omega (arith, link_after Lossy role t act, a.lossy_short (is_silent Lossy t));
}

-- ---- what waits

-- at most so many bytes more wait on the main stream, and for the reliable link
abbrev pub IsLonger : Outgoing → Outgoing → ℕ → ℕ → Type 0
IsLonger o now main reliable = (length now.main ≤ length o.main + main) × (length (waiting_for Reliable now) ≤ length (waiting_for Reliable o) + reliable)

main_left : (s : Store) (t : Trace Act) (gone : Gone) → Stands s t gone → length (main_bytes s.role t) ≡ length gone.main + length (s.outgoing).main
main_left s t gone st = ap (λ (b : List ℕ). length b) (st.waits).main_waits ∙ length-append gone.main (s.outgoing).main

link_left : (written gone : List Drawn) (bytes : List ℕ) → IsLeft written gone bytes → length (flat_map tunneled written) ≡ length (flat_map tunneled gone) + length bytes
link_left written gone bytes l =
    ap (λ w. length (flat_map tunneled w)) l.rest_is ∙ ap (λ (b : List ℕ). length b) (flat_map-append tunneled gone l.rest) ∙ length-append (flat_map tunneled gone) (flat_map tunneled l.rest)
    ∙ ap (λ b. length (flat_map tunneled gone) + length b) (sym l.bytes_are)

-- an end that stands for the one moment, and then for the other
longer : (s now : Store) (t u : Trace Act) (gone : Gone) (main reliable lossy : ℕ) → now.role ≡ s.role → IsMore s.role t u main reliable lossy → Stands s t gone → Stands now u gone
    → IsLonger s.outgoing now.outgoing main reliable
longer s now t u gone main reliable lossy same m before after = (
  omega (arith, m.main_more, main_left s t gone before, main_left now u gone after, ap (λ r. length (main_bytes r u)) same),
  omega (
    arith,
    m.reliable_more,
    link_left (carried Reliable s.role t) gone.reliable (s.outgoing).reliable (before.waits).reliable_waits,
    link_left (carried Reliable now.role u) gone.reliable (now.outgoing).reliable (after.waits).reliable_waits,
    ap (λ r. length (tunnel_bytes Reliable r u)) same,
  ),
)

left_bytes : (written gone : List Drawn) (bytes : List ℕ) → IsLeft written gone bytes → flat_map tunneled written ≡ flat_map tunneled gone ++ bytes
left_bytes written gone bytes l = ap (flat_map tunneled) l.rest_is ∙ flat_map-append tunneled gone l.rest ∙ ap (λ b. flat_map tunneled gone ++ b) (sym l.bytes_are)

none_left : (bytes : List ℕ) → length bytes ≤ 0 → bytes ≡ []
none_left [] h = refl
none_left (byte ∷ bytes) h = absurd (omega (arith, h))

-- where no more is written for a link, what waits for it stays
link_same : (kind : Kind) (role : Role) (t u : Trace Act) (gone : List Drawn) (o now : List ℕ) → IsFront t u → length (tunnel_bytes kind role u) ≤ length (tunnel_bytes kind role t) + 0 → IsLeft (carried kind role t) gone o
    → IsLeft (carried kind role u) gone now → now ≡ o
link_same kind role t u gone o now f m before after =
    let p = front_carried kind role t u f in
    let old = tunnel_bytes kind role t in
    let more : tunnel_bytes kind role u ≡ old ++ flat_map tunneled p.0 = ap (flat_map tunneled) p.1 ∙ flat_map-append tunneled (carried kind role t) p.0 in
    let none = none_left (flat_map tunneled p.0) (omega (arith, m, ap (λ (b : List ℕ). length b) more, length-append old (flat_map tunneled p.0))) in
    append_cancel_left (flat_map tunneled gone) now o
    (sym (left_bytes (carried kind role u) gone now after) ∙ more ∙ ap (λ b. old ++ b) none ∙ append-nil old ∙ left_bytes (carried kind role t) gone o before)

lossy_same : (s now : Store) (t u : Trace Act) (gone : Gone) (main reliable : ℕ) → now.role ≡ s.role → IsFront t u → IsMore s.role t u main reliable 0 → Stands s t gone → Stands now u gone
    → waiting_for Lossy now.outgoing ≡ waiting_for Lossy s.outgoing
lossy_same s now t u gone main reliable same f m before after =
    link_same Lossy s.role t u gone.lossy (s.outgoing).lossy (now.outgoing).lossy f m.lossy_more (before.waits).lossy_waits
    (subst (λ r. IsLeft (carried Lossy r u) gone.lossy (now.outgoing).lossy) same (after.waits).lossy_waits)

-- ---- a frame is heard

pub heard_longer : (s now : Store) (t : Trace Act) (heard : Heard) (gone : Gone) → now.role ≡ s.role → Stands s t gone → Stands now (t ▷ Hears heard) gone → IsLonger s.outgoing now.outgoing 12 9
heard_longer s now t heard gone same before after =
    longer s now t (t ▷ Hears heard) gone 12 9 0 same (more_by s.role t (Hears heard) 12 9 0 (heard_short s.role t heard)) before after

pub heard_lossy : (s now : Store) (t : Trace Act) (heard : Heard) (gone : Gone) → now.role ≡ s.role → Stands s t gone → Stands now (t ▷ Hears heard) gone
    → waiting_for Lossy now.outgoing ≡ waiting_for Lossy s.outgoing
heard_lossy s now t heard gone same before after =
    lossy_same s now t (t ▷ Hears heard) gone 12 9 same (shorter t t (Hears heard) (whole t)) (more_by s.role t (Hears heard) 12 9 0 (heard_short s.role t heard)) before after

-- a frame that writes nothing
pub heard_quiet : (s now : Store) (t : Trace Act) (heard : Heard) (gone : Gone) → now.role ≡ s.role → adds s.role t (Hears heard) ≡ [] → Stands s t gone → Stands now (t ▷ Hears heard) gone
    → length (waiting_for Reliable now.outgoing) ≤ length (waiting_for Reliable s.outgoing) + 0
heard_quiet s now t heard gone same none before after =
    (longer s now t (t ▷ Hears heard) gone 0 0 0 same (more_by s.role t (Hears heard) 0 0 0 (subst (λ w. AreShort w 0 0 0) (sym none) (nothing_short 0 0 0))) before after).1

-- ---- requests are answered

answers_short : (role : Role) (t : Trace Act) (named : Kinds) → AreShort (adds role t (Answers named)) 17 0 0
answers_short role t named = frame_short (Spoken (SyncResponse (types_of named))) 17 0 (omega (arith, length-append (spelled (SyncResponse (types_of named))) [], answer_short named))

pub answers_front : (requests : List Request) (t : Trace Act) → IsFront t (answer_all Client requests t)
answers_front [] t = whole t
answers_front (request ∷ requests) t = by_test (may_answer Client t request.named) (answers_front requests (t ▷ Answers (answer_to Client t request.named))) where
  by_test : (b : Bool) → IsFront (t ▷ Answers (answer_to Client t request.named)) (answer_all Client requests (t ▷ Answers (answer_to Client t request.named)))
      → IsFront t (cond b (answer_all Client requests (t ▷ Answers (answer_to Client t request.named))) t)
  by_test true deeper = front_then t _ _ (shorter t t _ (whole t)) deeper
  by_test false deeper = whole t

pub answered_front : (role : Role) (t : Trace Act) → IsFront t (answered role t)
answered_front Server t = whole t
answered_front Client t = answers_front (unanswered_in (read t)) t

all_more : (requests : List Request) (t : Trace Act) → IsMore Client t (answer_all Client requests t) (17 * length requests) 0 0
all_more [] t = record { main_more = omega arith; reliable_more = omega arith; lossy_more = omega arith }
all_more (request ∷ requests) t = by_test (may_answer Client t request.named) (all_more requests (t ▷ Answers (answer_to Client t request.named))) where
  named : Kinds
  named = answer_to Client t request.named

  by_test : (b : Bool) → IsMore Client (t ▷ Answers named) (answer_all Client requests (t ▷ Answers named)) (17 * length requests) 0 0
      → IsMore Client t (cond b (answer_all Client requests (t ▷ Answers named)) t) (17 * length (request ∷ requests)) 0 0
  by_test false rest = record { main_more = omega arith; reliable_more = omega arith; lossy_more = omega arith }
  by_test true rest =
      let one = more_by Client t (Answers named) 17 0 0 (answers_short Client t named) in record {
        main_more = omega (arith, one.main_more, rest.main_more);
        reliable_more = omega (arith, one.reliable_more, rest.reliable_more);
        lossy_more = omega (arith, one.lossy_more, rest.lossy_more);
      }

answered_more : (role : Role) (t : Trace Act) → IsMore role t (answered role t) (17 * length (unanswered_in (read t))) 0 0
answered_more Server t = record { main_more = omega arith; reliable_more = omega arith; lossy_more = omega arith }
answered_more Client t = all_more (unanswered_in (read t)) t

pub answered_longer : (s now : Store) (t : Trace Act) (gone : Gone) → now.role ≡ s.role → Stands s t gone → Stands now (answered s.role t) gone → length (now.outgoing).main ≤ length (s.outgoing).main + 17 * s.owed
answered_longer s now t gone same before after =
    subst (λ n. length (now.outgoing).main ≤ length (s.outgoing).main + 17 * n) (sym (before.knows).owed_is)
    (longer s now t (answered s.role t) gone (17 * length (unanswered_in (read t))) 0 0 same (answered_more s.role t) before after).0

pub answered_same : (s now : Store) (t : Trace Act) (gone : Gone) → now.role ≡ s.role → Stands s t gone → Stands now (answered s.role t) gone → (kind : Kind) → waiting_for kind now.outgoing ≡ waiting_for kind s.outgoing
answered_same s now t gone same before after Reliable =
    link_same Reliable s.role t (answered s.role t) gone.reliable (s.outgoing).reliable (now.outgoing).reliable (answered_front s.role t) (answered_more s.role t).reliable_more (before.waits).reliable_waits
    (subst (λ r. IsLeft (carried Reliable r (answered s.role t)) gone.reliable (now.outgoing).reliable) same (after.waits).reliable_waits)
answered_same s now t gone same before after Lossy =
    lossy_same s now t (answered s.role t) gone (17 * length (unanswered_in (read t))) 0 same (answered_front s.role t) (answered_more s.role t) before after

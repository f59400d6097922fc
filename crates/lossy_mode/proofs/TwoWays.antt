-- Two joined lossy links: both directions at once.
use Rattle.std.proofs.Common.{◌≡◌, ℕ, zero, suc, ◌+◌, ◌%◌, ◌≤◌, ◌<◌, Bool, true, false, max, List, [], ◌∷◌, ◌++◌, All, length, take, drop, if◌then◌else◌, Option, Some, None, option_map, refl, sym, ap, ◌∙◌, subst, add-one, arith, length-append}
use Rattle.std.proofs.lemmas.Bool.Decides.{nat_tests}
use Rattle.std.proofs.lemmas.List.Elements.{All-drop, All-head}
use Rattle.mt_base.specs.Trace.{Trace, Start, ◌▷◌}
use Rattle.carrier.specs.Due.{is_pressing}
use Rattle.carrier.specs.Entries.{Entry, Gave, In, Polled, Pulled, Owed, Posted, Next, moment, posted}
use Rattle.carrier.specs.Layout.{Layout, Reading, Carries}
use Rattle.udp1_core.specs.FirstLayout.{modulus, shows}
use Rattle.udp_open.specs.declared.settings.OpenSettings.{OpenSettings}
use Rattle.udp_open.specs.declared.agreement.Agreement.{Agreement}
use Rattle.udp_open.specs.Handshake.{agreed, opening_due}
use Rattle.udp_open.specs.LinkTrace.{layout_by}
use Rattle.udp_open.proofs.links.Opened.{due_has}
use Rattle.lossy_mode.specs.Thin.{Got, Thin, bare_meant, carries, datagram_of, first_due, got, may_send, next_load, part_datagram, part_meant, plain, sent, sent_by, tellings, unsent}
use Rattle.lossy_mode.proofs.HeadLemmas.{telling_short}
use Rattle.lossy_mode.proofs.OneWay.{Flies, IsPlace, Keeps, flies_on, flies_posted, keeps_on, keeps_posted, load_in}
use Rattle.lossy_mode.proofs.Polls.{IsPiece, plain_flagged, plain_reads, posted_pieces}

-- ---- what a poll sends

-- it shows no part
abbrev pub Shows_none : Option (List ℕ) → Type 0
Shows_none out = (d : List ℕ) → out ≡ Some d → (low q : ℕ) (b : List ℕ) → load_in (plain d (shows d)) ≡ Carries low q b → ⊥

-- it shows this part alone
abbrev pub Shows_part : Option (List ℕ) → ℕ → List ℕ → Type 0
Shows_part out number bytes = (d : List ℕ) → out ≡ Some d → (low q : ℕ) (b : List ℕ) → load_in (plain d (shows d)) ≡ Carries low q b → (low ≡ number % modulus) × (b ≡ bytes)

pub data Sends (s : OpenSettings) (t : Trace Entry) (now : ℕ) (out : Option (List ℕ)) : Type 0 where
  silent : sent (t ▷ Polled now out) ≡ sent t → Shows_none out → Sends s t now out
  one_part : (bytes : List ℕ) → sent (t ▷ Polled now out) ≡ sent t + 1 → IsPlace (posted t) (sent t) bytes → sent t < length (posted t)
      → Shows_part out (s.initial + 1 + sent t) bytes → Sends s t now out

place_of : (n : ℕ) (ps rest : List (List ℕ)) (x : List ℕ) → drop n ps ≡ x ∷ rest → take (suc n) ps ≡ take n ps ++ x ∷ []
place_of zero [] rest x h = cc
place_of zero (p ∷ ps) rest x h = let same : p ≡ x = cc in ap (λ y. y ∷ []) same
place_of (suc n) [] rest x h = cc
place_of (suc n) (p ∷ ps) rest x h = ap (λ f. p ∷ f) (place_of n ps rest x h)

there_of : (n : ℕ) (ps rest : List (List ℕ)) (x : List ℕ) → drop n ps ≡ x ∷ rest → n < length ps
there_of zero [] rest x h = cc
there_of zero (p ∷ ps) rest x h = omega arith
there_of (suc n) [] rest x h = cc
there_of (suc n) (p ∷ ps) rest x h = omega (arith, there_of n ps rest x h)

shows_none : (x : List ℕ) (r : Reading) → plain x (shows x) ≡ r → ((low q : ℕ) (b : List ℕ) → load_in r ≡ Carries low q b → ⊥) → Shows_none (Some x)
shows_none x r is never = λ y e low q b h. (let same : x ≡ y = cc in
    never low q b (ap load_in (sym is ∙ ap (λ z. plain z (shows z)) same) ∙ h))

module _ (s : OpenSettings) (t : Trace Entry) (now at : ℕ) (a : Agreement) (g : Got) where
  abbrev lay : Layout
  lay = layout_by s a

  abbrev number : ℕ
  number = s.initial + 1 + sent t

  part_sends : (rest : List (List ℕ)) (p : List ℕ) → unsent t ≡ p ∷ rest → IsPiece p
      → Sends s t now (Some (lay.spell (part_datagram lay g (tellings s t) (next_load number p))))
  part_sends rest p e good =
      let d = part_datagram lay g (tellings s t) (next_load number p) in
      let x = lay.spell d in
      let reads = plain_reads lay.wait lay.delay lay.own lay.peer d tt (telling_short lay.peer g.floor g.numbers) good.1 in
      one_part p (ap (λ r. if carries r then sent t + 1 else sent t) reads)
      (ap (λ n. take n (posted t)) (add-one (sent t)) ∙ place_of (sent t) (posted t) rest p e)
      (there_of (sent t) (posted t) rest p e)
      (λ y is low q b h. (
      let same : x ≡ y = cc in
      let shown : Carries (number % modulus) (number % modulus) p ≡ Carries low q b = ap load_in (sym reads ∙ ap (λ z. plain z (shows z)) same) ∙ h in
      (cc, cc)
      ))

  bare_sends : Sends s t now (Some (lay.spell (datagram_of lay.peer g true None)))
  bare_sends =
      let d = datagram_of lay.peer g true None in
      let reads = plain_reads lay.wait lay.delay lay.own lay.peer d tt (telling_short lay.peer g.floor g.numbers) tt in
      silent (ap (λ r. if carries r then sent t + 1 else sent t) reads)
      (shows_none (lay.spell d) _ reads (λ low q b h. cc))

  none_sends : Sends s t now None
  none_sends = silent refl (λ d e low q b h. cc)

  bare_by : (b : Bool) → Sends s t now (option_map lay.spell (if b then Some (datagram_of lay.peer g true None) else None))
  bare_by true = bare_sends
  bare_by false = none_sends

  open_by : (b : Bool) (parts : List (List ℕ)) → may_send parts g.window number ≡ b → unsent t ≡ parts → All IsPiece parts
      → Sends s t now (option_map lay.spell (if b then part_meant lay g (tellings s t) number parts else bare_meant lay g (tellings s t) at))
  open_by false parts may is good = bare_by (is_pressing lay (tellings s t) at)
  open_by true [] may is good = absurd (grind (arith, nat_tests))
  open_by true (p ∷ rest) may is good = part_sends rest p is (All-head IsPiece p rest good)

link_sends : (s : OpenSettings) (t : Trace Entry) (now at : ℕ) (o : Option Agreement) (g : Got) → All IsPiece (unsent t)
    → Sends s t now (sent_by s o g (tellings s t) (s.initial + 1 + sent t) (unsent t) at)
link_sends s t now at None g good = silent refl (λ d e low q b h. cc)
link_sends s t now at (Some a) g good = open_by s t now at a g (may_send (unsent t) g.window (s.initial + 1 + sent t)) (unsent t) refl refl good

pub sends : (s : OpenSettings) (t : Trace Entry) (now : ℕ) (out : Option (List ℕ)) → Thin s (t ▷ Polled now out) → Sends s t now out
sends s t now out h = subst (Sends s t now) (sym h.0) (by_opening (opening_due s t now) refl)
  where
    by_opening : (o : Option (List ℕ)) → opening_due s t now ≡ o
        → Sends s t now (first_due o (sent_by s (agreed s t) (got s t) (tellings s t) (s.initial + 1 + sent t) (unsent t) (max (moment t) now)))
    by_opening None e = link_sends s t now (max (moment t) now) (agreed s t) (got s t) (All-drop IsPiece (sent t) (posted t) (posted_pieces s t h.1))
    by_opening (Some x) e =
        let flagged = plain_flagged x (shows x) (due_has s t now x e) in
        silent (ap (λ r. if carries r then sent t + 1 else sent t) flagged) (shows_none x _ flagged (λ low q b h. cc))

within_more : (s : OpenSettings) (t : Trace Entry) (now : ℕ) (out : Option (List ℕ)) → sent t ≤ length (posted t) → Sends s t now out → sent (t ▷ Polled now out) ≤ length (posted t)
within_more s t now out h (silent e never) = omega (arith, e, h)
within_more s t now out h (one_part bytes e there less shown) = omega (arith, e, less)

pub sent_within : (s : OpenSettings) (t : Trace Entry) → Thin s t → sent t ≤ length (posted t)
sent_within s Start h = omega arith
sent_within s (t ▷ Polled now out) h = within_more s t now out (sent_within s t h.1) (sends s t now out h)
sent_within s (t ▷ Posted bytes) h = omega (arith, sent_within s t h.1, length-append (posted t) (bytes ∷ []))
sent_within s (t ▷ In now d took) h = sent_within s t h.1
sent_within s (t ▷ Next part) h = sent_within s t h.1
sent_within s (t ▷ Gave bytes) h = absurd h.0
sent_within s (t ▷ Pulled room bytes) h = absurd h.0
sent_within s (t ▷ Owed count) h = absurd h.0

-- ---- the sender moves

abbrev pub AllFly : ℕ → ℕ → List (List ℕ) → (ℕ → List ℕ → Type 0) → Type 0
AllFly own n ps P = (k : ℕ) (d : List ℕ) → P k d → Flies own n k ps d

flies_now : (s : OpenSettings) (t : Trace Entry) (now : ℕ) (out : Option (List ℕ)) (d : List ℕ) → out ≡ Some d → Sends s t now out
    → Flies (s.initial + 1) (sent (t ▷ Polled now out)) 0 (posted t) d
flies_now s t now out d is (silent e never) = record { at = λ low q b h. absurd (never d is low q b h) }
flies_now s t now out d is (one_part bytes e there less shown) = record {
  at = λ low q b h. (let x = shown d is low q b h in record {
    place = sent t;
    made = omega (arith, e);
    recent = omega (arith, e);
    low_is = x.0;
    there = subst (IsPlace (posted t) (sent t)) (sym x.1) there;
  });
}

grows : (s : OpenSettings) (t : Trace Entry) (now : ℕ) (out : Option (List ℕ)) → Sends s t now out → (sent t ≤ sent (t ▷ Polled now out)) × (sent (t ▷ Polled now out) ≤ sent t + 1)
grows s t now out (silent e never) = (omega (arith, e), omega (arith, e))
grows s t now out (one_part bytes e there less shown) = (omega (arith, e), omega (arith, e))

same_sent : (s : OpenSettings) (t : Trace Entry) (now : ℕ) → sent (t ▷ Polled now None) ≡ sent t
same_sent s t now = refl

-- the datagrams under way after a call of their sender
abbrev pub Moves : Entry → (ℕ → List ℕ → Type 0) → (ℕ → List ℕ → Type 0) → Type 0
Moves (Polled now (Some out)) P Q = ((d : List ℕ) → Q 0 d → out ≡ d) × ((k : ℕ) (d : List ℕ) → Q (suc k) d → P k d)
Moves e P Q = (k : ℕ) (d : List ℕ) → Q k d → P k d

pub sender_flies : (s : OpenSettings) (t : Trace Entry) (e : Entry) (P Q : ℕ → List ℕ → Type 0) → Thin s (t ▷ e) → Moves e P Q
    → AllFly (s.initial + 1) (sent t) (posted t) P → AllFly (s.initial + 1) (sent (t ▷ e)) (posted (t ▷ e)) Q
sender_flies s t (Polled now (Some out)) P Q h moves old = λ k d q. by k d q
  where
    by : (k : ℕ) (d : List ℕ) → Q k d → Flies (s.initial + 1) (sent (t ▷ Polled now (Some out))) k (posted t) d
    by zero d q = flies_now s t now (Some out) d (ap Some (moves.0 d q)) (sends s t now (Some out) h)
    by (suc k) d q =
        let g = grows s t now (Some out) (sends s t now (Some out) h) in
        flies_on (s.initial + 1) (sent t) (sent (t ▷ Polled now (Some out))) k (posted t) d g.0 g.1 (old k d (moves.1 k d q))
sender_flies s t (Polled now None) P Q h moves old = λ k d q. old k d (moves k d q)
sender_flies s t (Posted bytes) P Q h moves old = λ k d q. flies_posted (s.initial + 1) (sent t) k (posted t) bytes d (sent_within s t h.1) (old k d (moves k d q))
sender_flies s t (In now d took) P Q h moves old = λ k d q. old k d (moves k d q)
sender_flies s t (Next part) P Q h moves old = λ k d q. old k d (moves k d q)
sender_flies s t (Gave bytes) P Q h moves old = λ k d q. old k d (moves k d q)
sender_flies s t (Pulled room bytes) P Q h moves old = λ k d q. old k d (moves k d q)
sender_flies s t (Owed count) P Q h moves old = λ k d q. old k d (moves k d q)

pub sender_keeps : (s : OpenSettings) (t : Trace Entry) (e : Entry) (g : Got) → Thin s (t ▷ e) → Keeps (s.initial + 1) (sent t) (posted t) g → Keeps (s.initial + 1) (sent (t ▷ e)) (posted (t ▷ e)) g
sender_keeps s t (Polled now out) g h old = keeps_on (s.initial + 1) (sent t) (sent (t ▷ Polled now out)) (posted t) g (grows s t now out (sends s t now out h)).0 old
sender_keeps s t (Posted bytes) g h old = keeps_posted (s.initial + 1) (sent t) (posted t) bytes g (sent_within s t h.1) old
sender_keeps s t (In now d took) g h old = old
sender_keeps s t (Next part) g h old = old
sender_keeps s t (Gave bytes) g h old = old
sender_keeps s t (Pulled room bytes) g h old = old
sender_keeps s t (Owed count) g h old = old

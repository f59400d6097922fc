-- What the datagrams of one end carry and tell, by induction over its calls.
use Rattle.std.proofs.Common.{◌≡◌, ℕ, ◌+◌, ◌-◌, ◌<◌, ◌≤◌, ◌⊎◌, inl, inr, true, false, eqb, cond, List, [], ◌∷◌, ◌++◌, length, slice_get, Option, Some, None, option_map, refl, sym, ap, ◌∙◌, subst, append-nil, arith, length-append}
use Rattle.std.proofs.lemmas.Bool.{cases_order}
use Rattle.std.proofs.lemmas.Bool.Decides.{nat_tests}
use Rattle.std.proofs.lemmas.Option.{slice_get_within}
use Rattle.mt_base.specs.Trace.{Trace, Start, ◌▷◌}
use Rattle.mt_base.proofs.Lists.{slice_get-append-left, slice_get-append-right}
use Rattle.mt_windows.specs.Arrived.{passed}
use Rattle.mt_windows.specs.Sending.Act.{Gave as GaveBytes, Cut, Resent}
use Rattle.mt_windows.specs.Sending.{Act, cuts, given as given_to, next_piece, piece, transmissions, waiting}
use Rattle.mt_windows.proofs.Pieces.{pieces_and_rest}
use Rattle.carrier.specs.Entries.{Entry, Gave, In, Polled, Pulled, Owed, Posted, Next, given}
use Rattle.carrier.specs.Layout.{Layout, Datagram, Carried, Shows, tells}
use Rattle.carrier.specs.LayoutLaw.{shown_of, is_received}
use Rattle.carrier.specs.Receiving.{received, accepted, floor, effect, peer_window}
use Rattle.carrier.specs.Sending.{acts, hears, sends}
use Rattle.carrier.specs.Law.{Faithful}
use Rattle.carrier.specs.Due.{meant}
use Rattle.carrier.specs.Faithful.{HasRoom, IsNext, one_load, loads_of, carried, WasCarried, InOrder, PartsWereGiven, PulledWasPassed}
use Rattle.carrier.proofs.links.Numbers.{open_cut}
use Rattle.carrier.proofs.links.Sends.{Moved, Repeated, Extended, Told, next_fits, piece_before, piece_next}
use Rattle.carrier.proofs.links.Ends.{was_meant}
use Rattle.carrier.proofs.links.Pulled.{pulled_then}
use Rattle.carrier.proofs.links.Informed.{informs_hears}
use Rattle.carrier.proofs.links.OneEnd.{OneEnd, one_end, said, next_some, cut_more}

-- ---- the list of what was carried

module _ (l : Layout) (a b : Trace Act) (more : cuts a ≤ cuts b) (same : (p : ℕ) → p < cuts a → piece l.bounds.windows b p ≡ piece l.bounds.windows a p) where
  carried_on : (j : ℕ) (c : Carried) → WasCarried l a j c → WasCarried l b j c
  carried_on j c h = record {
    transmission = h.transmission;
    place = h.place;
    part = h.part;
    cut = omega (arith, h.cut, more);
    bytes = h.bytes ∙ sym (same h.place h.cut);
    some_bytes = h.some_bytes;
    few_bytes = h.few_bytes;
  }

  order_on : (xs : List Carried) → transmissions b ≡ transmissions a → InOrder l a xs → InOrder l b xs
  order_on xs made h = record { count = h.count ∙ sym made; each = λ j c is. carried_on j c (h.each j c is) }

  order_push : (xs : List Carried) (c : Carried) → transmissions b ≡ transmissions a + 1 → WasCarried l b (transmissions a) c → InOrder l a xs → InOrder l b (xs ++ c ∷ [])
  order_push xs c made last h = record {
    count = omega (arith, length-append xs (c ∷ []), h.count, made);
    each = λ j x is. by_place j x is (cases_order j (length xs));
  }
    where
      at_end : (j : ℕ) (x : Carried) → j ≡ length xs → Some c ≡ Some x → WasCarried l b j x
      at_end j x e is =
          let one : c ≡ x = cc in
          subst (λ y. WasCarried l b j y) one (subst (λ k. WasCarried l b k c) (sym (e ∙ h.count)) last)

      by_place : (j : ℕ) (x : Carried) → slice_get (xs ++ c ∷ []) j ≡ Some x → (j ≡ length xs) ⊎ ((j < length xs) ⊎ (length xs < j)) → WasCarried l b j x
      by_place j x is (inl e) =
          let none : j - length xs ≡ 0 = omega (arith, e) in
          at_end j x e (sym (slice_get-append-right xs (c ∷ []) j (omega (arith, e)) ∙ ap (slice_get (c ∷ [])) none) ∙ is)
      by_place j x is (inr (inl less)) = carried_on j x (h.each j x (sym (slice_get-append-left xs (c ∷ []) j less) ∙ is))
      by_place j x is (inr (inr far)) = absurd (let within = slice_get_within (xs ++ c ∷ []) j x is in omega (arith, within, far, length-append xs (c ∷ [])))

-- ---- one end

module _ (l : Layout) (asks : HasRoom l) where
  resent_carried : (a : Trace Act) (p : ℕ) → OneEnd l.bounds.windows l.own a → p < cuts a
      → WasCarried l (a ▷ Resent p) (transmissions a) (record { part = l.own + p; transmission = l.own + transmissions a; bytes = piece l.bounds.windows a p })
  resent_carried a p h cut = record {
    transmission = refl;
    place = p;
    part = refl;
    cut = cut;
    bytes = refl;
    some_bytes = h.some_bytes p cut;
    few_bytes = (h.even.pieces p).0;
  }

  cut_carried : (a : Trace Act) → OneEnd l.bounds.windows l.own a → 0 < length (waiting l.bounds.windows a)
      → WasCarried l (a ▷ Cut) (transmissions a) (record { part = l.own + cuts a; transmission = l.own + transmissions a; bytes = next_piece l.bounds.windows a })
  cut_carried a h waits = record {
    transmission = refl;
    place = cuts a;
    part = refl;
    cut = omega arith;
    bytes = sym (piece_next l.bounds.windows a);
    some_bytes = next_some l.bounds.windows a asks.some_part waits;
    few_bytes = (next_fits l.bounds.windows a h.even.bytes).0;
  }

  order_moves : (t : Trace Entry) (d : Datagram) (b : Trace Act) (xs : List Carried) → OneEnd l.bounds.windows l.own (acts l t) → Moved l t d b → InOrder l (acts l t) xs → InOrder l b (xs ++ one_load d.load)
  order_moves t d b xs h (Repeated p is may load e) order =
      let a = acts l t in
      let c : Carried = record { part = l.own + p; transmission = l.own + transmissions a; bytes = piece l.bounds.windows a p } in
      subst (λ o. InOrder l b (xs ++ one_load o)) (sym load) (subst (λ x. InOrder l x (xs ++ c ∷ [])) (sym e)
      (order_push l a (a ▷ Resent p) (omega arith) (λ q less. refl) xs c refl (resent_carried a p h (open_cut l.bounds.windows a p is)) order))
  order_moves t d b xs h (Extended may load e) order =
      let a = acts l t in
      let c : Carried = record { part = l.own + cuts a; transmission = l.own + transmissions a; bytes = next_piece l.bounds.windows a } in
      subst (λ o. InOrder l b (xs ++ one_load o)) (sym load) (subst (λ x. InOrder l x (xs ++ c ∷ [])) (sym e)
      (order_push l a (a ▷ Cut) (omega arith) (λ q less. piece_before l.bounds.windows a q less) xs c refl
      (cut_carried a h (cut_more l.bounds.windows l.own a (peer_window l t) may)) order))
  order_moves t d b xs h (Told load e) order =
      subst (λ o. InOrder l b (xs ++ one_load o)) (sym load) (subst (λ ys. InOrder l b ys) (sym (append-nil xs))
      (subst (λ x. InOrder l x xs) (sym e) order))

  order_silent : (t : Trace Entry) (o : Option Datagram) (xs : List Carried) → None ≡ option_map l.spell o → InOrder l (acts l t) xs → InOrder l (acts l t) (xs ++ loads_of o)
  order_silent t None xs is order = subst (λ ys. InOrder l (acts l t) ys) (sym (append-nil xs)) order
  order_silent t (Some d) xs is order = absurd (cc)

  order_polls : (t : Trace Entry) (now : ℕ) (out : List ℕ) → Faithful l (t ▷ Polled now (Some out)) → InOrder l (acts l t) (carried l t) → InOrder l (sends l (acts l t) (l.read out)) (carried l t ++ loads_of (meant l t now))
  order_polls t now out law order =
      let was = was_meant l (meant l t now) out law.0 in
      let h = one_end l asks t law.1 in
      let s = said l asks t now was.0 h was.1 in
      subst (λ o. InOrder l (sends l (acts l t) (l.read out)) (carried l t ++ loads_of o)) (sym was.1)
      (subst (λ d. InOrder l (sends l (acts l t) (l.read d)) (carried l t ++ one_load was.0.load)) (sym was.2)
      (order_moves t was.0 (sends l (acts l t) (l.read (l.spell was.0))) (carried l t) h s.moved order))

  pub in_order : (t : Trace Entry) → Faithful l t → InOrder l (acts l t) (carried l t)
  in_order Start law = record { count = refl; each = λ j c is. absurd (let within = slice_get_within [] j c is in omega (arith, within)) }
  in_order (t ▷ Gave bytes) law = order_on l (acts l t) (acts l t ▷ GaveBytes bytes) (omega arith) (λ p less. refl) (carried l t) refl (in_order t law.2)
  in_order (t ▷ In now datagram took) law =
      let g = informs_hears l (acts l t) (effect l took datagram) in
      order_on l (acts l t) (hears l (acts l t) (effect l took datagram)) (omega (arith, g.keeps.cuts_are)) (λ p less. g.keeps.pieces_are p) (carried l t) g.keeps.made_are (in_order t law.1)
  in_order (t ▷ Polled now None) law = order_silent t (meant l t now) (carried l t) law.0 (in_order t law.1)
  in_order (t ▷ Polled now (Some out)) law = order_polls t now out law (in_order t law.1)
  in_order (t ▷ Pulled room bytes) law = in_order t law.1
  in_order (t ▷ Owed count) law = in_order t law
  in_order (t ▷ Posted bytes) law = absurd law
  in_order (t ▷ Next bytes) law = absurd law

  -- ---- what the next poll sends

  pub next_is : (t : Trace Entry) (d : Datagram) (b : Trace Act) (c : Carried) → OneEnd l.bounds.windows l.own (acts l t) → Moved l t d b → d.load ≡ Some c → IsNext l t c
  next_is t d b c h (Repeated p is may load e) has =
      let a = acts l t in
      let cut = open_cut l.bounds.windows a p is in
      let other' : eqb p (cuts a) ≡ false = grind (arith, nat_tests) in
      let c0 : Carried = record { part = l.own + p; transmission = l.own + transmissions a; bytes = piece l.bounds.windows a p } in
      let one : c0 ≡ c = same_load c0 c (sym load ∙ has) in
      subst (λ x. IsNext l t x) one (record {
        transmission = refl;
        place = p;
        part = refl;
        which = inl is;
        bytes = sym (ap (λ x. cond x (next_piece l.bounds.windows a) (piece l.bounds.windows a p)) other');
        some_bytes = h.some_bytes p cut;
        few_bytes = (h.even.pieces p).0;
      })
    where
      same_load : (x y : Carried) → Some x ≡ Some y → x ≡ y
      same_load x y e = cc
  next_is t d b c h (Extended may load e) has =
      let a = acts l t in
      let same : eqb (cuts a) (cuts a) ≡ true = grind (arith, nat_tests) in
      let c0 : Carried = record { part = l.own + cuts a; transmission = l.own + transmissions a; bytes = next_piece l.bounds.windows a } in
      let one : c0 ≡ c = same_load c0 c (sym load ∙ has) in
      subst (λ x. IsNext l t x) one (record {
        transmission = refl;
        place = cuts a;
        part = refl;
        which = inr refl;
        bytes = sym (ap (λ x. cond x (next_piece l.bounds.windows a) (piece l.bounds.windows a (cuts a))) same);
        some_bytes = next_some l.bounds.windows a asks.some_part (cut_more l.bounds.windows l.own a (peer_window l t) may);
        few_bytes = (next_fits l.bounds.windows a h.even.bytes).0;
      })
    where
      same_load : (x y : Carried) → Some x ≡ Some y → x ≡ y
      same_load x y e = cc
  next_is t d b c h (Told load e) has = absurd (cc)

  pub sends_next : (t : Trace Entry) → Faithful l t → (now : ℕ) (d : Datagram) (c : Carried) → meant l t now ≡ Some d → d.load ≡ Some c → IsNext l t c
  sends_next t law now d c is has =
      let h = one_end l asks t law in
      next_is t d (sends l (acts l t) (l.read (l.spell d))) c h (said l asks t now d h is).moved has

  pub shows_meant : (t : Trace Entry) → Faithful l t → (now : ℕ) (d : Datagram) → meant l t now ≡ Some d → (l.read (l.spell d) ≡ Shows (shown_of l d)) × (length (l.spell d) ≤ l.bounds.datagram)
  shows_meant t law now d is = let s = said l asks t now d (one_end l asks t law) is in (s.shows, s.fits)

  pub tells_received : (t : Trace Entry) → Faithful l t → (now : ℕ) (d : Datagram) → meant l t now ≡ Some d → (n : ℕ) → l.peer ≤ n → tells d.telling n ≡ true → is_received l (received l t) n ≡ true
  tells_received t law now d is n le told =
      let s = said l asks t now d (one_end l asks t law) is in
      asks.lawful.received (received l t) (floor l t) n le (sym (ap (λ x. tells x n) s.telling) ∙ told)

  -- ---- what was given, and what was pulled

  pub all_given : (t : Trace Entry) → Faithful l t → given_to (acts l t) ≡ given t
  all_given Start law = refl
  all_given (t ▷ Gave bytes) law = ap (λ xs. xs ++ bytes) (all_given t law.2)
  all_given (t ▷ In now datagram took) law = (informs_hears l (acts l t) (effect l took datagram)).given_is ∙ all_given t law.1
  all_given (t ▷ Polled now None) law = all_given t law.1
  all_given (t ▷ Polled now (Some out)) law =
      let was = was_meant l (meant l t now) out law.0 in
      let s = said l asks t now was.0 (one_end l asks t law.1) was.1 in
      ap (λ d. given_to (sends l (acts l t) (l.read d))) was.2 ∙ s.grown.given_is ∙ all_given t law.1
  all_given (t ▷ Pulled room bytes) law = all_given t law.1
  all_given (t ▷ Owed count) law = all_given t law
  all_given (t ▷ Posted bytes) law = absurd law
  all_given (t ▷ Next bytes) law = absurd law

  pub parts_given : (t : Trace Entry) → Faithful l t → PartsWereGiven l t
  parts_given t law = (waiting l.bounds.windows (acts l t), sym (all_given t law) ∙ sym (pieces_and_rest l.bounds.windows (acts l t)))

pub pulled_passed : (l : Layout) (t : Trace Entry) → Faithful l t → PulledWasPassed l t
pulled_passed l t law = pulled_then l t (passed (accepted l t)) [] law (sym (append-nil (passed (accepted l t))))

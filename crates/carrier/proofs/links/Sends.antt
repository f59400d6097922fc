-- What a poll sends, and what becomes of the sender by it.
use Rattle.std.proofs.Common.{◌≡◌, ℕ, ◌+◌, ◌-◌, ◌<◌, ◌≤◌, ◌⊎◌, inl, inr, Bool, true, false, not, eqb, ltb, leb, cond, ◌&&◌, ◌||◌, [], ◌∷◌, length, min, All, Some, None, is_some, unwrap_or, refl, sym, ap, ◌∙◌, subst, arith, length-take}
use Rattle.std.proofs.lemmas.Bool.{cases_lt, cases_order, and_parts}
use Rattle.std.proofs.lemmas.Bool.Decides.{nat_tests}
use Rattle.std.proofs.lemmas.List.{get_or_append_left, get_or_push, get_or_past}
use Rattle.std.proofs.lemmas.List.Elements.{All-take, All-drop, All-nil}
use Rattle.mt_base.specs.Trace.{Trace, ◌▷◌}
use Rattle.mt_base.specs.Writing.{joined}
use Rattle.mt_windows.specs.Sending.Act.{Cut, Resent}
use Rattle.mt_windows.specs.Sending.{Act, Limits, given, cuts, pieces, piece, waiting, next_piece, transmissions, is_open, lowest, lowest_or_next, part_of, passed_over, reach, may_cut, told, floor_transmission}
use Rattle.mt_windows.proofs.Counts.{pieces_count}
use Rattle.carrier.specs.Entries.{Entry}
use Rattle.carrier.specs.Layout.{Layout, Datagram, Carried, Shows}
use Rattle.carrier.specs.Receiving.{received, floor, owed, peer_window}
use Rattle.carrier.specs.Sending.{acts, timer, expires, expiry, is_over, is_waiting, is_closed, sends, sends_part}
use Rattle.carrier.specs.Due.{telling_with, own_floor, again, fresh, bare, is_pressing, may_send, closes, meant_at}
use Rattle.carrier.specs.LayoutLaw.{shown_of}
use Rattle.carrier.proofs.links.Invariant.{Even, Flies, FliesLoad, Low, LowFloor, Grown}
use Rattle.carrier.proofs.links.Numbers.{open_cut, open_unsettled, open_from, lowest_open, lowest_le, lowest_within, below_lowest, passed_open}
use Rattle.carrier.proofs.links.Noted.{floor_made, floor_recent}
use Rattle.carrier.proofs.links.Informed.{reach_next}
use Rattle.carrier.proofs.links.Steps.{stays, cuts_within}
use Rattle.carrier.proofs.links.Facing.{Alone, nearest_is}

-- ---- which datagrams there are

-- a datagram carries an unsettled part again, or the next part, or none
pub data Outcome (l : Layout) (t : Trace Entry) (d : Datagram) : Type 0 where
  Repeats : (p : ℕ) (b : Bool) → is_open l.bounds.windows (acts l t) p ≡ true → may_send l (acts l t) ≡ true
      → d ≡ telling_with l t (Some (own_floor l (acts l t))) (Some (record { part = l.own + p; transmission = l.own + transmissions (acts l t); bytes = piece l.bounds.windows (acts l t) p })) b → Outcome l t d
  Extends : (b : Bool) → may_cut l.bounds.windows l.own (acts l t) (peer_window l t) ≡ true
      → d ≡ telling_with l t None (Some (record { part = l.own + cuts (acts l t); transmission = l.own + transmissions (acts l t); bytes = next_piece l.bounds.windows (acts l t) })) b → Outcome l t d
  Tells : d ≡ telling_with l t None None true → Outcome l t d

some_same : {X : Type 0} (x y : X) → Some x ≡ Some y → y ≡ x
some_same x y e = cc

pub outcome : (l : Layout) (t : Trace Entry) (at : ℕ) (d : Datagram) → meant_at l t at ≡ Some d → Outcome l t d
outcome l t at d h = by_closed (is_closed l t || closes l t at) h
  where
    by_bare : (b : Bool) → cond b (Some (telling_with l t None None true)) None ≡ Some d → Outcome l t d
    by_bare true e = Tells (some_same _ d e)
    by_bare false e = absurd (cc)

    by_cut : (b : Bool) → may_cut l.bounds.windows l.own (acts l t) (peer_window l t) ≡ b → cond b (Some (fresh l t)) (bare l t at) ≡ Some d → Outcome l t d
    by_cut true is e = Extends _ is (some_same _ d e)
    by_cut false is e = by_bare (is_pressing l (owed l t) at) e

    repeats : (p : ℕ) → is_open l.bounds.windows (acts l t) p ≡ true → may_send l (acts l t) ≡ true → Some (again l t p) ≡ Some d → Outcome l t d
    repeats p is may e = Repeats p _ is may (some_same _ d e)

    by_over : (b : Bool) → is_some (passed_over l.bounds.windows (acts l t)) && may_send l (acts l t) ≡ b
        → cond b (Some (again l t (unwrap_or (passed_over l.bounds.windows (acts l t)) 0))) (cond (may_cut l.bounds.windows l.own (acts l t) (peer_window l t)) (Some (fresh l t)) (bare l t at)) ≡ Some d → Outcome l t d
    by_over true is e = repeats _ (passed_open l.bounds.windows (acts l t) (and_parts (is_some (passed_over l.bounds.windows (acts l t))) (may_send l (acts l t)) is).0)
        (and_parts (is_some (passed_over l.bounds.windows (acts l t))) (may_send l (acts l t)) is).1 e
    by_over false is e = by_cut (may_cut l.bounds.windows l.own (acts l t) (peer_window l t)) refl e

    waits : expires l (timer l t) (acts l t) at && may_send l (acts l t) ≡ true → is_some (lowest l.bounds.windows (acts l t)) ≡ true
    waits is =
        let runs = (and_parts (expires l (timer l t) (acts l t) at) (may_send l (acts l t)) is).0 in
        let on = (and_parts (not (is_over l (timer l t))) (is_waiting l (acts l t) && leb (expiry l (timer l t)) at) runs).1 in
        (and_parts (is_waiting l (acts l t)) (leb (expiry l (timer l t)) at) on).0

    by_expiry : (b : Bool) → expires l (timer l t) (acts l t) at && may_send l (acts l t) ≡ b
        → cond b (Some (again l t (lowest_or_next l.bounds.windows (acts l t))))
        (cond (is_some (passed_over l.bounds.windows (acts l t)) && may_send l (acts l t)) (Some (again l t (unwrap_or (passed_over l.bounds.windows (acts l t)) 0)))
        (cond (may_cut l.bounds.windows l.own (acts l t) (peer_window l t)) (Some (fresh l t)) (bare l t at))) ≡ Some d → Outcome l t d
    by_expiry true is e = repeats _ (lowest_open l.bounds.windows (acts l t) (waits is))
        (and_parts (expires l (timer l t) (acts l t) at) (may_send l (acts l t)) is).1 e
    by_expiry false is e = by_over (is_some (passed_over l.bounds.windows (acts l t)) && may_send l (acts l t)) refl e

    by_closed : (b : Bool) → cond b None (cond (expires l (timer l t) (acts l t) at && may_send l (acts l t)) (Some (again l t (lowest_or_next l.bounds.windows (acts l t))))
        (cond (is_some (passed_over l.bounds.windows (acts l t)) && may_send l (acts l t)) (Some (again l t (unwrap_or (passed_over l.bounds.windows (acts l t)) 0)))
        (cond (may_cut l.bounds.windows l.own (acts l t) (peer_window l t)) (Some (fresh l t)) (bare l t at)))) ≡ Some d → Outcome l t d
    by_closed true e = absurd (cc)
    by_closed false e = by_expiry (expires l (timer l t) (acts l t) at && may_send l (acts l t)) refl e

-- ---- the pieces after a cut

pub piece_before : (l : Limits) (a : Trace Act) (p : ℕ) → p < cuts a → piece l (a ▷ Cut) p ≡ piece l a p
piece_before l a p less = get_or_append_left (pieces l a) (next_piece l a ∷ []) [] p (omega (arith, less, pieces_count l a))

pub piece_next : (l : Limits) (a : Trace Act) → piece l (a ▷ Cut) (cuts a) ≡ next_piece l a
piece_next l a = get_or_push (pieces l a) (next_piece l a) [] (cuts a) (pieces_count l a)

pub piece_behind : (l : Limits) (a : Trace Act) (p : ℕ) → cuts a < p → piece l (a ▷ Cut) p ≡ []
piece_behind l a p less = get_or_past (pieces l (a ▷ Cut)) p [] (omega (arith, less, pieces_count l (a ▷ Cut)))

-- the bytes of the next part are few, and bytes
pub next_fits : (l : Limits) (a : Trace Act) → All (λ b. b < 256) (given a) → (length (next_piece l a) ≤ l.part) × All (λ b. b < 256) (next_piece l a)
next_fits l a h = (
  omega (arith, length-take l.part (waiting l a)),
  All-take (λ b. b < 256) l.part (waiting l a) (All-drop (λ b. b < 256) (length (joined (pieces l a))) (given a) h),
)

pub cut_pieces : (l : Limits) (a : Trace Act) (own p : ℕ) → Even l own a → (length (piece l (a ▷ Cut) p) ≤ l.part) × All (λ b. b < 256) (piece l (a ▷ Cut) p)
cut_pieces l a own p h = by_place (cases_order p (cuts a))
  where
    by_place : (p ≡ cuts a) ⊎ ((p < cuts a) ⊎ (cuts a < p)) → (length (piece l (a ▷ Cut) p) ≤ l.part) × All (λ b. b < 256) (piece l (a ▷ Cut) p)
    by_place (inl e) = subst (λ xs. (length xs ≤ l.part) × All (λ b. b < 256) xs) (sym (ap (piece l (a ▷ Cut)) e ∙ piece_next l a)) (next_fits l a h.bytes)
    by_place (inr (inl less)) = subst (λ xs. (length xs ≤ l.part) × All (λ b. b < 256) xs) (sym (piece_before l a p less)) (h.pieces p)
    by_place (inr (inr more)) = subst (λ xs. (length xs ≤ l.part) × All (λ b. b < 256) xs) (sym (piece_behind l a p more)) (omega arith, All-nil (λ b. b < 256))

-- ---- what becomes of the sender

-- a part was sent again, or a new one was sent, or none
pub data Moved (l : Layout) (t : Trace Entry) (d : Datagram) (b : Trace Act) : Type 0 where
  Repeated : (p : ℕ) → is_open l.bounds.windows (acts l t) p ≡ true → may_send l (acts l t) ≡ true
      → d.load ≡ Some (record { part = l.own + p; transmission = l.own + transmissions (acts l t); bytes = piece l.bounds.windows (acts l t) p })
      → b ≡ acts l t ▷ Resent p → Moved l t d b
  Extended : may_cut l.bounds.windows l.own (acts l t) (peer_window l t) ≡ true
      → d.load ≡ Some (record { part = l.own + cuts (acts l t); transmission = l.own + transmissions (acts l t); bytes = next_piece l.bounds.windows (acts l t) })
      → b ≡ acts l t ▷ Cut → Moved l t d b
  Told : d.load ≡ None → b ≡ acts l t → Moved l t d b

pub record Says (l : Layout) (t : Trace Entry) (d : Datagram) (b : Trace Act) : Type 0 where
  pub shows : l.read (l.spell d) ≡ Shows (shown_of l d)
  pub fits : length (l.spell d) ≤ l.bounds.datagram
  pub telling : d.telling ≡ l.told (received l t) (floor l t)
  pub grown : Grown l.bounds.windows (acts l t) b
  pub load : FliesLoad l.bounds.windows l.own 0 b d.load
  pub low : LowFloor l.tells_parts l.bounds.windows l.own 0 b d.floor
  pub even : Even l.bounds.windows l.own b
  pub moved : Moved l t d b

-- what may be cut
pub record Cuttable (l : Limits) (first : ℕ) (a : Trace Act) : Type 0 where
  pub window : cuts a < lowest_or_next l a + l.window
  pub number : first + cuts a < l.numbers
  pub made : first + transmissions a < l.numbers
  pub reach_is : reach l a < l.span

pub cut_facts : (l : Limits) (first : ℕ) (a : Trace Act) (window : ℕ) → may_cut l first a window ≡ true → Cuttable l first a
cut_facts l first a window h =
    let p1 = and_parts (ltb 0 (length (waiting l a)) && ltb (cuts a) (lowest_or_next l a + min l.window window) && ltb (reach l a) l.span && ltb (first + cuts a) l.numbers) (ltb (first + transmissions a) l.numbers) h in
    let p2 = and_parts (ltb 0 (length (waiting l a)) && ltb (cuts a) (lowest_or_next l a + min l.window window) && ltb (reach l a) l.span) (ltb (first + cuts a) l.numbers) p1.0 in
    let p3 = and_parts (ltb 0 (length (waiting l a)) && ltb (cuts a) (lowest_or_next l a + min l.window window)) (ltb (reach l a) l.span) p2.0 in
    let p4 = and_parts (ltb 0 (length (waiting l a))) (ltb (cuts a) (lowest_or_next l a + min l.window window)) p3.0 in
    let x = p4.1 in
    let y = p2.1 in
    let room : cuts a < lowest_or_next l a + min l.window window = grind (arith, nat_tests) in
    let z = p1.1 in
    let w = p3.1 in
    record { window = omega (arith, room); number = grind (arith, nat_tests); made = grind (arith, nat_tests); reach_is = grind (arith, nat_tests) }

-- so the window has a place
pub some_window : (l : Limits) (a : Trace Act) → cuts a < lowest_or_next l a + l.window → 0 < l.window
some_window l a less = omega (arith, less, lowest_within l a)

-- ---- a part that is sent again

older_part : (a : Trace Act) (j p : ℕ) → j < transmissions a → cond (eqb j (transmissions a)) p (part_of a j) ≡ part_of a j
older_part a j p less = let other' : eqb j (transmissions a) ≡ false = grind (arith, nat_tests) in ap (λ b. cond b p (part_of a j)) other'

newest_part : (a : Trace Act) (p : ℕ) → cond (eqb (transmissions a) (transmissions a)) p (part_of a (transmissions a)) ≡ p
newest_part a p = let same : eqb (transmissions a) (transmissions a) ≡ true = grind (arith, nat_tests) in ap (λ b. cond b p (part_of a (transmissions a))) same

resent_grown : (l : Limits) (a : Trace Act) (p : ℕ) → Grown l a (a ▷ Resent p)
resent_grown l a p = record {
  more = omega arith;
  most = omega arith;
  made_more = omega arith;
  made_most = omega arith;
  same = λ q less. refl;
  stands = λ j less. older_part a j p less;
  settles = λ q. refl;
  knows = λ j. refl;
  given_is = refl;
}

resent_even : (l : Limits) (own : ℕ) (a : Trace Act) (p : ℕ) → reach l a < l.span → own + transmissions a < l.numbers → Even l own a → Even l own (a ▷ Resent p)
resent_even l own a p room less h = record {
  window = h.window;
  numbers = h.numbers;
  made = λ le. omega (arith, less);
  reaches = reach_next (told l a) (transmissions a) l.span room;
  bytes = h.bytes;
  pieces = h.pieces;
}

-- ---- a part that is new

cut_grown : (l : Limits) (own : ℕ) (a : Trace Act) → Grown l a (a ▷ Cut)
cut_grown l own a = record {
  more = omega arith;
  most = omega arith;
  made_more = omega arith;
  made_most = omega arith;
  same = λ q less. piece_before l a q less;
  stands = λ j less. older_part a j (cuts a) less;
  settles = λ q. refl;
  knows = λ j. refl;
  given_is = refl;
}

cut_even : (l : Limits) (own : ℕ) (a : Trace Act) (window : ℕ) → may_cut l own a window ≡ true → Even l own a → Even l own (a ▷ Cut)
cut_even l own a window may h =
    let facts = cut_facts l own a window may in
    let some = some_window l a facts.window in
    record {
      window = λ q is. open_q q is some facts.window (cases_lt q (cuts a));
      numbers = λ less. omega (arith, facts.number);
      made = λ less. omega (arith, facts.made);
      reaches = reach_next (told l a) (transmissions a) l.span facts.reach_is;
      bytes = h.bytes;
      pieces = λ p. cut_pieces l a own p h;
    }
  where
    open_q : (q : ℕ) → is_open l (a ▷ Cut) q ≡ true → 0 < l.window → cuts a < lowest_or_next l a + l.window → (q < cuts a) ⊎ (cuts a ≤ q) → cuts a + 1 ≤ q + l.window
    open_q q is some room (inl less) = omega (arith, room, lowest_le l a q (open_from l a q less (open_unsettled l (a ▷ Cut) q is)))
    open_q q is some room (inr ge) = omega (arith, some, ge)

-- ---- all that a poll sends

-- what may be sent again
pub may_facts : (l : Layout) (a : Trace Act) → may_send l a ≡ true → (reach l.bounds.windows a < l.bounds.windows.span) × (l.own + transmissions a < l.bounds.windows.numbers)
may_facts l a may =
    let both = and_parts (ltb (reach l.bounds.windows a) l.bounds.windows.span) (ltb (l.own + transmissions a) l.bounds.windows.numbers) may in
    let x = both.0 in
    let y = both.1 in
    (grind (arith, nat_tests), grind (arith, nat_tests))

-- the floor that is sent with it
low_now : (kind : Bool) (l : Limits) (own : ℕ) (a : Trace Act) (p : ℕ) → Even l own a → is_open l a p ≡ true → Low kind l own 0 (a ▷ Resent p) (own + cond kind (lowest_or_next l a) (floor_transmission l a))
low_now true l own a p h is =
    let low = lowest_le l a p is in
    let cut = open_cut l a p is in
    record {
      place = lowest_or_next l a;
      number = refl;
      cut = λ e. omega (arith, low, cut);
      below = λ e q less. below_lowest l a q less;
      near = λ e. omega (arith, cuts_within l own a h);
      made = λ e. absurd (cc);
      recent = λ e. absurd (cc);
    }
low_now false l own a p h is = record {
  place = floor_transmission l a;
  number = refl;
  cut = λ e. absurd (cc);
  below = λ e q less. absurd (cc);
  near = λ e. absurd (cc);
  made = λ e. omega (arith, floor_made l a);
  recent = λ e. omega (arith, floor_recent l a);
}

module _ (l : Layout) (t : Trace Entry) (f : Alone l) (h : Even l.bounds.windows l.own (acts l t)) where
  says_again : (p : ℕ) (b : Bool) → is_open l.bounds.windows (acts l t) p ≡ true → may_send l (acts l t) ≡ true
      → (let d = telling_with l t (Some (own_floor l (acts l t))) (Some (record { part = l.own + p; transmission = l.own + transmissions (acts l t); bytes = piece l.bounds.windows (acts l t) p })) b in
      Says l t d (sends l (acts l t) (l.read (l.spell d))))
  says_again p b is may =
      let a = acts l t in
      let x = own_floor l a in
      let c : Carried = record { part = l.own + p; transmission = l.own + transmissions a; bytes = piece l.bounds.windows a p } in
      let shows = f.here.read_back (received l t) (floor l t) b (Some x) (Some c) (h.pieces p) in
      let cut = open_cut l.bounds.windows a p is in
      let near = h.window p is in
      let room = f.one_window in
      let facts = may_facts l a may in
      let number = nearest_is l f.half (l.own + cuts a) (l.own + p) f.here_modulus f.some_half (omega arith) (omega (arith, cut, f.some_half)) in
      let other' : eqb (l.own + p) (l.own + cuts a) ≡ false = grind (arith, nat_tests) in
      let place : l.own + p - l.own ≡ p = omega arith in
      let moves : sends l a (Shows (shown_of l (telling_with l t (Some x) (Some c) b))) ≡ a ▷ Resent p =
      ap (sends_part l a) number ∙ ap (λ x. cond x (a ▷ Cut) (a ▷ Resent (l.own + p - l.own))) other' ∙ ap (λ q. a ▷ Resent q) place in
      record {
        shows = shows;
        fits = f.here.fits (received l t) (floor l t) b (Some x) (Some c) (h.pieces p);
        telling = refl;
        grown = subst (λ s. Grown l.bounds.windows a s) (sym (ap (sends l a) shows ∙ moves)) (resent_grown l.bounds.windows a p);
        load = subst (λ s. Flies l.bounds.windows l.own 0 s c) (sym (ap (sends l a) shows ∙ moves))
            (record {
              place = p;
              number = refl;
              cut = cut;
              bytes = refl;
              near = omega (arith, near);
              sent = transmissions a;
              sending = refl;
              made = omega arith;
              stands = newest_part a p;
              recent = omega arith;
            });
        low = subst (λ s. Low l.tells_parts l.bounds.windows l.own 0 s x) (sym (ap (sends l a) shows ∙ moves))
            (low_now l.tells_parts l.bounds.windows l.own a p h is);
        even = subst (λ s. Even l.bounds.windows l.own s) (sym (ap (sends l a) shows ∙ moves)) (resent_even l.bounds.windows l.own a p facts.0 facts.1 h);
        moved = Repeated p is may refl (ap (sends l a) shows ∙ moves);
      }

  says_new : (b : Bool) → may_cut l.bounds.windows l.own (acts l t) (peer_window l t) ≡ true
      → (let d = telling_with l t None (Some (record { part = l.own + cuts (acts l t); transmission = l.own + transmissions (acts l t); bytes = next_piece l.bounds.windows (acts l t) })) b in
      Says l t d (sends l (acts l t) (l.read (l.spell d))))
  says_new b may =
      let a = acts l t in
      let c : Carried = record { part = l.own + cuts a; transmission = l.own + transmissions a; bytes = next_piece l.bounds.windows a } in
      let carried = next_fits l.bounds.windows a h.bytes in
      let shows = f.here.read_back (received l t) (floor l t) b None (Some c) carried in
      let some = f.some_half in
      let number = nearest_is l f.half (l.own + cuts a) (l.own + cuts a) f.here_modulus some (omega arith) (omega (arith, some)) in
      let same : eqb (l.own + cuts a) (l.own + cuts a) ≡ true = grind (arith, nat_tests) in
      let moves : sends l a (Shows (shown_of l (telling_with l t None (Some c) b))) ≡ a ▷ Cut =
      ap (sends_part l a) number ∙ ap (λ x. cond x (a ▷ Cut) (a ▷ Resent (l.own + cuts a - l.own))) same in
      record {
        shows = shows;
        fits = f.here.fits (received l t) (floor l t) b None (Some c) carried;
        telling = refl;
        grown = subst (λ s. Grown l.bounds.windows a s) (sym (ap (sends l a) shows ∙ moves)) (cut_grown l.bounds.windows l.own a);
        load = subst (λ s. Flies l.bounds.windows l.own 0 s c) (sym (ap (sends l a) shows ∙ moves))
            (record {
              place = cuts a;
              number = refl;
              cut = omega arith;
              bytes = sym (piece_next l.bounds.windows a);
              near = omega (arith, some_window l.bounds.windows a (cut_facts l.bounds.windows l.own a (peer_window l t) may).window);
              sent = transmissions a;
              sending = refl;
              made = omega arith;
              stands = newest_part a (cuts a);
              recent = omega arith;
            });
        low = tt;
        even = subst (λ s. Even l.bounds.windows l.own s) (sym (ap (sends l a) shows ∙ moves)) (cut_even l.bounds.windows l.own a (peer_window l t) may h);
        moved = Extended may refl (ap (sends l a) shows ∙ moves);
      }

  says_bare : Says l t (telling_with l t None None true) (sends l (acts l t) (l.read (l.spell (telling_with l t None None true))))
  says_bare =
      let a = acts l t in
      let shows = f.here.read_back (received l t) (floor l t) true None None tt in
      record {
        shows = shows;
        fits = f.here.fits (received l t) (floor l t) true None None tt;
        telling = refl;
        grown = subst (λ s. Grown l.bounds.windows a s) (sym (ap (sends l a) shows)) (stays l.bounds.windows a);
        load = tt;
        low = tt;
        even = subst (λ s. Even l.bounds.windows l.own s) (sym (ap (sends l a) shows)) h;
        moved = Told refl (ap (sends l a) shows);
      }

  pub says : (d : Datagram) → Outcome l t d → Says l t d (sends l (acts l t) (l.read (l.spell d)))
  says d (Repeats p b is may e) = subst (λ x. Says l t x (sends l (acts l t) (l.read (l.spell x)))) (sym e) (says_again p b is may)
  says d (Extends b may e) = subst (λ x. Says l t x (sends l (acts l t) (l.read (l.spell x)))) (sym e) (says_new b may)
  says d (Tells e) = subst (λ x. Says l t x (sends l (acts l t) (l.read (l.spell x)))) (sym e) says_bare

-- Lemmas on a part that is cut, and one that is sent again.
use Rattle.std.proofs.Common.{◌≡◌, ℕ, suc, ◌+◌, ◌-◌, ◌*◌, ◌^◌, ◌<◌, ◌≤◌, ◌⊎◌, inl, inr, Bool, true, false, not, eqb, ltb, leb, cond, ◌&&◌, List, [], ◌∷◌, ◌++◌, length, take, drop, set, min, Option, Some, None, IsSome, unwrap_or, refl, sym, ap, ◌∙◌, subst, arith, length-append, length-drop, length-take}
use Rattle.std.proofs.lemmas.List.{drop-drop, get_or-set_same, get_or-set_other, length_push, get_or_append_left, get_or_push, length-set, take_min}
use Rattle.std.proofs.lemmas.Bool.{cases_lt, cases_eq}
use Rattle.std.proofs.lemmas.Bool.Decides.{nat_tests}
use Rattle.mt_base.specs.Trace.{Trace, ◌▷◌}
use Rattle.mt_base.specs.Writing.{joined}
use Rattle.mt_base.proofs.Fill.{joined-push}
use Rattle.mt_windows.specs.declared.flight.Flight.{Flight}
use Rattle.mt_windows.specs.FlightView.{flight_at, slot_at, bytes_in}
use Rattle.mt_windows.specs.Sending.Act.{Cut, Resent}
use Rattle.mt_windows.specs.Sending.{Act, given, cuts, pieces, waiting, piece, part_of, transmissions, settled, is_open, told, latest, earliest, queued, next_piece}
use Rattle.mt_windows.specs.SendingView.{Outbox, IsSoundOut, IsFlight, Remembers, Flying, Sends, limits, queued_of, may_cut_of, is_unsettled}
use Rattle.mt_windows.proofs.Counts.{pieces_count}
use Rattle.mt_windows.proofs.InFlight.{open_of, bytes_set, queued_from, queued_is, remembers_more, heard_more}

-- ---- a part is cut
pub cut_step : (w : Outbox) (first : ℕ) (t : Trace Act) (x xs ys : List ℕ) (fs : List Flight) → Sends w first t → w.base ≤ w.cut → w.cut < w.base + length w.flights
    → x ≡ next_piece limits t → xs ≡ drop (length x) w.waiting → fs ≡ set w.flights (w.cut - w.base) (record { slot = Some x; earliest = w.made; latest = w.made }) → ys ≡ drop (length w.carried + 1 - 4096) (w.carried ++ w.cut ∷ [])
    → Sends (record w { waiting = xs; flights = fs; carried = ys; cut = w.cut + 1; made = w.made + 1 }) first (t ▷ Cut)
cut_step w first t x xs ys fs h le room x_is xs_is fs_is ys_is =
    record {
      first_is = h.first_is;
      waiting_is = waits;
      cut_is = omega (arith, h.cut_is);
      made_is = omega (arith, h.made_is);
      front = inr (front_is h.front);
      flying = flies;
      remembers = subst (λ zs. Remembers zs 4096 (w.made + 1) (part_of (t ▷ Cut))) (sym ys_is)
          (remembers_more w.carried 4096 w.made w.cut (part_of t) (part_of (t ▷ Cut)) (omega arith) h.remembers
          (λ j l. let o : eqb j (transmissions t) ≡ false = (let m = h.made_is in grind (arith, nat_tests)) in ap (λ b. cond b (cuts t) (part_of t j)) o)
          (let o : eqb w.made (transmissions t) ≡ true = (let m = h.made_is in grind (arith, nat_tests)) in ap (λ b. cond b (cuts t) (part_of t w.made)) o ∙ sym h.cut_is));
      heard = heard_more w.told w.second w.third w.made (told limits t) h.heard (h.untold_beyond w.made (omega arith));
      parts_exist = λ j l. exists j (cases_lt j w.made) l;
      unsettled_beyond = λ p l. h.unsettled_beyond p (omega (arith, l));
      untold_beyond = λ j l. h.untold_beyond j (omega (arith, l));
      queue_bound = omega (arith, h.queue_bound, queued_is w first t h (omega arith) le, less, whole);
    }
  where
    waits : xs ≡ waiting limits (t ▷ Cut)
    waits =
        xs_is ∙ ap (drop (length x)) h.waiting_is ∙ drop-drop (length x) (length (joined (pieces limits t))) (given t)
        ∙ ap (λ n. drop n (given t)) (sym (ap length (joined-push (pieces limits t) (next_piece limits t)) ∙ length-append (joined (pieces limits t)) (next_piece limits t) ∙ ap (λ y. length (joined (pieces limits t)) + length y) (sym x_is)))

    old_flight : (k : ℕ) → (k ≡ w.cut - w.base → ⊥) → flight_at fs k ≡ flight_at w.flights k
    old_flight k ne = ap (λ zs. flight_at zs k) fs_is ∙ get_or-set_other w.flights (w.cut - w.base) k (record { slot = Some x; earliest = w.made; latest = w.made }) (record { slot = None; earliest = 0; latest = 0 }) ne

    new_flight : (k : ℕ) → k ≡ w.cut - w.base → flight_at fs k ≡ record { slot = Some x; earliest = w.made; latest = w.made }
    new_flight k e = ap (λ zs. flight_at zs k) fs_is ∙ ap (flight_at (set w.flights (w.cut - w.base) (record { slot = Some x; earliest = w.made; latest = w.made }))) e ∙ get_or-set_same w.flights (w.cut - w.base) (record { slot = Some x; earliest = w.made; latest = w.made }) (record { slot = None; earliest = 0; latest = 0 }) (omega (arith, room, le))

    piece_old : (p : ℕ) → p < cuts t → piece limits (t ▷ Cut) p ≡ piece limits t p
    piece_old p l = get_or_append_left (pieces limits t) (next_piece limits t ∷ []) [] p (omega (arith, l, pieces_count limits t))

    piece_new : (p : ℕ) → p ≡ cuts t → piece limits (t ▷ Cut) p ≡ x
    piece_new p e = get_or_push (pieces limits t) (next_piece limits t) [] p (pieces_count limits t ∙ sym e) ∙ sym x_is

    open_old : (p : ℕ) → (p ≡ cuts t → ⊥) → is_open limits (t ▷ Cut) p ≡ is_open limits t p
    open_old p ne = let e : ltb p (cuts t + 1) ≡ ltb p (cuts t) = grind (arith, nat_tests) in ap (λ b. b && not (settled limits t p)) e

    open_new : (p : ℕ) → p ≡ cuts t → is_open limits (t ▷ Cut) p ≡ true
    open_new p e =
        let l : ltb p (cuts t + 1) ≡ true = grind (arith, nat_tests) in
        ap (λ b. b && not (settled limits t p)) l ∙ ap not (h.unsettled_beyond p (omega (arith, e, h.cut_is)))

    is_last : (k : ℕ) → k ≡ w.cut - w.base → w.base + k ≡ cuts t
    is_last k e = omega (arith, e, h.cut_is, le)

    not_last : (k : ℕ) → (k ≡ w.cut - w.base → ⊥) → w.base + k ≡ cuts t → ⊥
    not_last k ne e = ne (omega (arith, e, h.cut_is, le))

    open_at_low : (p : ℕ) → is_open limits t p ≡ true → p < cuts t
    open_at_low p is = let b = open_of (ltb p (cuts t)) (settled limits t p) is in grind (arith, nat_tests)

    slot_cases : (k : ℕ) → (k ≡ w.cut - w.base) ⊎ (k ≡ w.cut - w.base → ⊥) → slot_at fs k ≡ cond (is_open limits (t ▷ Cut) (w.base + k)) (Some (piece limits (t ▷ Cut) (w.base + k))) None
    slot_cases k (inl e) =
        ap (λ (f : Flight). f.slot) (new_flight k e)
        ∙ sym (ap (λ b. cond b (Some (piece limits (t ▷ Cut) (w.base + k))) None) (open_new (w.base + k) (is_last k e)) ∙ ap Some (piece_new (w.base + k) (is_last k e)))
    slot_cases k (inr ne) =
        ap (λ (f : Flight). f.slot) (old_flight k ne) ∙ h.flying.slots k
        ∙ by_open (is_open limits t (w.base + k)) refl
        ∙ sym (ap (λ b. cond b (Some (piece limits (t ▷ Cut) (w.base + k))) None) (open_old (w.base + k) (not_last k ne)))
      where
        by_open : (b : Bool) → is_open limits t (w.base + k) ≡ b → cond (is_open limits t (w.base + k)) (Some (piece limits t (w.base + k))) None ≡ cond (is_open limits t (w.base + k)) (Some (piece limits (t ▷ Cut) (w.base + k))) None
        by_open true e = ap (λ z. cond (is_open limits t (w.base + k)) (Some z) None) (sym (piece_old (w.base + k) (open_at_low (w.base + k) e)))
        by_open false e = ap (λ b. cond b (Some (piece limits t (w.base + k))) None) e ∙ sym (ap (λ b. cond b (Some (piece limits (t ▷ Cut) (w.base + k))) None) e)

    earliest_cases : (k : ℕ) → (k ≡ w.cut - w.base) ⊎ (k ≡ w.cut - w.base → ⊥) → is_open limits (t ▷ Cut) (w.base + k) ≡ true → (flight_at fs k).earliest ≡ earliest (t ▷ Cut) (w.base + k)
    earliest_cases k (inl e) is =
        let o : eqb (w.base + k) (cuts t) ≡ true = (let last = is_last k e in grind (arith, nat_tests)) in
        ap (λ (f : Flight). f.earliest) (new_flight k e) ∙ h.made_is ∙ sym (ap (λ b. cond b (transmissions t) (earliest t (w.base + k))) o)
    earliest_cases k (inr ne) is =
        let o : eqb (w.base + k) (cuts t) ≡ false = (let last = not_last k ne in grind (arith, nat_tests)) in
        ap (λ (f : Flight). f.earliest) (old_flight k ne) ∙ h.flying.earliest_are k (sym (open_old (w.base + k) (not_last k ne)) ∙ is) ∙ sym (ap (λ b. cond b (transmissions t) (earliest t (w.base + k))) o)

    latest_cases : (k : ℕ) → (k ≡ w.cut - w.base) ⊎ (k ≡ w.cut - w.base → ⊥) → is_open limits (t ▷ Cut) (w.base + k) ≡ true → (flight_at fs k).latest ≡ latest (t ▷ Cut) (w.base + k)
    latest_cases k (inl e) is =
        let o : eqb (w.base + k) (cuts t) ≡ true = (let last = is_last k e in grind (arith, nat_tests)) in
        ap (λ (f : Flight). f.latest) (new_flight k e) ∙ h.made_is ∙ sym (ap (λ b. cond b (transmissions t) (latest t (w.base + k))) o)
    latest_cases k (inr ne) is =
        let o : eqb (w.base + k) (cuts t) ≡ false = (let last = not_last k ne in grind (arith, nat_tests)) in
        ap (λ (f : Flight). f.latest) (old_flight k ne) ∙ h.flying.latest_are k (sym (open_old (w.base + k) (not_last k ne)) ∙ is) ∙ sym (ap (λ b. cond b (transmissions t) (latest t (w.base + k))) o)

    flies : Flying fs w.base (piece limits (t ▷ Cut)) (is_open limits (t ▷ Cut)) (earliest (t ▷ Cut)) (latest (t ▷ Cut))
    flies = record {
      below = λ p l. open_old p (λ e. absurd (omega (arith, e, l, le, h.cut_is))) ∙ h.flying.below p l;
      slots = λ k. slot_cases k (cases_eq k (w.cut - w.base));
      earliest_are = λ k is. earliest_cases k (cases_eq k (w.cut - w.base)) is;
      latest_are = λ k is. latest_cases k (cases_eq k (w.cut - w.base)) is;
    }

    front_is : (w.base ≡ w.cut) ⊎ IsSome (slot_at w.flights 0) → IsSome (slot_at fs 0)
    front_is (inl e) = subst IsSome (sym (ap (λ (f : Flight). f.slot) (new_flight 0 (omega (arith, e))))) refl
    front_is (inr there) = by_place (cases_eq 0 (w.cut - w.base))
      where
        by_place : (0 ≡ w.cut - w.base) ⊎ (0 ≡ w.cut - w.base → ⊥) → IsSome (slot_at fs 0)
        by_place (inl e) = subst IsSome (sym (ap (λ (f : Flight). f.slot) (new_flight 0 e))) refl
        by_place (inr ne) = subst IsSome (sym (ap (λ (f : Flight). f.slot) (old_flight 0 ne))) there

    exists : (j : ℕ) → (j < w.made) ⊎ (w.made ≤ j) → j < w.made + 1 → part_of (t ▷ Cut) j < w.cut + 1
    exists j (inl l) less = let o : eqb j (transmissions t) ≡ false = (let m = h.made_is in grind (arith, nat_tests)) in omega (arith, ap (λ b. cond b (cuts t) (part_of t j)) o, h.parts_exist j l)
    exists j (inr l) less = let o : eqb j (transmissions t) ≡ true = (let m = h.made_is in grind (arith, nat_tests)) in omega (arith, ap (λ b. cond b (cuts t) (part_of t j)) o, h.cut_is)

    less : length xs + bytes_in fs ≤ queued_of w
    less = omega (arith, ap length xs_is, length-drop (length x) w.waiting, ap bytes_in fs_is, bytes_set w.flights (w.cut - w.base) (record { slot = Some x; earliest = w.made; latest = w.made }) (omega (arith, room, le)), short)
      where
        short : length x ≤ length w.waiting
        short = omega (arith, ap length x_is, length-take 1000 (waiting limits t), ap length h.waiting_is)

    whole : length xs + bytes_in fs ≡ queued limits (t ▷ Cut)
    whole = queued_from (record w { waiting = xs; flights = fs; carried = ys; cut = w.cut + 1; made = w.made + 1 }) (t ▷ Cut) waits (omega (arith, h.cut_is)) flies (omega (arith, room, ap length fs_is, length-set w.flights (w.cut - w.base) (record { slot = Some x; earliest = w.made; latest = w.made }))) (omega (arith, le))

pub both : (a : Bool) (n m : ℕ) → a ≡ true → n + 1 < m → a && ltb (n + 1) m ≡ true
both a n m e l = let less : ltb (n + 1) m ≡ true = grind (arith, nat_tests) in ap (λ b. b && ltb (n + 1) m) e ∙ less

-- ---- a part is sent again
pub resend_step : (w : Outbox) (first : ℕ) (t : Trace Act) (k q : ℕ) (ys : List ℕ) (fs : List Flight) → Sends w first t → w.base ≤ w.cut → w.cut ≤ w.base + length w.flights → k < length w.flights → q ≡ w.base + k → q < w.cut
    → fs ≡ set w.flights k (record (flight_at w.flights k) { latest = w.made }) → ys ≡ drop (length w.carried + 1 - 4096) (w.carried ++ q ∷ [])
    → Sends (record w { flights = fs; carried = ys; made = w.made + 1 }) first (t ▷ Resent q)
resend_step w first t k q ys fs h le fits l q_is q_cut fs_is ys_is =
    record {
      first_is = h.first_is;
      waiting_is = h.waiting_is;
      cut_is = h.cut_is;
      made_is = omega (arith, h.made_is);
      front = front_is h.front;
      flying = record {
        below = h.flying.below;
        slots = λ j. slot_cases j (cases_eq j k);
        earliest_are = λ j is. earliest_cases j (cases_eq j k) is;
        latest_are = λ j is. latest_cases j (cases_eq j k) is;
      };
      remembers = subst (λ zs. Remembers zs 4096 (w.made + 1) (part_of (t ▷ Resent q))) (sym ys_is)
          (remembers_more w.carried 4096 w.made q (part_of t) (part_of (t ▷ Resent q)) (omega arith) h.remembers
          (λ j less. let o : eqb j (transmissions t) ≡ false = (let m = h.made_is in grind (arith, nat_tests)) in ap (λ b. cond b q (part_of t j)) o)
          (let o : eqb w.made (transmissions t) ≡ true = (let m = h.made_is in grind (arith, nat_tests)) in ap (λ b. cond b q (part_of t w.made)) o));
      heard = heard_more w.told w.second w.third w.made (told limits t) h.heard (h.untold_beyond w.made (omega arith));
      parts_exist = λ j less. exists j (cases_lt j w.made) less;
      unsettled_beyond = h.unsettled_beyond;
      untold_beyond = λ j less. h.untold_beyond j (omega (arith, less));
      queue_bound = h.queue_bound;
    }
  where
    old_flight : (j : ℕ) → (j ≡ k → ⊥) → flight_at fs j ≡ flight_at w.flights j
    old_flight j ne = ap (λ zs. flight_at zs j) fs_is ∙ get_or-set_other w.flights k j (record (flight_at w.flights k) { latest = w.made }) (record { slot = None; earliest = 0; latest = 0 }) ne

    new_flight : flight_at fs k ≡ record (flight_at w.flights k) { latest = w.made }
    new_flight = ap (λ zs. flight_at zs k) fs_is ∙ get_or-set_same w.flights k (record (flight_at w.flights k) { latest = w.made }) (record { slot = None; earliest = 0; latest = 0 }) l

    slot_same : (j : ℕ) → (j ≡ k) ⊎ (j ≡ k → ⊥) → slot_at fs j ≡ slot_at w.flights j
    slot_same j (inl e) = ap (slot_at fs) e ∙ ap (λ (f : Flight). f.slot) new_flight ∙ sym (ap (slot_at w.flights) e)
    slot_same j (inr ne) = ap (λ (f : Flight). f.slot) (old_flight j ne)

    slot_cases : (j : ℕ) → (j ≡ k) ⊎ (j ≡ k → ⊥) → slot_at fs j ≡ cond (is_open limits t (w.base + j)) (Some (piece limits t (w.base + j))) None
    slot_cases j c = slot_same j c ∙ h.flying.slots j

    earliest_cases : (j : ℕ) → (j ≡ k) ⊎ (j ≡ k → ⊥) → is_open limits t (w.base + j) ≡ true → (flight_at fs j).earliest ≡ earliest t (w.base + j)
    earliest_cases j (inl e) is = ap (λ i. (flight_at fs i).earliest) e ∙ ap (λ (f : Flight). f.earliest) new_flight ∙ sym (ap (λ i. (flight_at w.flights i).earliest) e) ∙ h.flying.earliest_are j is
    earliest_cases j (inr ne) is = ap (λ (f : Flight). f.earliest) (old_flight j ne) ∙ h.flying.earliest_are j is

    latest_cases : (j : ℕ) → (j ≡ k) ⊎ (j ≡ k → ⊥) → is_open limits t (w.base + j) ≡ true → (flight_at fs j).latest ≡ latest (t ▷ Resent q) (w.base + j)
    latest_cases j (inl e) is =
        let o : eqb (w.base + j) q ≡ true = grind (arith, nat_tests) in
        ap (λ i. (flight_at fs i).latest) e ∙ ap (λ (f : Flight). f.latest) new_flight ∙ h.made_is ∙ sym (ap (λ b. cond b (transmissions t) (latest t (w.base + j))) o)
    latest_cases j (inr ne) is =
        let other : w.base + j ≡ q → ⊥ = λ e. ne (omega (arith, e, q_is)) in
        let o : eqb (w.base + j) q ≡ false = grind (arith, nat_tests) in
        ap (λ (f : Flight). f.latest) (old_flight j ne) ∙ h.flying.latest_are j is ∙ sym (ap (λ b. cond b (transmissions t) (latest t (w.base + j))) o)

    front_is : (w.base ≡ w.cut) ⊎ IsSome (slot_at w.flights 0) → (w.base ≡ w.cut) ⊎ IsSome (slot_at fs 0)
    front_is (inl e) = inl e
    front_is (inr there) = inr (subst IsSome (sym (slot_same 0 (cases_eq 0 k))) there)

    exists : (j : ℕ) → (j < w.made) ⊎ (w.made ≤ j) → j < w.made + 1 → part_of (t ▷ Resent q) j < w.cut
    exists j (inl low) less = let o : eqb j (transmissions t) ≡ false = (let m = h.made_is in grind (arith, nat_tests)) in omega (arith, ap (λ b. cond b q (part_of t j)) o, h.parts_exist j low)
    exists j (inr high) less = let o : eqb j (transmissions t) ≡ true = (let m = h.made_is in grind (arith, nat_tests)) in omega (arith, ap (λ b. cond b q (part_of t j)) o, q_cut)

-- ---- the calls that send
pub and_both : (a b : Bool) → a && b ≡ true → (a ≡ true) × (b ≡ true)
and_both true b h = (refl, h)
and_both false b h = absurd (cc)

pub unsettled_facts : (w : Outbox) (part : ℕ) → is_unsettled w part ≡ true → (w.first + w.base ≤ part) × (part < w.first + w.cut)
unsettled_facts w part h =
    let one = and_both (leb (w.first + w.base) part) _ h in
    let two = and_both (ltb part (w.first + w.cut)) _ one.1 in
    let a = one.0 in
    let b = two.0 in
    (grind (arith, nat_tests), grind (arith, nat_tests))

pub may_cut_facts : (w : Outbox) (window : ℕ) → may_cut_of w window ≡ true → (w.cut < w.base + min 64 window) × (w.made - w.told < 4096) × (w.first + w.cut < 2 ^ 62) × (w.first + w.made < 2 ^ 62)
may_cut_facts w window h =
    let one = and_both (ltb 0 (length w.waiting) && ltb w.cut (w.base + min 64 window) && ltb (w.made - w.told) 4096 && ltb (w.first + w.cut) 4611686018427387904) _ h in
    let two = and_both (ltb 0 (length w.waiting) && ltb w.cut (w.base + min 64 window) && ltb (w.made - w.told) 4096) _ one.0 in
    let three = and_both (ltb 0 (length w.waiting) && ltb w.cut (w.base + min 64 window)) _ two.0 in
    let four = and_both (ltb 0 (length w.waiting)) _ three.0 in
    (test_lt _ _ four.1, test_lt _ _ three.1, test_lt _ _ two.1, test_lt _ _ one.1)
  where
    test_lt : (a b : ℕ) → ltb a b ≡ true → a < b
    test_lt a b e = grind (arith, nat_tests)

pub in_flight_piece : (w : Outbox) (first : ℕ) (t : Trace Act) (k q : ℕ) (f : Flight) (bytes : List ℕ) → Sends w first t → f ≡ flight_at w.flights k → f.slot ≡ Some bytes → q ≡ w.base + k → piece limits t q ≡ bytes
in_flight_piece w first t k q f bytes h read is place =
    by_open (is_open limits t (w.base + k)) (sym is ∙ ap (λ (x : Flight). x.slot) read ∙ h.flying.slots k)
  where
    by_open : (b : Bool) → Some bytes ≡ cond b (Some (piece limits t (w.base + k))) None → piece limits t q ≡ bytes
    by_open true e = let same : piece limits t (w.base + k) ≡ bytes = cc in ap (piece limits t) place ∙ same
    by_open false e = absurd (cc)

pub bytes_kept : (xs : List Flight) (k : ℕ) (f g : Flight) → k < length xs → f ≡ flight_at xs k → g.slot ≡ f.slot → bytes_in (set xs k g) ≡ bytes_in xs
bytes_kept xs k f g l read same =
    let now = bytes_set xs k g l in
    let e : length (unwrap_or g.slot []) ≡ length (unwrap_or (slot_at xs k) []) = ap (λ o. length (unwrap_or o [])) (same ∙ ap (λ (x : Flight). x.slot) read) in
    omega (arith, now, e)

pub sound_cut : (w : Outbox) (x xs ys : List ℕ) (fs : List Flight) → IsSoundOut w → length x ≤ 1000 → length xs ≤ length w.waiting → fs ≡ set w.flights (w.cut - w.base) (record { slot = Some x; earliest = w.made; latest = w.made }) → ys ≡ drop (length w.carried + 1 - 4096) (w.carried ++ w.cut ∷ [])
    → w.cut < w.base + 64 → w.first + w.cut < 2 ^ 62 → w.first + w.made < 2 ^ 62 → w.made - w.told < 4096
    → IsSoundOut (record w { waiting = xs; flights = fs; carried = ys; cut = w.cut + 1; made = w.made + 1 })
sound_cut w x xs ys fs s short less fs_is ys_is room parts sent reach_room =
    let size = ap length ys_is ∙ length-drop (length w.carried + 1 - 4096) (w.carried ++ w.cut ∷ []) in
    let push = length_push w.carried w.cut in
    record {
      some_first = s.some_first;
      places = ap length fs_is ∙ length-set w.flights (w.cut - w.base) (record { slot = Some x; earliest = w.made; latest = w.made }) ∙ s.places;
      base_bound = omega (arith, s.base_bound);
      cut_bound = omega (arith, room);
      parts_bound = omega (arith, parts);
      made_bound = omega (arith, sent);
      told_bound = omega (arith, s.told_bound);
      reach_bound = omega (arith, reach_room, s.told_bound);
      carried_bound = omega (arith, size, push, s.carried_bound);
      carried_made = omega (arith, size, push, s.carried_made);
      waiting_bound = omega (arith, less, s.waiting_bound);
      early = λ k. early_cases k (cases_eq k (w.cut - w.base));
      fits = λ k. fits_cases k (cases_eq k (w.cut - w.base));
    }
  where
    old_flight : (k : ℕ) → (k ≡ w.cut - w.base → ⊥) → flight_at fs k ≡ flight_at w.flights k
    old_flight k ne = ap (λ zs. flight_at zs k) fs_is ∙ get_or-set_other w.flights (w.cut - w.base) k (record { slot = Some x; earliest = w.made; latest = w.made }) (record { slot = None; earliest = 0; latest = 0 }) ne

    new_flight : (k : ℕ) → k ≡ w.cut - w.base → flight_at fs k ≡ record { slot = Some x; earliest = w.made; latest = w.made }
    new_flight k e = ap (λ zs. flight_at zs k) fs_is ∙ ap (flight_at (set w.flights (w.cut - w.base) (record { slot = Some x; earliest = w.made; latest = w.made }))) e ∙ get_or-set_same w.flights (w.cut - w.base) (record { slot = Some x; earliest = w.made; latest = w.made }) (record { slot = None; earliest = 0; latest = 0 }) (omega (arith, room, s.base_bound, s.places))

    early_cases : (k : ℕ) → (k ≡ w.cut - w.base) ⊎ (k ≡ w.cut - w.base → ⊥) → (flight_at fs k).earliest ≤ w.made + 1
    early_cases k (inl e) = omega (arith, ap (λ (f : Flight). f.earliest) (new_flight k e))
    early_cases k (inr ne) = omega (arith, ap (λ (f : Flight). f.earliest) (old_flight k ne), s.early k)

    later : (p : Option (List ℕ)) (late made : ℕ) → IsFlight p late made → IsFlight p late (made + 1)
    later None late made h = tt
    later (Some b) late made h = (h.0, omega (arith, h.1))

    fits_cases : (k : ℕ) → (k ≡ w.cut - w.base) ⊎ (k ≡ w.cut - w.base → ⊥) → IsFlight (slot_at fs k) (flight_at fs k).latest (w.made + 1)
    fits_cases k (inl e) = subst (λ (f : Flight). IsFlight f.slot f.latest (w.made + 1)) (sym (new_flight k e)) (short, omega arith)
    fits_cases k (inr ne) = subst (λ (f : Flight). IsFlight f.slot f.latest (w.made + 1)) (sym (old_flight k ne)) (later (slot_at w.flights k) (flight_at w.flights k).latest w.made (s.fits k))

pub cut_bytes : (ws out : List ℕ) (n : ℕ) → n ≡ min (length ws) 1000 → take n out ≡ take n ws → (take n out ≡ take 1000 ws) × (length (take n out) ≡ n)
cut_bytes ws out n e same =
    let m : n ≡ min 1000 (length ws) = omega arith in
    (same ∙ ap (λ k. take k ws) m ∙ take_min 1000 ws, omega (arith, ap length same, length-take n ws))

-- a part that a further transmission carries keeps its bytes
pub carried_slot : (xs : List Flight) (k made : ℕ) (ys : List Flight) (f : Flight) → k < length xs → ys ≡ set xs k (record (flight_at xs k) { latest = made }) → f ≡ flight_at ys k → f.slot ≡ slot_at xs k
carried_slot xs k made ys f l is read =
    ap (λ (g : Flight). g.slot) (read ∙ ap (λ zs. flight_at zs k) is ∙ get_or-set_same xs k (record (flight_at xs k) { latest = made }) (record { slot = None; earliest = 0; latest = 0 }) l)

-- ---- the bytes in flight
pub bytes_bound : (xs : List Flight) (made : ℕ) → ((k : ℕ) → IsFlight (slot_at xs k) (flight_at xs k).latest made) → bytes_in xs ≤ 1000 * length xs
bytes_bound [] made h = omega arith
bytes_bound (x ∷ xs) made h = omega (arith, bytes_bound xs made (λ k. h (suc k)), part_bound x.slot x.latest made (h 0))
  where
    part_bound : (p : Option (List ℕ)) (late made : ℕ) → IsFlight p late made → length (unwrap_or p []) ≤ 1000
    part_bound None late made h = omega arith
    part_bound (Some bytes) late made h = h.0

pub flights_bound : (w : Outbox) → IsSoundOut w → bytes_in w.flights ≤ 64000
flights_bound w i = omega (arith, bytes_bound w.flights w.made i.fits, i.places)

-- Lemmas on parts in flight.
use Rattle.std.proofs.Common.{◌≡◌, ℕ, zero, suc, ◌+◌, ◌-◌, ◌^◌, ◌<◌, ◌≤◌, ◌⊎◌, inl, inr, Bool, true, false, not, eqb, ltb, leb, cond, ◌&&◌, List, [], ◌∷◌, ◌++◌, length, get_or, take, drop, set, max, min, Option, Some, None, is_some, IsSome, option_map, unwrap_or, refl, sym, ap, ◌∙◌, subst, arith, length-append, length-drop}
use Rattle.std.proofs.lemmas.List.{get_or-set_same, get_or-set_other, drop-append-le, length_push, get_or_append_left, get_or_push, get_or-drop, length-replicate}
use Rattle.std.proofs.lemmas.Bool.{cases_lt, cases_eq}
use Rattle.std.proofs.lemmas.Bool.Decides.{nat_tests}
use Rattle.mt_base.specs.Trace.{Trace, Start, ◌▷◌}
use Rattle.mt_base.specs.Writing.{joined}
use Rattle.mt_windows.specs.declared.flight.Flight.{Flight}
use Rattle.mt_windows.specs.FlightView.{flight_at, slot_at, bytes_in, no_flights}
use Rattle.mt_windows.specs.Sending.Act.{Gave}
use Rattle.mt_windows.specs.Sending.{Act, given, cuts, pieces, waiting, piece, part_of, transmissions, last_end, how_many, sum_of, is_open, told, latest, earliest, queued, lowest, lowest_or_next, is_passed_over, passed_over, floor_transmission, may_cut, reach}
use Rattle.mt_windows.specs.SendingView.{Outbox, IsSoundOut, IsFlight, Remembers, Flying, Heard, Sends, limits, queued_of, landed, past_flight, IsRebased, may_cut_of}
use Rattle.mt_windows.proofs.Counts.{pieces_within, least_none, least_found, three_above}

-- ---- the parts in flight
pub if_some : (b : Bool) (bytes : List ℕ) → IsSome (cond b (Some bytes) None) → b ≡ true
if_some true bytes h = refl
if_some false bytes h = absurd (cc)

pub open_of : (b c : Bool) → b && not c ≡ true → b ≡ true
open_of true c h = refl
open_of false c h = h

-- the lowest part that is kept is the lowest unsettled one
pub lowest_is : (w : Outbox) (first : ℕ) (t : Trace Act) → Sends w first t → lowest limits t ≡ cond (ltb w.base w.cut) (Some w.base) None
lowest_is w first t h = by_front h.front
  where
    none_left : w.base ≡ w.cut → lowest limits t ≡ cond (ltb w.base w.cut) (Some w.base) None
    none_left e =
        let no : ltb w.base w.cut ≡ false = grind (arith, nat_tests) in
        least_none (is_open limits t) (cuts t) (λ p l. h.flying.below p (omega (arith, e, h.cut_is, l))) ∙ sym (ap (λ b. cond b (Some w.base) None) no)

    some_left : is_open limits t w.base ≡ true → lowest limits t ≡ cond (ltb w.base w.cut) (Some w.base) None
    some_left is =
        let below = open_of (ltb w.base (cuts t)) _ is in
        let less : w.base < cuts t = grind (arith, nat_tests) in
        let yes : ltb w.base w.cut ≡ true = grind (arith, nat_tests, h.cut_is) in
        least_found (is_open limits t) (cuts t) w.base h.flying.below less is ∙ sym (ap (λ b. cond b (Some w.base) None) yes)

    by_front : (w.base ≡ w.cut) ⊎ IsSome (slot_at w.flights 0) → lowest limits t ≡ cond (ltb w.base w.cut) (Some w.base) None
    by_front (inl e) = none_left e
    by_front (inr there) =
        let here : w.base + 0 ≡ w.base = omega arith in
        some_left (subst (λ p. is_open limits t p ≡ true) here (if_some (is_open limits t (w.base + 0)) (piece limits t (w.base + 0)) (subst IsSome (h.flying.slots 0) there)))

pub base_is : (w : Outbox) (first : ℕ) (t : Trace Act) → Sends w first t → w.base ≤ w.cut → w.base ≡ lowest_or_next limits t
base_is w first t h le = by_test (ltb w.base w.cut) refl ∙ ap (λ o. unwrap_or o (cuts t)) (sym (lowest_is w first t h))
  where
    by_test : (b : Bool) → ltb w.base w.cut ≡ b → w.base ≡ unwrap_or (cond (ltb w.base w.cut) (Some w.base) None) (cuts t)
    by_test true e = sym (ap (λ b. unwrap_or (cond b (Some w.base) None) (cuts t)) e)
    by_test false e = let same : w.base ≡ w.cut = grind (arith, nat_tests) in same ∙ h.cut_is ∙ sym (ap (λ b. unwrap_or (cond b (Some w.base) None) (cuts t)) e)

-- ---- bytes in flight
pub bytes_set : (xs : List Flight) (k : ℕ) (f : Flight) → k < length xs → bytes_in (set xs k f) + length (unwrap_or (slot_at xs k) []) ≡ bytes_in xs + length (unwrap_or f.slot [])
bytes_set [] k f l = absurd (omega (arith, l))
bytes_set (x ∷ xs) zero f l = omega arith
bytes_set (x ∷ xs) (suc k) f l = omega (arith, bytes_set xs k f (omega (arith, l)))

pub bytes_append : (xs ys : List Flight) → bytes_in (xs ++ ys) ≡ bytes_in xs + bytes_in ys
bytes_append [] ys = omega arith
bytes_append (x ∷ xs) ys = omega (arith, bytes_append xs ys)

pub bytes_none : (n : ℕ) → bytes_in (no_flights n) ≡ 0
bytes_none zero = refl
bytes_none (suc n) = omega (arith, bytes_none n)

pub queued_none : (n : ℕ) (xs : List ℕ) (flights : List Flight) → xs ≡ [] → flights ≡ no_flights n → length xs + bytes_in flights ≡ 0
queued_none n xs flights no_bytes empty = omega (arith, ap length no_bytes, ap bytes_in empty, bytes_none n)

pub bytes_turned : (xs : List Flight) → bytes_in (drop 1 xs ++ take 1 xs) ≡ bytes_in xs
bytes_turned [] = refl
bytes_turned (x ∷ xs) = bytes_append xs (x ∷ []) ∙ (let e : bytes_in xs + (length (unwrap_or x.slot []) + 0) ≡ length (unwrap_or x.slot []) + bytes_in xs = omega arith in e)

-- ---- a part lands, and the row moves on
pub and_no : (b c : Bool) → b ≡ false → b && c ≡ false
and_no true c h = absurd (cc)
and_no false c h = refl

pub and_off : (b : Bool) → b && not true ≡ false
and_off true = refl
and_off false = refl

pub and_on : (b : Bool) → b && not false ≡ b
and_on true = refl
and_on false = refl

pub flying_landed : (xs : List Flight) (base k : ℕ) (bytes : ℕ → List ℕ) (opens : ℕ → Bool) (early late : ℕ → ℕ) → k < length xs → Flying xs base bytes opens early late
    → Flying (set xs k (record (flight_at xs k) { slot = None })) base bytes (λ p. opens p && not (eqb p (base + k))) early late
flying_landed xs base k bytes opens early late l h = record {
  below = λ p less. and_no (opens p) (not (eqb p (base + k))) (h.below p less);
  slots = λ j. slot_cases j (cases_eq j k);
  earliest_are = λ j is. earliest_cases j (cases_eq j k) is;
  latest_are = λ j is. latest_cases j (cases_eq j k) is;
}
  where
    here : (j : ℕ) → j ≡ k → eqb (base + j) (base + k) ≡ true
    here j e = grind (arith, nat_tests)

    other : (j : ℕ) → (j ≡ k → ⊥) → eqb (base + j) (base + k) ≡ false
    other j ne = grind (arith, nat_tests)

    same_flight : (j : ℕ) → (j ≡ k → ⊥) → flight_at (set xs k (record (flight_at xs k) { slot = None })) j ≡ flight_at xs j
    same_flight j ne = get_or-set_other xs k j (record (flight_at xs k) { slot = None }) (record { slot = None; earliest = 0; latest = 0 }) ne

    slot_cases : (j : ℕ) → (j ≡ k) ⊎ (j ≡ k → ⊥) → slot_at (set xs k (record (flight_at xs k) { slot = None })) j ≡ cond (opens (base + j) && not (eqb (base + j) (base + k))) (Some (bytes (base + j))) None
    slot_cases j (inl e) =
        ap (slot_at (set xs k (record (flight_at xs k) { slot = None }))) e
        ∙ ap (λ (f : Flight). f.slot) (get_or-set_same xs k (record (flight_at xs k) { slot = None }) (record { slot = None; earliest = 0; latest = 0 }) l)
        ∙ sym (ap (λ b. cond (opens (base + j) && not b) (Some (bytes (base + j))) None) (here j e) ∙ ap (λ b. cond b (Some (bytes (base + j))) None) (and_off (opens (base + j))))
    slot_cases j (inr ne) =
        ap (λ (f : Flight). f.slot) (same_flight j ne) ∙ h.slots j
        ∙ sym (ap (λ b. cond (opens (base + j) && not b) (Some (bytes (base + j))) None) (other j ne) ∙ ap (λ b. cond b (Some (bytes (base + j))) None) (and_on (opens (base + j))))

    earliest_cases : (j : ℕ) → (j ≡ k) ⊎ (j ≡ k → ⊥) → opens (base + j) && not (eqb (base + j) (base + k)) ≡ true → (flight_at (set xs k (record (flight_at xs k) { slot = None })) j).earliest ≡ early (base + j)
    earliest_cases j (inl e) is = absurd (let f = sym is ∙ ap (λ b. opens (base + j) && not b) (here j e) ∙ and_off (opens (base + j)) in cc)
    earliest_cases j (inr ne) is =
        ap (λ (f : Flight). f.earliest) (same_flight j ne) ∙ h.earliest_are j (sym (and_on (opens (base + j))) ∙ sym (ap (λ b. opens (base + j) && not b) (other j ne)) ∙ is)

    latest_cases : (j : ℕ) → (j ≡ k) ⊎ (j ≡ k → ⊥) → opens (base + j) && not (eqb (base + j) (base + k)) ≡ true → (flight_at (set xs k (record (flight_at xs k) { slot = None })) j).latest ≡ late (base + j)
    latest_cases j (inl e) is = absurd (let f = sym is ∙ ap (λ b. opens (base + j) && not b) (here j e) ∙ and_off (opens (base + j)) in cc)
    latest_cases j (inr ne) is =
        ap (λ (f : Flight). f.latest) (same_flight j ne) ∙ h.latest_are j (sym (and_on (opens (base + j))) ∙ sym (ap (λ b. opens (base + j) && not b) (other j ne)) ∙ is)

pub push_empty : (xs : List Flight) (x : Flight) (k : ℕ) → x.slot ≡ None → slot_at (xs ++ x ∷ []) k ≡ slot_at xs k
push_empty [] x zero e = e
push_empty [] x (suc k) e = refl
push_empty (y ∷ xs) x zero e = refl
push_empty (y ∷ xs) x (suc k) e = push_empty xs x k e

pub push_before : (xs : List Flight) (x : Flight) (k : ℕ) (bytes : List ℕ) → slot_at xs k ≡ Some bytes → flight_at (xs ++ x ∷ []) k ≡ flight_at xs k
push_before [] x k bytes h = absurd (cc)
push_before (y ∷ xs) x zero bytes h = refl
push_before (y ∷ xs) x (suc k) bytes h = push_before xs x k bytes h

pub turned_slot : (xs : List Flight) (k : ℕ) → slot_at xs 0 ≡ None → slot_at (drop 1 xs ++ take 1 xs) k ≡ slot_at xs (suc k)
turned_slot [] k none = refl
turned_slot (x ∷ xs) k none = push_empty xs x k none

pub turned_flight : (xs : List Flight) (k : ℕ) (bytes : List ℕ) → slot_at xs (suc k) ≡ Some bytes → flight_at (drop 1 xs ++ take 1 xs) k ≡ flight_at xs (suc k)
turned_flight [] k bytes h = absurd (cc)
turned_flight (x ∷ xs) k bytes h = push_before xs x k bytes h

pub if_none : (b : Bool) (bytes : List ℕ) → cond b (Some bytes) None ≡ None → b ≡ false
if_none true bytes h = absurd (cc)
if_none false bytes h = refl

pub flying_turned : (xs : List Flight) (base : ℕ) (bytes : ℕ → List ℕ) (opens : ℕ → Bool) (early late : ℕ → ℕ) → slot_at xs 0 ≡ None → Flying xs base bytes opens early late → Flying (drop 1 xs ++ take 1 xs) (base + 1) bytes opens early late
flying_turned xs base bytes opens early late none h = record {
  below = λ p less. below_cases p less (cases_lt p base);
  slots = λ k. turned_slot xs k none ∙ h.slots (suc k) ∙ ap (λ p. cond (opens p) (Some (bytes p)) None) (next k);
  earliest_are = λ k is. ap (λ (f : Flight). f.earliest) (turned_flight xs k (bytes (base + suc k)) (there k is)) ∙ h.earliest_are (suc k) (ap opens (next k) ∙ is) ∙ ap early (next k);
  latest_are = λ k is. ap (λ (f : Flight). f.latest) (turned_flight xs k (bytes (base + suc k)) (there k is)) ∙ h.latest_are (suc k) (ap opens (next k) ∙ is) ∙ ap late (next k);
}
  where
    next : (k : ℕ) → base + suc k ≡ base + 1 + k
    next k = omega arith

    there : (k : ℕ) → opens (base + 1 + k) ≡ true → slot_at xs (suc k) ≡ Some (bytes (base + suc k))
    there k is = h.slots (suc k) ∙ ap (λ b. cond b (Some (bytes (base + suc k))) None) (ap opens (next k) ∙ is)

    below_cases : (p : ℕ) → p < base + 1 → (p < base) ⊎ (base ≤ p) → opens p ≡ false
    below_cases p less (inl l) = h.below p l
    below_cases p less (inr ge) =
        let e : p ≡ base + 0 = omega (arith, less, ge) in
        ap opens e ∙ if_none (opens (base + 0)) (bytes (base + 0)) (sym (h.slots 0) ∙ none)

-- ---- what is queued
pub sum_same : (f g : ℕ → ℕ) (n : ℕ) → ((p : ℕ) → f p ≡ g p) → sum_of f n ≡ sum_of g n
sum_same f g zero h = refl
sum_same f g (suc n) h = omega (arith, sum_same f g n h, h n)

pub sum_front : (f : ℕ → ℕ) (n : ℕ) → sum_of f (suc n) ≡ f 0 + sum_of (λ k. f (suc k)) n
sum_front f zero = omega arith
sum_front f (suc n) = omega (arith, sum_front f n)

pub bytes_sum : (xs : List Flight) → bytes_in xs ≡ sum_of (λ k. length (unwrap_or (slot_at xs k) [])) (length xs)
bytes_sum [] = refl
bytes_sum (x ∷ xs) = omega (arith, bytes_sum xs, sum_front (λ k. length (unwrap_or (slot_at (x ∷ xs) k) [])) (length xs))

pub sum_empty : (f : ℕ → ℕ) (n : ℕ) → ((p : ℕ) → p < n → f p ≡ 0) → sum_of f n ≡ 0
sum_empty f zero h = refl
sum_empty f (suc n) h = omega (arith, sum_empty f n (λ p l. h p (omega (arith, l))), h n (omega arith))

pub sum_behind : (f : ℕ → ℕ) (base n : ℕ) → ((p : ℕ) → p < base → f p ≡ 0) → sum_of f (base + n) ≡ sum_of (λ k. f (base + k)) n
sum_behind f base zero h = let e : base + 0 ≡ base = omega arith in ap (sum_of f) e ∙ sum_empty f base h
sum_behind f base (suc n) h =
    let e : base + suc n ≡ suc (base + n) = omega arith in
    ap (sum_of f) e ∙ ap (λ m. m + f (base + n)) (sum_behind f base n h)

pub sum_until : (f : ℕ → ℕ) (m d : ℕ) → ((p : ℕ) → m ≤ p → f p ≡ 0) → sum_of f (m + d) ≡ sum_of f m
sum_until f m zero h = let e : m + 0 ≡ m = omega arith in ap (sum_of f) e
sum_until f m (suc d) h =
    let e : m + suc d ≡ suc (m + d) = omega arith in
    let rest = sum_until f m d h in
    let none = h (m + d) (omega arith) in
    ap (sum_of f) e ∙ (let z : sum_of f (m + d) + f (m + d) ≡ sum_of f m = omega arith in z)

pub len_if : (b : Bool) (bytes : List ℕ) → length (unwrap_or (cond b (Some bytes) None) []) ≡ cond b (length bytes) 0
len_if true bytes = refl
len_if false bytes = refl

pub queued_from : (w : Outbox) (t : Trace Act) → w.waiting ≡ waiting limits t → w.cut ≡ cuts t → Flying w.flights w.base (piece limits t) (is_open limits t) (earliest t) (latest t) → w.cut ≤ w.base + length w.flights → w.base ≤ w.cut → queued_of w ≡ queued limits t
queued_from w t waits cut_is flying fits le =
    let size = λ (p : ℕ). cond (is_open limits t p) (length (piece limits t p)) 0 in
    let here = bytes_sum w.flights
    ∙ sum_same (λ k. length (unwrap_or (slot_at w.flights k) [])) (λ k. size (w.base + k)) (length w.flights) (λ k. ap (λ o. length (unwrap_or o [])) (flying.slots k) ∙ len_if (is_open limits t (w.base + k)) (piece limits t (w.base + k))) in
    let zero_below : (p : ℕ) → p < w.base → size p ≡ 0 = λ p l. ap (λ b. cond b (length (piece limits t p)) 0) (flying.below p l) in
    let zero_beyond : (p : ℕ) → cuts t ≤ p → size p ≡ 0 = λ p l. ap (λ b. cond b (length (piece limits t p)) 0) (let no : ltb p (cuts t) ≡ false = grind (arith, nat_tests) in and_no (ltb p (cuts t)) _ no) in
    let rest = w.base + length w.flights - cuts t in
    let whole : w.base + length w.flights ≡ cuts t + rest = omega (arith, fits, cut_is) in
    ap (λ xs. length xs + bytes_in w.flights) waits
    ∙ ap (λ n. length (waiting limits t) + n) (here ∙ sym (sum_behind size w.base (length w.flights) zero_below) ∙ ap (sum_of size) whole ∙ sum_until size (cuts t) rest zero_beyond)

pub queued_is : (w : Outbox) (first : ℕ) (t : Trace Act) → Sends w first t → w.cut ≤ w.base + length w.flights → w.base ≤ w.cut → queued_of w ≡ queued limits t
queued_is w first t h fits le = queued_from w t h.waiting_is h.cut_is h.flying fits le

pub gave : (w : Outbox) (first : ℕ) (t : Trace Act) (bytes xs : List ℕ) → xs ≡ w.waiting ++ bytes → Sends w first t → w.cut ≤ w.base + length w.flights → w.base ≤ w.cut → queued_of w + length bytes ≤ 2097152 → Sends (record w { waiting = xs }) first (t ▷ Gave bytes)
gave w first t bytes xs is h fits le room =
    let before = queued_is w first t h fits le in
    let more : waiting limits (t ▷ Gave bytes) ≡ waiting limits t ++ bytes = drop-append-le (length (joined (pieces limits t))) (given t) bytes (pieces_within limits t) in
    record {
      first_is = h.first_is;
      waiting_is = is ∙ ap (λ ys. ys ++ bytes) h.waiting_is ∙ sym more;
      cut_is = h.cut_is;
      made_is = h.made_is;
      front = h.front;
      flying = h.flying;
      remembers = h.remembers;
      heard = h.heard;
      parts_exist = h.parts_exist;
      unsettled_beyond = h.unsettled_beyond;
      untold_beyond = h.untold_beyond;
      queue_bound = omega (arith, room, before, ap length more, length-append (waiting limits t) bytes);
    }

pub past_rebased : (from w v : Outbox) → IsRebased from w → v ≡ past_flight w → IsRebased from v
past_rebased from w v h e = subst (IsRebased from) (sym e) (record { first = h.first; waiting = h.waiting; cut = h.cut; made = h.made; told = h.told; second = h.second; third = h.third; carried = h.carried; base = omega (arith, h.base) })

-- the next step's facts at a window of which the front part is settled
pub settled_front : (base cut : ℕ) (p : Option (List ℕ)) → ltb base cut && not (is_some p) ≡ true → p ≡ None
settled_front base cut None h = refl
settled_front base cut (Some b) h = absurd (let f = sym (and_off (ltb base cut)) ∙ h in cc)

pub front_there : (base cut : ℕ) (p : Option (List ℕ)) → base ≤ cut → ltb base cut && not (is_some p) ≡ false → (base ≡ cut) ⊎ IsSome p
front_there base cut (Some b) le h = inr refl
front_there base cut None le h = inl (let no : ltb base cut ≡ false = sym (and_on (ltb base cut)) ∙ h in grind (arith, nat_tests))

-- ---- what is asked
pub lowest_some : (w : Outbox) (first : ℕ) (t : Trace Act) → Sends w first t → w.base < w.cut → Some (w.first + w.base) ≡ option_map (λ p. first + p) (lowest limits t)
lowest_some w first t h less =
    let yes : ltb w.base w.cut ≡ true = grind (arith, nat_tests) in
    ap (λ f. Some (f + w.base)) h.first_is ∙ sym (ap (option_map (λ p. first + p)) (lowest_is w first t h ∙ ap (λ b. cond b (Some w.base) None) yes))

pub lowest_none : (w : Outbox) (first : ℕ) (t : Trace Act) → Sends w first t → w.cut ≤ w.base → None ≡ option_map (λ p. first + p) (lowest limits t)
lowest_none w first t h le =
    let no : ltb w.base w.cut ≡ false = grind (arith, nat_tests) in
    sym (ap (option_map (λ p. first + p)) (lowest_is w first t h ∙ ap (λ b. cond b (Some w.base) None) no))

pub open_base : (w : Outbox) (first : ℕ) (t : Trace Act) → Sends w first t → w.base < w.cut → is_open limits t (w.base + 0) ≡ true
open_base w first t h less = by_front h.front
  where
    by_front : (w.base ≡ w.cut) ⊎ IsSome (slot_at w.flights 0) → is_open limits t (w.base + 0) ≡ true
    by_front (inl e) = absurd (omega (arith, less, e))
    by_front (inr there) = if_some (is_open limits t (w.base + 0)) (piece limits t (w.base + 0)) (subst IsSome (h.flying.slots 0) there)

pub floor_some : (w : Outbox) (first : ℕ) (t : Trace Act) (early most : ℕ) → Sends w first t → w.base < w.cut → early ≡ (flight_at w.flights 0).earliest → most ≡ max early (w.made - 4096) → w.first + most ≡ first + floor_transmission limits t
floor_some w first t early most h less is top =
    let base = base_is w first t h (omega arith) in
    let here : w.base + 0 ≡ w.base = omega arith in
    let e : early ≡ earliest t (lowest_or_next limits t) = is ∙ h.flying.earliest_are 0 (open_base w first t h less) ∙ ap (earliest t) (here ∙ base) in
    let yes : ltb (lowest_or_next limits t) (cuts t) ≡ true = subst (λ n. ltb n (cuts t) ≡ true) base (let c = h.cut_is in grind (arith, nat_tests)) in
    let value : most ≡ floor_transmission limits t =
    top ∙ ap (λ n. max n (w.made - 4096)) e ∙ ap (λ n. max (earliest t (lowest_or_next limits t)) (n - 4096)) h.made_is
    ∙ sym (ap (λ b. cond b (max (earliest t (lowest_or_next limits t)) (transmissions t - 4096)) (transmissions t)) yes) in
    omega (arith, value, h.first_is)

pub floor_none : (w : Outbox) (first : ℕ) (t : Trace Act) → Sends w first t → w.base ≤ w.cut → w.cut ≤ w.base → w.first + w.made ≡ first + floor_transmission limits t
floor_none w first t h le ge =
    let base = base_is w first t h le in
    let no : ltb (lowest_or_next limits t) (cuts t) ≡ false = subst (λ n. ltb n (cuts t) ≡ false) base (let c = h.cut_is in grind (arith, nat_tests)) in
    let value : w.made ≡ floor_transmission limits t = h.made_is ∙ sym (ap (λ b. cond b (max (earliest t (lowest_or_next limits t)) (transmissions t - 4096)) (transmissions t)) no) in
    omega (arith, value, h.first_is)

pub may_cut_is : (w : Outbox) (first : ℕ) (t : Trace Act) (window : ℕ) → Sends w first t → w.base ≤ w.cut → may_cut_of w window ≡ may_cut limits first t window
may_cut_is w first t window h le =
    let base = base_is w first t h le in
    let far : w.made - w.told ≡ reach limits t = ap (λ n. n - w.told) h.made_is ∙ ap (λ n. transmissions t - n) (h.heard.last ∙ ap (last_end (told limits t)) h.made_is) in
    same_tests (length w.waiting) (length (waiting limits t)) w.cut (cuts t) w.base (lowest_or_next limits t) (w.made - w.told) (reach limits t) w.first first w.made (transmissions t)
    (ap length h.waiting_is) h.cut_is base far h.first_is h.made_is
  where
    same_tests : (a a' b b' c c' d d' e e' f f' : ℕ) → a ≡ a' → b ≡ b' → c ≡ c' → d ≡ d' → e ≡ e' → f ≡ f'
        → ltb 0 a && ltb b (c + min 64 window) && ltb d 4096 && ltb (e + b) 4611686018427387904 && ltb (e + f) 4611686018427387904
        ≡ ltb 0 a' && ltb b' (c' + min 64 window) && ltb d' 4096 && ltb (e' + b') 4611686018427387904 && ltb (e' + f') 4611686018427387904
    same_tests a a' b b' c c' d d' e e' f f' p q r s u v = cc

pub passed_at : (w : Outbox) (first : ℕ) (t : Trace Act) (k : ℕ) → Sends w first t → is_passed_over limits t (w.base + k) ≡ is_some (slot_at w.flights k) && ltb ((flight_at w.flights k).latest + 1) w.third
passed_at w first t k h =
    ap (λ b. is_open limits t (w.base + k) && b) (ap (λ n. leb 3 (how_many (λ j. told limits t j && ltb (latest t (w.base + k)) j) n)) (sym h.made_is) ∙ three_above (told limits t) (latest t (w.base + k)) w.told w.second w.third w.made h.heard)
    ∙ by_open (is_open limits t (w.base + k)) refl
  where
    by_open : (b : Bool) → is_open limits t (w.base + k) ≡ b → is_open limits t (w.base + k) && ltb (latest t (w.base + k) + 1) w.third ≡ is_some (slot_at w.flights k) && ltb ((flight_at w.flights k).latest + 1) w.third
    by_open true e =
        ap (λ b. b && ltb (latest t (w.base + k) + 1) w.third) e
        ∙ ap (λ n. ltb (n + 1) w.third) (sym (h.flying.latest_are k e))
        ∙ sym (ap (λ o. is_some o && ltb ((flight_at w.flights k).latest + 1) w.third) (h.flying.slots k ∙ ap (λ b. cond b (Some (piece limits t (w.base + k))) None) e))
    by_open false e =
        ap (λ b. b && ltb (latest t (w.base + k) + 1) w.third) e
        ∙ sym (ap (λ o. is_some o && ltb ((flight_at w.flights k).latest + 1) w.third) (h.flying.slots k ∙ ap (λ b. cond b (Some (piece limits t (w.base + k))) None) e))

pub not_passed_below : (w : Outbox) (first : ℕ) (t : Trace Act) (k : ℕ) → Sends w first t → ((j : ℕ) → j < k → is_some (slot_at w.flights j) && ltb ((flight_at w.flights j).latest + 1) w.third ≡ false) → (p : ℕ) → p < w.base + k → is_passed_over limits t p ≡ false
not_passed_below w first t k h none p l = by_place (cases_lt p w.base)
  where
    by_place : (p < w.base) ⊎ (w.base ≤ p) → is_passed_over limits t p ≡ false
    by_place (inl less) = and_no (is_open limits t p) _ (h.flying.below p less)
    by_place (inr ge) =
        let e : p ≡ w.base + (p - w.base) = omega (arith, ge) in
        ap (is_passed_over limits t) e ∙ passed_at w first t (p - w.base) h ∙ none (p - w.base) (omega (arith, l, ge))

pub passed_found : (w : Outbox) (first : ℕ) (t : Trace Act) (k : ℕ) → Sends w first t → ((j : ℕ) → j < k → is_some (slot_at w.flights j) && ltb ((flight_at w.flights j).latest + 1) w.third ≡ false) → w.base + k < w.cut → is_some (slot_at w.flights k) && ltb ((flight_at w.flights k).latest + 1) w.third ≡ true → Some (w.first + w.base + k) ≡ option_map (λ p. first + p) (passed_over limits t)
passed_found w first t k h none l there =
    let found = least_found (is_passed_over limits t) (cuts t) (w.base + k) (not_passed_below w first t k h none) (omega (arith, l, h.cut_is)) (passed_at w first t k h ∙ there) in
    let number : w.first + w.base + k ≡ first + (w.base + k) = omega (arith, h.first_is) in
    ap Some number ∙ sym (ap (option_map (λ p. first + p)) found)

pub passed_none : (w : Outbox) (first : ℕ) (t : Trace Act) (k : ℕ) → Sends w first t → ((j : ℕ) → j < k → is_some (slot_at w.flights j) && ltb ((flight_at w.flights j).latest + 1) w.third ≡ false) → w.cut ≤ w.base + k → None ≡ option_map (λ p. first + p) (passed_over limits t)
passed_none w first t k h none l =
    sym (ap (option_map (λ p. first + p)) (least_none (is_passed_over limits t) (cuts t) (λ p less. not_passed_below w first t k h none p (omega (arith, less, l, h.cut_is)))))

pub landed_less : (w : Outbox) (k : ℕ) → k < length w.flights → queued_of (landed w k) ≤ queued_of w
landed_less w k l = omega (arith, bytes_set w.flights k (record (flight_at w.flights k) { slot = None }) l)

-- ---- a window that begins
pub no_flight_at : (n k : ℕ) → flight_at (no_flights n) k ≡ record { slot = None; earliest = 0; latest = 0 }
no_flight_at zero k = refl
no_flight_at (suc n) zero = refl
no_flight_at (suc n) (suc k) = no_flight_at n k

pub starts_out : (first n : ℕ) (xs ys : List ℕ) (flights : List Flight) → xs ≡ [] → ys ≡ [] → flights ≡ no_flights n
    → Sends (record { first = first; waiting = xs; base = 0; cut = 0; made = 0; told = 0; second = 0; third = 0; flights = flights; carried = ys }) first Start
starts_out first n xs ys flights no_bytes no_parts empty =
    let closed : (p : ℕ) → is_open limits Start p ≡ false = λ p. (let no : ltb p 0 ≡ false = grind (arith, nat_tests) in and_no (ltb p 0) true no) in
    let flight : (k : ℕ) → flight_at flights k ≡ record { slot = None; earliest = 0; latest = 0 } = λ k. ap (λ fs. flight_at fs k) empty ∙ no_flight_at n k in
    record {
      first_is = refl;
      waiting_is = no_bytes;
      cut_is = refl;
      made_is = refl;
      front = inl refl;
      flying = record {
        below = λ p l. closed p;
        slots = λ k. ap (λ (f : Flight). f.slot) (flight k) ∙ sym (ap (λ b. cond b (Some (piece limits Start (0 + k))) None) (closed (0 + k)));
        earliest_are = λ k is. absurd (let f = sym is ∙ closed (0 + k) in cc);
        latest_are = λ k is. absurd (let f = sym is ∙ closed (0 + k) in cc);
      };
      remembers = record { size = ap length no_parts ∙ (let e : 0 ≡ min 0 4096 = omega arith in e); parts = λ i l. absurd (omega (arith, l, ap length no_parts)) };
      heard = record { last = refl; second = refl; third = refl };
      parts_exist = λ j l. absurd (omega (arith, l));
      unsettled_beyond = λ p l. refl;
      untold_beyond = λ j l. refl;
      queue_bound = omega arith;
    }

pub sound_start : (first : ℕ) (xs ys : List ℕ) (flights : List Flight) → 1 ≤ first → first < 2 ^ 33 → xs ≡ [] → ys ≡ [] → flights ≡ no_flights 64
    → IsSoundOut (record { first = first; waiting = xs; base = 0; cut = 0; made = 0; told = 0; second = 0; third = 0; flights = flights; carried = ys })
sound_start first xs ys flights low high no_bytes no_parts empty =
    let flight : (k : ℕ) → flight_at flights k ≡ record { slot = None; earliest = 0; latest = 0 } = λ k. ap (λ fs. flight_at fs k) empty ∙ no_flight_at 64 k in
    record {
      some_first = low;
      places = ap length empty ∙ length-replicate {A = Flight} 64 (record { slot = None; earliest = 0; latest = 0 });
      base_bound = omega arith;
      cut_bound = omega arith;
      parts_bound = omega arith;
      made_bound = omega arith;
      told_bound = omega arith;
      reach_bound = omega arith;
      carried_bound = omega (arith, ap length no_parts);
      carried_made = omega (arith, ap length no_parts);
      waiting_bound = omega (arith, ap length no_bytes);
      early = λ k. omega (arith, ap (λ (f : Flight). f.earliest) (flight k));
      fits = λ k. subst (λ (f : Flight). IsFlight f.slot f.latest 0) (sym (flight k)) tt;
    }

-- ---- a transmission is remembered
pub remembers_more : (xs : List ℕ) (span made new : ℕ) (part_of later : ℕ → ℕ) → 0 < span → Remembers xs span made part_of → ((j : ℕ) → j < made → later j ≡ part_of j) → later made ≡ new
    → Remembers (drop (length xs + 1 - span) (xs ++ new ∷ [])) span (made + 1) later
remembers_more xs span made new part_of later some h same last =
    let long = length-drop (length xs + 1 - span) (xs ++ new ∷ []) in
    let push = length_push xs new in
    let size : length (drop (length xs + 1 - span) (xs ++ new ∷ [])) ≡ min (made + 1) span = omega (arith, long, push, h.size) in
    record {
      size = size;
      parts = λ i l. get_or-drop (length xs + 1 - span) (xs ++ new ∷ []) i 0 ∙ at_place i (omega (arith, l, long, push)) (cases_lt (length xs + 1 - span + i) (length xs));
    }
  where
    at_place : (i : ℕ) → length xs + 1 - span + i < length xs + 1 → (length xs + 1 - span + i < length xs) ⊎ (length xs ≤ length xs + 1 - span + i)
        → get_or (xs ++ new ∷ []) (length xs + 1 - span + i) 0 ≡ later (made + 1 - length (drop (length xs + 1 - span) (xs ++ new ∷ [])) + i)
    at_place i l (inl less) =
        let long = length-drop (length xs + 1 - span) (xs ++ new ∷ []) in
        let push = length_push xs new in
        let place : made - length xs + (length xs + 1 - span + i) ≡ made + 1 - length (drop (length xs + 1 - span) (xs ++ new ∷ [])) + i = omega (arith, long, push, h.size) in
        get_or_append_left xs (new ∷ []) 0 (length xs + 1 - span + i) less ∙ h.parts (length xs + 1 - span + i) less
        ∙ sym (same (made - length xs + (length xs + 1 - span + i)) (omega (arith, less, h.size))) ∙ ap later place
    at_place i l (inr ge) =
        let long = length-drop (length xs + 1 - span) (xs ++ new ∷ []) in
        let push = length_push xs new in
        let e : length xs ≡ length xs + 1 - span + i = omega (arith, l, ge) in
        let place : made ≡ made + 1 - length (drop (length xs + 1 - span) (xs ++ new ∷ [])) + i = omega (arith, long, push, h.size, e) in
        get_or_push xs new 0 (length xs + 1 - span + i) e ∙ sym last ∙ ap later place

pub heard_more : (a b c made : ℕ) (f : ℕ → Bool) → Heard a b c made f → f made ≡ false → Heard a b c (made + 1) f
heard_more a b c made f h unheard =
    let up : made + 1 ≡ suc made = omega arith in
    record { last = h.last ∙ sym (ap (last_end f) up ∙ ap (λ x. cond x (suc made) (last_end f made)) unheard); second = h.second; third = h.third }

pub lowest_empty : (w : Outbox) (first : ℕ) (t : Trace Act) (f : Flight) → Sends w first t → f ≡ flight_at w.flights 0 → is_some f.slot ≡ false → None ≡ option_map (λ p. first + p) (lowest limits t)
lowest_empty w first t f h read none = by_front h.front
  where
    by_front : (w.base ≡ w.cut) ⊎ IsSome (slot_at w.flights 0) → None ≡ option_map (λ p. first + p) (lowest limits t)
    by_front (inl e) = lowest_none w first t h (omega (arith, e))
    by_front (inr there) = absurd (let f = sym none ∙ ap (λ (x : Flight). is_some x.slot) read ∙ there in cc)

-- Lemmas on the bits of the parts that were accepted, and on what is true of every receive window.
use Rattle.std.proofs.Common.{◌≡◌, ◌≢◌, ℕ, suc, ◌+◌, ◌-◌, ◌*◌, ◌%◌, ◌<◌, ◌≤◌, ◌⊎◌, inl, inr, Bool, true, false, not, eqb, ltb, ◌||◌, ◌&&◌, List, [], ◌∷◌, ◌++◌, length, drop, set, replicate, sum, get_or, max, unwrap_or, slice_get, All, Option, Some, None, is_some, IsSome, ◌^◌, sym, ap, ◌∙◌, subst, refl, arith, length-drop, length-append}
use Rattle.std.proofs.lemmas.List.{get_or-set_same, get_or-set_other, length_push, length-replicate, length-set}
use Rattle.std.proofs.lemmas.List.Elements.{All-append, All-nil, All-cons, All-head, All-drop}
use Rattle.std.proofs.lemmas.List.Sums.{sum_by-cons}
use Rattle.std.proofs.lemmas.Bool.{cases_eq, cases_lt}
use Rattle.std.proofs.lemmas.Bool.Decides.{nat_tests}
use Rattle.mt_windows.specs.declared.limits.TheConstants.{DATAGRAM}
use Rattle.mt_windows.specs.BitsView.{is_set}
use Rattle.mt_windows.specs.Arrived.{Parts, part_at, drained, has_part}
use Rattle.mt_windows.specs.ArrivedView.{Inbox, gap_of, IsSound, AreMarked, Receives, is_drained, kept, gathered, past_front, drawn}
use Rattle.mt_windows.proofs.Marks.{no_bit}
use Rattle.mt_windows.proofs.Order.{nothing_at, shifted_at, receives_next, has_from_next}

-- whether a part is at a place from the next part on
abbrev pub is_there : ℕ → Parts → ℕ → Bool
is_there count slots k = ltb k count || is_some (part_at slots (k - count))

there_behind : (count : ℕ) (slots : Parts) (k : ℕ) → k < count → is_there count slots k ≡ true
there_behind count slots k less = let yes : ltb k count ≡ true = grind (arith, nat_tests) in ap (λ b. b || is_some (part_at slots (k - count))) yes

there_ahead : (count : ℕ) (slots : Parts) (k j : ℕ) → k ≡ count + j → is_there count slots k ≡ is_some (part_at slots j)
there_ahead count slots k j e =
    let no : ltb k count ≡ false = grind (arith, nat_tests) in
    let same : k - count ≡ j = omega (arith, e) in
    ap (λ b. b || is_some (part_at slots (k - count))) no ∙ ap (λ i. is_some (part_at slots i)) same

-- no part is there, and no bit is set
pub marked_none : (words : List ℕ) (count next : ℕ) (slots : Parts) → words ≡ replicate count 0 → slots ≡ replicate 64 None → AreMarked words next 0 slots
marked_none words count next slots clear empty k l =
    ap (λ ws. is_set ws ((next + k) % 64)) clear ∙ no_bit count ((next + k) % 64)
    ∙ sym (there_ahead 0 slots k k (omega arith) ∙ ap (λ xs. is_some (part_at xs k)) empty ∙ ap is_some (nothing_at 64 k))

other_place : (next k j : ℕ) → k < 64 → j < 64 → k ≢ j → (next + k) % 64 ≢ (next + j) % 64
other_place next k j a b ne = λ q. ne (omega (arith, a, b, q))

-- a part is put into a place
pub marked_kept : (xs ys : List ℕ) (next count ahead : ℕ) (slots : Parts) (p : Option (List ℕ)) → count + ahead < 64 → length slots ≡ 64 → is_some p ≡ true → AreMarked xs next count slots
    → ((k : ℕ) → is_set ys k ≡ (eqb k ((next + count + ahead) % 64) || is_set xs k)) → AreMarked ys next count (set slots ahead p)
marked_kept xs ys next count ahead slots p near size there h marked k l = by_place (cases_eq k (count + ahead))
  where
    others : (k ≡ count + ahead → ⊥) → (k < count) ⊎ (count ≤ k) → is_there count slots k ≡ is_there count (set slots ahead p) k
    others ne (inl less) = there_behind count slots k less ∙ sym (there_behind count (set slots ahead p) k less)
    others ne (inr ge) =
        let e : k ≡ count + (k - count) = omega (arith, ge) in
        there_ahead count slots k (k - count) e ∙ sym (there_ahead count (set slots ahead p) k (k - count) e ∙ ap is_some (get_or-set_other slots ahead (k - count) p None (λ q. ne (omega (arith, q, ge)))))

    by_place : (k ≡ count + ahead) ⊎ (k ≡ count + ahead → ⊥) → is_set ys ((next + k) % 64) ≡ is_there count (set slots ahead p) k
    by_place (inl e) =
        let here : eqb ((next + k) % 64) ((next + count + ahead) % 64) ≡ true = (let f : next + k ≡ next + count + ahead = omega (arith, e) in let g = ap (λ m. m % 64) f in grind (arith, nat_tests)) in
        marked ((next + k) % 64) ∙ ap (λ b. b || is_set xs ((next + k) % 64)) here
        ∙ sym (there_ahead count (set slots ahead p) k ahead e ∙ ap is_some (get_or-set_same slots ahead p None (omega (arith, near, size))) ∙ there)
    by_place (inr ne) =
        let other : eqb ((next + k) % 64) ((next + count + ahead) % 64) ≡ false = (let f = other_place next k (count + ahead) l near ne in let g : next + (count + ahead) ≡ next + count + ahead = omega arith in let i = ap (λ m. m % 64) g in grind (arith, nat_tests)) in
        marked ((next + k) % 64) ∙ ap (λ b. b || is_set xs ((next + k) % 64)) other ∙ h k l ∙ others ne (cases_lt k count)

-- the part in the first place is put behind those before it
pub marked_gathered : (xs : List ℕ) (next count more : ℕ) (slots : Parts) → IsSome (part_at slots 0) → more ≡ count + 1 → AreMarked xs next count slots → AreMarked xs next more (drop 1 slots ++ None ∷ [])
marked_gathered xs next count more slots front up h k l = h k l ∙ by_place (cases_lt k count) (cases_eq k count)
  where
    by_place : (k < count) ⊎ (count ≤ k) → (k ≡ count) ⊎ (k ≡ count → ⊥) → is_there count slots k ≡ is_there more (drop 1 slots ++ None ∷ []) k
    by_place (inl less) e = there_behind count slots k less ∙ sym (there_behind more (drop 1 slots ++ None ∷ []) k (omega (arith, less, up)))
    by_place (inr ge) (inl e) = there_ahead count slots k 0 (omega (arith, e)) ∙ front ∙ sym (there_behind more (drop 1 slots ++ None ∷ []) k (omega (arith, e, up)))
    by_place (inr ge) (inr ne) =
        there_ahead count slots k (suc (k - more)) (omega (arith, ge, ne, up))
        ∙ sym (there_ahead more (drop 1 slots ++ None ∷ []) k (k - more) (omega (arith, ge, ne, up)) ∙ ap is_some (shifted_at slots (k - more)))

-- the next part is passed
pub marked_past : (xs ys : List ℕ) (next count less : ℕ) (slots : Parts) → count ≡ less + 1 → count ≤ 64 → ((k : ℕ) → IsSome (part_at slots k) → count + k < 64) → AreMarked xs next count slots
    → ((k : ℕ) → is_set ys k ≡ (not (eqb k (next % 64)) && is_set xs k)) → AreMarked ys (next + 1) less slots
marked_past xs ys next count less slots down few near h cleared k l = by_place (cases_eq k 63)
  where
    empty : (j : ℕ) → count + j ≡ 64 → (p : Option (List ℕ)) → part_at slots j ≡ p → is_some p ≡ false
    empty j e None is = refl
    empty j e (Some b) is = absurd (omega (arith, near j (subst IsSome (sym is) refl), e))

    one_on : (k < less) ⊎ (less ≤ k) → is_there count slots (suc k) ≡ is_there less slots k
    one_on (inl l) = there_behind count slots (suc k) (omega (arith, l, down)) ∙ sym (there_behind less slots k l)
    one_on (inr ge) = there_ahead count slots (suc k) (k - less) (omega (arith, ge, down)) ∙ sym (there_ahead less slots k (k - less) (omega (arith, ge)))

    by_place : (k ≡ 63) ⊎ (k ≡ 63 → ⊥) → is_set ys ((next + 1 + k) % 64) ≡ is_there less slots k
    by_place (inl e) =
        let same : (next + 1 + k) % 64 ≡ next % 64 = omega (arith, e) in
        let here : eqb ((next + 1 + k) % 64) (next % 64) ≡ true = grind (arith, nat_tests) in
        cleared ((next + 1 + k) % 64) ∙ ap (λ b. not b && is_set xs ((next + 1 + k) % 64)) here
        ∙ sym (there_ahead less slots k (64 - count) (omega (arith, e, down, few)) ∙ empty (64 - count) (omega (arith, few)) (part_at slots (64 - count)) refl)
    by_place (inr ne) =
        let unlike : (next + 1 + k) % 64 ≢ next % 64 = λ q. ne (omega (arith, l, q)) in
        let other : eqb ((next + 1 + k) % 64) (next % 64) ≡ false = grind (arith, nat_tests) in
        let up : next + 1 + k ≡ next + suc k = omega arith in
        cleared ((next + 1 + k) % 64) ∙ ap (λ b. not b && is_set xs ((next + 1 + k) % 64)) other ∙ ap (λ m. is_set xs (m % 64)) up ∙ h (suc k) (omega (arith, l, ne)) ∙ one_on (cases_lt k less)

-- what the bits say of the parts
pub marked_parts : (words : List ℕ) (w : Inbox) (first : ℕ) (parts : Parts) (n : ℕ) → AreMarked words (w.first + w.passed) (length w.lengths) w.slots → Receives w first parts n
    → (part : ℕ) → first + drained parts n ≤ part → part < first + drained parts n + 64 → is_set words (part % 64) ≡ has_part first parts part
marked_parts words w first parts n marks h part low high =
    let next = receives_next w first parts n h in
    let place : w.first + w.passed + (part - w.first - w.passed) ≡ part = omega (arith, next, low) in
    ap (λ m. is_set words (m % 64)) (sym place) ∙ marks (part - w.first - w.passed) (omega (arith, next, low, high))
    ∙ has_from_next w first parts n part (part - w.first - w.passed) h.keeps (omega (arith, next, low))

-- ---- what is true of every window
abbrev Short : ℕ → Type 0
Short l = l ≤ DATAGRAM

pub sound_empty : (w : Inbox) → w.first < 2 ^ 33 → w.passed ≡ 0 → w.lengths ≡ [] → w.used ≡ 0 → w.ordered ≡ [] → w.slots ≡ replicate 64 None → IsSound w
sound_empty w low passed lengths used ordered empty =
    let none : (k : ℕ) → part_at w.slots k ≡ None = λ k. ap (λ xs. part_at xs k) empty ∙ nothing_at 64 k in
    record {
      places = ap length empty ∙ length-replicate {A = Option (List ℕ)} 64 None;
      amount = omega (arith, ap sum lengths, used, ap length ordered);
      short = subst (All Short) (sym lengths) (All-nil Short);
      few = omega (arith, ap length lengths);
      next_bound = omega (arith, low, passed, ap length lengths);
      near = λ k some. absurd (let e = subst IsSome (none k) some in cc);
      bound = λ k some. absurd (let e = subst IsSome (none k) some in cc);
    }

sum_cons : (x : ℕ) (xs : List ℕ) → sum (x ∷ xs) ≡ x + sum xs
sum_cons x xs = sum_by-cons (λ y. y) x xs

sum_push : (xs : List ℕ) (x : ℕ) → sum (xs ++ x ∷ []) ≡ sum xs + x
sum_push [] x = sum_cons x [] ∙ omega arith
sum_push (y ∷ xs) x = omega (arith, sum_cons y (xs ++ x ∷ []), sum_cons y xs, sum_push xs x)

sum_short : (xs : List ℕ) → All Short xs → sum xs ≤ 1232 * length xs
sum_short [] h = omega arith
sum_short (x ∷ xs) h =
    let first = All-head Short x xs h in
    let rest = sum_short xs (All-drop Short 1 (x ∷ xs) h) in
    omega (arith, first, rest, sum_cons x xs)

-- one part more finds its place among the bytes in order
pub has_place : (w : Inbox) → IsSound w → length w.lengths < 64 → length w.ordered + 1232 ≤ 78848
has_place w i less = omega (arith, sum_short w.lengths i.short, i.amount)

-- so few bytes are there in order, with those of their parts that were pulled
pub used_bound : (w : Inbox) → IsSound w → w.used + length w.ordered ≤ 78848
used_bound w i = omega (arith, sum_short w.lengths i.short, i.amount, i.few)

pub sound_kept : (w : Inbox) (part ahead : ℕ) (bytes : List ℕ) → IsSound w → length w.lengths + ahead < 64 → part < 2 ^ 62 → part ≡ w.first + gap_of w + ahead → IsSound (kept w part ahead bytes)
sound_kept w part ahead bytes i near low place = record {
  places = length-set w.slots ahead (Some bytes) ∙ i.places;
  amount = i.amount;
  short = i.short;
  few = i.few;
  next_bound = i.next_bound;
  near = λ k some. by_near k some (cases_eq k ahead);
  bound = λ k some. by_bound k some (cases_eq k ahead);
}
  where
    by_near : (k : ℕ) → IsSome (part_at (set w.slots ahead (Some bytes)) k) → (k ≡ ahead) ⊎ (k ≡ ahead → ⊥) → length w.lengths + k < 64
    by_near k some (inl e) = omega (arith, e, near)
    by_near k some (inr ne) = i.near k (subst IsSome (get_or-set_other w.slots ahead k (Some bytes) None ne) some)

    by_bound : (k : ℕ) → IsSome (part_at (set w.slots ahead (Some bytes)) k) → (k ≡ ahead) ⊎ (k ≡ ahead → ⊥) → w.first + gap_of w + k < 2 ^ 62
    by_bound k some (inl e) = omega (arith, e, low, place)
    by_bound k some (inr ne) = i.bound k (subst IsSome (get_or-set_other w.slots ahead k (Some bytes) None ne) some)

pub sound_gathered : (w : Inbox) (bytes : List ℕ) → IsSound w → length bytes ≤ 1232 → IsSome (part_at w.slots 0) → IsSound (gathered w bytes)
sound_gathered w bytes i fits front =
    let count = length_push w.lengths (length bytes) in
    let less = i.near 0 front in
    let low = i.bound 0 front in
    record {
      places = (let l = length_push (drop 1 w.slots) None in let m = length-drop 1 w.slots in omega (arith, l, m, i.places));
      amount = omega (arith, sum_push w.lengths (length bytes), i.amount, length-append w.ordered bytes);
      short = All-append Short w.lengths (length bytes ∷ []) i.short (All-cons Short (length bytes) [] fits (All-nil Short));
      few = omega (arith, count, less);
      next_bound = omega (arith, count, low);
      near = λ k some. omega (arith, count, i.near (suc k) (subst IsSome (shifted_at w.slots k) some));
      bound = λ k some. omega (arith, count, i.bound (suc k) (subst IsSome (shifted_at w.slots k) some));
    }

-- the first length, where all bytes of that part were pulled
pub first_length : (lengths : List ℕ) (used : ℕ) → is_drained lengths used ≡ true → (length lengths ≡ length (drop 1 lengths) + 1) × ((get_or lengths 0 0 ≤ used) × (sum lengths ≡ get_or lengths 0 0 + sum (drop 1 lengths)))
first_length [] used h = absurd (cc)
first_length (l ∷ lengths) used h = (omega arith, (grind (arith, nat_tests), sum_cons l lengths))

pub sound_past : (w : Inbox) → IsSound w → is_drained w.lengths w.used ≡ true → IsSound (past_front w (get_or w.lengths 0 0))
sound_past w i front =
    let e = first_length w.lengths w.used front in record {
      places = i.places;
      amount = omega (arith, i.amount, e.1.0, e.1.1);
      short = All-drop Short 1 w.lengths i.short;
      few = omega (arith, i.few, e.0);
      next_bound = omega (arith, i.next_bound, e.0);
      near = λ k some. omega (arith, i.near k some, e.0);
      bound = λ k some. omega (arith, i.bound k some, e.0);
    }

pub sound_drawn : (w : Inbox) (count : ℕ) → IsSound w → count ≤ length w.ordered → IsSound (drawn w count)
sound_drawn w count i le = record {
  places = i.places;
  amount = omega (arith, i.amount, le, length-drop count w.ordered);
  short = i.short;
  few = i.few;
  next_bound = i.next_bound;
  near = i.near;
  bound = i.bound;
}

-- ---- the window of these fields
abbrev pub inbox : ℕ → ℕ → List ℕ → ℕ → List ℕ → Option ℕ → Parts → Inbox
inbox first passed lengths used ordered greatest slots = record { first = first; passed = passed; lengths = lengths; used = used; ordered = ordered; greatest = greatest; slots = slots }

behind_first : (slots : Parts) (p : Option (List ℕ)) → drop 1 (set slots 0 p) ≡ drop 1 slots
behind_first [] p = refl
behind_first (q ∷ slots) p = refl

pub appended_is : (w : Inbox) (part : ℕ) (bytes lengths ordered : List ℕ) (greatest : Option ℕ) (slots : Parts) → lengths ≡ w.lengths ++ length bytes ∷ [] → ordered ≡ w.ordered ++ bytes → greatest ≡ Some (max part (unwrap_or w.greatest 0))
    → slots ≡ drop 1 w.slots ++ None ∷ [] → inbox w.first w.passed lengths w.used ordered greatest slots ≡ gathered (kept w part 0 bytes) bytes
appended_is w part bytes lengths ordered greatest slots a b c d =
    let e : slots ≡ drop 1 (set w.slots 0 (Some bytes)) ++ None ∷ [] = d ∙ sym (ap (λ xs. xs ++ None ∷ []) (behind_first w.slots (Some bytes))) in
    ap (λ x. inbox w.first w.passed x w.used ordered greatest slots) a
    ∙ ap (λ x. inbox w.first w.passed (w.lengths ++ length bytes ∷ []) w.used x greatest slots) b
    ∙ ap (λ x. inbox w.first w.passed (w.lengths ++ length bytes ∷ []) w.used (w.ordered ++ bytes) x slots) c
    ∙ ap (λ x. inbox w.first w.passed (w.lengths ++ length bytes ∷ []) w.used (w.ordered ++ bytes) (Some (max part (unwrap_or w.greatest 0))) x) e

pub gathered_is : (w : Inbox) (bytes lengths ordered : List ℕ) (slots : Parts) → lengths ≡ w.lengths ++ length bytes ∷ [] → ordered ≡ w.ordered ++ bytes → slots ≡ drop 1 w.slots ++ None ∷ []
    → inbox w.first w.passed lengths w.used ordered w.greatest slots ≡ gathered w bytes
gathered_is w bytes lengths ordered slots a b d =
    ap (λ x. inbox w.first w.passed x w.used ordered w.greatest slots) a
    ∙ ap (λ x. inbox w.first w.passed (w.lengths ++ length bytes ∷ []) w.used x w.greatest slots) b
    ∙ ap (λ x. inbox w.first w.passed (w.lengths ++ length bytes ∷ []) w.used (w.ordered ++ bytes) w.greatest x) d

pub kept_is : (w : Inbox) (part ahead : ℕ) (bytes : List ℕ) (greatest : Option ℕ) (slots : Parts) → greatest ≡ Some (max part (unwrap_or w.greatest 0)) → slots ≡ set w.slots ahead (Some bytes)
    → inbox w.first w.passed w.lengths w.used w.ordered greatest slots ≡ kept w part ahead bytes
kept_is w part ahead bytes greatest slots a b =
    ap (λ x. inbox w.first w.passed w.lengths w.used w.ordered x slots) a
    ∙ ap (λ x. inbox w.first w.passed w.lengths w.used w.ordered (Some (max part (unwrap_or w.greatest 0))) x) b

-- a bit is set at the place of the part
at_place : (xs ys : List ℕ) (part place : ℕ) → part ≡ place → ((k : ℕ) → is_set ys k ≡ (eqb k (part % 64) || is_set xs k)) → (k : ℕ) → is_set ys k ≡ (eqb k (place % 64) || is_set xs k)
at_place xs ys part place e marked k = subst (λ m. is_set ys k ≡ (eqb k (m % 64) || is_set xs k)) e (marked k)

pub marks_kept : (xs ys : List ℕ) (w v : Inbox) (part ahead : ℕ) (bytes : List ℕ) → v ≡ kept w part ahead bytes → IsSound w → length w.lengths + ahead < 64 → part ≡ w.first + gap_of w + ahead
    → AreMarked xs (w.first + w.passed) (length w.lengths) w.slots → ((k : ℕ) → is_set ys k ≡ (eqb k (part % 64) || is_set xs k)) → AreMarked ys (v.first + v.passed) (length v.lengths) v.slots
marks_kept xs ys w v part ahead bytes e i near place h marked =
    subst (λ u. AreMarked ys (u.first + u.passed) (length u.lengths) u.slots) (sym e)
    (marked_kept xs ys (w.first + w.passed) (length w.lengths) ahead w.slots (Some bytes) near i.places refl h (at_place xs ys part (w.first + w.passed + length w.lengths + ahead) (omega (arith, place)) marked))

first_there : (w : Inbox) (bytes : List ℕ) → IsSound w → IsSome (part_at (set w.slots 0 (Some bytes)) 0)
first_there w bytes i = ap is_some (get_or-set_same w.slots 0 (Some bytes) None (omega (arith, i.places)))

pub marks_appended : (xs ys : List ℕ) (w v : Inbox) (part : ℕ) (bytes : List ℕ) → v ≡ gathered (kept w part 0 bytes) bytes → IsSound w → length w.lengths < 64 → part ≡ w.first + gap_of w
    → AreMarked xs (w.first + w.passed) (length w.lengths) w.slots → ((k : ℕ) → is_set ys k ≡ (eqb k (part % 64) || is_set xs k)) → AreMarked ys (v.first + v.passed) (length v.lengths) v.slots
marks_appended xs ys w v part bytes e i less place h marked =
    subst (λ u. AreMarked ys (u.first + u.passed) (length u.lengths) u.slots) (sym e)
    (marked_gathered ys (w.first + w.passed) (length w.lengths) (length (w.lengths ++ length bytes ∷ [])) (set w.slots 0 (Some bytes)) (first_there w bytes i) (length_push w.lengths (length bytes))
    (marks_kept xs ys w (kept w part 0 bytes) part 0 bytes refl i (omega (arith, less)) (omega (arith, place)) h marked))

pub sound_appended : (w v : Inbox) (part : ℕ) (bytes : List ℕ) → v ≡ gathered (kept w part 0 bytes) bytes → IsSound w → length w.lengths < 64 → part < 2 ^ 62 → part ≡ w.first + gap_of w → length bytes ≤ 1232 → IsSound v
sound_appended w v part bytes e i less low place fits =
    subst IsSound (sym e) (sound_gathered (kept w part 0 bytes) bytes (sound_kept w part 0 bytes i (omega (arith, less)) low (omega (arith, place))) fits (first_there w bytes i))

pub marks_gathered : (xs : List ℕ) (w v : Inbox) (bytes : List ℕ) → v ≡ gathered w bytes → IsSome (part_at w.slots 0) → AreMarked xs (w.first + w.passed) (length w.lengths) w.slots → AreMarked xs (v.first + v.passed) (length v.lengths) v.slots
marks_gathered xs w v bytes e front h =
    subst (λ u. AreMarked xs (u.first + u.passed) (length u.lengths) u.slots) (sym e)
    (marked_gathered xs (w.first + w.passed) (length w.lengths) (length (w.lengths ++ length bytes ∷ [])) w.slots front (length_push w.lengths (length bytes)) h)

pub first_got : (xs : List ℕ) (x : ℕ) → slice_get xs 0 ≡ Some x → x ≡ get_or xs 0 0
first_got [] x h = absurd (cc)
first_got (y ∷ xs) x h = cc

pub past_is : (w : Inbox) (lengths : List ℕ) (l : ℕ) → lengths ≡ drop 1 w.lengths → l ≡ get_or w.lengths 0 0 → inbox w.first (w.passed + 1) lengths (w.used - l) w.ordered w.greatest w.slots ≡ past_front w (get_or w.lengths 0 0)
past_is w lengths l a b =
    ap (λ x. inbox w.first (w.passed + 1) x (w.used - l) w.ordered w.greatest w.slots) a
    ∙ ap (λ x. inbox w.first (w.passed + 1) (drop 1 w.lengths) (w.used - x) w.ordered w.greatest w.slots) b

pub marks_past : (xs ys : List ℕ) (w v : Inbox) → v ≡ past_front w (get_or w.lengths 0 0) → IsSound w → is_drained w.lengths w.used ≡ true → AreMarked xs (w.first + w.passed) (length w.lengths) w.slots
    → ((k : ℕ) → is_set ys k ≡ (not (eqb k ((w.first + w.passed) % 64)) && is_set xs k)) → AreMarked ys (v.first + v.passed) (length v.lengths) v.slots
marks_past xs ys w v e i front h cleared =
    let up : w.first + w.passed + 1 ≡ w.first + (w.passed + 1) = omega arith in
    let count = (first_length w.lengths w.used front).0 in
    subst (λ u. AreMarked ys (u.first + u.passed) (length u.lengths) u.slots) (sym e)
    (subst (λ next. AreMarked ys next (length (drop 1 w.lengths)) w.slots) up (marked_past xs ys (w.first + w.passed) (length w.lengths) (length (drop 1 w.lengths)) w.slots count i.few i.near h cleared))

-- Lemmas on parts that arrive in any order.
use Rattle.std.proofs.Common.{◌≡◌, ◌≢◌, ℕ, zero, suc, ◌+◌, ◌-◌, ◌<◌, ◌≤◌, ◌⊎◌, inl, inr, Bool, true, false, eqb, ltb, leb, cond, List, [], ◌∷◌, ◌++◌, length, take, drop, set, replicate, max, Option, Some, None, is_some, IsSome, unwrap_or, get_or, ◌||◌, refl, sym, ap, ◌∙◌, subst, append_assoc, append-nil, arith, length-append, length-drop}
use Rattle.std.proofs.lemmas.List.{drop-drop, get_or-drop, get_or-set_same, get_or-set_other, drop-append-le, length_push}
use Rattle.std.proofs.lemmas.Bool.{cases_eq, cases_lt}
use Rattle.std.proofs.lemmas.Bool.Decides.{nat_tests}
use Rattle.mt_windows.specs.declared.receive.Accept.{Accept}
use Rattle.mt_windows.specs.declared.receive.Accept.TheVariants.{New, Again, Beyond}
use Rattle.mt_windows.specs.Arrived.{Parts, part_at, put, passed, drained, end_of, greatest_part, has_part, verdict, with_part}
use Rattle.mt_windows.specs.ArrivedView.{Inbox, left_of, gap_of, HaveLengths, IsBehind, IsNext, Keeps, Receives, is_drained, kept, gathered, past_front, drawn}

-- ---- parts of known lengths
lengths_there : (parts : Parts) (lengths : List ℕ) (k : ℕ) → HaveLengths parts lengths → k < length lengths → is_some (part_at parts k) ≡ true
lengths_there parts [] k h less = absurd (omega (arith, less))
lengths_there [] (l ∷ lengths) k h less = absurd h
lengths_there (None ∷ parts) (l ∷ lengths) k h less = absurd h
lengths_there (Some bytes ∷ parts) (l ∷ lengths) zero h less = refl
lengths_there (Some bytes ∷ parts) (l ∷ lengths) (suc k) h less = lengths_there parts lengths k h.1 (omega (arith, less))

lengths_put : (parts : Parts) (lengths : List ℕ) (k : ℕ) (bytes : List ℕ) → length lengths ≤ k → HaveLengths parts lengths → HaveLengths (put parts k bytes) lengths
lengths_put parts [] k bytes le h = tt
lengths_put [] (l ∷ lengths) k bytes le h = absurd h
lengths_put (None ∷ parts) (l ∷ lengths) k bytes le h = absurd h
lengths_put (Some b ∷ parts) (l ∷ lengths) zero bytes le h = absurd (omega (arith, le))
lengths_put (Some b ∷ parts) (l ∷ lengths) (suc k) bytes le h = (h.0, lengths_put parts lengths k bytes (omega (arith, le)) h.1)

lengths_longer : (parts : Parts) (lengths bytes : List ℕ) → HaveLengths parts lengths → part_at parts (length lengths) ≡ Some bytes → HaveLengths parts (lengths ++ length bytes ∷ [])
lengths_longer [] [] bytes h is = absurd (cc)
lengths_longer (None ∷ parts) [] bytes h is = absurd (cc)
lengths_longer (Some b ∷ parts) [] bytes h is = (let same : b ≡ bytes = (cc) in ap length same, tt)
lengths_longer [] (l ∷ lengths) bytes h is = absurd h
lengths_longer (None ∷ parts) (l ∷ lengths) bytes h is = absurd h
lengths_longer (Some b ∷ parts) (l ∷ lengths) bytes h is = (h.0, lengths_longer parts lengths bytes h.1 is)

-- the parts behind which a window stands are drained, and the next one is not
pub behind_drained : (parts : Parts) (count n used : ℕ) (lengths : List ℕ) → IsBehind parts count n used lengths → part_at (drop count parts) (length lengths) ≡ None → IsNext lengths used → drained parts n ≡ count
behind_drained [] zero n used lengths h gap next = refl
behind_drained (None ∷ parts) zero n used lengths h gap next = refl
behind_drained (Some bytes ∷ parts) zero n used [] h gap next = absurd (cc)
behind_drained (Some bytes ∷ parts) zero n used (l ∷ lengths) h gap next =
    let e : leb (length bytes) n ≡ false = (let is = h.0 in let long = h.1.0 in grind (arith, nat_tests)) in ap (λ b. cond b (suc (drained parts (n - length bytes))) 0) e
behind_drained [] (suc count) n used lengths h gap next = absurd h
behind_drained (None ∷ parts) (suc count) n used lengths h gap next = absurd h
behind_drained (Some bytes ∷ parts) (suc count) n used lengths h gap next =
    let e : leb (length bytes) n ≡ true = grind (arith, nat_tests, h.0) in
    ap (λ b. cond b (suc (drained parts (n - length bytes))) 0) e ∙ ap suc (behind_drained parts count (n - length bytes) used lengths h.1 gap next)

pub behind_there : (parts : Parts) (count n used : ℕ) (lengths : List ℕ) (k : ℕ) → IsBehind parts count n used lengths → k < count + length lengths → is_some (part_at parts k) ≡ true
behind_there parts zero n used lengths k h less = lengths_there parts lengths k h.1 (omega (arith, less))
behind_there [] (suc count) n used lengths k h less = absurd h
behind_there (None ∷ parts) (suc count) n used lengths k h less = absurd h
behind_there (Some bytes ∷ parts) (suc count) n used lengths zero h less = refl
behind_there (Some bytes ∷ parts) (suc count) n used lengths (suc k) h less = behind_there parts count (n - length bytes) used lengths k h.1 (omega (arith, less))

pub behind_put : (parts : Parts) (count n used : ℕ) (lengths : List ℕ) (k : ℕ) (bytes : List ℕ) → count + length lengths ≤ k → IsBehind parts count n used lengths → IsBehind (put parts k bytes) count n used lengths
behind_put parts zero n used lengths k bytes le h = (h.0, lengths_put parts lengths k bytes (omega (arith, le)) h.1)
behind_put [] (suc count) n used lengths k bytes le h = absurd h
behind_put (None ∷ parts) (suc count) n used lengths k bytes le h = absurd h
behind_put (Some b ∷ parts) (suc count) n used lengths zero bytes le h = absurd (omega (arith, le))
behind_put (Some b ∷ parts) (suc count) n used lengths (suc k) bytes le h = (h.0, behind_put parts count (n - length b) used lengths k bytes (omega (arith, le)) h.1)

pub behind_longer : (parts : Parts) (count n used : ℕ) (lengths bytes : List ℕ) → IsBehind parts count n used lengths → part_at (drop count parts) (length lengths) ≡ Some bytes → IsBehind parts count n used (lengths ++ length bytes ∷ [])
behind_longer parts zero n used lengths bytes h is = (h.0, lengths_longer parts lengths bytes h.1 is)
behind_longer [] (suc count) n used lengths bytes h is = absurd h
behind_longer (None ∷ parts) (suc count) n used lengths bytes h is = absurd h
behind_longer (Some b ∷ parts) (suc count) n used lengths bytes h is = (h.0, behind_longer parts count (n - length b) used lengths bytes h.1 is)

pub behind_pass : (parts : Parts) (count n used l : ℕ) (lengths : List ℕ) → IsBehind parts count n used (l ∷ lengths) → l ≤ used → IsBehind parts (suc count) n (used - l) lengths
behind_pass [] zero n used l lengths h le = absurd h.1
behind_pass (None ∷ parts) zero n used l lengths h le = absurd h.1
behind_pass (Some bytes ∷ parts) zero n used l lengths h le = (omega (arith, h.0, h.1.0, le), (omega (arith, h.0, h.1.0, le), h.1.1))
behind_pass [] (suc count) n used l lengths h le = absurd h
behind_pass (None ∷ parts) (suc count) n used l lengths h le = absurd h
behind_pass (Some b ∷ parts) (suc count) n used l lengths h le = (h.0, behind_pass parts count (n - length b) used l lengths h.1 le)

pub behind_more : (parts : Parts) (count n used : ℕ) (lengths : List ℕ) (j : ℕ) → IsBehind parts count n used lengths → IsBehind parts count (n + j) (used + j) lengths
behind_more parts zero n used lengths j h = (ap (λ m. m + j) h.0, h.1)
behind_more [] (suc count) n used lengths j h = absurd h
behind_more (None ∷ parts) (suc count) n used lengths j h = absurd h
behind_more (Some b ∷ parts) (suc count) n used lengths j h =
    let e : n + j - length b ≡ n - length b + j = omega (arith, h.0) in
    (omega (arith, h.0), subst (λ m. IsBehind parts count m (used + j) lengths) (sym e) (behind_more parts count (n - length b) used lengths j h.1))

-- ---- the bytes of the parts up to a place
-- the place is that of a missing part
pub passed_gap : (parts : Parts) (m : ℕ) → part_at parts m ≡ None → passed (take m parts) ≡ passed parts
passed_gap [] zero none = refl
passed_gap [] (suc m) none = refl
passed_gap (None ∷ parts) zero none = refl
passed_gap (None ∷ parts) (suc m) none = refl
passed_gap (Some b ∷ parts) zero none = absurd (cc)
passed_gap (Some b ∷ parts) (suc m) none = ap (λ c. b ++ c) (passed_gap parts m none)

-- a part is put behind the place
pub passed_put : (parts : Parts) (m k : ℕ) (bytes : List ℕ) → m ≤ k → passed (take m (put parts k bytes)) ≡ passed (take m parts)
passed_put parts zero k bytes le = refl
passed_put [] (suc m) zero bytes le = absurd (omega (arith, le))
passed_put [] (suc m) (suc k) bytes le = refl
passed_put (p ∷ parts) (suc m) zero bytes le = absurd (omega (arith, le))
passed_put (None ∷ parts) (suc m) (suc k) bytes le = refl
passed_put (Some b ∷ parts) (suc m) (suc k) bytes le = ap (λ c. b ++ c) (passed_put parts m k bytes (omega (arith, le)))

-- the part at the place is there, as all before it are
pub passed_on : (parts : Parts) (m : ℕ) (bytes : List ℕ) → ((k : ℕ) → k < m → is_some (part_at parts k) ≡ true) → part_at parts m ≡ Some bytes → passed (take (suc m) parts) ≡ passed (take m parts) ++ bytes
passed_on [] m bytes there is = absurd (cc)
passed_on (None ∷ parts) zero bytes there is = absurd (cc)
passed_on (Some b ∷ parts) zero bytes there is = let same : b ≡ bytes = (cc) in append-nil b ∙ same
passed_on (None ∷ parts) (suc m) bytes there is = absurd (let e = there 0 (omega arith) in cc)
passed_on (Some b ∷ parts) (suc m) bytes there is =
    ap (λ c. b ++ c) (passed_on parts m bytes (λ k less. there (suc k) (omega (arith, less))) is) ∙ sym (append_assoc b (passed (take m parts)) bytes)

pub part_at-put_same : (parts : Parts) (k : ℕ) (bytes : List ℕ) → part_at (put parts k bytes) k ≡ Some bytes
part_at-put_same [] zero bytes = refl
part_at-put_same [] (suc k) bytes = part_at-put_same [] k bytes
part_at-put_same (p ∷ parts) zero bytes = refl
part_at-put_same (p ∷ parts) (suc k) bytes = part_at-put_same parts k bytes

pub part_at-put_other : (parts : Parts) (k j : ℕ) (bytes : List ℕ) → j ≢ k → part_at (put parts k bytes) j ≡ part_at parts j
part_at-put_other [] zero zero bytes ne = absurd (ne refl)
part_at-put_other [] zero (suc j) bytes ne = refl
part_at-put_other [] (suc k) zero bytes ne = refl
part_at-put_other [] (suc k) (suc j) bytes ne = part_at-put_other [] k j bytes (λ e. ne (ap suc e))
part_at-put_other (p ∷ parts) zero zero bytes ne = absurd (ne refl)
part_at-put_other (p ∷ parts) zero (suc j) bytes ne = refl
part_at-put_other (p ∷ parts) (suc k) zero bytes ne = refl
part_at-put_other (p ∷ parts) (suc k) (suc j) bytes ne = part_at-put_other parts k j bytes (λ e. ne (ap suc e))

end_step : (p : Option (List ℕ)) (a b k : ℕ) → a ≡ max b (k + 1) → cond (ltb 0 a) (suc a) (cond (is_some p) 1 0) ≡ max (cond (ltb 0 b) (suc b) (cond (is_some p) 1 0)) (suc k + 1)
end_step None a b k h = grind (arith, nat_tests)
end_step (Some x) a b k h = grind (arith, nat_tests)

pub end_of-put : (parts : Parts) (k : ℕ) (bytes : List ℕ) → end_of (put parts k bytes) ≡ max (end_of parts) (k + 1)
end_of-put [] zero bytes = refl
end_of-put [] (suc k) bytes = end_step None (end_of (put [] k bytes)) 0 k (end_of-put [] k bytes)
end_of-put (p ∷ parts) zero bytes = by_end (end_of parts) p
  where
    by_end : (n : ℕ) (p : Option (List ℕ)) → cond (ltb 0 n) (suc n) 1 ≡ max (cond (ltb 0 n) (suc n) (cond (is_some p) 1 0)) (0 + 1)
    by_end n None = grind (arith, nat_tests)
    by_end n (Some x) = grind (arith, nat_tests)
end_of-put (p ∷ parts) (suc k) bytes = end_step p (end_of (put parts k bytes)) (end_of parts) k (end_of-put parts k bytes)

-- the greatest part after one more
pub greatest_more : (first e k : ℕ) → max (first + k) (unwrap_or (cond (ltb 0 e) (Some (first + e - 1)) None) 0) ≡ first + max e (k + 1) - 1
greatest_more first e k = by_test (ltb 0 e) refl
  where
    by_test : (b : Bool) → ltb 0 e ≡ b → max (first + k) (unwrap_or (cond b (Some (first + e - 1)) None) 0) ≡ first + max e (k + 1) - 1
    by_test true t = grind (arith, nat_tests)
    by_test false t = grind (arith, nat_tests)

pub nothing_at : (n k : ℕ) → part_at (replicate n None) k ≡ None
nothing_at zero k = refl
nothing_at (suc n) zero = refl
nothing_at (suc n) (suc k) = nothing_at n k

-- the window's places are the parts from the least missing one on
pub slots_from : (w : Inbox) (first : ℕ) (parts : Parts) (n k place : ℕ) → Keeps w first parts n → place ≡ gap_of w + k → part_at w.slots k ≡ part_at parts place
slots_from w first parts n k place h e = h.slots_are k ∙ ap (part_at parts) (sym e)

behind_slot : (w : Inbox) (first : ℕ) (parts : Parts) (n : ℕ) → Keeps w first parts n → part_at (drop w.passed parts) (length w.lengths) ≡ part_at w.slots 0
behind_slot w first parts n h = get_or-drop w.passed parts (length w.lengths) None ∙ sym (slots_from w first parts n 0 (w.passed + length w.lengths) h (omega arith))

pub receives_drained : (w : Inbox) (first : ℕ) (parts : Parts) (n : ℕ) → Receives w first parts n → drained parts n ≡ w.passed
receives_drained w first parts n h =
    behind_drained parts w.passed n w.used w.lengths h.keeps.behind (behind_slot w first parts n h.keeps ∙ h.gap) h.next

pub receives_next : (w : Inbox) (first : ℕ) (parts : Parts) (n : ℕ) → Receives w first parts n → w.first + w.passed ≡ first + drained parts n
receives_next w first parts n h = omega (arith, receives_drained w first parts n h, h.keeps.first_is)

-- the bytes in order are the rest of those passed
pub receives_left : (w : Inbox) (first : ℕ) (parts : Parts) (n : ℕ) → Receives w first parts n → left_of w ≡ drop n (passed parts)
receives_left w first parts n h =
    h.keeps.ordered_is ∙ ap (drop n) (passed_gap parts (gap_of w) (sym (slots_from w first parts n 0 (gap_of w) h.keeps (omega arith)) ∙ h.gap))

-- ---- a part that is kept
pub set_at : (xs : Parts) (i k : ℕ) (p : Option (List ℕ)) → i < length xs → (k ≡ i) ⊎ (k ≡ i → ⊥) → part_at (set xs i p) k ≡ cond (eqb k i) p (part_at xs k)
set_at xs i k p l (inl e) = let t : eqb k i ≡ true = grind (arith, nat_tests) in ap (part_at (set xs i p)) e ∙ get_or-set_same xs i p None l ∙ sym (ap (λ b. cond b p (part_at xs k)) t)
set_at xs i k p l (inr ne) = let t : eqb k i ≡ false = grind (arith, nat_tests) in get_or-set_other xs i k p None ne ∙ sym (ap (λ b. cond b p (part_at xs k)) t)

pub put_at : (xs : Parts) (i k : ℕ) (bytes : List ℕ) → (k ≡ i) ⊎ (k ≡ i → ⊥) → part_at (put xs i bytes) k ≡ cond (eqb k i) (Some bytes) (part_at xs k)
put_at xs i k bytes (inl e) = let t : eqb k i ≡ true = grind (arith, nat_tests) in ap (part_at (put xs i bytes)) e ∙ part_at-put_same xs i bytes ∙ sym (ap (λ b. cond b (Some bytes) (part_at xs k)) t)
put_at xs i k bytes (inr ne) = let t : eqb k i ≡ false = grind (arith, nat_tests) in part_at-put_other xs i k bytes ne ∙ sym (ap (λ b. cond b (Some bytes) (part_at xs k)) t)

eqb_shift : (a k i : ℕ) → eqb k i ≡ eqb (a + k) (a + i)
eqb_shift a k i = by_cases (cases_eq k i)
  where
    by_cases : (k ≡ i) ⊎ (k ≡ i → ⊥) → eqb k i ≡ eqb (a + k) (a + i)
    by_cases (inl e) = grind (arith, nat_tests)
    by_cases (inr ne) = grind (arith, nat_tests)

-- the window that keeps one part more stands for the parts with that one
pub keeps_kept : (w : Inbox) (first : ℕ) (parts : Parts) (n part ahead : ℕ) (bytes : List ℕ) → Keeps w first parts n → ahead < length w.slots → part ≡ w.first + gap_of w + ahead → Keeps (kept w part ahead bytes) first (put parts (part - first) bytes) n
keeps_kept w first parts n part ahead bytes h l e =
    let place : part - first ≡ gap_of w + ahead = omega (arith, h.first_is) in
    let number : part ≡ first + (part - first) = omega (arith, h.first_is) in
    let same = passed_put parts (gap_of w) (part - first) bytes (omega (arith, place)) in
    record {
      first_is = h.first_is;
      behind = behind_put parts w.passed n w.used w.lengths (part - first) bytes (omega (arith, place)) h.behind;
      pulled = omega (arith, h.pulled, ap length same);
      ordered_is = h.ordered_is ∙ ap (drop n) (sym same);
      slots_are = λ k.
          set_at w.slots ahead k (Some bytes) l (cases_eq k ahead)
          ∙ ap (λ p. cond (eqb k ahead) (Some bytes) p) (h.slots_are k)
          ∙ ap (λ b. cond b (Some bytes) (part_at parts (gap_of w + k))) (eqb_shift (gap_of w) k ahead ∙ ap (λ m. eqb (gap_of w + k) m) (sym place))
          ∙ sym (put_at parts (part - first) (gap_of w + k) bytes (cases_eq (gap_of w + k) (part - first)));
      greatest_is = greatest_put w.greatest first parts part (part - first) bytes h.greatest_is number;
    }
  where
    greatest_put : (g : Option ℕ) (first : ℕ) (parts : Parts) (part k : ℕ) (bytes : List ℕ) → g ≡ greatest_part first parts → part ≡ first + k → Some (max part (unwrap_or g 0)) ≡ greatest_part first (put parts k bytes)
    greatest_put g first parts part k bytes is e =
        let end = end_of-put parts k bytes in
        let some : ltb 0 (end_of (put parts k bytes)) ≡ true = grind (arith, nat_tests) in
        let value : max part (unwrap_or g 0) ≡ first + end_of (put parts k bytes) - 1 =
        ap (λ m. max m (unwrap_or g 0)) e ∙ ap (λ o. max (first + k) (unwrap_or o 0)) is ∙ greatest_more first (end_of parts) k ∙ ap (λ m. first + m - 1) (sym end) in
        ap Some value ∙ sym (ap (λ b. cond b (Some (first + end_of (put parts k bytes) - 1)) None) some)

-- ---- a part that is put behind the bytes in order
pub shifted_at : (xs : Parts) (k : ℕ) → part_at (drop 1 xs ++ None ∷ []) k ≡ part_at xs (suc k)
shifted_at [] zero = refl
shifted_at [] (suc k) = refl
shifted_at (x ∷ xs) k = past_end xs k
  where
    past_end : (xs : Parts) (k : ℕ) → part_at (xs ++ None ∷ []) k ≡ part_at xs k
    past_end [] zero = refl
    past_end [] (suc k) = refl
    past_end (x ∷ xs) zero = refl
    past_end (x ∷ xs) (suc k) = past_end xs k

pub keeps_gathered : (w : Inbox) (first : ℕ) (parts : Parts) (n : ℕ) (bytes : List ℕ) → part_at w.slots 0 ≡ Some bytes → Keeps w first parts n → Keeps (gathered w bytes) first parts n
keeps_gathered w first parts n bytes front h =
    let here : part_at parts (gap_of w) ≡ Some bytes = sym (slots_from w first parts n 0 (gap_of w) h (omega arith)) ∙ front in
    let up : gap_of (gathered w bytes) ≡ suc (gap_of w) = (let l = length_push w.lengths (length bytes) in omega (arith, l)) in
    let whole = ap (λ m. passed (take m parts)) up ∙ passed_on parts (gap_of w) bytes (λ k less. behind_there parts w.passed n w.used w.lengths k h.behind less) here in
    record {
      first_is = h.first_is;
      behind = behind_longer parts w.passed n w.used w.lengths bytes h.behind (behind_slot w first parts n h ∙ front);
      pulled = omega (arith, ap length whole, length-append (passed (take (gap_of w) parts)) bytes, h.pulled);
      ordered_is = ap (λ c. c ++ bytes) h.ordered_is ∙ sym (ap (drop n) whole ∙ drop-append-le n (passed (take (gap_of w) parts)) bytes h.pulled);
      slots_are = λ k. shifted_at w.slots k ∙ slots_from w first parts n (suc k) (gap_of (gathered w bytes) + k) h (omega (arith, up));
      greatest_is = h.greatest_is;
    }

-- ---- a part that is passed
pub keeps_past : (w : Inbox) (first : ℕ) (parts : Parts) (n : ℕ) → is_drained w.lengths w.used ≡ true → Keeps w first parts n → Keeps (past_front w (get_or w.lengths 0 0)) first parts n
keeps_past w first parts n front h = by_lengths w.lengths front refl
  where
    by_lengths : (lengths : List ℕ) → is_drained lengths w.used ≡ true → w.lengths ≡ lengths → Keeps (past_front w (get_or w.lengths 0 0)) first parts n
    by_lengths [] front e = absurd (cc)
    by_lengths (l ∷ lengths) front e =
        let le : l ≤ w.used = grind (arith, nat_tests) in
        let up : suc w.passed ≡ w.passed + 1 = omega arith in
        let same : gap_of (past_front w (get_or w.lengths 0 0)) ≡ gap_of w = omega (arith, ap length e, ap (λ ls. length (drop 1 ls)) e) in
        let passes = behind_pass parts w.passed n w.used l lengths (subst (IsBehind parts w.passed n w.used) e h.behind) le in
        let now = subst (λ c. IsBehind parts c n (w.used - l) lengths) up passes in
        record {
          first_is = h.first_is;
          behind = subst (λ ls. IsBehind parts (w.passed + 1) n (w.used - get_or ls 0 0) (drop 1 ls)) (sym e) now;
          pulled = subst (λ m. n ≤ length (passed (take m parts))) (sym same) h.pulled;
          ordered_is = subst (λ m. w.ordered ≡ drop n (passed (take m parts))) (sym same) h.ordered_is;
          slots_are = λ k. slots_from w first parts n k (gap_of (past_front w (get_or w.lengths 0 0)) + k) h (omega (arith, same));
          greatest_is = h.greatest_is;
        }

pub not_drained : (lengths : List ℕ) (used : ℕ) → is_drained lengths used ≡ false → IsNext lengths used
not_drained [] used h = tt
not_drained (l ∷ lengths) used h = grind (arith, nat_tests)

-- ---- bytes that are pulled
pub keeps_drawn : (w : Inbox) (first : ℕ) (parts : Parts) (n j : ℕ) → j ≤ length w.ordered → Keeps w first parts n → Keeps (drawn w j) first parts (n + j)
keeps_drawn w first parts n j le h = record {
  first_is = h.first_is;
  behind = behind_more parts w.passed n w.used w.lengths j h.behind;
  pulled = omega (arith, le, ap length h.ordered_is, length-drop n (passed (take (gap_of w) parts)), h.pulled);
  ordered_is = ap (drop j) h.ordered_is ∙ drop-drop j n (passed (take (gap_of w) parts));
  slots_are = h.slots_are;
  greatest_is = h.greatest_is;
}

-- ---- which parts are there
pub has_behind : (w : Inbox) (first : ℕ) (parts : Parts) (n part : ℕ) → Keeps w first parts n → w.first ≤ part → part - w.first < gap_of w → true ≡ has_part first parts part
has_behind w first parts n part h ge less =
    let out : ltb part first ≡ false = grind (arith, nat_tests, h.first_is) in
    sym (ap (λ b. cond b false (is_some (part_at parts (part - first)))) out ∙ behind_there parts w.passed n w.used w.lengths (part - first) h.behind (omega (arith, h.first_is, less)))

pub has_ahead : (w : Inbox) (first : ℕ) (parts : Parts) (n part ahead : ℕ) → Keeps w first parts n → part ≡ w.first + gap_of w + ahead → is_some (part_at w.slots ahead) ≡ has_part first parts part
has_ahead w first parts n part ahead h e =
    let out : ltb part first ≡ false = grind (arith, nat_tests, h.first_is) in
    ap is_some (slots_from w first parts n ahead (part - first) h (omega (arith, h.first_is))) ∙ sym (ap (λ b. cond b false (is_some (part_at parts (part - first)))) out)

-- of a place from the window's size on
pub has_far : (w : Inbox) (first : ℕ) (parts : Parts) (n part k : ℕ) → Keeps w first parts n → part ≡ w.first + w.passed + k → length w.slots ≡ 64 → length w.lengths ≤ 64 → 64 ≤ k
    → ((j : ℕ) → IsSome (part_at w.slots j) → length w.lengths + j < 64) → false ≡ has_part first parts part
has_far w first parts n part k h e size few far near = sym (empty (part_at w.slots (k - length w.lengths)) refl) ∙ has_ahead w first parts n part (k - length w.lengths) h (omega (arith, e, few, far))
  where
    empty : (p : Option (List ℕ)) → part_at w.slots (k - length w.lengths) ≡ p → is_some (part_at w.slots (k - length w.lengths)) ≡ false
    empty None is = ap is_some is
    empty (Some b) is = absurd (omega (arith, near (k - length w.lengths) (ap is_some is), few, far))

-- of a place from the next part on
pub has_from_next : (w : Inbox) (first : ℕ) (parts : Parts) (n part k : ℕ) → Keeps w first parts n → part ≡ w.first + w.passed + k → (ltb k (length w.lengths) || is_some (part_at w.slots (k - length w.lengths))) ≡ has_part first parts part
has_from_next w first parts n part k h e = by_place (cases_lt k (length w.lengths))
  where
    by_place : (k < length w.lengths) ⊎ (length w.lengths ≤ k) → (ltb k (length w.lengths) || is_some (part_at w.slots (k - length w.lengths))) ≡ has_part first parts part
    by_place (inl less) =
        let yes : ltb k (length w.lengths) ≡ true = grind (arith, nat_tests) in
        ap (λ b. b || is_some (part_at w.slots (k - length w.lengths))) yes ∙ has_behind w first parts n part h (omega arith) (omega (arith, less))
    by_place (inr ge) =
        let no : ltb k (length w.lengths) ≡ false = grind (arith, nat_tests) in
        ap (λ b. b || is_some (part_at w.slots (k - length w.lengths))) no ∙ has_ahead w first parts n part (k - length w.lengths) h (omega (arith, ge))

-- ---- the windows of the calls
pub starts : (w : Inbox) (first : ℕ) → w.first ≡ first → w.passed ≡ 0 → w.lengths ≡ [] → w.used ≡ 0 → w.ordered ≡ [] → w.greatest ≡ None → w.slots ≡ replicate 64 None → Receives w first [] 0
starts w first a b c d e f g =
    let none : (k : ℕ) → part_at w.slots k ≡ None = λ k. ap (λ xs. part_at xs k) g ∙ nothing_at 64 k in
    let start : IsBehind [] 0 0 0 [] = (refl, tt) in
    let behind : IsBehind [] w.passed 0 w.used w.lengths =
    subst (λ m. IsBehind [] m 0 w.used w.lengths) (sym b) (subst (λ m. IsBehind [] 0 0 m w.lengths) (sym d) (subst (IsBehind [] 0 0 0) (sym c) start)) in
    record {
      keeps = record {
        first_is = a;
        behind = behind;
        pulled = omega arith;
        ordered_is = e ∙ sym (passed_gap [] (gap_of w) refl);
        slots_are = none;
        greatest_is = f;
      };
      gap = none 0;
      next = subst (λ ls. IsNext ls w.used) (sym c) tt;
    }

-- the part was put ahead of a missing one
pub receives_kept : (w v : Inbox) (first : ℕ) (parts : Parts) (n part ahead : ℕ) (bytes : List ℕ) → v ≡ kept w part ahead bytes → 0 < ahead → ahead < length w.slots → part ≡ w.first + gap_of w + ahead
    → Receives w first parts n → Receives v first (put parts (part - first) bytes) n
receives_kept w v first parts n part ahead bytes e far l place h =
    subst (λ u. Receives u first (put parts (part - first) bytes) n) (sym e) (record {
      keeps = keeps_kept w first parts n part ahead bytes h.keeps l place;
      gap = get_or-set_other w.slots ahead 0 (Some bytes) None (λ q. omega (arith, q, far)) ∙ h.gap;
      next = h.next;
    })

-- the part was the least missing one
pub keeps_appended : (w v : Inbox) (first : ℕ) (parts : Parts) (n part : ℕ) (bytes : List ℕ) → v ≡ gathered (kept w part 0 bytes) bytes → 0 < length w.slots → part ≡ w.first + gap_of w
    → Keeps w first parts n → Keeps v first (put parts (part - first) bytes) n
keeps_appended w v first parts n part bytes e l place h =
    subst (λ u. Keeps u first (put parts (part - first) bytes) n) (sym e)
    (keeps_gathered (kept w part 0 bytes) first (put parts (part - first) bytes) n bytes (get_or-set_same w.slots 0 (Some bytes) None l) (keeps_kept w first parts n part 0 bytes h l (omega (arith, place))))

-- the part in the first place is put behind the bytes in order
pub gather_step : (w v : Inbox) → v ≡ gathered w (unwrap_or (part_at w.slots 0) []) → is_some (part_at w.slots 0) ≡ true
    → ((first : ℕ) (parts : Parts) (n : ℕ) → Keeps w first parts n → Keeps v first parts n) × (left_of v ≡ left_of w ++ unwrap_or (part_at w.slots 0) [])
gather_step w v e some = (λ first parts n h. subst (λ u. Keeps u first parts n) (sym e) (keeps_gathered w first parts n (unwrap_or (part_at w.slots 0) []) (same (part_at w.slots 0) some) h), ap left_of e)
  where
    same : (p : Option (List ℕ)) → is_some p ≡ true → p ≡ Some (unwrap_or p [])
    same None h = absurd (cc)
    same (Some b) h = refl

pub missing : (p : Option (List ℕ)) → is_some p ≡ false → p ≡ None
missing None h = refl
missing (Some bytes) h = absurd (cc)

-- no part is at a place from the next part on
pub missing_ahead : (w : Inbox) (k : ℕ) → false ≡ (ltb k (length w.lengths) || is_some (part_at w.slots (k - length w.lengths))) → (length w.lengths ≤ k) × (part_at w.slots (k - length w.lengths) ≡ None)
missing_ahead w k h = by_place (cases_lt k (length w.lengths))
  where
    by_place : (k < length w.lengths) ⊎ (length w.lengths ≤ k) → (length w.lengths ≤ k) × (part_at w.slots (k - length w.lengths) ≡ None)
    by_place (inl less) =
        let yes : ltb k (length w.lengths) ≡ true = grind (arith, nat_tests) in
        let f : false ≡ true = h ∙ ap (λ b. b || is_some (part_at w.slots (k - length w.lengths))) yes in
        absurd (cc)
    by_place (inr ge) =
        let no : ltb k (length w.lengths) ≡ false = grind (arith, nat_tests) in
        (ge, missing _ (sym (h ∙ ap (λ b. b || is_some (part_at w.slots (k - length w.lengths))) no)))

pub verdict_is : (first : ℕ) (parts : Parts) (n part : ℕ) (there : Bool) → first + drained parts n ≤ part → part < first + drained parts n + 64 → there ≡ has_part first parts part → cond there Again New ≡ verdict 64 first parts n part
verdict_is first parts n part there low high e =
    let a : ltb part (first + drained parts n) ≡ false = grind (arith, nat_tests) in
    let b : leb (first + drained parts n + 64) part ≡ false = grind (arith, nat_tests) in
    ap (λ t. cond t Again New) e
    ∙ sym (ap (λ t. cond t (Beyond (first + drained parts n + 64)) (cond (has_part first parts part) Again New)) b)
    ∙ sym (ap (λ t. cond t Again (cond (leb (first + drained parts n + 64) part) (Beyond (first + drained parts n + 64)) (cond (has_part first parts part) Again New))) a)

-- ---- laws
pub put_adds : (parts : Parts) (k : ℕ) (bytes : List ℕ) → part_at parts k ≡ None → (more : List ℕ) × (passed (put parts k bytes) ≡ passed parts ++ more)
put_adds [] zero bytes none = (bytes ++ [], refl)
put_adds [] (suc k) bytes none = ([], refl)
put_adds (None ∷ parts) zero bytes none = (bytes ++ passed parts, refl)
put_adds (None ∷ parts) (suc k) bytes none = ([], refl)
put_adds (Some b ∷ parts) zero bytes none = absurd (cc)
put_adds (Some b ∷ parts) (suc k) bytes none =
    let rest = put_adds parts k bytes none in
    (rest.0, ap (λ c. b ++ c) rest.1 ∙ sym (append_assoc b (passed parts) rest.0))

none_of : (p : Option (List ℕ)) → is_some p ≡ false → p ≡ None
none_of None h = refl
none_of (Some b) h = absurd (cc)

pub verdict_new : (window first : ℕ) (parts : Parts) (n part : ℕ) → verdict window first parts n part ≡ New → (first ≤ part) × (part_at parts (part - first) ≡ None)
verdict_new window first parts n part h = by_low (ltb part (first + drained parts n)) refl h
  where
    by_has : first ≤ part → (c : Bool) → ltb part first ≡ c → cond (cond c false (is_some (part_at parts (part - first)))) Again New ≡ New → (first ≤ part) × (part_at parts (part - first) ≡ None)
    by_has le true e is = absurd (let less : part < first = grind (arith, nat_tests) in omega arith)
    by_has le false e is = (le, by_some (part_at parts (part - first)) is)
      where
        by_some : (p : Option (List ℕ)) → cond (is_some p) Again New ≡ New → p ≡ None
        by_some None is = refl
        by_some (Some b) is = absurd (cc)

    by_high : first ≤ part → (b : Bool) → cond b (Beyond (first + drained parts n + window)) (cond (has_part first parts part) Again New) ≡ New → (first ≤ part) × (part_at parts (part - first) ≡ None)
    by_high le true is = absurd (cc)
    by_high le false is = by_has le (ltb part first) refl is

    by_low : (b : Bool) → ltb part (first + drained parts n) ≡ b → cond b Again (cond (leb (first + drained parts n + window) part) (Beyond (first + drained parts n + window)) (cond (has_part first parts part) Again New)) ≡ New → (first ≤ part) × (part_at parts (part - first) ≡ None)
    by_low true e is = absurd (cc)
    by_low false e is = by_high (let ge : first + drained parts n ≤ part = grind (arith, nat_tests) in omega arith) (leb (first + drained parts n + window) part) is

pub with_part_adds : (window first : ℕ) (parts : Parts) (n part : ℕ) (bytes : List ℕ) → (more : List ℕ) × (passed (with_part (verdict window first parts n part) parts (part - first) bytes) ≡ passed parts ++ more)
with_part_adds window first parts n part bytes = by_answer (verdict window first parts n part) refl
  where
    by_answer : (v : Accept) → verdict window first parts n part ≡ v → (more : List ℕ) × (passed (with_part v parts (part - first) bytes) ≡ passed parts ++ more)
    by_answer New e = put_adds parts (part - first) bytes (verdict_new window first parts n part e).1
    by_answer Again e = ([], sym (append-nil (passed parts)))
    by_answer (Beyond limit) e = ([], sym (append-nil (passed parts)))

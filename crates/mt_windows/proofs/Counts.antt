-- Lemmas on counting over parts and transmissions.
use Rattle.std.proofs.Common.{◌≡◌, ℕ, zero, suc, ◌+◌, ◌-◌, ◌<◌, ◌≤◌, ◌⊎◌, inl, inr, Bool, true, false, eqb, ltb, leb, cond, ◌||◌, ◌&&◌, length, take, drop, max, Some, None, refl, sym, ap, ◌∙◌, subst, arith, length-append, length-drop, length-take}
use Rattle.std.proofs.lemmas.List.{length_push}
use Rattle.std.proofs.lemmas.Bool.{cases_lt}
use Rattle.std.proofs.lemmas.Bool.Decides.{nat_tests}
use Rattle.mt_base.specs.Trace.{Trace, Start, ◌▷◌}
use Rattle.mt_base.specs.Writing.{joined}
use Rattle.mt_base.proofs.Fill.{joined-push}
use Rattle.mt_windows.specs.Sending.Act.{Gave, Cut, Resent, ToldPart, ToldTransmission}
use Rattle.mt_windows.specs.Sending.{Act, Limits, given, cuts, pieces, least, or_else, last_end, how_many}
use Rattle.mt_windows.specs.SendingView.{Heard}

-- ---- pieces
pub pieces_count : (l : Limits) (t : Trace Act) → length (pieces l t) ≡ cuts t
pieces_count l Start = refl
pieces_count l (t ▷ Gave b) = pieces_count l t
pieces_count l (t ▷ Cut) = length_push (pieces l t) (take l.part (drop (length (joined (pieces l t))) (given t))) ∙ ap (λ n. n + 1) (pieces_count l t)
pieces_count l (t ▷ Resent p) = pieces_count l t
pieces_count l (t ▷ ToldPart p) = pieces_count l t
pieces_count l (t ▷ ToldTransmission j) = pieces_count l t

pub pieces_within : (l : Limits) (t : Trace Act) → length (joined (pieces l t)) ≤ length (given t)
pieces_within l Start = omega arith
pieces_within l (t ▷ Gave b) = omega (arith, pieces_within l t, length-append (given t) b)
pieces_within l (t ▷ Cut) =
    let done = joined (pieces l t) in
    omega (arith, pieces_within l t, ap length (joined-push (pieces l t) (take l.part (drop (length done) (given t)))), length-append done (take l.part (drop (length done) (given t))), length-take l.part (drop (length done) (given t)), length-drop (length done) (given t))
pieces_within l (t ▷ Resent p) = pieces_within l t
pieces_within l (t ▷ ToldPart p) = pieces_within l t
pieces_within l (t ▷ ToldTransmission j) = pieces_within l t

-- ---- the least number, the last number, how many there are
pub least_none : (f : ℕ → Bool) (n : ℕ) → ((p : ℕ) → p < n → f p ≡ false) → least f n ≡ None
least_none f zero h = refl
least_none f (suc n) h = ap (λ o. or_else o (cond (f n) (Some n) None)) (least_none f n (λ p l. h p (omega (arith, l)))) ∙ ap (λ b. cond b (Some n) None) (h n (omega arith))

pub least_found : (f : ℕ → Bool) (n k : ℕ) → ((p : ℕ) → p < k → f p ≡ false) → k < n → f k ≡ true → least f n ≡ Some k
least_found f zero k h l is = absurd (omega (arith, l))
least_found f (suc n) k h l is = by_place (λ less. least_found f n k h less is) (cases_lt k n)
  where
    by_place : (k < n → least f n ≡ Some k) → (k < n) ⊎ (n ≤ k) → or_else (least f n) (cond (f n) (Some n) None) ≡ Some k
    by_place old (inl less) = ap (λ o. or_else o (cond (f n) (Some n) None)) (old less)
    by_place old (inr ge) =
        let e : n ≡ k = omega (arith, l, ge) in
        ap (λ o. or_else o (cond (f n) (Some n) None)) (least_none f n (λ p q. h p (omega (arith, q, e))))
        ∙ ap (λ m. cond (f m) (Some m) None) e ∙ ap (λ b. cond b (Some k) None) is

pub last_le : (f : ℕ → Bool) (n : ℕ) → last_end f n ≤ n
last_le f zero = omega arith
last_le f (suc n) = by_test (last_le f n) (f n)
  where
    by_test : last_end f n ≤ n → (b : Bool) → cond b (suc n) (last_end f n) ≤ suc n
    by_test old true = omega arith
    by_test old false = omega arith

pub last_stays : (f : ℕ → Bool) (n m : ℕ) → m ≤ n → last_end f n ≤ m → last_end f m ≡ last_end f n
last_stays f zero m l h = let e : m ≡ 0 = omega (arith, l) in ap (last_end f) e
last_stays f (suc n) m l h = by_place (λ le low. last_stays f n m le low) (cases_lt n m)
  where
    by_test : m ≤ n → (last_end f n ≤ m → last_end f m ≡ last_end f n) → (b : Bool) → cond b (suc n) (last_end f n) ≤ m → last_end f m ≡ cond b (suc n) (last_end f n)
    by_test le old true h = absurd (omega (arith, h, le))
    by_test le old false h = old h

    by_place : (m ≤ n → last_end f n ≤ m → last_end f m ≡ last_end f n) → (n < m) ⊎ (m ≤ n) → last_end f m ≡ last_end f (suc n)
    by_place old (inl less) = let e : m ≡ suc n = omega (arith, l, less) in ap (last_end f) e
    by_place old (inr le) = by_test le (old le) (f n) h

pub last_or : (f g : ℕ → Bool) (j n : ℕ) → ((i : ℕ) → g i ≡ f i || eqb i j) → last_end g n ≡ max (last_end f n) (cond (ltb j n) (j + 1) 0)
last_or f g j zero h = grind (arith, nat_tests)
last_or f g j (suc n) h =
    ap (λ b. cond b (suc n) (last_end g n)) (h n)
    ∙ ap (λ m. cond (f n || eqb n j) (suc n) m) (last_or f g j n h)
    ∙ by_test (f n)
  where
    by_test : (b : Bool) → cond (b || eqb n j) (suc n) (max (last_end f n) (cond (ltb j n) (j + 1) 0)) ≡ max (cond b (suc n) (last_end f n)) (cond (ltb j (suc n)) (j + 1) 0)
    by_test true = let le = last_le f n in grind (arith, nat_tests)
    by_test false = let le = last_le f n in grind (arith, nat_tests)

pub none_above : (f : ℕ → Bool) (low n : ℕ) → n ≤ low + 1 → how_many (λ j. f j && ltb low j) n ≡ 0
none_above f low zero l = refl
none_above f low (suc n) l =
    let no : ltb low n ≡ false = grind (arith, nat_tests) in
    let rest = none_above f low n (omega (arith, l)) in
    ap (λ b. how_many (λ j. f j && ltb low j) n + cond (f n && b) 1 0) no ∙ ap (λ m. m + cond (f n && false) 1 0) rest ∙ by_test (f n)
  where
    by_test : (b : Bool) → 0 + cond (b && false) 1 0 ≡ 0
    by_test true = refl
    by_test false = refl

pub count_last : (f : ℕ → Bool) (low n : ℕ) → how_many (λ j. f j && ltb low j) n ≡ cond (ltb (low + 1) (last_end f n)) (suc (how_many (λ j. f j && ltb low j) (last_end f n - 1))) 0
count_last f low zero = grind (arith, nat_tests)
count_last f low (suc n) = by_test (count_last f low n) (f n) refl
  where
    by_low : (ltb low n ≡ true) ⊎ (n ≤ low) → how_many (λ j. f j && ltb low j) n + cond (ltb low n) 1 0 ≡ cond (ltb (low + 1) (suc n)) (suc (how_many (λ j. f j && ltb low j) (suc n - 1))) 0
    by_low (inl e) =
        let s : ltb (low + 1) (suc n) ≡ true = grind (arith, nat_tests) in
        let m : suc n - 1 ≡ n = omega arith in
        let up : how_many (λ j. f j && ltb low j) n + 1 ≡ suc (how_many (λ j. f j && ltb low j) n) = omega arith in
        ap (λ b. how_many (λ j. f j && ltb low j) n + cond b 1 0) e ∙ up
        ∙ sym (ap (λ b. cond b (suc (how_many (λ j. f j && ltb low j) (suc n - 1))) 0) s ∙ ap (λ k. suc (how_many (λ j. f j && ltb low j) k)) m)
    by_low (inr ge) =
        let t : ltb low n ≡ false = grind (arith, nat_tests) in
        let s : ltb (low + 1) (suc n) ≡ false = grind (arith, nat_tests) in
        ap (λ b. how_many (λ j. f j && ltb low j) n + cond b 1 0) t ∙ ap (λ m. m + 0) (none_above f low n (omega (arith, ge)))
        ∙ sym (ap (λ b. cond b (suc (how_many (λ j. f j && ltb low j) (suc n - 1))) 0) s)

    low_cases : (ltb low n ≡ true) ⊎ (n ≤ low)
    low_cases = elim (cases_lt low n) [ inl l ↦ inl (grind (arith, nat_tests)) | inr l ↦ inr l ]

    by_test : how_many (λ j. f j && ltb low j) n ≡ cond (ltb (low + 1) (last_end f n)) (suc (how_many (λ j. f j && ltb low j) (last_end f n - 1))) 0 → (b : Bool) → f n ≡ b → how_many (λ j. f j && ltb low j) n + cond (f n && ltb low n) 1 0 ≡ cond (ltb (low + 1) (cond (f n) (suc n) (last_end f n))) (suc (how_many (λ j. f j && ltb low j) (cond (f n) (suc n) (last_end f n) - 1))) 0
    by_test old true e =
        subst (λ b. how_many (λ j. f j && ltb low j) n + cond (b && ltb low n) 1 0 ≡ cond (ltb (low + 1) (cond b (suc n) (last_end f n))) (suc (how_many (λ j. f j && ltb low j) (cond b (suc n) (last_end f n) - 1))) 0) (sym e)
        (by_low low_cases)
    by_test old false e =
        subst (λ b. how_many (λ j. f j && ltb low j) n + cond (b && ltb low n) 1 0 ≡ cond (ltb (low + 1) (cond b (suc n) (last_end f n))) (suc (how_many (λ j. f j && ltb low j) (cond b (suc n) (last_end f n) - 1))) 0) (sym e)
        (let z : how_many (λ j. f j && ltb low j) n + 0 ≡ how_many (λ j. f j && ltb low j) n = omega arith in z ∙ old)

-- three stand above, if the third from the end does
pub three_above : (f : ℕ → Bool) (low a b c n : ℕ) → Heard a b c n f → leb 3 (how_many (λ j. f j && ltb low j) n) ≡ ltb (low + 1) c
three_above f low a b c n h =
    let ea = count_last f low n ∙ ap (λ m. cond (ltb (low + 1) m) (suc (how_many (λ j. f j && ltb low j) (m - 1))) 0) (sym h.last) in
    let eb = count_last f low (a - 1) ∙ ap (λ m. cond (ltb (low + 1) m) (suc (how_many (λ j. f j && ltb low j) (m - 1))) 0) (sym h.second) in
    let ec = count_last f low (b - 1) ∙ ap (λ m. cond (ltb (low + 1) m) (suc (how_many (λ j. f j && ltb low j) (m - 1))) 0) (sym h.third) in
    let lb : b ≤ a - 1 = subst (λ m. m ≤ a - 1) (sym h.second) (last_le f (a - 1)) in
    let lc : c ≤ b - 1 = subst (λ m. m ≤ b - 1) (sym h.third) (last_le f (b - 1)) in
    of_counts low a b c _ _ _ _ ea eb ec lb lc
  where
    of_counts : (low a b c x y z u : ℕ) → x ≡ cond (ltb (low + 1) a) (suc y) 0 → y ≡ cond (ltb (low + 1) b) (suc z) 0 → z ≡ cond (ltb (low + 1) c) (suc u) 0 → b ≤ a - 1 → c ≤ b - 1 → leb 3 x ≡ ltb (low + 1) c
    of_counts low a b c x y z u ea eb ec lb lc = grind (arith, nat_tests)

-- ---- a transmission is known as told
pub heard_step : (f g : ℕ → Bool) (a b c made j : ℕ) → Heard a b c made f → j < made → ((i : ℕ) → g i ≡ f i || eqb i j)
    → (a < j + 1 → Heard (j + 1) a b made g) × (j + 1 < a → b < j + 1 → Heard a (j + 1) b made g) × (j + 1 < b → c < j + 1 → Heard a b (j + 1) made g)
    × (j + 1 ≤ a → (j + 1 < a → j + 1 ≤ b) → (j + 1 < b → j + 1 ≤ c) → Heard a b c made g)
heard_step f g a b c made j h l is =
    let lm = last_or f g j made is in
    let la = last_or f g j (a - 1) is in
    let lb = last_or f g j (b - 1) is in
    let lj = last_or f g j j is in
    let ha = h.last in
    let hb = h.second in
    let hc = h.third in
    let na = last_le f made in
    let nb = last_le f (a - 1) in
    let nc = last_le f (b - 1) in (
      λ new. let stays = last_stays f made j (omega arith) (omega arith) in record { last = grind (arith, nat_tests); second = sym (let m : j + 1 - 1 ≡ j = omega arith in ap (last_end g) m ∙ lj ∙ (let z : max (last_end f j) (cond (ltb j j) (j + 1) 0) ≡ a = grind (arith, nat_tests) in z)); third = grind (arith, nat_tests) },
      λ below above. let stays = last_stays f (a - 1) j (omega arith) (omega arith) in record { last = grind (arith, nat_tests); second = grind (arith, nat_tests); third = sym (let m : j + 1 - 1 ≡ j = omega arith in ap (last_end g) m ∙ lj ∙ (let z : max (last_end f j) (cond (ltb j j) (j + 1) 0) ≡ b = grind (arith, nat_tests) in z)) },
      λ below above. record { last = grind (arith, nat_tests); second = grind (arith, nat_tests); third = grind (arith, nat_tests) },
      λ le second third. record { last = grind (arith, nat_tests); second = grind (arith, nat_tests); third = grind (arith, nat_tests) },
    )

-- Lemmas on what a telling does to the transmissions that were made.
use Rattle.std.proofs.Common.{◌≡◌, ℕ, zero, suc, ◌+◌, ◌-◌, ◌<◌, ◌≤◌, ◌⊎◌, inl, inr, min, Bool, true, false, eqb, ltb, leb, cond, ◌&&◌, ◌||◌, refl, sym, ap, ◌∙◌, subst, arith}
use Rattle.std.proofs.lemmas.Bool.{cases_lt}
use Rattle.std.proofs.lemmas.Bool.Decides.{nat_tests}
use Rattle.mt_base.specs.Trace.{Trace, ◌▷◌}
use Rattle.mt_windows.specs.Sending.Act.{ToldTransmission}
use Rattle.mt_windows.specs.Sending.{Act, cuts, transmissions, part_of, is_open, is_recent, settled, settles_transmission, tells_transmission}
use Rattle.mt_windows.specs.SendingView.{Outbox, Sends, limits}
use Rattle.carrier.specs.Sending.{tell_all, tell_transmissions, settles}
use Rattle.udp2_core.specs.SettleView.{Settles, is_recent_number, layout_from, tells_recent}
use Rattle.udp2_core.proofs.Settlings.{settles_none, settles_more}

-- ---- transmissions that are told

-- a telling leaves what was sent, and what was settled
pub record Follows (s t : Trace Act) : Type 0 where
  pub cuts_are : cuts t ≡ cuts s
  pub made_are : transmissions t ≡ transmissions s
  pub grows : (p : ℕ) → settled limits s p ≡ true → settled limits t p ≡ true

pub follows : (f : ℕ → Bool) (from n : ℕ) (s : Trace Act) → Follows s (tell_transmissions f from n s)
follows f from zero s = record { cuts_are = refl; made_are = refl; grows = λ p e. e }
follows f from (suc n) s = by_test (tell_transmissions f from n s) (follows f from n s) (f (from + n))
  where
    by_test : (t : Trace Act) → Follows s t → (b : Bool) → Follows s (cond b (t ▷ ToldTransmission (from + n)) t)
    by_test t h true = record {
      cuts_are = h.cuts_are;
      made_are = h.made_are;
      grows = λ p e. ap (λ b. b || (is_recent limits t (from + n) && eqb (part_of t (from + n)) p)) (h.grows p e);
    }
    by_test t h false = h

-- transmissions that are not told change nothing
pub untold_above : (f : ℕ → Bool) (from k n : ℕ) (s : Trace Act) → k ≤ n → ((i : ℕ) → k ≤ i → i < n → f (from + i) ≡ false)
    → tell_transmissions f from n s ≡ tell_transmissions f from k s
untold_above f from k zero s le untold = let e : 0 ≡ k = omega (arith, le) in ap (λ m. tell_transmissions f from m s) e
untold_above f from k (suc n) s le untold =
    by_place (λ low. untold_above f from k n s low (λ i ge less. untold i ge (omega (arith, less)))) (cases_lt n k)
  where
    by_place : (k ≤ n → tell_transmissions f from n s ≡ tell_transmissions f from k s) → (n < k) ⊎ (k ≤ n)
        → tell_transmissions f from (suc n) s ≡ tell_transmissions f from k s
    by_place below (inl high) = let e : suc n ≡ k = omega (arith, high, le) in ap (λ m. tell_transmissions f from m s) e
    by_place below (inr low) =
        ap (λ b. cond b (tell_transmissions f from n s ▷ ToldTransmission (from + n)) (tell_transmissions f from n s)) (untold n low (omega arith))
        ∙ below low

module _ (first : ℕ) where
  -- ---- the numbers in order

  -- how many of the last transmissions, of which there are `total` from the place `from` on, are below
  -- this number
  abbrev pub count_below : ℕ → ℕ → ℕ → ℕ
  count_below from total next = min (next - first - from) total

  abbrev pub first_recent : Trace Act → ℕ
  first_recent acts = transmissions acts - 4096

  -- those of the last transmissions below this number were taken as they are told
  abbrev pub taken_below : (ℕ → Bool) → ℕ → Trace Act → Trace Act
  taken_below told next acts =
      tell_transmissions (λ j. told (first + j)) (first_recent acts)
      (count_below (first_recent acts) (transmissions acts - first_recent acts) next) acts

  low_place : (from total next i : ℕ) → i < count_below from total next → first + (from + i) < next
  low_place from total next i less = omega (arith, less)

  next_place : (from total next i : ℕ) → count_below from total next ≤ i → i < count_below from total (next + 1) → first + (from + i) ≡ next
  next_place from total next i ge less = omega (arith, ge, less)

  count_more : (from total next : ℕ) → count_below from total next ≤ count_below from total (next + 1)
  count_more from total next = omega arith

  high_place : (from total next i : ℕ) → count_below from total next ≤ i → i < total → next ≤ first + (from + i)
  high_place from total next i ge less = omega (arith, ge, less)

  -- a telling without effect
  pub settles_nothing : (w : Outbox) (acts after : Trace Act) → after ≡ acts → Sends w first acts → Settles first false w acts after
  settles_nothing w acts after same h = record {
    sends = subst (λ t. Sends w first t) (sym same) h;
    settled_is = sym (ap (settles (layout_from first) acts) same ∙ settles_none (layout_from first) acts);
  }

  -- a number of the last ones
  pub recent_is : (number : ℕ) (t : Trace Act) → is_recent_number first number t ≡ true → tells_transmission first number t ≡ tells_recent first number t
  recent_is number t recent = by_first (leb first number) refl recent
    where
      by_first : (b : Bool) → leb first number ≡ b → b && is_recent limits t (number - first) ≡ true → tells_transmission first number t ≡ tells_recent first number t
      by_first true some on =
          let o : ltb number first ≡ false = grind (arith, nat_tests) in
          ap (λ b. cond b t (t ▷ ToldTransmission (number - first))) o
          ∙ sym (ap (λ b. cond b (t ▷ ToldTransmission (number - first)) t) recent)
      by_first false none on = absurd (cc)

  -- before the first number that is told
  pub taking_start : (w : Outbox) (next : ℕ) (told : ℕ → Bool) (acts : Trace Act) → Sends w first acts → ((n : ℕ) → n < next → told n ≡ false)
      → Settles first false w acts (taken_below told next acts)
  taking_start w next told acts h untold =
      let from = first_recent acts in
      let total = transmissions acts - from in
      let same : taken_below told next acts ≡ acts =
      untold_above (λ j. told (first + j)) from 0 (count_below from total next) acts (omega arith)
      (λ i ge less. untold (first + (from + i)) (low_place from total next i less)) in
      settles_nothing w acts (taken_below told next acts) same h

  -- a number that is not told
  pub taking_skip : (w : Outbox) (next : ℕ) (is_settled : Bool) (told : ℕ → Bool) (acts : Trace Act) → Settles first is_settled w acts (taken_below told next acts)
      → told next ≡ false → Settles first is_settled w acts (taken_below told (next + 1) acts)
  taking_skip w next is_settled told acts h untold =
      let from = first_recent acts in
      let total = transmissions acts - from in
      let same : taken_below told (next + 1) acts ≡ taken_below told next acts =
      untold_above (λ j. told (first + j)) from (count_below from total next) (count_below from total (next + 1)) acts (count_more from total next)
      (λ i ge less. ap told (next_place from total next i ge less) ∙ untold) in
      subst (λ t. Settles first is_settled w acts t) (sym same) h

  -- a number that is told
  pub taking_step : (w v : Outbox) (next : ℕ) (is_settled result : Bool) (told : ℕ → Bool) (acts : Trace Act) → Settles first is_settled w acts (taken_below told next acts)
      → told next ≡ true
      → ((t : Trace Act) → Sends w first t → Sends v first (tells_recent first next t))
      → ((t : Trace Act) → Sends w first t → result ≡ settles_transmission limits first t next)
      → Settles first (is_settled || result) v acts (taken_below told (next + 1) acts)
  taking_step w v next is_settled result told acts h is sends settling =
      by_place (cases_lt next first) (cases_lt (next - first) (first_recent acts)) (cases_lt (next - first) (transmissions acts))
    where
      from : ℕ
      from = first_recent acts

      total : ℕ
      total = transmissions acts - from

      f : ℕ → Bool
      f j = told (first + j)

      grouped : (a b c : Bool) → a && (b && c) ≡ (a && b) && c
      grouped true b c = refl
      grouped false b c = refl

      or_none : (b : Bool) → b || false ≡ b
      or_none true = refl
      or_none false = refl

      -- it is none of the last ones
      outside : (t : Trace Act) → Settles first is_settled w acts t → is_recent_number first next t ≡ false → Settles first (is_settled || result) v acts t
      outside t k off =
          let none : result ≡ false =
          settling t k.sends ∙ grouped (leb first next) (is_recent limits t (next - first)) (is_open limits t (part_of t (next - first)))
          ∙ ap (λ b. b && is_open limits t (part_of t (next - first))) off in
          record {
            sends = subst (λ u. Sends v first u) (ap (λ b. cond b (t ▷ ToldTransmission (next - first)) t) off) (sends t k.sends);
            settled_is = ap (λ b. is_settled || b) none ∙ or_none is_settled ∙ k.settled_is;
          }

      -- it is one of the last ones
      inside : (t : Trace Act) → Settles first is_settled w acts t → Follows acts t → leb first next ≡ true → is_recent limits t (next - first) ≡ true
          → Settles first (is_settled || result) v acts (t ▷ ToldTransmission (next - first))
      inside t k old some recent =
          let on : is_recent_number first next t ≡ true = ap (λ b. b && is_recent limits t (next - first)) some ∙ recent in
          let found : result ≡ is_recent limits t (next - first) && is_open limits t (part_of t (next - first)) =
          settling t k.sends ∙ ap (λ b. b && (is_recent limits t (next - first) && is_open limits t (part_of t (next - first)))) some in
          record {
            sends = subst (λ u. Sends v first u) (ap (λ b. cond b (t ▷ ToldTransmission (next - first)) t) on) (sends t k.sends);
            settled_is = ap (λ b. is_settled || b) found
                ∙ ap (λ b. b || (is_recent limits t (next - first) && is_open limits t (part_of t (next - first)))) k.settled_is
                ∙ sym (settles_more acts t (next - first) old.cuts_are old.grows);
          }

      off_if : (t : Trace Act) → transmissions t ≡ transmissions acts → (next < first) ⊎ ((next - first < first_recent acts) ⊎ (transmissions acts ≤ next - first)) → is_recent_number first next t ≡ false
      off_if t made (inl none) = let o : leb first next ≡ false = grind (arith, nat_tests) in ap (λ b. b && is_recent limits t (next - first)) o
      off_if t made (inr (inl old)) =
          let far : next - first + 4096 < transmissions t = omega (arith, old, made) in
          let o : leb (transmissions t) (next - first + 4096) ≡ false = grind (arith, nat_tests) in
          last_off (leb first next) (ltb (next - first) (transmissions t)) _ o
        where
          last_off : (a b c : Bool) → c ≡ false → a && (b && c) ≡ false
          last_off true true c e = e
          last_off true false c e = refl
          last_off false b c e = refl
      off_if t made (inr (inr new)) =
          let far : transmissions t ≤ next - first = omega (arith, new, made) in
          let o : ltb (next - first) (transmissions t) ≡ false = grind (arith, nat_tests) in
          middle_off (leb first next) _ (leb (transmissions t) (next - first + 4096)) o
        where
          middle_off : (a b c : Bool) → b ≡ false → a && (b && c) ≡ false
          middle_off true b c e = ap (λ x. x && c) e
          middle_off false b c e = refl

      t : Trace Act
      t = taken_below told next acts

      old : Follows acts t
      old = follows f from (count_below from total next) acts

      out : (next < first) ⊎ ((next - first < first_recent acts) ⊎ (transmissions acts ≤ next - first)) → count_below from total next ≡ count_below from total (next + 1)
          → Settles first (is_settled || result) v acts (taken_below told (next + 1) acts)
      out where_it_is same =
          subst (λ n. Settles first (is_settled || result) v acts (tell_transmissions f from n acts)) same (outside t h (off_if t old.made_are where_it_is))

      by_place : (next < first) ⊎ (first ≤ next) → (next - first < first_recent acts) ⊎ (first_recent acts ≤ next - first) → (next - first < transmissions acts) ⊎ (transmissions acts ≤ next - first)
          → Settles first (is_settled || result) v acts (taken_below told (next + 1) acts)
      by_place (inl none) low high = out (inl none) (omega (arith, none))
      by_place (inr some) (inl low) high = out (inr (inl low)) (omega (arith, low))
      by_place (inr some) (inr ge) (inr high) = out (inr (inr high)) (omega (arith, high))
      by_place (inr some) (inr ge) (inl less) =
          let n = count_below from total next in
          let place : from + n ≡ next - first = omega (arith, some, ge, less) in
          let number : first + (from + n) ≡ next = omega (arith, some, ge, less) in
          let more : count_below from total (next + 1) ≡ suc n = omega (arith, some, ge, less) in
          let first_le : leb first next ≡ true = grind (arith, nat_tests) in
          let made = old.made_are in
          let a : ltb (next - first) (transmissions t) ≡ true = grind (arith, nat_tests) in
          let near : transmissions t ≤ next - first + 4096 = omega (arith, ge, made) in
          let b : leb (transmissions t) (next - first + 4096) ≡ true = grind (arith, nat_tests) in
          let recent : is_recent limits t (next - first) ≡ true = ap (λ x. x && leb (transmissions t) (next - first + 4096)) a ∙ b in
          let taken : t ▷ ToldTransmission (next - first) ≡ tell_transmissions f from (suc n) acts =
          ap (λ j. t ▷ ToldTransmission j) (sym place)
          ∙ sym (ap (λ b. cond b (t ▷ ToldTransmission (from + n)) t) (ap told number ∙ is)) in
          subst (λ m. Settles first (is_settled || result) v acts (tell_transmissions f from m acts)) (sym more)
          (subst (λ u. Settles first (is_settled || result) v acts u) taken (inside t h old first_le recent))

  -- behind the last number that is told
  pub taking_end : (w : Outbox) (next : ℕ) (is_settled : Bool) (told : ℕ → Bool) (acts : Trace Act) → Settles first is_settled w acts (taken_below told next acts)
      → ((n : ℕ) → next ≤ n → told n ≡ false) → Settles first is_settled w acts (tell_all (layout_from first) acts told)
  taking_end w next is_settled told acts h untold =
      let from = first_recent acts in
      let total = transmissions acts - from in
      let same : tell_all (layout_from first) acts told ≡ taken_below told next acts =
      untold_above (λ j. told (first + j)) from (count_below from total next) total acts (omega arith)
      (λ i ge less. untold (first + (from + i)) (high_place from total next i ge less)) in
      subst (λ t. Settles first is_settled w acts t) (sym same) h

  -- a number of the last ones, or below the first
  pub number_told : (number : ℕ) (t : Trace Act) → number + 1 ≤ first + transmissions t → first + transmissions t ≤ number + 4096
      → tells_transmission first number t ≡ tells_recent first number t
  number_told number t low high = by_place (cases_lt number first)
    where
      by_place : (number < first) ⊎ (first ≤ number) → tells_transmission first number t ≡ tells_recent first number t
      by_place (inl less) =
          let a : ltb number first ≡ true = grind (arith, nat_tests) in
          let b : leb first number ≡ false = grind (arith, nat_tests) in
          ap (λ x. cond x t (t ▷ ToldTransmission (number - first))) a
          ∙ sym (ap (λ x. cond (x && is_recent limits t (number - first)) (t ▷ ToldTransmission (number - first)) t) b)
      by_place (inr ge) =
          let a : leb first number ≡ true = grind (arith, nat_tests) in
          let place : number - first < transmissions t = omega (arith, ge, low) in
          let near : transmissions t ≤ number - first + 4096 = omega (arith, ge, high) in
          let b : ltb (number - first) (transmissions t) ≡ true = grind (arith, nat_tests) in
          let d : leb (transmissions t) (number - first + 4096) ≡ true = grind (arith, nat_tests) in
          recent_is number t (ap (λ x. x && is_recent limits t (number - first)) a ∙ ap (λ x. x && leb (transmissions t) (number - first + 4096)) b ∙ d)

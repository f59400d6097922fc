-- The datagrams of a side and kind that were given and came, with one entry more.
use Rattle.std.proofs.Common.{◌≡◌, ◌≢◌, ◌↔◌, ◌⊎◌, ℕ, ◌<◌, ◌+◌, ◌-◌, inl, inr, Bool, true, false, ◌||◌, List, [], ◌∷◌, ◌++◌, length, slice_get, Option, Some, None, cond, nat_eq, refl, sym, ap, subst, ◌∙◌, append_assoc, length-append, arith}
use Rattle.std.proofs.lemmas.Option.{slice_get_within}
use Rattle.std.proofs.lemmas.Bool.{cases_order, eqb-true, eq-eqb}
use Rattle.std.proofs.lemmas.List.Folds.{list_any-append}
use Rattle.std.specs.List.{count_by, list_any}
use Rattle.mt_base.proofs.Lists.{slice_get-append-left, slice_get-append-right}
use Rattle.mt_base.specs.declared.kinds.Role.{Role}
use Rattle.mt_base.specs.declared.kinds.Kind.{Kind}
use Rattle.capture_check.specs.declared.entry.Entry.{Entry}
use Rattle.capture_check.specs.declared.entry.Entry.TheVariants.{Out, In}
use Rattle.capture_check.specs.Numbers.{is_out_of, HasOut}
use Rattle.capture_check.specs.Arrivals.{ArrivedView, has, none_given, with_given, with_came}
use Rattle.capture_check.specs.Tellings.{ShowsAfter, CameWith}
use Rattle.capture_check.specs.TellingsSoFar.{ShowsJustAfter, IsArrived}
use Rattle.capture_check.proofs.Stepping.{snoc}
use Rattle.capture_check.proofs.Places.{bit, counted, how_many-append}
use Rattle.capture_check.proofs.Judging.{itself}

-- ---- entries that grow by one

pub nothing_before : (front : List Entry) (e : Entry) (back : List Entry) → [] ≢ front ++ e ∷ back
nothing_before [] e back p = cc
nothing_before (b ∷ bs) e back p = cc

-- how many datagrams were given
count_more : (side : Role) (kind : Kind) (before : List Entry) (e : Entry) → count_by (is_out_of side kind) (before ++ e ∷ []) ≡ count_by (is_out_of side kind) before + bit (is_out_of side kind e)
count_more side kind before e =
    let t = is_out_of side kind in
    let more = how_many-append t before (e ∷ []) in
    let whole = counted t (before ++ e ∷ []) in
    let front = counted t before in
    omega arith

out_more : (side : Role) (kind : Kind) (number : ℕ) (before : List Entry) (e : Entry) → HasOut side kind number before → HasOut side kind number (before ++ e ∷ [])
out_more side kind number before e g =
    record {
      front = g.front;
      datagram = g.datagram;
      back = g.back ++ e ∷ [];
      parts = ap (λ l. l ++ e ∷ []) g.parts ∙ append_assoc g.front (Out side kind number g.datagram ∷ g.back) (e ∷ []);
    }

came_more : (side : Role) (kind : Kind) (before : List Entry) (e : Entry) (n : ℕ) → CameWith side kind before n → CameWith side kind (before ++ e ∷ []) n
came_more side kind before e n c =
    record {
      front = c.front;
      number = c.number;
      back = c.back ++ e ∷ [];
      parts = ap (λ l. l ++ e ∷ []) c.parts ∙ append_assoc c.front (In side kind c.number ∷ c.back) (e ∷ []);
      given = c.given;
      shows = c.shows;
    }

-- an `in` names a datagram that shows a number
abbrev pub Named : Role → Kind → ℕ → ℕ → List Entry → Type 0
Named side kind n number before = (g : HasOut side kind number before) × ShowsAfter kind g.front g.datagram n

-- a datagram came before, or comes now
came_parts : (side : Role) (kind : Kind) (before : List Entry) (e : Entry) (n : ℕ) → CameWith side kind (before ++ e ∷ []) n
    → CameWith side kind before n ⊎ ((number : ℕ) × (e ≡ In side kind number) × Named side kind n number before)
came_parts side kind before e n c =
    elim (snoc before c.front e (In side kind c.number) c.back c.parts) [
      | inl end ↦ inr (c.number, end.1, subst (Named side kind n c.number) (sym end.0) (c.given, c.shows))
      | inr more ↦ inl (record { front = c.front; number = c.number; back = more.0; parts = more.1; given = c.given; shows = c.shows })
    ]

-- ---- a datagram is given

same_outs : (side : Role) (kind : Kind) (m n : ℕ) (d e : List ℕ) → Out side kind m d ≡ Out side kind n e → (m ≡ n) × (d ≡ e)
same_outs side kind m n d e h = (cc, cc)

same_ins : (side : Role) (kind : Kind) (m n : ℕ) → In side kind m ≡ In side kind n → m ≡ n
same_ins side kind m n h = cc

out_is_no_in : (side s : Role) (kind k : Kind) (m n : ℕ) (d : List ℕ) → Out side kind m d ≢ In s k n
out_is_no_in side s kind k m n d h = cc

in_is_no_out : (side s : Role) (kind k : Kind) (m n : ℕ) (d : List ℕ) → In side kind m ≢ Out s k n d
in_is_no_out side s kind k m n d h = cc

-- what is found of a datagram among those that were given
abbrev pub Found : Kind → List (Option ℕ) → List ℕ → ℕ → List Entry → Type 0
Found kind given datagram number front = (o : Option ℕ) × (slice_get given number ≡ Some o) × ShowsJustAfter kind front datagram o

at_end : (xs : List (Option ℕ)) (x : Option ℕ) (i : ℕ) → i ≡ length xs → slice_get (xs ++ x ∷ []) i ≡ Some x
at_end xs x i is =
    let none : i - length xs ≡ 0 = omega (arith, is) in
    slice_get-append-right xs (x ∷ []) i (omega (arith, is)) ∙ ap (slice_get (x ∷ [])) none

within_front : (xs : List (Option ℕ)) (x o : Option ℕ) (i : ℕ) → slice_get xs i ≡ Some o → slice_get (xs ++ x ∷ []) i ≡ Some o
within_front xs x o i is = slice_get-append-left xs (x ∷ []) i (slice_get_within xs i o is) ∙ is

-- ---- the numbers that came, as values

given_stays : (o : Option (Option ℕ)) (a : ArrivedView) → (with_came o a).given ≡ a.given
given_stays None a = refl
given_stays (Some None) a = refl
given_stays (Some (Some n)) a = refl

or_true : (x y : Bool) → (x || y) ≡ true → (x ≡ true) ⊎ (y ≡ true)
or_true true y h = inl refl
or_true false y h = inr h

true_or : (x y : Bool) → x ≡ true → (x || y) ≡ true
true_or x y h = ap (λ b. b || y) h

or_same : (x y : Bool) → y ≡ true → (x || y) ≡ true
or_same true y h = refl
or_same false y h = h

-- a number was added or was there
added_where : (n m : ℕ) (came : List ℕ) (b : Bool) → has came n ≡ b → (has (cond b came (came ++ n ∷ [])) m ≡ true) ↔ ((has came m ≡ true) ⊎ (m ≡ n))
added_where n m came true there = (
  λ h. inl h,
  λ h. elim h [ inl old ↦ old | inr same ↦ ap (has came) same ∙ there ],
)
added_where n m came false there =
    let whole = list_any-append (nat_eq m) came (n ∷ []) in (
      λ h. elim (or_true (has came m) (list_any (nat_eq m) (n ∷ [])) (sym whole ∙ h)) [
        | inl old ↦ inl old
        | inr new ↦ inr (elim (or_true (nat_eq m n) false new) [ inl same ↦ eqb-true m n same | inr other_one ↦ absurd (cc) ])
      ],
      λ h. whole ∙ elim h as (λ _. (has came m || list_any (nat_eq m) (n ∷ [])) ≡ true) [
        | inl old ↦ true_or (has came m) (list_any (nat_eq m) (n ∷ [])) old
        | inr same ↦ or_same (has came m) (list_any (nat_eq m) (n ∷ [])) (true_or (nat_eq m n) false (eq-eqb m n same))
      ],
    )

same_number : (m n : ℕ) → ◌≡◌ {A = Option (Option ℕ)} (Some (Some m)) (Some (Some n)) → m ≡ n
same_number m n e = cc

has_came : (o : Option (Option ℕ)) (a : ArrivedView) (n : ℕ) → (has (with_came o a).came n ≡ true) ↔ ((has a.came n ≡ true) ⊎ (o ≡ Some (Some n)))
has_came None a n = (λ h. inl h, λ h. elim h [ inl old ↦ old | inr other_one ↦ absurd (cc) ])
has_came (Some None) a n = (λ h. inl h, λ h. elim h [ inl old ↦ old | inr other_one ↦ absurd (cc) ])
has_came (Some (Some m)) a n =
    let added = added_where m n a.came (has a.came m) refl in (
      λ h. elim (added.0 h) [ inl old ↦ inl old | inr same ↦ inr (ap (λ k. Some (Some k)) (sym same)) ],
      λ h. elim h [
        | inl old ↦ added.1 (inl old)
        | inr shows ↦ added.1 (inr (sym (same_number m n shows)))
      ],
    )

-- ---- one side and kind

pub none_arrived : (side : Role) (kind : Kind) → IsArrived side kind [] none_given
none_arrived side kind =
    record {
      count = refl;
      shown = λ number g. absurd (nothing_before g.front (Out side kind number g.datagram) g.back g.parts);
      there = λ number few. absurd (omega (arith, few));
      came = λ n. (λ h. absurd (cc), λ c. absurd (nothing_before c.front (In side kind c.number) c.back c.parts));
    }

module _ (side : Role) (kind : Kind) (before : List Entry) (a : ArrivedView) (is : IsArrived side kind before a) where
  module _ (number : ℕ) (datagram : List ℕ) (shown : Option ℕ) (counts : number ≡ count_by (is_out_of side kind) before) (just : ShowsJustAfter kind before datagram shown) where
    abbrev pub the_out : Entry
    the_out = Out side kind number datagram

    found_given : (j : ℕ) (g : HasOut side kind j (before ++ the_out ∷ [])) → Found kind (a.given ++ shown ∷ []) g.datagram j g.front
    found_given j g =
        elim (snoc before g.front the_out (Out side kind j g.datagram) g.back g.parts) [
          | inl end ↦ (
              let same = same_outs side kind number j datagram g.datagram end.1 in
              let last : j ≡ length a.given = sym same.0 ∙ counts ∙ sym is.count in
              (shown, at_end a.given shown j last, subst (λ d. ShowsJustAfter kind g.front d shown) same.1 (subst (λ f. ShowsJustAfter kind f datagram shown) end.0 just))
              )
          | inr more ↦ (
              let old = is.shown j (record { front = g.front; datagram = g.datagram; back = more.0; parts = more.1 }) in
              (old.0, within_front a.given shown old.0 j old.1, old.2)
              )
        ]

    there_given : (j : ℕ) → j < length (a.given ++ shown ∷ []) → HasOut side kind j (before ++ the_out ∷ [])
    there_given j few =
        elim (cases_order j (length a.given)) [
          | inl end ↦ subst (λ i. HasOut side kind i (before ++ the_out ∷ [])) (counts ∙ sym is.count ∙ sym end) (record { front = before; datagram = datagram; back = []; parts = refl })
          | inr (inl low) ↦ out_more side kind j before the_out (is.there j low)
          | inr (inr high) ↦ absurd (omega (arith, few, high, length-append a.given (shown ∷ [])))
        ]

    pub given_more : IsArrived side kind (before ++ the_out ∷ []) (with_given shown a)
    given_more =
        record {
          count =
              let more = count_more side kind before the_out in
              let one : bit (is_out_of side kind the_out) ≡ 1 = ap bit (itself side kind number datagram) in
              omega (arith, length-append a.given (shown ∷ []), is.count);
          shown = found_given;
          there = there_given;
          came = λ n. (
            λ h. came_more side kind before the_out n ((is.came n).0 h),
            λ c. elim (came_parts side kind before the_out n c) [
              | inl old ↦ (is.came n).1 old
              | inr now ↦ absurd (out_is_no_in side side kind kind number now.0 datagram now.1)
            ],
          );
        }

  -- ---- an entry that is no datagram of this side and kind

  module _ (e : Entry) (no_out : is_out_of side kind e ≡ false) where
    not_it : (j : ℕ) (d : List ℕ) → e ≢ Out side kind j d
    not_it j d h = let yes = ap (is_out_of side kind) h ∙ itself side kind j d in cc

    out_before : (j : ℕ) (g : HasOut side kind j (before ++ e ∷ [])) → (old : HasOut side kind j before) × (old.front ≡ g.front) × (old.datagram ≡ g.datagram)
    out_before j g =
        elim (snoc before g.front e (Out side kind j g.datagram) g.back g.parts) [
          | inl end ↦ absurd (not_it j g.datagram end.1)
          | inr more ↦ (record { front = g.front; datagram = g.datagram; back = more.0; parts = more.1 }, refl, refl)
        ]

    found_still : (j : ℕ) (g : HasOut side kind j (before ++ e ∷ [])) → Found kind a.given g.datagram j g.front
    found_still j g =
        let old = out_before j g in
        let f = is.shown j old.0 in
        (f.0, f.1, subst (λ d. ShowsJustAfter kind g.front d f.0) old.2 (subst (λ l. ShowsJustAfter kind l (old.0).datagram f.0) old.1 f.2))

    count_still : length a.given ≡ count_by (is_out_of side kind) (before ++ e ∷ [])
    count_still =
        let more = count_more side kind before e in
        let none : bit (is_out_of side kind e) ≡ 0 = ap bit no_out in
        omega (arith, is.count)

    -- one that brings none either
    pub still : ((number : ℕ) → e ≢ In side kind number) → IsArrived side kind (before ++ e ∷ []) a
    still no_in =
        record {
          count = count_still;
          shown = found_still;
          there = λ j few. out_more side kind j before e (is.there j few);
          came = λ n. (
            λ h. came_more side kind before e n ((is.came n).0 h),
            λ c. elim (came_parts side kind before e n c) [
              | inl old ↦ (is.came n).1 old
              | inr now ↦ absurd (no_in now.0 now.1)
            ],
          );
        }

  -- ---- a datagram comes

  module _ (number : ℕ) where
    abbrev pub the_in : Entry
    the_in = In side kind number

    -- what the datagram of this number shows
    named_shows : (n : ℕ) (o : Option (Option ℕ)) → slice_get a.given number ≡ o → (o ≡ Some (Some n)) ↔ Named side kind n number before
    named_shows n o at = (
      λ h.
          let g = is.there number (slice_get_within a.given number (Some n) (at ∙ h)) in
          let f = is.shown number g in
          let same : f.0 ≡ Some n = (let e = sym f.1 ∙ at ∙ h in cc) in
          (g, (f.2 n).0 same),
      λ named.
          let f = is.shown number named.0 in
          sym at ∙ f.1 ∙ ap Some ((f.2 n).1 named.1),
    )

    came_now : (n : ℕ) (o : Option (Option ℕ)) → slice_get a.given number ≡ o → ((has a.came n ≡ true) ⊎ (o ≡ Some (Some n))) ↔ CameWith side kind (before ++ the_in ∷ []) n
    came_now n o at = (
      λ h. elim h [
        | inl old ↦ came_more side kind before the_in n ((is.came n).0 old)
        | inr shows ↦ (
            let named = (named_shows n o at).0 shows in
            record { front = before; number = number; back = []; parts = refl; given = named.0; shows = named.1 }
            )
      ],
      λ c. elim (came_parts side kind before the_in n c) [
        | inl old ↦ inl ((is.came n).1 old)
        | inr now ↦ inr ((named_shows n o at).1 (subst (λ m. Named side kind n m before) (sym (same_ins side kind number now.0 now.1)) now.2))
      ],
    )

    view_came : (o : Option (Option ℕ)) → slice_get a.given number ≡ o → IsArrived side kind (before ++ the_in ∷ []) (with_came o a)
    view_came o at =
        record {
          count = ap length (given_stays o a) ∙ count_still the_in refl;
          shown = λ j g. subst (λ l. Found kind l g.datagram j g.front) (sym (given_stays o a)) (found_still the_in refl j g);
          there = λ j few. out_more side kind j before the_in (is.there j (subst (λ l. j < length l) (given_stays o a) few));
          came = λ n. (
            λ h. (came_now n o at).0 ((has_came o a n).0 h),
            λ c. (has_came o a n).1 ((came_now n o at).1 c),
          );
        }

    pub came_in : IsArrived side kind (before ++ the_in ∷ []) (with_came (slice_get a.given number) a)
    came_in = view_came (slice_get a.given number) refl

-- One direction of two joined lossy links: what a datagram under way keeps, and what came by it.
use Rattle.std.proofs.Common.{◌≡◌, ℕ, zero, suc, ◌+◌, ◌-◌, ◌%◌, ◌^◌, ◌≤◌, ◌<◌, Bool, true, false, nat_le, nat_lt, List, [], ◌∷◌, ◌++◌, length, take, drop, if◌then◌else◌, Option, Some, None, refl, sym, ap, ◌∙◌, subst, arith, append-nil, inl, inr}
use Rattle.std.specs.Option.{unwrap_or}
use Rattle.std.proofs.lemmas.Bool.Decides.{nat_tests}
use Rattle.std.proofs.lemmas.Bool.{cases_lt}
use Rattle.std.proofs.lemmas.List.{take-append-le, take-append-drop}
use Rattle.std.proofs.Math.Nat.{mod-add-mod}
use Rattle.mt_base.specs.Nearness.{Near, IsNear, nearest}
use Rattle.mt_base.specs.Prefix.{IsPickOf}
use Rattle.mt_base.proofs.LowPart.{close_same, nearest_is}
use Rattle.mt_base.proofs.Prefixes.{pick-append, pick-nothing, pick-same, pick-at}
use Rattle.mt_windows.specs.declared.limits.TheConstants.{NUMBERS, WINDOW}
use Rattle.carrier.specs.declared.state.Took.{Took}
use Rattle.carrier.specs.declared.state.Took.TheVariants.{Used, Ignored}
use Rattle.carrier.specs.declared.state.Reason.TheVariants as reason
use Rattle.carrier.specs.Layout.{Reading, Refuses, Shows, Load, Empty, Carries, Dummy, Correction, bounded}
use Rattle.carrier.specs.PerfectThin.{part_answer}
use Rattle.udp1_core.specs.FirstLayout.{modulus, shows}
use Rattle.lossy_mode.specs.Thin.{Got, answer_number, next_number, number_read, plain, with_load, with_part, with_reading}

-- what a reading carries
abbrev pub load_in : Reading → Load
load_in (Refuses why) = Empty
load_in (Shows shown) = shown.load

-- the part at a place
abbrev pub IsPlace : List (List ℕ) → ℕ → List ℕ → Type 0
IsPlace ps place bytes = take (place + 1) ps ≡ take place ps ++ bytes ∷ []

-- this low part and these bytes are those of a part that was sent, after which at most k datagrams were
pub record IsAt (own n k : ℕ) (ps : List (List ℕ)) (low : ℕ) (bytes : List ℕ) : Type 0 where
  pub place : ℕ
  pub made : place < n
  pub recent : n ≤ place + 1 + k
  pub low_is : low ≡ (own + place) % modulus
  pub there : IsPlace ps place bytes

-- what a datagram keeps after which at most k were sent
pub record Flies (own n k : ℕ) (ps : List (List ℕ)) (d : List ℕ) : Type 0 where
  pub at : (low transmission : ℕ) (bytes : List ℕ) → load_in (plain d (shows d)) ≡ Carries low transmission bytes → IsAt own n k ps low bytes

-- what was received, of n parts that were sent
pub record Keeps (own n : ℕ) (ps : List (List ℕ)) (g : Got) : Type 0 where
  pub reach : ℕ
  pub reached : reach ≤ n
  pub low : next_number own g.numbers % modulus ≡ (own + reach) % modulus
  pub picked : IsPickOf g.parts (take reach ps)

-- ---- more is sent

pub flies_on : (own n m k : ℕ) (ps : List (List ℕ)) (d : List ℕ) → n ≤ m → m ≤ n + 1 → Flies own n k ps d → Flies own m (suc k) ps d
flies_on own n m k ps d low high h = record {
  at = λ x q bytes e. (let i = h.at x q bytes e in record {
    place = i.place;
    made = omega (arith, i.made);
    recent = omega (arith, i.recent);
    low_is = i.low_is;
    there = i.there;
  });
}

pub flies_posted : (own n k : ℕ) (ps : List (List ℕ)) (b d : List ℕ) → n ≤ length ps → Flies own n k ps d → Flies own n k (ps ++ b ∷ []) d
flies_posted own n k ps b d within h = record {
  at = λ x q bytes e. (let i = h.at x q bytes e in record {
    place = i.place;
    made = i.made;
    recent = i.recent;
    low_is = i.low_is;
    there = take-append-le (i.place + 1) ps (b ∷ []) (omega (arith, i.made)) ∙ i.there
        ∙ ap (λ xs. xs ++ bytes ∷ []) (sym (take-append-le i.place ps (b ∷ []) (omega (arith, i.made))));
  });
}

pub keeps_on : (own n m : ℕ) (ps : List (List ℕ)) (g : Got) → n ≤ m → Keeps own n ps g → Keeps own m ps g
keeps_on own n m ps g le h = record { reach = h.reach; reached = omega (arith, h.reached); low = h.low; picked = h.picked }

pub keeps_posted : (own n : ℕ) (ps : List (List ℕ)) (b : List ℕ) (g : Got) → n ≤ length ps → Keeps own n ps g → Keeps own n (ps ++ b ∷ []) g
keeps_posted own n ps b g within h = record {
  reach = h.reach;
  reached = h.reached;
  low = h.low;
  picked = pick-at g.parts g.parts (take h.reach ps) (take h.reach (ps ++ b ∷ [])) refl (sym (take-append-le h.reach ps (b ∷ []) (omega (arith, h.reached)))) h.picked;
}

-- ---- a part comes

same_low : (x y d : ℕ) → x % modulus ≡ y % modulus → (x + d) % modulus ≡ (y + d) % modulus
same_low x y d e = sym (mod-add-mod x modulus d) ∙ ap (λ r. (r + d) % modulus) e ∙ mod-add-mod y modulus d

-- A number that is not below the one expected, and near it, shows no part that was sent before the one
-- behind the last accepted one, where few datagrams were sent since.
no_older : (own next x place reach k : ℕ) → next % modulus ≡ (own + reach) % modulus → x % modulus ≡ (own + place) % modulus
    → next ≤ x → x < next + 2 ^ 31 → reach ≤ place + 1 + k → k < 2 ^ 31 → reach ≤ place
no_older own next x place reach k low shown above below recent few = elim (cases_lt place reach) [
  | inl older ↦ absurd (
      let d = reach - place in
      let back : own + place + d ≡ own + reach = omega arith in
      let one = same_low x (own + place) d shown ∙ ap (λ n. n % modulus) back in
      let same = close_same modulus ((own + reach) % modulus) (x + d) next (omega arith) one low (omega arith) (omega arith) in
      omega (arith, same)
      )
  | inr late ↦ late
]

-- the number that was read
read_is : (own low x : ℕ) (numbers : List ℕ) → low < modulus → number_read own numbers low ≡ Some x → (x % modulus ≡ low) × (x < next_number own numbers + 2 ^ 31)
read_is own low x numbers small e =
    let next = next_number own numbers in
    let near = is_near (nearest modulus next low) x e in
    let is : IsNear modulus next low x = subst (Near modulus next low) near (nearest_is (2 ^ 31) next low (omega arith) small) in
    (is.low_part, omega (arith, is.below))
  where
    is_bounded : (b : Bool) (y x : ℕ) → (if b then Some y else None) ≡ Some x → Some y ≡ Some x
    is_bounded true y x h = h
    is_bounded false y x h = cc

    is_near : (o : Option ℕ) (x : ℕ) → bounded NUMBERS o ≡ Some x → o ≡ Some x
    is_near None x h = cc
    is_near (Some y) x h = is_bounded (nat_lt y NUMBERS) y x h

-- a part that is used has a number that is not below the one expected
used_above : (least waiting x : ℕ) → Used ≡ part_answer least waiting x → least ≤ x
used_above least waiting x e = by (nat_le NUMBERS x) (nat_lt x least) refl e
  where
    by : (a b : Bool) → nat_lt x least ≡ b → Used ≡ (if a then Ignored (reason.Beyond WINDOW) else (if b then Ignored reason.Old else (if nat_lt waiting WINDOW then Used else Ignored (reason.Beyond WINDOW)))) → least ≤ x
    by true b f e = cc
    by false true f e = cc
    by false false f e = grind (arith, nat_tests)

-- the number expected after it
next_after : (own x : ℕ) (numbers : List ℕ) → next_number own numbers ≤ x → next_number own (x ∷ numbers) ≡ x + 1
next_after own x [] h = omega arith
next_after own x (m ∷ numbers) h = omega arith

picked_more : (ps parts : List (List ℕ)) (reach place : ℕ) (bytes : List ℕ) → reach ≤ place → IsPickOf parts (take reach ps) → IsPlace ps place bytes
    → IsPickOf (parts ++ bytes ∷ []) (take (place + 1) ps)
picked_more ps parts reach place bytes le h there =
    let front = take_less ps reach place le in
    let more = pick-append parts (take reach ps) [] (drop reach (take place ps)) h (pick-nothing (drop reach (take place ps))) in
    let whole = pick-at (parts ++ []) parts (take reach ps ++ drop reach (take place ps)) (take place ps) (append-nil parts) front more in
    let all = pick-append parts (take place ps) (bytes ∷ []) (bytes ∷ []) whole (pick-same (bytes ∷ [])) in
    pick-at (parts ++ bytes ∷ []) (parts ++ bytes ∷ []) (take place ps ++ bytes ∷ []) (take (place + 1) ps) refl (sym there) all
  where
    take_less : (ps : List (List ℕ)) (n m : ℕ) → n ≤ m → take n ps ++ drop n (take m ps) ≡ take m ps
    take_less ps n m le = ap (λ f. f ++ drop n (take m ps)) (sym (take_take ps n m le)) ∙ take-append-drop n (take m ps)
      where
        take_take : (ps : List (List ℕ)) (n m : ℕ) → n ≤ m → take n (take m ps) ≡ take n ps
        take_take ps zero m le = refl
        take_take ps (suc n) zero le = absurd (omega (arith, le))
        take_take [] (suc n) (suc m) le = refl
        take_take (p ∷ ps) (suc n) (suc m) le = ap (λ f. p ∷ f) (take_take ps n m (omega (arith, le)))

part_comes : (own n k waiting : ℕ) (ps : List (List ℕ)) (g : Got) (low : ℕ) (bytes : List ℕ) (x : ℕ) → k < 2 ^ 31 → Keeps own n ps g → IsAt own n k ps low bytes
    → number_read own g.numbers low ≡ Some x → Used ≡ part_answer (next_number own g.numbers) waiting x
    → Keeps own n ps (record g { numbers = x ∷ g.numbers; parts = g.parts ++ bytes ∷ [] })
part_comes own n k waiting ps g low bytes x few h i read used =
    let next = next_number own g.numbers in
    let small : low < modulus = omega (arith, i.low_is) in
    let near = read_is own low x g.numbers small read in
    let above = used_above next waiting x used in
    let shown = near.0 ∙ i.low_is in
    let onward = no_older own next x i.place h.reach k h.low shown above near.1 (omega (arith, h.reached, i.recent)) few in
    let after = next_after own x g.numbers above in
    let place : own + i.place + 1 ≡ own + (i.place + 1) = omega arith in
    record {
      reach = i.place + 1;
      reached = omega (arith, i.made);
      low = ap (λ m. m % modulus) after ∙ same_low x (own + i.place) 1 shown ∙ ap (λ m. m % modulus) place;
      picked = picked_more ps g.parts h.reach i.place bytes onward h.picked i.there;
    }

-- ---- a datagram comes

part_by : (own n k waiting : ℕ) (ps : List (List ℕ)) (g : Got) (low : ℕ) (bytes : List ℕ) (o : Option ℕ) (took : Took) → k < 2 ^ 31 → Keeps own n ps g → IsAt own n k ps low bytes
    → number_read own g.numbers low ≡ o → took ≡ answer_number own g.numbers waiting o
    → Keeps own n ps (with_part took o bytes g)
part_by own n k waiting ps g low bytes o (Ignored why) few h i read is = h
part_by own n k waiting ps g low bytes None Used few h i read is = h
part_by own n k waiting ps g low bytes (Some x) Used few h i read is = part_comes own n k waiting ps g low bytes x few h i read is

load_comes : (own n k waiting : ℕ) (ps : List (List ℕ)) (g : Got) (load : Load) → k < 2 ^ 31 → Keeps own n ps g
    → ((low q : ℕ) (bytes : List ℕ) → load ≡ Carries low q bytes → IsAt own n k ps low bytes) → Keeps own n ps (with_load own waiting load g)
load_comes own n k waiting ps g Empty few h i = h
load_comes own n k waiting ps g (Carries low q bytes) few h i = part_by own n k waiting ps g low bytes _ _ few h (i low q bytes refl) refl refl
load_comes own n k waiting ps g (Dummy q) few h i = h
load_comes own n k waiting ps g Correction few h i = h

-- with another floor or window
keeps_same : (own n : ℕ) (ps : List (List ℕ)) (g : Got) (floor window : ℕ) → Keeps own n ps g → Keeps own n ps (record g { floor = floor; window = window })
keeps_same own n ps g floor window h = record { reach = h.reach; reached = h.reached; low = h.low; picked = h.picked }

pub reading_comes : (own n k waiting : ℕ) (ps : List (List ℕ)) (g : Got) (r : Reading) → k < 2 ^ 31 → Keeps own n ps g
    → ((low q : ℕ) (bytes : List ℕ) → load_in r ≡ Carries low q bytes → IsAt own n k ps low bytes) → Keeps own n ps (with_reading own waiting r g)
reading_comes own n k waiting ps g (Refuses why) few h i = h
reading_comes own n k waiting ps g (Shows shown) few h i =
    let set : Got = record g { window = unwrap_or shown.window g.window } in
    let came = load_comes own n k waiting ps set shown.load few (keeps_same own n ps g g.floor (unwrap_or shown.window g.window) h) i in
    record { reach = came.reach; reached = came.reached; low = came.low; picked = came.picked }

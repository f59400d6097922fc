-- What a telling does to a sender alone; how far it reaches, and what it has queued.
use Rattle.std.proofs.Common.{◌≡◌, ℕ, zero, suc, ◌+◌, ◌-◌, ◌<◌, ◌≤◌, Bool, true, false, eqb, ltb, cond, ◌||◌, ◌&&◌, length, All, Option, Some, None, refl, sym, ap, subst, arith}
use Rattle.mt_base.specs.Trace.{Trace, ◌▷◌}
use Rattle.mt_windows.specs.Sending.Act.{ToldPart, ToldTransmission}
use Rattle.mt_windows.specs.Sending.{Act, Limits, cuts, given, is_open, is_recent, last_end, latest, lowest_or_next, part_of, piece, queued, reach, settled, sum_of, told, transmissions}
use Rattle.mt_windows.proofs.Counts.{last_le}
use Rattle.mt_windows.proofs.Pieces.{all_bytes}
use Rattle.carrier.specs.Layout.{Layout, Shown, Telling, named_in, with_named, tells, read_near}
use Rattle.carrier.specs.Sending.{tell_parts, tell_transmissions, tell_all, told_reference, hears_named, hears_telling, hears}
use Rattle.carrier.proofs.links.Invariant.{Even, Keeps}
use Rattle.carrier.proofs.links.Numbers.{open_cut, open_unsettled, open_from, settled_cut}

-- ---- a telling

pub record Informs (l : Limits) (a b : Trace Act) : Type 0 where
  pub keeps : Keeps l a b
  pub given_is : given b ≡ given a

pub keeps_all : (l : Limits) (a : Trace Act) → Keeps l a a
keeps_all l a = record {
  cuts_are = refl;
  made_are = refl;
  pieces_are = λ p. refl;
  stands = λ j. refl;
  settles = λ p is. is;
  knows = λ j is. is;
}

informs_nothing : (l : Limits) (a : Trace Act) → Informs l a a
informs_nothing l a = record { keeps = keeps_all l a; given_is = refl }

informs_part : (l : Limits) (a b : Trace Act) (q : ℕ) → Informs l a b → Informs l a (b ▷ ToldPart q)
informs_part l a b q h = record {
  keeps = record {
    cuts_are = h.keeps.cuts_are;
    made_are = h.keeps.made_are;
    pieces_are = h.keeps.pieces_are;
    stands = h.keeps.stands;
    settles = λ p is. ap (λ x. x || (eqb p q && ltb q (cuts b))) (h.keeps.settles p is);
    knows = λ j is. ap (λ x. x || (is_open l b q && eqb j (latest b q))) (h.keeps.knows j is);
  };
  given_is = h.given_is;
}

informs_transmission : (l : Limits) (a b : Trace Act) (i : ℕ) → Informs l a b → Informs l a (b ▷ ToldTransmission i)
informs_transmission l a b i h = record {
  keeps = record {
    cuts_are = h.keeps.cuts_are;
    made_are = h.keeps.made_are;
    pieces_are = h.keeps.pieces_are;
    stands = h.keeps.stands;
    settles = λ p is. ap (λ x. x || (is_recent l b i && eqb (part_of b i) p)) (h.keeps.settles p is);
    knows = λ j is. ap (λ x. x || (is_recent l b i && eqb j i)) (h.keeps.knows j is);
  };
  given_is = h.given_is;
}

pub informs_parts : (l : Limits) (test : ℕ → Bool) (from n : ℕ) (a : Trace Act) → Informs l a (tell_parts test from n a)
informs_parts l test from zero a = informs_nothing l a
informs_parts l test from (suc n) a = by_test (informs_parts l test from n a) (test (from + n))
  where
    by_test : Informs l a (tell_parts test from n a) → (b : Bool) → Informs l a (cond b (tell_parts test from n a ▷ ToldPart (from + n)) (tell_parts test from n a))
    by_test rest true = informs_part l a (tell_parts test from n a) (from + n) rest
    by_test rest false = rest

pub informs_transmissions : (l : Limits) (test : ℕ → Bool) (from n : ℕ) (a : Trace Act) → Informs l a (tell_transmissions test from n a)
informs_transmissions l test from zero a = informs_nothing l a
informs_transmissions l test from (suc n) a = by_test (informs_transmissions l test from n a) (test (from + n))
  where
    by_test : Informs l a (tell_transmissions test from n a) → (b : Bool) → Informs l a (cond b (tell_transmissions test from n a ▷ ToldTransmission (from + n)) (tell_transmissions test from n a))
    by_test rest true = informs_transmission l a (tell_transmissions test from n a) (from + n) rest
    by_test rest false = rest

-- whatever a datagram shows
pub informs_hears : (l : Layout) (a : Trace Act) (o : Option Shown) → Informs l.bounds.windows a (hears l a o)
informs_hears l a None = informs_nothing l.bounds.windows a
informs_hears l a (Some shown) = by_telling shown.telling
  where
    all : (f : ℕ → Bool) → Informs l.bounds.windows a (tell_all l a f)
    all f = by_kind l.tells_parts
      where
        by_kind : (kind : Bool) → Informs l.bounds.windows a (cond kind (tell_parts (λ p. f (l.own + p)) (lowest_or_next l.bounds.windows a) (cuts a - lowest_or_next l.bounds.windows a) a)
            (tell_transmissions (λ j. f (l.own + j)) (transmissions a - l.bounds.windows.span) (transmissions a - (transmissions a - l.bounds.windows.span)) a))
        by_kind true = informs_parts l.bounds.windows (λ p. f (l.own + p)) (lowest_or_next l.bounds.windows a) (cuts a - lowest_or_next l.bounds.windows a) a
        by_kind false = informs_transmissions l.bounds.windows (λ j. f (l.own + j)) (transmissions a - l.bounds.windows.span) (transmissions a - (transmissions a - l.bounds.windows.span)) a

    by_number : (telling : Telling) (n : Option ℕ) → Informs l.bounds.windows a (hears_named l a telling n)
    by_number telling None = informs_nothing l.bounds.windows a
    by_number telling (Some n) = all (tells (with_named n telling))

    by_telling : (telling : Option Telling) → Informs l.bounds.windows a (hears_telling l a telling)
    by_telling None = informs_nothing l.bounds.windows a
    by_telling (Some telling) = by_number telling (read_near l (told_reference l a) (named_in telling))

-- ---- the reach

last_more : (f g : ℕ → Bool) (n : ℕ) → ((j : ℕ) → f j ≡ true → g j ≡ true) → last_end f n ≤ last_end g n
last_more f g zero h = omega arith
last_more f g (suc n) h = by_test (last_more f g n h) (f n) (g n) refl refl
  where
    by_test : last_end f n ≤ last_end g n → (b c : Bool) → f n ≡ b → g n ≡ c → cond b (suc n) (last_end f n) ≤ cond c (suc n) (last_end g n)
    by_test old true true e k = omega arith
    by_test old true false e k = absurd (let x = h n e in cc)
    by_test old false true e k = omega (arith, last_le f n)
    by_test old false false e k = old

last_next : (f : ℕ → Bool) (n : ℕ) → last_end f n ≤ last_end f (suc n)
last_next f n = by_test (f n)
  where
    by_test : (b : Bool) → last_end f n ≤ cond b (suc n) (last_end f n)
    by_test true = omega (arith, last_le f n)
    by_test false = omega arith

-- one transmission more reaches one further
pub reach_next : (f : ℕ → Bool) (made span : ℕ) → made - last_end f made < span → made + 1 - last_end f (made + 1) ≤ span
reach_next f made span less =
    let e : made + 1 ≡ suc made = omega arith in
    subst (λ m. made + 1 - last_end f m ≤ span) (sym e) (omega (arith, less, last_next f made))

pub reach_keeps : (l : Limits) (a b : Trace Act) → Keeps l a b → reach l b ≤ reach l a
reach_keeps l a b h =
    let e : last_end (told l b) (transmissions b) ≡ last_end (told l b) (transmissions a) = ap (last_end (told l b)) h.made_are in
    omega (arith, e, h.made_are, last_more (told l a) (told l b) (transmissions a) h.knows)

-- ---- a sender alone

pub even_keeps : (l : Limits) (own : ℕ) (a b : Trace Act) → Keeps l a b → All (λ x. x < 256) (given b) → Even l own a → Even l own b
even_keeps l own a b g good h = record {
  window = λ p is. let cut = open_cut l b p is in omega (arith, g.cuts_are, h.window p (open_from l a p (omega (arith, cut, g.cuts_are)) (was (settled l a p) p refl is)));
  numbers = λ less. omega (arith, g.cuts_are, h.numbers less);
  made = λ less. omega (arith, g.made_are, h.made less);
  reaches = omega (arith, reach_keeps l a b g, h.reaches);
  bytes = good;
  pieces = λ p. subst (λ xs. (length xs ≤ l.part) × All (λ x. x < 256) xs) (sym (g.pieces_are p)) (h.pieces p);
}
  where
    was : (x : Bool) (p : ℕ) → settled l a p ≡ x → is_open l b p ≡ true → settled l a p ≡ false
    was false p e is = e
    was true p e is = absurd (let f = g.settles p e in let o = open_unsettled l b p is in cc)

pub even_informs : (l : Limits) (own : ℕ) (a b : Trace Act) → Informs l a b → Even l own a → Even l own b
even_informs l own a b g h = even_keeps l own a b g.keeps (subst (All (λ x. x < 256)) (sym g.given_is) h.bytes) h

-- ---- what is queued

sum_less : (f g : ℕ → ℕ) (n : ℕ) → ((p : ℕ) → p < n → f p ≤ g p) → sum_of f n ≤ sum_of g n
sum_less f g zero h = omega arith
sum_less f g (suc n) h = omega (arith, sum_less f g n (λ p less. h p (omega (arith, less))), h n (omega arith))

sum_longer : (g : ℕ → ℕ) (n d : ℕ) → sum_of g n ≤ sum_of g (n + d)
sum_longer g n zero = let e : n + 0 ≡ n = omega arith in subst (λ m. sum_of g n ≤ sum_of g m) (sym e) (omega arith)
sum_longer g n (suc d) =
    let e : n + suc d ≡ suc (n + d) = omega arith in
    subst (λ m. sum_of g n ≤ sum_of g m) (sym e) (omega (arith, sum_longer g n d))

sum_more : (f g : ℕ → ℕ) (n m : ℕ) → n ≤ m → ((p : ℕ) → p < n → f p ≤ g p) → sum_of f n ≤ sum_of g m
sum_more f g n m le h =
    let e : n + (m - n) ≡ m = omega (arith, le) in
    let longer : sum_of g n ≤ sum_of g m = subst (λ k. sum_of g n ≤ sum_of g k) e (sum_longer g n (m - n)) in
    omega (arith, sum_less f g n h, longer)

-- no more is queued where nothing was given, and no part was lost
pub queued_less : (l : Limits) (a b : Trace Act) → given b ≡ given a → cuts a ≤ cuts b → ((p : ℕ) → p < cuts a → piece l b p ≡ piece l a p) → ((p : ℕ) → settled l a p ≡ true → settled l b p ≡ true) → queued l b ≤ queued l a
queued_less l a b is_given more same settles =
    omega (
      arith,
      all_bytes l a,
      all_bytes l b,
      ap length is_given,
      sum_more (λ p. cond (is_open l a p) 0 (length (piece l a p))) (λ p. cond (is_open l b p) 0 (length (piece l b p))) (cuts a) (cuts b) more
          (λ p less. by_open p less (is_open l a p) (is_open l b p) refl refl),
    )
  where
    by_open : (p : ℕ) → p < cuts a → (x y : Bool) → is_open l a p ≡ x → is_open l b p ≡ y → cond x 0 (length (piece l a p)) ≤ cond y 0 (length (piece l b p))
    by_open p less true y e is = omega arith
    by_open p less false true e is = absurd (let s = settles p (settled_cut l a p e less) in let o = open_unsettled l b p is in cc)
    by_open p less false false e is = omega (arith, ap length (same p less))

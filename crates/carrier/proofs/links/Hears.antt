-- What a telling does to the sender that hears it.
use Rattle.std.proofs.Common.{◌≡◌, ℕ, zero, suc, ◌+◌, ◌-◌, ◌⊎◌, inl, inr, Bool, true, false, eqb, ltb, cond, ◌&&◌, is_some, refl, sym, ap, ◌∙◌, arith}
use Rattle.std.proofs.lemmas.Bool.{and_parts}
use Rattle.std.proofs.lemmas.Bool.Decides.{nat_tests}
use Rattle.mt_base.specs.Trace.{Trace, ◌▷◌}
use Rattle.mt_windows.specs.Arrived.{part_at}
use Rattle.mt_windows.specs.Noted.{is_noted}
use Rattle.mt_windows.specs.Sending.Act.{ToldPart, ToldTransmission}
use Rattle.mt_windows.specs.Sending.{Act, Limits, cuts, is_recent, lowest_or_next, part_of, settled, told, transmissions}
use Rattle.mt_windows.proofs.Pieces.{or_true}
use Rattle.carrier.specs.Layout.{Received, Telling, Upto, From, named_in, with_named}
use Rattle.carrier.specs.Sending.{tell_parts, tell_transmissions}
use Rattle.carrier.proofs.links.Invariant.{Follows, Hears, Keeps, has}
use Rattle.carrier.proofs.links.Informed.{informs_parts, informs_transmissions, keeps_all}
use Rattle.carrier.proofs.links.Parts.{has_there}

pub hears_nothing : (kind : Bool) (l : Limits) (own : ℕ) (a : Trace Act) (r : Received) → Hears kind l own a a r
hears_nothing kind l own a r = record { keeps = keeps_all l a; settled_by = λ p is. inl is; known_by = λ e j is. inl is }

-- ---- parts that are told

settled_by_parts : (l : Limits) (test : ℕ → Bool) (from n : ℕ) (a : Trace Act) (p : ℕ) → settled l (tell_parts test from n a) p ≡ true → (settled l a p ≡ true) ⊎ (test p ≡ true)
settled_by_parts l test from zero a p is = inl is
settled_by_parts l test from (suc n) a p is = by_test (settled_by_parts l test from n a p) (test (from + n)) refl is
  where
    of_told : (settled l (tell_parts test from n a) p ≡ true → (settled l a p ≡ true) ⊎ (test p ≡ true)) → test (from + n) ≡ true
        → (settled l (tell_parts test from n a) p ≡ true) ⊎ (eqb p (from + n) && ltb (from + n) (cuts (tell_parts test from n a)) ≡ true) → (settled l a p ≡ true) ⊎ (test p ≡ true)
    of_told rest e (inl old) = rest old
    of_told rest e (inr new) =
        let here = (and_parts (eqb p (from + n)) (ltb (from + n) (cuts (tell_parts test from n a))) new).0 in
        let same : p ≡ from + n = grind (arith, nat_tests) in
        inr (ap test same ∙ e)

    by_test : (settled l (tell_parts test from n a) p ≡ true → (settled l a p ≡ true) ⊎ (test p ≡ true)) → (b : Bool) → test (from + n) ≡ b
        → settled l (cond b (tell_parts test from n a ▷ ToldPart (from + n)) (tell_parts test from n a)) p ≡ true → (settled l a p ≡ true) ⊎ (test p ≡ true)
    by_test rest true e h = of_told rest e (or_true (settled l (tell_parts test from n a) p) (eqb p (from + n) && ltb (from + n) (cuts (tell_parts test from n a))) h)
    by_test rest false e h = rest h

-- ---- transmissions that are told

-- a part is settled by a transmission that carried it
pub data SettledBy (l : Limits) (test : ℕ → Bool) (a : Trace Act) (p : ℕ) : Type 0 where
  Before : settled l a p ≡ true → SettledBy l test a p
  Now : (j : ℕ) → test j ≡ true → part_of a j ≡ p → SettledBy l test a p

settled_by_transmissions : (l : Limits) (test : ℕ → Bool) (from n : ℕ) (a : Trace Act) (p : ℕ) → settled l (tell_transmissions test from n a) p ≡ true → SettledBy l test a p
settled_by_transmissions l test from zero a p is = Before is
settled_by_transmissions l test from (suc n) a p is =
    by_test (settled_by_transmissions l test from n a p) (informs_transmissions l test from n a).keeps (test (from + n)) refl is
  where
    of_told : (settled l (tell_transmissions test from n a) p ≡ true → SettledBy l test a p) → Keeps l a (tell_transmissions test from n a) → test (from + n) ≡ true
        → (settled l (tell_transmissions test from n a) p ≡ true) ⊎ (is_recent l (tell_transmissions test from n a) (from + n) && eqb (part_of (tell_transmissions test from n a) (from + n)) p ≡ true) → SettledBy l test a p
    of_told rest g e (inl old) = rest old
    of_told rest g e (inr new) =
        let here = (and_parts (is_recent l (tell_transmissions test from n a) (from + n)) (eqb (part_of (tell_transmissions test from n a) (from + n)) p) new).1 in
        let same : part_of (tell_transmissions test from n a) (from + n) ≡ p = grind (arith, nat_tests) in
        Now (from + n) e (sym (g.stands (from + n)) ∙ same)

    by_test : (settled l (tell_transmissions test from n a) p ≡ true → SettledBy l test a p) → Keeps l a (tell_transmissions test from n a) → (b : Bool) → test (from + n) ≡ b
        → settled l (cond b (tell_transmissions test from n a ▷ ToldTransmission (from + n)) (tell_transmissions test from n a)) p ≡ true → SettledBy l test a p
    by_test rest g true e h =
        of_told rest g e (or_true (settled l (tell_transmissions test from n a) p) (is_recent l (tell_transmissions test from n a) (from + n) && eqb (part_of (tell_transmissions test from n a) (from + n)) p) h)
    by_test rest g false e h = rest h

known_by_transmissions : (l : Limits) (test : ℕ → Bool) (from n : ℕ) (a : Trace Act) (j : ℕ) → told l (tell_transmissions test from n a) j ≡ true → (told l a j ≡ true) ⊎ (test j ≡ true)
known_by_transmissions l test from zero a j is = inl is
known_by_transmissions l test from (suc n) a j is = by_test (known_by_transmissions l test from n a j) (test (from + n)) refl is
  where
    of_told : (told l (tell_transmissions test from n a) j ≡ true → (told l a j ≡ true) ⊎ (test j ≡ true)) → test (from + n) ≡ true
        → (told l (tell_transmissions test from n a) j ≡ true) ⊎ (is_recent l (tell_transmissions test from n a) (from + n) && eqb j (from + n) ≡ true) → (told l a j ≡ true) ⊎ (test j ≡ true)
    of_told rest e (inl old) = rest old
    of_told rest e (inr new) =
        let here = (and_parts (is_recent l (tell_transmissions test from n a) (from + n)) (eqb j (from + n)) new).1 in
        let same : j ≡ from + n = grind (arith, nat_tests) in
        inr (ap test same ∙ e)

    by_test : (told l (tell_transmissions test from n a) j ≡ true → (told l a j ≡ true) ⊎ (test j ≡ true)) → (b : Bool) → test (from + n) ≡ b
        → told l (cond b (tell_transmissions test from n a ▷ ToldTransmission (from + n)) (tell_transmissions test from n a)) j ≡ true → (told l a j ≡ true) ⊎ (test j ≡ true)
    by_test rest true e h = of_told rest e (or_true (told l (tell_transmissions test from n a) j) (is_recent l (tell_transmissions test from n a) (from + n) && eqb j (from + n)) h)
    by_test rest false e h = rest h

-- ---- what is told was received

-- the sender after a telling, by what is told
abbrev pub tell_by : Bool → Limits → ℕ → Trace Act → (ℕ → Bool) → Trace Act
tell_by kind l own a f =
    cond kind (tell_parts (λ p. f (own + p)) (lowest_or_next l a) (cuts a - lowest_or_next l a) a)
    (tell_transmissions (λ j. f (own + j)) (transmissions a - l.span) (transmissions a - (transmissions a - l.span)) a)

pub hears_all : (kind : Bool) (l : Limits) (own : ℕ) (a : Trace Act) (r : Received) (n : ℕ) (f : ℕ → Bool) → Follows kind l own a r n → ((q : ℕ) → f (own + q) ≡ true → has kind own r (own + q) ≡ true) → Hears kind l own a (tell_by kind l own a f) r
hears_all true l own a r n f now h = record {
  keeps = (informs_parts l (λ p. f (own + p)) (lowest_or_next l a) (cuts a - lowest_or_next l a) a).keeps;
  settled_by = λ p is. of_told p (settled_by_parts l (λ q. f (own + q)) (lowest_or_next l a) (cuts a - lowest_or_next l a) a p is);
  known_by = λ e j is. absurd (cc);
}
  where
    of_told : (p : ℕ) → (settled l a p ≡ true) ⊎ (f (own + p) ≡ true) → (settled l a p ≡ true) ⊎ (is_some (part_at r.parts p) ≡ true)
    of_told p (inl e) = inl e
    of_told p (inr e) = inr (has_there own r.parts (own + p) p refl (h p e))
hears_all false l own a r n f now h = record {
  keeps = (informs_transmissions l (λ j. f (own + j)) old (transmissions a - old) a).keeps;
  settled_by = λ p is. of_told p (settled_by_transmissions l (λ j. f (own + j)) old (transmissions a - old) a p is);
  known_by = λ e j is. of_known j (known_by_transmissions l (λ i. f (own + i)) old (transmissions a - old) a j is);
}
  where
    old : ℕ
    old = transmissions a - l.span

    -- the part of a transmission that was seen was accepted
    came : (j p : ℕ) → part_of a j ≡ p → is_noted (own + j) r.seen ≡ true → is_some (part_at r.parts p) ≡ true
    came j p stands is =
        let w = now.seen refl (own + j) is in
        let number = w.number in
        let same : w.place ≡ j = omega (arith, number) in
        sym (ap (λ q. is_some (part_at r.parts q)) (ap (part_of a) same ∙ stands)) ∙ w.came

    of_told : (p : ℕ) → SettledBy l (λ j. f (own + j)) a p → (settled l a p ≡ true) ⊎ (is_some (part_at r.parts p) ≡ true)
    of_told p (Before e) = inl e
    of_told p (Now j e stands) = inr (came j p stands (h j e))

    of_known : (j : ℕ) → (told l a j ≡ true) ⊎ (f (own + j) ≡ true) → (told l a j ≡ true) ⊎ (is_noted (own + j) r.seen ≡ true)
    of_known j (inl e) = inl e
    of_known j (inr e) = inr (h j e)

-- ---- the number that is named

pub named_with : (n : ℕ) (t : Telling) → named_in (with_named n t) ≡ n
named_with n (Upto named flags) = refl
named_with n (From named flags) = refl

pub with_again : (n k : ℕ) (t : Telling) → with_named n (with_named k t) ≡ with_named n t
with_again n k (Upto named flags) = refl
with_again n k (From named flags) = refl

pub with_own : (t : Telling) → with_named (named_in t) t ≡ t
with_own (Upto named flags) = refl
with_own (From named flags) = refl

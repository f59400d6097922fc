-- Lemmas on tellings.
use Rattle.std.proofs.Common.{◌≡◌, ℕ, zero, suc, ◌+◌, ◌-◌, ◌<◌, ◌≤◌, ◌⊎◌, inl, inr, Bool, true, false, not, eqb, ltb, leb, cond, ◌||◌, ◌&&◌, List, length, get_or, Option, Some, None, is_some, IsSome, refl, sym, ap, ◌∙◌, subst, arith}
use Rattle.std.proofs.lemmas.Bool.{cases_lt, cases_eq}
use Rattle.std.proofs.lemmas.Bool.Decides.{nat_tests}
use Rattle.mt_base.specs.Trace.{Trace, ◌▷◌}
use Rattle.mt_windows.specs.declared.flight.Flight.{Flight}
use Rattle.mt_windows.specs.FlightView.{flight_at, slot_at, bytes_in}
use Rattle.mt_windows.specs.Sending.Act.{ToldPart, ToldTransmission}
use Rattle.mt_windows.specs.Sending.{Act, cuts, waiting, piece, part_of, transmissions, is_recent, settled, last_end, sum_of, is_open, told, latest, earliest, queued, tells_part, tells_transmission, settles_transmission}
use Rattle.mt_windows.specs.SendingView.{Outbox, IsSoundOut, IsFlight, Remembers, Flying, Heard, Sends, limits, queued_of, heard_of, IsRebased}
use Rattle.mt_windows.proofs.Counts.{heard_step}
use Rattle.mt_windows.proofs.InFlight.{open_of, and_no, sum_same, queued_from, queued_is}

-- ---- a telling
pub heard_of_is : (w : Outbox) (f g : ℕ → Bool) (j : ℕ) → Heard w.told w.second w.third w.made f → j < w.made → ((i : ℕ) → g i ≡ f i || eqb i j)
    → Heard (heard_of w j).told (heard_of w j).second (heard_of w j).third w.made g
heard_of_is w f g j h l is = by_told (ltb w.told (j + 1)) refl
  where
    step : (w.told < j + 1 → Heard (j + 1) w.told w.second w.made g) × (j + 1 < w.told → w.second < j + 1 → Heard w.told (j + 1) w.second w.made g) × (j + 1 < w.second → w.third < j + 1 → Heard w.told w.second (j + 1) w.made g)
        × (j + 1 ≤ w.told → (j + 1 < w.told → j + 1 ≤ w.second) → (j + 1 < w.second → j + 1 ≤ w.third) → Heard w.told w.second w.third w.made g)
    step = heard_step f g w.told w.second w.third w.made j h l is

    by_third : j + 1 ≤ w.told → (j + 1 < w.told → j + 1 ≤ w.second) → (b : Bool) → ltb (j + 1) w.second && ltb w.third (j + 1) ≡ b
        → Heard (cond b (record w { third = j + 1 }) w).told (cond b (record w { third = j + 1 }) w).second (cond b (record w { third = j + 1 }) w).third w.made g
    by_third le no_second true e = step.2 (grind (arith, nat_tests)) (grind (arith, nat_tests))
    by_third le no_second false e = step.3 le no_second (λ low. grind (arith, nat_tests))

    by_second : j + 1 ≤ w.told → (b : Bool) → ltb (j + 1) w.told && ltb w.second (j + 1) ≡ b
        → Heard (cond b (record w { second = j + 1; third = w.second }) (cond (ltb (j + 1) w.second && ltb w.third (j + 1)) (record w { third = j + 1 }) w)).told
        (cond b (record w { second = j + 1; third = w.second }) (cond (ltb (j + 1) w.second && ltb w.third (j + 1)) (record w { third = j + 1 }) w)).second
        (cond b (record w { second = j + 1; third = w.second }) (cond (ltb (j + 1) w.second && ltb w.third (j + 1)) (record w { third = j + 1 }) w)).third w.made g
    by_second le true e = step.1 (grind (arith, nat_tests)) (grind (arith, nat_tests))
    by_second le false e = by_third le (λ low. grind (arith, nat_tests)) (ltb (j + 1) w.second && ltb w.third (j + 1)) refl

    by_told : (b : Bool) → ltb w.told (j + 1) ≡ b
        → Heard (cond b (record w { told = j + 1; second = w.told; third = w.second }) (cond (ltb (j + 1) w.told && ltb w.second (j + 1)) (record w { second = j + 1; third = w.second }) (cond (ltb (j + 1) w.second && ltb w.third (j + 1)) (record w { third = j + 1 }) w))).told
        (cond b (record w { told = j + 1; second = w.told; third = w.second }) (cond (ltb (j + 1) w.told && ltb w.second (j + 1)) (record w { second = j + 1; third = w.second }) (cond (ltb (j + 1) w.second && ltb w.third (j + 1)) (record w { third = j + 1 }) w))).second
        (cond b (record w { told = j + 1; second = w.told; third = w.second }) (cond (ltb (j + 1) w.told && ltb w.second (j + 1)) (record w { second = j + 1; third = w.second }) (cond (ltb (j + 1) w.second && ltb w.third (j + 1)) (record w { third = j + 1 }) w))).third w.made g
    by_told true e = step.0 (grind (arith, nat_tests))
    by_told false e = by_second (grind (arith, nat_tests)) (ltb (j + 1) w.told && ltb w.second (j + 1)) refl

pub last_same : (f g : ℕ → Bool) (n : ℕ) → ((i : ℕ) → f i ≡ g i) → last_end f n ≡ last_end g n
last_same f g zero h = refl
last_same f g (suc n) h = ap (λ b. cond b (suc n) (last_end f n)) (h n) ∙ ap (cond (g n) (suc n)) (last_same f g n h)

pub heard_same : (a b c made : ℕ) (f g : ℕ → Bool) → Heard a b c made f → ((i : ℕ) → g i ≡ f i) → Heard a b c made g
heard_same a b c made f g h same = record {
  last = h.last ∙ sym (last_same g f made same);
  second = h.second ∙ sym (last_same g f (a - 1) same);
  third = h.third ∙ sym (last_same g f (b - 1) same);
}

pub flying_same : (xs : List Flight) (base : ℕ) (bytes : ℕ → List ℕ) (f g : ℕ → Bool) (early late : ℕ → ℕ) → Flying xs base bytes f early late → ((p : ℕ) → g p ≡ f p) → Flying xs base bytes g early late
flying_same xs base bytes f g early late h same = record {
  below = λ p l. same p ∙ h.below p l;
  slots = λ k. h.slots k ∙ sym (ap (λ b. cond b (Some (bytes (base + k))) None) (same (base + k)));
  earliest_are = λ k is. h.earliest_are k (sym (same (base + k)) ∙ is);
  latest_are = λ k is. h.latest_are k (sym (same (base + k)) ∙ is);
}

-- hearing of a transmission leaves all else
pub record IsHeard (w v : Outbox) : Type 0 where
  pub first : v.first ≡ w.first
  pub waiting : v.waiting ≡ w.waiting
  pub base : v.base ≡ w.base
  pub cut : v.cut ≡ w.cut
  pub made : v.made ≡ w.made
  pub flights : v.flights ≡ w.flights
  pub carried : v.carried ≡ w.carried

pub heard_keeps : (w : Outbox) (j : ℕ) → IsHeard w (heard_of w j)
heard_keeps w j = by_tests (ltb w.told (j + 1)) (ltb (j + 1) w.told && ltb w.second (j + 1)) (ltb (j + 1) w.second && ltb w.third (j + 1))
  where
    by_tests : (a b c : Bool) → IsHeard w (cond a (record w { told = j + 1; second = w.told; third = w.second }) (cond b (record w { second = j + 1; third = w.second }) (cond c (record w { third = j + 1 }) w)))
    by_tests true b c = record { first = refl; waiting = refl; base = refl; cut = refl; made = refl; flights = refl; carried = refl }
    by_tests false true c = record { first = refl; waiting = refl; base = refl; cut = refl; made = refl; flights = refl; carried = refl }
    by_tests false false true = record { first = refl; waiting = refl; base = refl; cut = refl; made = refl; flights = refl; carried = refl }
    by_tests false false false = record { first = refl; waiting = refl; base = refl; cut = refl; made = refl; flights = refl; carried = refl }

-- what acts on which only the told and the settled depend may change
pub record IsTelling (t u : Trace Act) : Type 0 where
  pub waiting : waiting limits u ≡ waiting limits t
  pub cuts : cuts u ≡ cuts t
  pub transmissions : transmissions u ≡ transmissions t
  pub piece : piece limits u ≡ piece limits t
  pub earliest : earliest u ≡ earliest t
  pub latest : latest u ≡ latest t
  pub part_of : part_of u ≡ part_of t

pub told_step : (w k v : Outbox) (first : ℕ) (t u : Trace Act) (j : ℕ) → Sends w first t → IsTelling t u → k ≡ heard_of w j → j < w.made → IsRebased k v
    → Flying v.flights v.base (piece limits t) (is_open limits u) (earliest t) (latest t) → (v.base ≡ v.cut) ⊎ IsSome (slot_at v.flights 0) → queued_of v ≤ queued_of w
    → w.cut ≤ w.base + length w.flights → w.base ≤ w.cut → v.cut ≤ v.base + length v.flights → v.base ≤ v.cut
    → ((i : ℕ) → told limits u i ≡ told limits t i || eqb i j) → ((p : ℕ) → cuts t ≤ p → settled limits u p ≡ false) → Sends v first u
told_step w k v first t u j h same heard l moved flies front less fits le fits' le' tells closed =
    let keeps = heard_keeps w j in
    let hears = heard_of_is w (told limits t) (told limits u) j h.heard l tells in
    let first_is = moved.first ∙ ap (λ x. x.first) heard ∙ keeps.first in
    let waiting_is = moved.waiting ∙ ap (λ x. x.waiting) heard ∙ keeps.waiting in
    let cut_is = moved.cut ∙ ap (λ x. x.cut) heard ∙ keeps.cut in
    let made_is = moved.made ∙ ap (λ x. x.made) heard ∙ keeps.made in
    let carried_is = moved.carried ∙ ap (λ x. x.carried) heard ∙ keeps.carried in
    let told_is = moved.told ∙ ap (λ x. x.told) heard in
    let second_is = moved.second ∙ ap (λ x. x.second) heard in
    let third_is = moved.third ∙ ap (λ x. x.third) heard in
    let waits : v.waiting ≡ waiting limits u = waiting_is ∙ h.waiting_is ∙ sym same.waiting in
    let cuts_is : v.cut ≡ cuts u = cut_is ∙ h.cut_is ∙ sym same.cuts in
    let flown : Flying v.flights v.base (piece limits u) (is_open limits u) (earliest u) (latest u) =
    subst (λ f. Flying v.flights v.base f (is_open limits u) (earliest u) (latest u)) (sym same.piece)
    (subst (λ f. Flying v.flights v.base (piece limits t) (is_open limits u) f (latest u)) (sym same.earliest)
    (subst (λ f. Flying v.flights v.base (piece limits t) (is_open limits u) (earliest t) f) (sym same.latest) flies)) in
    record {
      first_is = first_is ∙ h.first_is;
      waiting_is = waits;
      cut_is = cuts_is;
      made_is = made_is ∙ h.made_is ∙ sym same.transmissions;
      front = front;
      flying = flown;
      remembers = subst (λ xs. Remembers xs 4096 v.made (part_of u)) (sym carried_is)
          (subst (λ n. Remembers w.carried 4096 n (part_of u)) (sym made_is)
          (subst (λ f. Remembers w.carried 4096 w.made f) (sym same.part_of) h.remembers));
      heard = same_ends told_is second_is third_is made_is hears;
      parts_exist = λ i less'. subst (λ n. part_of u i < n) (sym cut_is) (subst (λ f. f i < w.cut) (sym same.part_of) (h.parts_exist i (omega (arith, less', made_is))));
      unsettled_beyond = λ p ge. closed p (omega (arith, ge, cut_is, h.cut_is));
      untold_beyond = λ i ge. tells i ∙ no_more i (h.untold_beyond i (omega (arith, ge, made_is))) (omega (arith, ge, made_is, l));
      queue_bound = omega (arith, h.queue_bound, less, queued_is w first t h fits le, queued_from v u waits cuts_is flown fits' le');
    }
  where
    same_ends : {a b c m a' b' c' m' : ℕ} → a ≡ a' → b ≡ b' → c ≡ c' → m ≡ m' → Heard a' b' c' m' (told limits u) → Heard a b c m (told limits u)
    same_ends {a} {b} {c} {m} {a'} {b'} {c'} {m'} p q r s h =
        subst (λ x. Heard x b c m (told limits u)) (sym p) (subst (λ x. Heard a' x c m (told limits u)) (sym q) (subst (λ x. Heard a' b' x m (told limits u)) (sym r) (subst (λ x. Heard a' b' c' x (told limits u)) (sym s) h)))

    no_more : (i : ℕ) → told limits t i ≡ false → j < i → told limits t i || eqb i j ≡ false
    no_more i e less = let o : eqb i j ≡ false = grind (arith, nat_tests) in ap (λ b. b || eqb i j) e ∙ o

-- a telling without effect
pub same_step : (w : Outbox) (first : ℕ) (t u : Trace Act) → Sends w first t → IsTelling t u → ((i : ℕ) → told limits u i ≡ told limits t i) → ((p : ℕ) → settled limits u p ≡ settled limits t p) → queued limits u ≡ queued limits t → Sends w first u
same_step w first t u h same tells closed queue =
    let opens : (p : ℕ) → is_open limits u p ≡ is_open limits t p = λ p. ap (λ n. ltb p n && not (settled limits u p)) same.cuts ∙ ap (λ b. ltb p (cuts t) && not b) (closed p) in
    record {
      first_is = h.first_is;
      waiting_is = h.waiting_is ∙ sym same.waiting;
      cut_is = h.cut_is ∙ sym same.cuts;
      made_is = h.made_is ∙ sym same.transmissions;
      front = h.front;
      flying = subst (λ f. Flying w.flights w.base f (is_open limits u) (earliest u) (latest u)) (sym same.piece)
          (subst (λ f. Flying w.flights w.base (piece limits t) (is_open limits u) f (latest u)) (sym same.earliest)
          (subst (λ f. Flying w.flights w.base (piece limits t) (is_open limits u) (earliest t) f) (sym same.latest)
          (flying_same w.flights w.base (piece limits t) (is_open limits t) (is_open limits u) (earliest t) (latest t) h.flying opens)));
      remembers = subst (λ f. Remembers w.carried 4096 w.made f) (sym same.part_of) h.remembers;
      heard = heard_same w.told w.second w.third w.made (told limits t) (told limits u) h.heard tells;
      parts_exist = λ i less. subst (λ f. f i < w.cut) (sym same.part_of) (h.parts_exist i less);
      unsettled_beyond = λ p ge. closed p ∙ h.unsettled_beyond p ge;
      untold_beyond = λ i ge. tells i ∙ h.untold_beyond i ge;
      queue_bound = omega (arith, h.queue_bound, queue);
    }

pub or_false : (a : Bool) → a || false ≡ a
or_false true = refl
or_false false = refl

pub telling_part : (t : Trace Act) (q : ℕ) → IsTelling t (t ▷ ToldPart q)
telling_part t q = record { waiting = refl; cuts = refl; transmissions = refl; piece = refl; earliest = refl; latest = refl; part_of = refl }

pub telling_transmission : (t : Trace Act) (j : ℕ) → IsTelling t (t ▷ ToldTransmission j)
telling_transmission t j = record { waiting = refl; cuts = refl; transmissions = refl; piece = refl; earliest = refl; latest = refl; part_of = refl }

-- a part that was cut and is not open is settled
pub closed_settled : (a s : Bool) → a && not s ≡ false → a ≡ true → s ≡ true
closed_settled true true h e = refl
closed_settled true false h e = absurd (cc)
closed_settled false s h e = absurd (cc)

pub queued_same : (t : Trace Act) (f g : ℕ → Bool) → ((p : ℕ) → f p ≡ g p) → length (waiting limits t) + sum_of (λ p. cond (f p) (length (piece limits t p)) 0) (cuts t) ≡ length (waiting limits t) + sum_of (λ p. cond (g p) (length (piece limits t p)) 0) (cuts t)
queued_same t f g same = ap (λ n. length (waiting limits t) + n) (sum_same (λ p. cond (f p) (length (piece limits t p)) 0) (λ p. cond (g p) (length (piece limits t p)) 0) (cuts t) (λ p. ap (λ b. cond b (length (piece limits t p)) 0) (same p)))

pub part_without : (w : Outbox) (first : ℕ) (t : Trace Act) (q : ℕ) → Sends w first t → is_open limits t q ≡ false → Sends w first (t ▷ ToldPart q)
part_without w first t q h closed =
    same_step w first t (t ▷ ToldPart q) h (telling_part t q)
    (λ i. ap (λ b. told limits t i || (b && eqb i (latest t q))) closed ∙ or_false (told limits t i))
    settles
    (queued_same t (is_open limits (t ▷ ToldPart q)) (is_open limits t) (λ p. ap (λ b. ltb p (cuts t) && not b) (settles p)))
  where
    settles : (p : ℕ) → settled limits t p || (eqb p q && ltb q (cuts t)) ≡ settled limits t p
    settles p = by_cut (ltb q (cuts t)) refl (cases_eq p q)
      where
        by_cut : (b : Bool) → ltb q (cuts t) ≡ b → (p ≡ q) ⊎ (p ≡ q → ⊥) → settled limits t p || (eqb p q && ltb q (cuts t)) ≡ settled limits t p
        by_cut true e (inl same) =
            let done : settled limits t p ≡ true = ap (settled limits t) same ∙ closed_settled (ltb q (cuts t)) (settled limits t q) closed e in
            ap (λ b. b || (eqb p q && ltb q (cuts t))) done ∙ sym done
        by_cut true e (inr ne) = let o : eqb p q ≡ false = grind (arith, nat_tests) in ap (λ b. settled limits t p || (b && ltb q (cuts t))) o ∙ or_false (settled limits t p)
        by_cut false e which = ap (λ b. settled limits t p || (eqb p q && b)) e ∙ no_and (eqb p q) (settled limits t p)
          where
            no_and : (a s : Bool) → s || (a && false) ≡ s
            no_and true s = or_false s
            no_and false s = or_false s

pub transmission_without : (w : Outbox) (first : ℕ) (t : Trace Act) (j : ℕ) → Sends w first t → is_recent limits t j ≡ false → Sends w first (t ▷ ToldTransmission j)
transmission_without w first t j h old =
    same_step w first t (t ▷ ToldTransmission j) h (telling_transmission t j)
    (λ i. ap (λ b. told limits t i || (b && eqb i j)) old ∙ or_false (told limits t i))
    settles
    (queued_same t (is_open limits (t ▷ ToldTransmission j)) (is_open limits t) (λ p. ap (λ b. ltb p (cuts t) && not b) (settles p)))
  where
    settles : (p : ℕ) → settled limits t p || (is_recent limits t j && eqb (part_of t j) p) ≡ settled limits t p
    settles p = ap (λ b. settled limits t p || (b && eqb (part_of t j) p)) old ∙ or_false (settled limits t p)

pub split_not : (a s e : Bool) → a && not (s || e) ≡ a && not s && not e
split_not true true e = refl
split_not true false e = refl
split_not false s e = refl

-- the part is settled
pub part_done : (w k v : Outbox) (first : ℕ) (t : Trace Act) (q ahead j : ℕ) → Sends w first t → is_open limits t q ≡ true → q ≡ w.base + ahead → j ≡ latest t q → k ≡ heard_of w j → j < w.made → IsRebased k v
    → ((bytes : ℕ → List ℕ) (opens : ℕ → Bool) (early late : ℕ → ℕ) → Flying k.flights k.base bytes opens early late → Flying v.flights v.base bytes (λ p. opens p && not (eqb p (k.base + ahead))) early late)
    → (v.base ≡ v.cut) ⊎ IsSome (slot_at v.flights 0) → queued_of v ≤ queued_of k
    → w.cut ≤ w.base + length w.flights → w.base ≤ w.cut → v.cut ≤ v.base + length v.flights → v.base ≤ v.cut → Sends v first (t ▷ ToldPart q)
part_done w k v first t q ahead j h is_on place latest_is heard l moved lands front less fits le fits' le' =
    let keeps = heard_keeps w j in
    let base_same : k.base ≡ w.base = ap (λ x. x.base) heard ∙ keeps.base in
    let flights_same : k.flights ≡ w.flights = ap (λ x. x.flights) heard ∙ keeps.flights in
    let waiting_same : k.waiting ≡ w.waiting = ap (λ x. x.waiting) heard ∙ keeps.waiting in
    let low : ltb q (cuts t) ≡ true = open_of (ltb q (cuts t)) (settled limits t q) is_on in
    let before : Flying k.flights k.base (piece limits t) (is_open limits t) (earliest t) (latest t) =
    subst (λ xs. Flying xs k.base (piece limits t) (is_open limits t) (earliest t) (latest t)) (sym flights_same)
    (subst (λ b. Flying w.flights b (piece limits t) (is_open limits t) (earliest t) (latest t)) (sym base_same) h.flying) in
    let flies : Flying v.flights v.base (piece limits t) (is_open limits (t ▷ ToldPart q)) (earliest t) (latest t) =
    flying_same v.flights v.base (piece limits t) (λ p. is_open limits t p && not (eqb p (k.base + ahead))) (is_open limits (t ▷ ToldPart q)) (earliest t) (latest t)
    (lands (piece limits t) (is_open limits t) (earliest t) (latest t) before)
    (λ p. ap (λ b. ltb p (cuts t) && not (settled limits t p || (eqb p q && b))) low ∙ drop_true p ∙ split_not (ltb p (cuts t)) (settled limits t p) (eqb p q)
    ∙ ap (λ n. is_open limits t p && not (eqb p n)) (place ∙ ap (λ b. b + ahead) (sym base_same))) in
    told_step w k v first t (t ▷ ToldPart q) j h (telling_part t q) heard l moved flies front
    (omega (arith, less, ap length waiting_same, ap bytes_in flights_same)) fits le fits' le'
    (λ i. ap (λ b. told limits t i || (b && eqb i (latest t q))) is_on ∙ ap (λ n. told limits t i || eqb i n) (sym latest_is))
    (λ p ge. ap (λ b. b || (eqb p q && ltb q (cuts t))) (h.unsettled_beyond p (omega (arith, ge, h.cut_is)))
    ∙ (let o : eqb p q ≡ false = grind (arith, nat_tests) in ap (λ b. b && ltb q (cuts t)) o))
  where
    drop_true : (p : ℕ) → ltb p (cuts t) && not (settled limits t p || (eqb p q && true)) ≡ ltb p (cuts t) && not (settled limits t p || eqb p q)
    drop_true p = ap (λ b. ltb p (cuts t) && not (settled limits t p || b)) (and_true (eqb p q))
      where
        and_true : (a : Bool) → a && true ≡ a
        and_true true = refl
        and_true false = refl

-- a recent transmission of a settled part is told
pub heard_only : (w k : Outbox) (first : ℕ) (t : Trace Act) (j : ℕ) → Sends w first t → is_recent limits t j ≡ true → is_open limits t (part_of t j) ≡ false → part_of t j < cuts t → k ≡ heard_of w j → j < w.made
    → w.cut ≤ w.base + length w.flights → w.base ≤ w.cut → k.cut ≤ k.base + length k.flights → k.base ≤ k.cut → Sends k first (t ▷ ToldTransmission j)
heard_only w k first t j h recent closed low heard l fits le fits' le' =
    let keeps = heard_keeps w j in
    let base_same : k.base ≡ w.base = ap (λ x. x.base) heard ∙ keeps.base in
    let flights_same : k.flights ≡ w.flights = ap (λ x. x.flights) heard ∙ keeps.flights in
    let waiting_same : k.waiting ≡ w.waiting = ap (λ x. x.waiting) heard ∙ keeps.waiting in
    let cut_same : k.cut ≡ w.cut = ap (λ x. x.cut) heard ∙ keeps.cut in
    let before : Flying k.flights k.base (piece limits t) (is_open limits t) (earliest t) (latest t) =
    subst (λ xs. Flying xs k.base (piece limits t) (is_open limits t) (earliest t) (latest t)) (sym flights_same)
    (subst (λ b. Flying w.flights b (piece limits t) (is_open limits t) (earliest t) (latest t)) (sym base_same) h.flying) in
    told_step w k k first t (t ▷ ToldTransmission j) j h (telling_transmission t j) heard l
    (record { first = refl; waiting = refl; cut = refl; made = refl; told = refl; second = refl; third = refl; carried = refl; base = omega arith })
    (flying_same k.flights k.base (piece limits t) (is_open limits t) (is_open limits (t ▷ ToldTransmission j)) (earliest t) (latest t) before (λ p. ap (λ b. ltb p (cuts t) && not b) (settles p)))
    (front_same h.front base_same cut_same flights_same)
    (omega (arith, ap length waiting_same, ap bytes_in flights_same)) fits le fits' le'
    (λ i. ap (λ b. told limits t i || (b && eqb i j)) recent)
    (λ p ge. settles p ∙ h.unsettled_beyond p (omega (arith, ge, h.cut_is)))
  where
    done : settled limits t (part_of t j) ≡ true
    done = closed_settled (ltb (part_of t j) (cuts t)) (settled limits t (part_of t j)) closed (grind (arith, nat_tests))

    settles : (p : ℕ) → settled limits t p || (is_recent limits t j && eqb (part_of t j) p) ≡ settled limits t p
    settles p = by_place (cases_eq (part_of t j) p)
      where
        by_place : (part_of t j ≡ p) ⊎ (part_of t j ≡ p → ⊥) → settled limits t p || (is_recent limits t j && eqb (part_of t j) p) ≡ settled limits t p
        by_place (inl e) =
            let here : settled limits t p ≡ true = ap (settled limits t) (sym e) ∙ done in
            ap (λ b. b || (is_recent limits t j && eqb (part_of t j) p)) here ∙ sym here
        by_place (inr ne) =
            let o : eqb (part_of t j) p ≡ false = grind (arith, nat_tests) in
            ap (λ b. settled limits t p || (is_recent limits t j && b)) o ∙ ap (λ b. settled limits t p || (b && false)) recent ∙ or_false (settled limits t p)

    front_same : (w.base ≡ w.cut) ⊎ IsSome (slot_at w.flights 0) → k.base ≡ w.base → k.cut ≡ w.cut → k.flights ≡ w.flights → (k.base ≡ k.cut) ⊎ IsSome (slot_at k.flights 0)
    front_same (inl e) a b c = inl (a ∙ e ∙ sym b)
    front_same (inr there) a b c = inr (subst (λ xs. IsSome (slot_at xs 0)) (sym c) there)

-- a recent transmission of an unsettled part is told
pub transmission_done : (w k v : Outbox) (first : ℕ) (t : Trace Act) (ahead j : ℕ) → Sends w first t → is_recent limits t j ≡ true → is_open limits t (part_of t j) ≡ true → part_of t j ≡ w.base + ahead → k ≡ heard_of w j → j < w.made → IsRebased k v
    → ((bytes : ℕ → List ℕ) (opens : ℕ → Bool) (early late : ℕ → ℕ) → Flying k.flights k.base bytes opens early late → Flying v.flights v.base bytes (λ p. opens p && not (eqb p (k.base + ahead))) early late)
    → (v.base ≡ v.cut) ⊎ IsSome (slot_at v.flights 0) → queued_of v ≤ queued_of k
    → w.cut ≤ w.base + length w.flights → w.base ≤ w.cut → v.cut ≤ v.base + length v.flights → v.base ≤ v.cut → Sends v first (t ▷ ToldTransmission j)
transmission_done w k v first t ahead j h recent is_on place heard l moved lands front less fits le fits' le' =
    let keeps = heard_keeps w j in
    let base_same : k.base ≡ w.base = ap (λ x. x.base) heard ∙ keeps.base in
    let flights_same : k.flights ≡ w.flights = ap (λ x. x.flights) heard ∙ keeps.flights in
    let waiting_same : k.waiting ≡ w.waiting = ap (λ x. x.waiting) heard ∙ keeps.waiting in
    let low : part_of t j < cuts t = (let b = open_of (ltb (part_of t j) (cuts t)) (settled limits t (part_of t j)) is_on in grind (arith, nat_tests)) in
    let before : Flying k.flights k.base (piece limits t) (is_open limits t) (earliest t) (latest t) =
    subst (λ xs. Flying xs k.base (piece limits t) (is_open limits t) (earliest t) (latest t)) (sym flights_same)
    (subst (λ b. Flying w.flights b (piece limits t) (is_open limits t) (earliest t) (latest t)) (sym base_same) h.flying) in
    let flies : Flying v.flights v.base (piece limits t) (is_open limits (t ▷ ToldTransmission j)) (earliest t) (latest t) =
    flying_same v.flights v.base (piece limits t) (λ p. is_open limits t p && not (eqb p (k.base + ahead))) (is_open limits (t ▷ ToldTransmission j)) (earliest t) (latest t)
    (lands (piece limits t) (is_open limits t) (earliest t) (latest t) before)
    (λ p. ap (λ b. ltb p (cuts t) && not (settled limits t p || (b && eqb (part_of t j) p))) recent ∙ split_not (ltb p (cuts t)) (settled limits t p) (eqb (part_of t j) p)
    ∙ ap (λ b. is_open limits t p && not b) (turn (part_of t j) p) ∙ ap (λ n. is_open limits t p && not (eqb p n)) (place ∙ ap (λ b. b + ahead) (sym base_same))) in
    told_step w k v first t (t ▷ ToldTransmission j) j h (telling_transmission t j) heard l moved flies front
    (omega (arith, less, ap length waiting_same, ap bytes_in flights_same)) fits le fits' le'
    (λ i. ap (λ b. told limits t i || (b && eqb i j)) recent)
    (λ p ge. ap (λ b. b || (is_recent limits t j && eqb (part_of t j) p)) (h.unsettled_beyond p (omega (arith, ge, h.cut_is)))
    ∙ (let o : eqb (part_of t j) p ≡ false = grind (arith, nat_tests) in ap (λ b. is_recent limits t j && b) o ∙ ap (λ b. b && false) recent))
  where
    turn : (a b : ℕ) → eqb a b ≡ eqb b a
    turn a b = by_cases (cases_eq a b)
      where
        by_cases : (a ≡ b) ⊎ (a ≡ b → ⊥) → eqb a b ≡ eqb b a
        by_cases (inl e) = grind (arith, nat_tests)
        by_cases (inr ne) = let x : eqb a b ≡ false = grind (arith, nat_tests) in let y : eqb b a ≡ false = grind (arith, nat_tests) in x ∙ sym y

-- what is open stands in its slot
pub open_at : (w : Outbox) (first : ℕ) (t : Trace Act) (k : ℕ) → Sends w first t → is_open limits t (w.base + k) ≡ is_some (slot_at w.flights k)
open_at w first t k h = sym (ap is_some (h.flying.slots k) ∙ some_if (is_open limits t (w.base + k)) (piece limits t (w.base + k)))
  where
    some_if : (b : Bool) (bytes : List ℕ) → is_some (cond b (Some bytes) None) ≡ b
    some_if true bytes = refl
    some_if false bytes = refl

pub not_cut : (w : Outbox) (first : ℕ) (t : Trace Act) (q : ℕ) → Sends w first t → w.cut ≤ q → is_open limits t q ≡ false
not_cut w first t q h ge = let no' : ltb q (cuts t) ≡ false = (let c = h.cut_is in grind (arith, nat_tests)) in and_no (ltb q (cuts t)) (not (settled limits t q)) no'

-- ---- the calls that take a telling
pub tells_part_is : (first part : ℕ) (t : Trace Act) → first ≤ part → tells_part first part t ≡ t ▷ ToldPart (part - first)
tells_part_is first part t le = let o : ltb part first ≡ false = grind (arith, nat_tests) in ap (λ b. cond b t (t ▷ ToldPart (part - first))) o

pub tells_transmission_is : (first number : ℕ) (t : Trace Act) → first ≤ number → tells_transmission first number t ≡ t ▷ ToldTransmission (number - first)
tells_transmission_is first number t le = let o : ltb number first ≡ false = grind (arith, nat_tests) in ap (λ b. cond b t (t ▷ ToldTransmission (number - first))) o

pub part_outside : (w : Outbox) (first : ℕ) (t : Trace Act) (part : ℕ) → Sends w first t → (part < w.first + w.base) ⊎ (w.first + w.cut ≤ part) → Sends w first (tells_part first part t)
part_outside w first t part h out = by_first (cases_lt part first) out
  where
    by_first : (part < first) ⊎ (first ≤ part) → (part < w.first + w.base) ⊎ (w.first + w.cut ≤ part) → Sends w first (tells_part first part t)
    by_first (inl low) out = let o : ltb part first ≡ true = grind (arith, nat_tests) in subst (λ u. Sends w first u) (sym (ap (λ b. cond b t (t ▷ ToldPart (part - first))) o)) h
    by_first (inr ge) (inl low) = subst (λ u. Sends w first u) (sym (tells_part_is first part t ge)) (part_without w first t (part - first) h (h.flying.below (part - first) (omega (arith, low, ge, h.first_is))))
    by_first (inr ge) (inr high) = subst (λ u. Sends w first u) (sym (tells_part_is first part t ge)) (part_without w first t (part - first) h (not_cut w first t (part - first) h (omega (arith, high, ge, h.first_is))))

pub open_here : (w : Outbox) (first : ℕ) (t : Trace Act) (q k : ℕ) (f : Flight) → Sends w first t → f ≡ flight_at w.flights k → q ≡ w.base + k → is_open limits t q ≡ is_some f.slot
open_here w first t q k f h read place = ap (is_open limits t) place ∙ open_at w first t k h ∙ sym (ap (λ (x : Flight). is_some x.slot) read)

pub part_missing : (w : Outbox) (first : ℕ) (t : Trace Act) (part : ℕ) (f : Flight) → Sends w first t → f ≡ flight_at w.flights (part - w.first - w.base) → w.first + w.base ≤ part → is_some f.slot ≡ false → Sends w first (tells_part first part t)
part_missing w first t part f h read ge none =
    let e = open_here w first t (part - first) (part - w.first - w.base) f h read (omega (arith, ge, h.first_is)) in
    subst (λ u. Sends w first u) (sym (tells_part_is first part t (omega (arith, ge, h.first_is)))) (part_without w first t (part - first) h (e ∙ none))

pub in_flight_made : (p : Option (List ℕ)) (late made : ℕ) → IsFlight p late made → is_some p ≡ true → late < made
in_flight_made None late made h is = absurd (cc)
in_flight_made (Some b) late made h is = h.1

pub part_told : (w k v : Outbox) (first : ℕ) (t : Trace Act) (part : ℕ) (f : Flight) → Sends w first t → IsSoundOut w → f ≡ flight_at w.flights (part - w.first - w.base) → w.first + w.base ≤ part → is_some f.slot ≡ true → k ≡ heard_of w f.latest → IsRebased k v
    → ((bytes : ℕ → List ℕ) (opens : ℕ → Bool) (early late : ℕ → ℕ) → Flying k.flights k.base bytes opens early late → Flying v.flights v.base bytes (λ p. opens p && not (eqb p (k.base + (part - w.first - w.base)))) early late)
    → (v.base ≡ v.cut) ⊎ IsSome (slot_at v.flights 0) → queued_of v ≤ queued_of k → v.cut ≤ v.base + length v.flights → v.base ≤ v.cut → Sends v first (tells_part first part t)
part_told w k v first t part f h sound read ge there heard moved lands front less fits' le' =
    let ahead = part - w.first - w.base in
    let place : part - first ≡ w.base + ahead = omega (arith, ge, h.first_is) in
    let is_on = open_here w first t (part - first) ahead f h read place ∙ there in
    let late : f.latest ≡ latest t (part - first) = ap (λ (x : Flight). x.latest) read ∙ h.flying.latest_are ahead (ap (is_open limits t) (sym place) ∙ is_on) ∙ ap (latest t) (sym place) in
    let made : f.latest < w.made = in_flight_made f.slot f.latest w.made (subst (λ (x : Flight). IsFlight x.slot x.latest w.made) (sym read) (sound.fits ahead)) there in
    subst (λ u. Sends v first u) (sym (tells_part_is first part t (omega (arith, ge, h.first_is))))
    (part_done w k v first t (part - first) ahead f.latest h is_on place late heard made moved lands front less (omega (arith, sound.cut_bound, sound.places)) sound.base_bound fits' le')

pub recent_of : (t : Trace Act) (j : ℕ) → j < transmissions t → transmissions t ≤ j + 4096 → is_recent limits t j ≡ true
recent_of t j l le = let a : ltb j (transmissions t) ≡ true = grind (arith, nat_tests) in let b : leb (transmissions t) (j + 4096) ≡ true = grind (arith, nat_tests) in ap (λ x. x && leb (transmissions t) (j + 4096)) a ∙ b

pub transmission_outside : (w : Outbox) (first : ℕ) (t : Trace Act) (number : ℕ) → Sends w first t → (number < w.first) ⊎ (w.first + w.made ≤ number) → Sends w first (tells_transmission first number t)
transmission_outside w first t number h (inl low) = let o : ltb number first ≡ true = (let e = h.first_is in grind (arith, nat_tests)) in subst (λ u. Sends w first u) (sym (ap (λ b. cond b t (t ▷ ToldTransmission (number - first))) o)) h
transmission_outside w first t number h (inr high) =
    subst (λ u. Sends w first u) (sym (tells_transmission_is first number t (omega (arith, high, h.first_is))))
    (transmission_without w first t (number - first) h (let o : ltb (number - first) (transmissions t) ≡ false = (let e = h.first_is in let m = h.made_is in grind (arith, nat_tests)) in and_no (ltb (number - first) (transmissions t)) _ o))

pub transmission_old : (w : Outbox) (first : ℕ) (t : Trace Act) (number : ℕ) → Sends w first t → w.first ≤ number → number < w.first + w.made → length w.carried < w.first + w.made - number → Sends w first (tells_transmission first number t)
transmission_old w first t number h low high old =
    subst (λ u. Sends w first u) (sym (tells_transmission_is first number t (omega (arith, low, h.first_is))))
    (transmission_without w first t (number - first) h (off (ltb (number - first) (transmissions t)) (leb (transmissions t) (number - first + 4096)) (let e = h.first_is in let m = h.made_is in let size = h.remembers.size in let l = omega_fact in grind (arith, nat_tests))))
  where
    omega_fact : number - first + 4096 < transmissions t
    omega_fact = omega (arith, h.first_is, h.made_is, h.remembers.size, low, high, old)

    off : (a b : Bool) → b ≡ false → a && b ≡ false
    off true b e = e
    off false b e = refl

pub carried_is : (w : Outbox) (first : ℕ) (t : Trace Act) (number i place : ℕ) → Sends w first t → w.first ≤ number → number < w.first + w.made → w.first + w.made - number ≤ length w.carried → i ≡ length w.carried - (w.first + w.made - number) → place ≡ get_or w.carried i 0 → part_of t (number - first) ≡ place
carried_is w first t number i place h low high recent e read =
    let l : i < length w.carried = omega (arith, e, high, recent) in
    let j : w.made - length w.carried + i ≡ number - first = omega (arith, e, h.first_is, h.remembers.size, low, high, recent) in
    sym (read ∙ h.remembers.parts i l ∙ ap (part_of t) j)

pub told_recent : (w : Outbox) (first : ℕ) (t : Trace Act) (number : ℕ) → Sends w first t → w.first ≤ number → number < w.first + w.made → w.first + w.made - number ≤ length w.carried → is_recent limits t (number - first) ≡ true
told_recent w first t number h low high recent =
    recent_of t (number - first) (omega (arith, h.first_is, h.made_is, low, high)) (omega (arith, h.first_is, h.made_is, h.remembers.size, low, high, recent))

pub transmission_heard : (w k : Outbox) (first : ℕ) (t : Trace Act) (number : ℕ) → Sends w first t → IsSoundOut w → w.first ≤ number → number < w.first + w.made → w.first + w.made - number ≤ length w.carried → k ≡ heard_of w (number - w.first) → is_open limits t (part_of t (number - first)) ≡ false
    → k.cut ≤ k.base + length k.flights → k.base ≤ k.cut → Sends k first (tells_transmission first number t)
transmission_heard w k first t number h sound low high recent heard closed fits' le' =
    let j : number - w.first ≡ number - first = omega (arith, h.first_is) in
    subst (λ u. Sends k first u) (sym (tells_transmission_is first number t (omega (arith, low, h.first_is))))
    (heard_only w k first t (number - first) h (told_recent w first t number h low high recent) closed (omega (arith, h.cut_is, h.parts_exist (number - first) (omega (arith, h.first_is, low, high)))) (heard ∙ ap (heard_of w) j) (omega (arith, h.first_is, low, high))
    (omega (arith, sound.cut_bound, sound.places)) sound.base_bound fits' le')

pub transmission_told : (w k v : Outbox) (first : ℕ) (t : Trace Act) (number ahead : ℕ) → Sends w first t → IsSoundOut w → w.first ≤ number → number < w.first + w.made → w.first + w.made - number ≤ length w.carried → k ≡ heard_of w (number - w.first) → is_open limits t (part_of t (number - first)) ≡ true → part_of t (number - first) ≡ w.base + ahead → IsRebased k v
    → ((bytes : ℕ → List ℕ) (opens : ℕ → Bool) (early late : ℕ → ℕ) → Flying k.flights k.base bytes opens early late → Flying v.flights v.base bytes (λ p. opens p && not (eqb p (k.base + ahead))) early late)
    → (v.base ≡ v.cut) ⊎ IsSome (slot_at v.flights 0) → queued_of v ≤ queued_of k → v.cut ≤ v.base + length v.flights → v.base ≤ v.cut → Sends v first (tells_transmission first number t)
transmission_told w k v first t number ahead h sound low high recent heard is_on place moved lands front less fits' le' =
    let j : number - w.first ≡ number - first = omega (arith, h.first_is) in
    subst (λ u. Sends v first u) (sym (tells_transmission_is first number t (omega (arith, low, h.first_is))))
    (transmission_done w k v first t ahead (number - first) h (told_recent w first t number h low high recent) is_on place (heard ∙ ap (heard_of w) j) (omega (arith, h.first_is, low, high)) moved lands front less
    (omega (arith, sound.cut_bound, sound.places)) sound.base_bound fits' le')

pub settles_is : (w : Outbox) (first : ℕ) (t : Trace Act) (number : ℕ) (b : Bool) → Sends w first t → w.first ≤ number → number < w.first + w.made → w.first + w.made - number ≤ length w.carried → is_open limits t (part_of t (number - first)) ≡ b → b ≡ settles_transmission limits first t number
settles_is w first t number b h low high recent e =
    let o : leb first number ≡ true = (let f = h.first_is in grind (arith, nat_tests)) in
    sym (ap (λ x. x && (is_recent limits t (number - first) && is_open limits t (part_of t (number - first)))) o
    ∙ ap (λ x. x && is_open limits t (part_of t (number - first))) (told_recent w first t number h low high recent) ∙ e)

pub flying_is : (w k : Outbox) (first : ℕ) (t : Trace Act) (j p : ℕ) → Sends w first t → k ≡ heard_of w j → is_open limits t p ≡ leb k.base p && (ltb p k.cut && is_some (slot_at k.flights (p - k.base)))
flying_is w k first t j p h heard =
    let keeps = heard_keeps w j in
    subst (λ b. is_open limits t p ≡ leb b p && (ltb p k.cut && is_some (slot_at k.flights (p - b)))) (sym (ap (λ x. x.base) heard ∙ keeps.base))
    (subst (λ n. is_open limits t p ≡ leb w.base p && (ltb p n && is_some (slot_at k.flights (p - w.base)))) (sym (ap (λ x. x.cut) heard ∙ keeps.cut))
    (subst (λ xs. is_open limits t p ≡ leb w.base p && (ltb p w.cut && is_some (slot_at xs (p - w.base)))) (sym (ap (λ x. x.flights) heard ∙ keeps.flights))
    (by_base (cases_lt p w.base))))
  where
    by_cut : w.base ≤ p → (p < w.cut) ⊎ (w.cut ≤ p) → is_open limits t p ≡ ltb p w.cut && is_some (slot_at w.flights (p - w.base))
    by_cut ge (inl less) =
        let e : p ≡ w.base + (p - w.base) = omega (arith, ge) in
        let o : ltb p w.cut ≡ true = grind (arith, nat_tests) in
        ap (is_open limits t) e ∙ open_at w first t (p - w.base) h ∙ sym (ap (λ b. b && is_some (slot_at w.flights (p - w.base))) o)
    by_cut ge (inr high) =
        let o : ltb p w.cut ≡ false = grind (arith, nat_tests) in
        not_cut w first t p h high ∙ sym (ap (λ b. b && is_some (slot_at w.flights (p - w.base))) o)

    by_base : (p < w.base) ⊎ (w.base ≤ p) → is_open limits t p ≡ leb w.base p && (ltb p w.cut && is_some (slot_at w.flights (p - w.base)))
    by_base (inl low) = let o : leb w.base p ≡ false = grind (arith, nat_tests) in h.flying.below p low ∙ sym (ap (λ b. b && (ltb p w.cut && is_some (slot_at w.flights (p - w.base)))) o)
    by_base (inr ge) = let o : leb w.base p ≡ true = grind (arith, nat_tests) in by_cut ge (cases_lt p w.cut) ∙ sym (ap (λ b. b && (ltb p w.cut && is_some (slot_at w.flights (p - w.base)))) o)

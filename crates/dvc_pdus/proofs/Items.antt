-- Items one behind the other, each with one text: how they are read, and their first fault.
use Rattle.std.proofs.Common.{◌≡◌, ◌⊎◌, inl, inr, ℕ, zero, suc, ◌+◌, ◌-◌, ◌<◌, ◌≤◌, List, [], ◌∷◌, ◌++◌, length, take, get_or, Result, Ok, Err, refl, sym, ap, ◌∙◌, subst, arith, append_assoc, append-nil}
use Rattle.std.specs.List.{All, flat_map}
use Rattle.std.proofs.lemmas.List.{length-append, take_at}
use Rattle.std.proofs.lemmas.List.Elements.{All-append, All-cons, All-nil, All-head, All-tail, All-from_get_or}
use Rattle.std.proofs.lemmas.Grind.{flat_map-append}
use Rattle.mt_base.specs.Reading.{Left}
use Rattle.mt_base.proofs.Numbers.{IsBytes}
use Rattle.mt_base.proofs.Fields.{Plainly, Taken, Begins, bytes_after, taken_by, not_both}
use Rattle.mt_base.proofs.FrontFields.{left_at}
use Rattle.dvc_pdus.specs.declared.pdu.DvcRefusal.{DvcRefusal}
use Rattle.dvc_pdus.specs.Reading.{◌>>=◌, items_at, items_in}
use Rattle.dvc_pdus.specs.Faults.{Among}

-- An item: its text is read wherever it stands, each fault is the answer, and bytes begin with an
-- item or have a fault.
pub record Item {A : Type 0} (read : Left → Result (A × Left) DvcRefusal) (text : A → List ℕ) (Good : A → Type 0) (Fault : ℕ → List ℕ → DvcRefusal → Type 0) : Type 0 where
  pub again : (x : A) → Good x → (at : ℕ) (rest : List ℕ) → read (left_at at (text x ++ rest)) ≡ Ok (x, left_at (at + length (text x)) rest)
  pub refuses : (at : ℕ) (bytes : List ℕ) (r : DvcRefusal) → Fault at bytes r → read (left_at at bytes) ≡ Err r
  pub decides : (at : ℕ) (bytes : List ℕ) → IsBytes bytes → ((r : DvcRefusal) × Fault at bytes r) ⊎ Begins text Good bytes

module _ {A : Type 0} {read : Left → Result (A × Left) DvcRefusal} {text : A → List ℕ} {Good : A → Type 0} {Fault : ℕ → List ℕ → DvcRefusal → Type 0} (item : Item read text Good Fault) where
  -- items in front are read
  pub items_read : (xs : List A) → All Good xs → (at : ℕ) (rest : List ℕ) → items_at read (length xs) (left_at at (flat_map text xs ++ rest)) ≡ Ok (xs, left_at (at + length (flat_map text xs)) rest)
  unfolding items_at
  items_read [] good at rest = ap (λ n. Ok ([], left_at n rest)) (let same : at ≡ at + 0 = omega arith in same)
  items_read (x ∷ xs) good at rest =
      let first = item.again x (All-head Good x xs good) at (flat_map text xs ++ rest) in
      let others = items_read xs (All-tail Good x xs good) (at + length (text x)) rest in
      let place : at + length (text x) + length (flat_map text xs) ≡ at + length (text x ++ flat_map text xs) = omega (arith, length-append (text x) (flat_map text xs)) in
      rw (append_assoc (text x) (flat_map text xs) rest, first, others) (ap (λ n. Ok (x ∷ xs, left_at n rest)) place)

  -- an iterator over them has them left
  pub items_kept : (xs : List A) → All Good xs → items_in read (length xs) (flat_map text xs) ≡ xs
  items_kept [] good = refl
  items_kept (x ∷ xs) good =
      rw (item.again x (All-head Good x xs good) 0 (flat_map text xs)) (ap (λ ys. x ∷ ys) (items_kept xs (All-tail Good x xs good)))

  -- the first fault among them is the answer
  among_by : (before : List A) (count at : ℕ) (rest : List ℕ) (r : DvcRefusal) → All Good before → length before < count → Fault (at + length (flat_map text before)) rest r
      → items_at read count (left_at at (flat_map text before ++ rest)) ≡ Err r
  unfolding items_at
  among_by [] zero at rest r good few fault = absurd (omega arith)
  among_by [] (suc n) at rest r good few fault =
      let same : at + 0 ≡ at = omega arith in
      rw (item.refuses at rest r (subst (λ n. Fault n rest r) same fault)) refl
  among_by (x ∷ before) zero at rest r good few fault = absurd (omega arith)
  among_by (x ∷ before) (suc n) at rest r good few fault =
      let place : at + length (text x ++ flat_map text before) ≡ at + length (text x) + length (flat_map text before) = omega (arith, length-append (text x) (flat_map text before)) in
      let others = among_by before n (at + length (text x)) rest r (All-tail Good x before good) (omega arith) (subst (λ n. Fault n rest r) place fault) in
      rw (append_assoc (text x) (flat_map text before) rest, item.again x (All-head Good x before good) at (flat_map text before ++ rest), others) refl

  pub items_refused : (count at : ℕ) (bytes : List ℕ) (r : DvcRefusal) → Among text Good Fault count at bytes r → items_at read count (left_at at bytes) ≡ Err r
  items_refused count at bytes r a =
      ap (λ t. items_at read count (left_at at t)) a.bytes_are ∙ among_by a.before count at a.rest r a.good a.fewer a.fault

  -- so many items stand in front
  pub record Items (count : ℕ) (bytes : List ℕ) : Type 0 where
    pub items : List A
    pub rest : List ℕ
    pub good : All Good items
    pub count_is : length items ≡ count
    pub bytes_are : bytes ≡ flat_map text items ++ rest
    pub bytes_behind : IsBytes rest

  -- bytes begin with so many items, or there is a first fault among them
  pub items_or : (count at : ℕ) (bytes : List ℕ) → IsBytes bytes → ((r : DvcRefusal) × Among text Good Fault count at bytes r) ⊎ Items count bytes
  items_or zero at bytes good = inr (record { items = []; rest = bytes; good = All-nil Good; count_is = refl; bytes_are = refl; bytes_behind = good })
  items_or (suc n) at bytes good =
      elim (item.decides at bytes good) [
        | inl f ↦ inl (f.0, record { before = []; rest = bytes; good = All-nil Good; fewer = omega arith; bytes_are = refl; fault = subst (λ n. Fault n bytes f.0) (let same : at ≡ at + 0 = omega arith in same) f.1 })
        | inr b ↦ with_first b (items_or n (at + length (text b.value)) b.rest b.bytes_behind)
      ]
    where
      with_first : (b : Begins text Good bytes) → ((r : DvcRefusal) × Among text Good Fault n (at + length (text b.value)) b.rest r) ⊎ Items n b.rest
          → ((r : DvcRefusal) × Among text Good Fault (suc n) at bytes r) ⊎ Items (suc n) bytes
      with_first b (inl f) =
          let a = f.1 in
          let place : at + length (text b.value) + length (flat_map text a.before) ≡ at + length (text b.value ++ flat_map text a.before) = omega (arith, length-append (text b.value) (flat_map text a.before)) in
          inl (
            f.0,
            record {
              before = b.value ∷ a.before;
              rest = a.rest;
              good = All-cons Good b.value a.before b.good a.good;
              fewer = let few = a.fewer in omega arith;
              bytes_are = b.bytes_are ∙ ap (λ t. text b.value ++ t) a.bytes_are ∙ sym (append_assoc (text b.value) (flat_map text a.before) a.rest);
              fault = subst (λ n. Fault n a.rest f.0) place a.fault;
            },
          )
      with_first b (inr i) = inr (record {
        items = b.value ∷ i.items;
        rest = i.rest;
        good = All-cons Good b.value i.items b.good i.good;
        count_is = ap suc i.count_is;
        bytes_are = b.bytes_are ∙ ap (λ t. text b.value ++ t) i.bytes_are ∙ sym (append_assoc (text b.value) (flat_map text i.items) i.rest);
        bytes_behind = i.bytes_behind;
      })

  -- what is read stands in front
  pub item_taken : (s : Left) (x : A × Left) → IsBytes s.bytes → read s ≡ Ok x → Taken (Plainly text Good x.0) s x.1
  item_taken s x good is =
      elim (item.decides s.at s.bytes good) [
        | inl f ↦ not_both x f.0 is (item.refuses s.at s.bytes f.0 f.1)
        | inr b ↦ taken_by read (Plainly text Good) s x b.value (text b.value) b.rest good is (b.good, refl) b.bytes_are
            (ap (λ t. read (left_at s.at t)) b.bytes_are ∙ item.again b.value b.good s.at b.rest)
      ]

-- ---- a loop over items

-- items in front of others
abbrev pub behind_items : {A : Type 0} → List A → Result (List A × Left) DvcRefusal → Result (List A × Left) DvcRefusal
behind_items xs (Ok y) = Ok (xs ++ y.0, y.1)
behind_items xs (Err e) = Err e

-- i of so many items were read
pub record Passed {A : Type 0} (read : Left → Result (A × Left) DvcRefusal) (text : A → List ℕ) (Good : A → Type 0) (count i : ℕ) (start now : Left) : Type 0 where
  pub before : List A
  pub good : All Good before
  pub count_is : length before ≡ i
  pub within : i ≤ count
  pub bytes_are : start.bytes ≡ flat_map text before ++ now.bytes
  pub at_is : now.at ≡ start.at + length (flat_map text before)
  pub others : items_at read count start ≡ behind_items before (items_at read (count - i) now)

pub passed_none : {A : Type 0} (read : Left → Result (A × Left) DvcRefusal) (text : A → List ℕ) (Good : A → Type 0) (count : ℕ) (s : Left) → Passed read text Good count 0 s s
passed_none {A} read text Good count s = record {
  before = [];
  good = All-nil Good;
  count_is = refl;
  within = omega arith;
  bytes_are = refl;
  at_is = omega arith;
  others = nothing (items_at read count s) ∙ ap (λ n. behind_items [] (items_at read n s)) (let same : count ≡ count - 0 = omega arith in same);
}
  where
    nothing : (r : Result (List A × Left) DvcRefusal) → r ≡ behind_items [] r
    nothing (Ok (xs, t)) = refl
    nothing (Err e) = refl

one_behind : {A : Type 0} (before : List A) (x : A) (r : Result (List A × Left) DvcRefusal)
    → behind_items before (behind_items (x ∷ []) r) ≡ behind_items (before ++ (x ∷ [])) r
one_behind before x (Ok (xs, t)) = ap (λ ys. Ok (ys, t)) (sym (append_assoc before (x ∷ []) xs))
one_behind before x (Err e) = refl

one_first : {A : Type 0} (x : A) (r : Result (List A × Left) DvcRefusal) → (r >>= λ others. Ok (x ∷ others.0, others.1)) ≡ behind_items (x ∷ []) r
one_first x (Ok (xs, t)) = refl
one_first x (Err e) = refl

first_read : {A : Type 0} (read : Left → Result (A × Left) DvcRefusal) (m n : ℕ) (s t : Left) (x : A) → m ≡ suc n → read s ≡ Ok (x, t) → items_at read m s ≡ behind_items (x ∷ []) (items_at read n t)
unfolding items_at
first_read read m n s t x more is = rw (more, is) (one_first x (items_at read n t))

first_refused : {A : Type 0} (read : Left → Result (A × Left) DvcRefusal) (m n : ℕ) (s : Left) (e : DvcRefusal) → m ≡ suc n → read s ≡ Err e → items_at read m s ≡ Err e
unfolding items_at
first_refused read m n s e more is = rw (more, is) refl

module _ {A : Type 0} {read : Left → Result (A × Left) DvcRefusal} {text : A → List ℕ} {Good : A → Type 0} {Fault : ℕ → List ℕ → DvcRefusal → Type 0} (item : Item read text Good Fault) where
  pub passed_more : (count i : ℕ) (start s t : Left) (x : A) (bytes : List ℕ) → ((k : ℕ) → get_or bytes k 0 < 256) → bytes ≡ start.bytes → i < count → Passed read text Good count i start s → read s ≡ Ok (x, t)
      → Passed read text Good count (i + 1) start t
  passed_more count i start s t x bytes byte same more p is =
      let all : IsBytes start.bytes = subst IsBytes same (All-from_get_or (λ b. b < 256) bytes 0 (λ k within. byte k)) in
      let good : IsBytes s.bytes = bytes_after (flat_map text p.before) s.bytes start.bytes p.bytes_are all in
      let taken = item_taken item s (x, t) good is in
      let fits = taken.is_text in
      let e : flat_map text (p.before ++ (x ∷ [])) ≡ flat_map text p.before ++ text x = flat_map-append text p.before (x ∷ []) ∙ ap (λ u. flat_map text p.before ++ u) (append-nil (text x)) in
      let whole : s.bytes ≡ text x ++ t.bytes = taken.bytes_are ∙ ap (λ u. u ++ t.bytes) fits.1 in
      record {
        before = p.before ++ (x ∷ []);
        good = All-append Good p.before (x ∷ []) p.good (All-cons Good x [] fits.0 (All-nil Good));
        count_is = omega (arith, length-append p.before (x ∷ []), p.count_is);
        within = omega arith;
        bytes_are = p.bytes_are ∙ ap (λ u. flat_map text p.before ++ u) whole ∙ sym (append_assoc (flat_map text p.before) (text x) t.bytes) ∙ ap (λ u. u ++ t.bytes) (sym e);
        at_is = omega (arith, p.at_is, taken.at_is, ap length fits.1, ap length e, length-append (flat_map text p.before) (text x));
        others = p.others ∙ ap (behind_items p.before) (first_read read (count - i) (count - (i + 1)) s t x (omega arith) is) ∙ one_behind p.before x (items_at read (count - (i + 1)) t);
      }

  pub passed_refused : (count i : ℕ) (start s : Left) (e : DvcRefusal) → i < count → Passed read text Good count i start s → read s ≡ Err e → items_at read count start ≡ Err e
  passed_refused count i start s e more p is = p.others ∙ ap (behind_items p.before) (first_refused read (count - i) (count - (i + 1)) s e (omega arith) is)

  -- the bytes that were passed are those of the items
  pub passed_fit : (count i : ℕ) (start s : Left) → Passed read text Good count i start s → (start.at ≤ s.at) × (s.at - start.at ≤ length start.bytes)
  passed_fit count i start s p =
      let place = p.at_is in
      (omega arith, omega (arith, ap length p.bytes_are, length-append (flat_map text p.before) s.bytes))

  pub passed_all : (count i : ℕ) (start s : Left) (n : ℕ) (bytes slice : List ℕ) (xs : List A) → count ≤ i → Passed read text Good count i start s → n ≡ s.at - start.at → bytes ≡ start.bytes → slice ≡ take n bytes
      → xs ≡ items_in read count slice → items_at read count start ≡ Ok (xs, s)
  unfolding items_at
  passed_all count i start s n bytes slice xs done p is same cut view =
      let all : length p.before ≡ count = omega (arith, p.count_is, p.within) in
      let none : count - i ≡ 0 = omega arith in
      let long : n ≡ length (flat_map text p.before) = omega (arith, p.at_is) in
      let front : slice ≡ flat_map text p.before = cut ∙ ap (take n) (same ∙ p.bytes_are) ∙ take_at (flat_map text p.before) s.bytes n (sym long) in
      let kept : items_in read count slice ≡ p.before = ap (items_in read count) front ∙ ap (λ m. items_in read m (flat_map text p.before)) (sym all) ∙ items_kept item p.before p.good in
      p.others ∙ ap (behind_items p.before) (nothing_left (count - i) none) ∙ ap (λ xs. Ok (xs, s)) (append-nil p.before ∙ sym (view ∙ kept))
    where
      nothing_left : (m : ℕ) → m ≡ 0 → items_at read m s ≡ Ok ([], s)
      nothing_left m z = rw z refl

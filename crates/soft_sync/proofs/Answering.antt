-- Lemmas on the answers of requests, by their numbers.
use Rattle.std.proofs.Common.{◌≡◌, ℕ, zero, suc, ◌+◌, ◌<◌, ◌≤◌, true, false, cond, List, [], ◌∷◌, ◌++◌, length, take, All, slice_get, slice_set, get_or, Some, None, refl, sym, ap, ◌∙◌, subst, arith}
use Rattle.std.proofs.lemmas.Option.{slice_get_read, slice_get_past}
use Rattle.std.proofs.lemmas.List.Elements.{All-push, All-head, All-tail}
use Rattle.mt_base.specs.declared.kinds.Kind.{Kind}
use Rattle.soft_sync.specs.declared.row.Row.{Row}
use Rattle.soft_sync.specs.Exchanges.{Answer, has, set_kind, names, is_named, behind_from, with_answer, naming, giving}
use Rattle.soft_sync.specs.Table.{listed_by, exchange_of, exchanges_from}
use Rattle.soft_sync.proofs.Listed.{Listings, answer_at}

pub length-exchanges : (k : ℕ) (rows : List Row) (es : Listings) → length (exchanges_from k rows es) ≡ length rows
length-exchanges k [] es = refl
length-exchanges k (row ∷ rows) es = ap (λ n. suc n) (length-exchanges (k + 1) rows es)

pub names_at : (n k : ℕ) (kind : Kind) (rows : List Row) (es : Listings) (row : Row) → slice_get rows n ≡ Some row → names n kind (exchanges_from k rows es) ≡ has kind row.named
names_at n k kind [] es row h = cc
names_at zero k kind (s ∷ rows) es row h = let f : s ≡ row = cc in ap (λ (r : Row). has kind r.named) f
names_at (suc n) k kind (s ∷ rows) es row h = names_at n (k + 1) kind rows es row h

pub names_past : (n k : ℕ) (kind : Kind) (rows : List Row) (es : Listings) → slice_get rows n ≡ None → names n kind (exchanges_from k rows es) ≡ false
names_past n k kind [] es h = refl
names_past zero k kind (s ∷ rows) es h = cc
names_past (suc n) k kind (s ∷ rows) es h = names_past n (k + 1) kind rows es h

pub named_at : (n k : ℕ) (kind : Kind) (rows : List Row) (es : Listings) (row : Row) → slice_get rows n ≡ Some row → is_named n kind (exchanges_from k rows es) ≡ has kind row.answer
named_at n k kind [] es row h = cc
named_at zero k kind (s ∷ rows) es row h = let f : s ≡ row = cc in ap (λ (r : Row). has kind r.answer) f
named_at (suc n) k kind (s ∷ rows) es row h = named_at n (k + 1) kind rows es row h

pub named_past : (n k : ℕ) (kind : Kind) (rows : List Row) (es : Listings) → slice_get rows n ≡ None → is_named n kind (exchanges_from k rows es) ≡ false
named_past n k kind [] es h = refl
named_past zero k kind (s ∷ rows) es h = cc
named_past (suc n) k kind (s ∷ rows) es h = named_past n (k + 1) kind rows es h

pub answer_there : (n : ℕ) (rows : List Row) (row : Row) → slice_get rows n ≡ Some row → answer_at n rows ≡ row.answer
answer_there n [] row h = cc
answer_there zero (s ∷ rows) row h = let f : s ≡ row = cc in ap (λ (r : Row). r.answer) f
answer_there (suc n) (s ∷ rows) row h = answer_there n rows row h

-- ---- an answer that names a kind more, or is given

pub naming_at : (n k : ℕ) (kind : Kind) (rows : List Row) (es : Listings) (row : Row) → slice_get rows n ≡ Some row
    → exchanges_from k (slice_set rows n (record row { answer = set_kind kind true row.answer })) es ≡ with_answer n (naming kind) (exchanges_from k rows es)
naming_at n k kind [] es row h = cc
naming_at zero k kind (s ∷ rows) es row h =
    let f : row ≡ s = cc in
    ap (λ (r : Row). exchanges_from k ((record r { answer = set_kind kind true r.answer }) ∷ rows) es) f
naming_at (suc n) k kind (s ∷ rows) es row h = ap (λ t. exchange_of s (listed_by k es) ∷ t) (naming_at n (k + 1) kind rows es row h)

pub giving_at : (n k : ℕ) (rows : List Row) (es : Listings) (row : Row) → slice_get rows n ≡ Some row
    → exchanges_from k (slice_set rows n (record row { is_given = true })) es ≡ with_answer n giving (exchanges_from k rows es)
giving_at n k [] es row h = cc
giving_at zero k (s ∷ rows) es row h =
    let f : row ≡ s = cc in
    ap (λ (r : Row). exchanges_from k ((record r { is_given = true }) ∷ rows) es) f
giving_at (suc n) k (s ∷ rows) es row h = ap (λ t. exchange_of s (listed_by k es) ∷ t) (giving_at n (k + 1) rows es row h)

pub changed_past : (n k : ℕ) (change : Answer → Answer) (rows : List Row) (es : Listings) → slice_get rows n ≡ None → exchanges_from k rows es ≡ with_answer n change (exchanges_from k rows es)
changed_past n k change [] es h = refl
changed_past zero k change (s ∷ rows) es h = cc
changed_past (suc n) k change (s ∷ rows) es h = ap (λ t. exchange_of s (listed_by k es) ∷ t) (changed_past n (k + 1) change rows es h)

-- ---- the oldest one without an answer

take_suc : {A : Type 0} (k : ℕ) (xs : List A) (x : A) → slice_get xs k ≡ Some x → take (suc k) xs ≡ take k xs ++ (x ∷ [])
take_suc k [] x h = cc
take_suc zero (y ∷ xs) x h = let f : y ≡ x = cc in ap (λ z. z ∷ []) f
take_suc (suc k) (y ∷ xs) x h = ap (λ t. y ∷ t) (take_suc k xs x h)

pub take_more : {A : Type 0} (k : ℕ) (xs : List A) (x : A) → slice_get xs k ≡ Some x → take (k + 1) xs ≡ take k xs ++ (x ∷ [])
take_more k xs x h = let step : k + 1 ≡ suc k = omega arith in ap (λ n. take n xs) step ∙ take_suc k xs x h

abbrev pub AreGiven : List Row → Type 0
AreGiven rows = All (λ (r : Row). r.is_given ≡ true) rows

pub given_more : (n : ℕ) (rows : List Row) (row : Row) → slice_get rows n ≡ Some row → row.is_given ≡ true → AreGiven (take n rows) → AreGiven (take (n + 1) rows)
given_more n rows row is given before = subst AreGiven (sym (take_more n rows row is)) (All-push (λ (r : Row). r.is_given ≡ true) (take n rows) row before given)

pub behind_at : (n k base : ℕ) (rows : List Row) (es : Listings) (row : Row) → slice_get rows n ≡ Some row → row.is_given ≡ false → AreGiven (take n rows)
    → behind_from base (exchanges_from k rows es) ≡ Some (base + n)
behind_at n k base [] es row h not before = cc
behind_at zero k base (s ∷ rows) es row h not before =
    let f : s ≡ row = cc in
    let e : s.is_given ≡ false = ap (λ (r : Row). r.is_given) f ∙ not in
    ap (λ b. cond b (behind_from (base + 1) (exchanges_from (k + 1) rows es)) (Some base)) e ∙ ap (λ n. Some n) (omega arith)
behind_at (suc n) k base (s ∷ rows) es row h not before =
    let given = λ (r : Row). r.is_given ≡ true in
    let e : s.is_given ≡ true = All-head given s (take n rows) before in
    ap (λ b. cond b (behind_from (base + 1) (exchanges_from (k + 1) rows es)) (Some base)) e
    ∙ behind_at n (k + 1) (base + 1) rows es row h not (All-tail given s (take n rows) before) ∙ ap (λ n. Some n) (omega arith)

pub none_behind : (k base : ℕ) (rows : List Row) (es : Listings) → AreGiven rows → behind_from base (exchanges_from k rows es) ≡ None
none_behind k base [] es given = refl
none_behind k base (s ∷ rows) es given =
    ap (λ b. cond b (behind_from (base + 1) (exchanges_from (k + 1) rows es)) (Some base)) (All-head (λ (r : Row). r.is_given ≡ true) s rows given)
    ∙ none_behind (k + 1) (base + 1) rows es (All-tail (λ (r : Row). r.is_given ≡ true) s rows given)

-- ---- a row that is read by its number

pub read_at : (xs ys : List Row) (i : ℕ) (row : Row) → xs ≡ ys → i < length xs → row ≡ get_or xs i row → slice_get ys i ≡ Some row
read_at xs ys i row same within is = subst (λ t. slice_get t i ≡ Some row) same (slice_get_read xs (length xs) i row refl within is)

pub read_past : (xs ys : List Row) (i : ℕ) → xs ≡ ys → length xs ≤ i → slice_get ys i ≡ None
read_past xs ys i same past = subst (λ t. slice_get t i ≡ None) same (slice_get_past xs i past)

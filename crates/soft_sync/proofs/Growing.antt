-- Lemmas on one request more, and on one channel more that the last one lists.
use Rattle.std.proofs.Common.{◌≡◌, ◌≢◌, ℕ, ◌+◌, ◌-◌, ◌<◌, ◌≤◌, Bool, true, false, cond, nat_eq, List, [], ◌∷◌, ◌++◌, length, map, All, refl, sym, ap, ◌∙◌, arith}
use Rattle.std.specs.Cmp.{nat_eq_equiv}
use Rattle.std.specs.Map.{keys_of}
use Rattle.std.proofs.lemmas.Bool.{ne_eqb}
use Rattle.std.proofs.lemmas.List.{append_assoc, append-nil, map-append, length-append, length-map}
use Rattle.std.proofs.lemmas.List.Elements.{All-head, All-tail, All-weaker, All-cons, All-nil}
use Rattle.mt_base.specs.declared.kinds.Kind.{Kind}
use Rattle.mt_base.specs.declared.kinds.Kind.TheVariants.{Reliable, Lossy}
use Rattle.soft_sync.specs.declared.row.Row.{Row}
use Rattle.soft_sync.specs.declared.row.Listing.{Listing}
use Rattle.soft_sync.specs.Exchanges.{with_channel}
use Rattle.soft_sync.specs.Table.{listed_by, exchange_of, exchanges_from, under}
use Rattle.soft_sync.proofs.Listed.{Listings}

-- the listings are of requests before this number
abbrev pub Below : ℕ → Listings → Type 0
Below n es = All (λ (l : ℕ × Listing). (l.1).number < n) es

pub listed_by-append : (k : ℕ) (es fs : Listings) → listed_by k (es ++ fs) ≡ listed_by k es ++ listed_by k fs
listed_by-append k [] fs = refl
listed_by-append k (e ∷ es) fs = by (nat_eq (e.1).number k) (listed_by-append k es fs)
  where
    by : (b : Bool) → listed_by k (es ++ fs) ≡ listed_by k es ++ listed_by k fs
        → cond b ((e.0, (e.1).kind) ∷ listed_by k (es ++ fs)) (listed_by k (es ++ fs)) ≡ cond b ((e.0, (e.1).kind) ∷ listed_by k es) (listed_by k es) ++ listed_by k fs
    by true h = ap (λ t. (e.0, (e.1).kind) ∷ t) h
    by false h = h

pub listed_by-under : (n : ℕ) (kind : Kind) (ids : List ℕ) → listed_by n (under n kind ids) ≡ map (λ id. (id, kind)) ids
listed_by-under n kind [] = refl
listed_by-under n kind (id ∷ ids) =
    ap (λ b. cond b ((id, kind) ∷ listed_by n (under n kind ids)) (listed_by n (under n kind ids))) (nat_eq_equiv.refl n)
    ∙ ap (λ t. (id, kind) ∷ t) (listed_by-under n kind ids)

pub listed_by-other : (n k : ℕ) (kind : Kind) (ids : List ℕ) → n ≢ k → listed_by k (under n kind ids) ≡ []
listed_by-other n k kind [] differs = refl
listed_by-other n k kind (id ∷ ids) differs =
    ap (λ b. cond b ((id, kind) ∷ listed_by k (under n kind ids)) (listed_by k (under n kind ids))) (ne_eqb n k differs) ∙ listed_by-other n k kind ids differs

pub listed_by-below : (k : ℕ) (es : Listings) → Below k es → listed_by k es ≡ []
listed_by-below k [] below = refl
listed_by-below k (e ∷ es) below =
    let first : (e.1).number < k = All-head (λ (l : ℕ × Listing). (l.1).number < k) e es below in
    ap (λ b. cond b ((e.0, (e.1).kind) ∷ listed_by k es) (listed_by k es)) (ne_eqb (e.1).number k (λ same. omega (arith, first, same)))
    ∙ listed_by-below k es (All-tail (λ (l : ℕ × Listing). (l.1).number < k) e es below)

-- the last request lists one channel more
pub more_listed : (id n k : ℕ) (kind : Kind) (rows : List Row) (es : Listings) → n + 1 ≡ k + length rows
    → exchanges_from k rows (es ++ under n kind (id ∷ [])) ≡ with_channel id kind (exchanges_from k rows es)
more_listed id n k kind [] es last = refl
more_listed id n k kind (row ∷ []) es last =
    let same : n ≡ k = omega (arith, last) in
    ap (λ t. exchange_of row t ∷ [])
    (listed_by-append k es (under n kind (id ∷ [])) ∙ ap (λ t. listed_by k es ++ listed_by k (under t kind (id ∷ []))) same
    ∙ ap (λ t. listed_by k es ++ t) (listed_by-under k kind (id ∷ [])))
more_listed id n k kind (row ∷ next ∷ rows) es last =
    ap (λ t. exchange_of row t ∷ exchanges_from (k + 1) (next ∷ rows) (es ++ under n kind (id ∷ [])))
    (listed_by-append k es (under n kind (id ∷ [])) ∙ ap (λ t. listed_by k es ++ t) (listed_by-other n k kind (id ∷ []) (λ e. omega (arith, last, e))) ∙ append-nil (listed_by k es))
    ∙ ap (λ t. exchange_of row (listed_by k es) ∷ t) (more_listed id n (k + 1) kind (next ∷ rows) es (omega (arith, last)))

-- there is one request more, which lists these channels
pub one_more : (n k : ℕ) (rows : List Row) (row : Row) (es fs : Listings) → n ≡ k + length rows → Below n es → ((j : ℕ) → n ≢ j → listed_by j fs ≡ [])
    → exchanges_from k (rows ++ (row ∷ [])) (es ++ fs) ≡ exchanges_from k rows es ++ (exchange_of row (listed_by n fs) ∷ [])
one_more n k [] row es fs last below others =
    let same : k ≡ n = omega (arith, last) in
    ap (λ t. exchange_of row (listed_by t (es ++ fs)) ∷ []) same
    ∙ ap (λ t. exchange_of row t ∷ []) (listed_by-append n es fs ∙ ap (λ t. t ++ listed_by n fs) (listed_by-below n es below))
one_more n k (r ∷ rows) row es fs last below others =
    ap (λ t. exchange_of r t ∷ exchanges_from (k + 1) (rows ++ (row ∷ [])) (es ++ fs))
    (listed_by-append k es fs ∙ ap (λ t. listed_by k es ++ t) (others k (λ e. omega (arith, last, e))) ∙ append-nil (listed_by k es))
    ∙ ap (λ t. exchange_of r (listed_by k es) ∷ t) (one_more n (k + 1) rows row es fs (omega (arith, last)) below others)

-- a request more that lists no channel yet
pub begun : (rows : List Row) (row : Row) (es : Listings) → Below (length rows) es → exchanges_from 0 (rows ++ (row ∷ [])) es ≡ exchanges_from 0 rows es ++ (exchange_of row [] ∷ [])
begun rows row es below =
    ap (λ t. exchanges_from 0 (rows ++ (row ∷ [])) t) (sym (append-nil es)) ∙ one_more (length rows) 0 rows row es [] (omega arith) below (λ j n. refl)

-- a request more that lists channels under both kinds
pub made : (rows : List Row) (row : Row) (es : Listings) (reliable lossy : List ℕ) → Below (length rows) es
    → exchanges_from 0 (rows ++ (row ∷ [])) ((es ++ under (length rows) Reliable reliable) ++ under (length rows) Lossy lossy)
    ≡ exchanges_from 0 rows es ++ (exchange_of row (map (λ id. (id, Reliable)) reliable ++ map (λ id. (id, Lossy)) lossy) ∷ [])
made rows row es reliable lossy below =
    let n = length rows in
    let fs = under n Reliable reliable ++ under n Lossy lossy in
    ap (λ t. exchanges_from 0 (rows ++ (row ∷ [])) t) (append_assoc es (under n Reliable reliable) (under n Lossy lossy))
    ∙ one_more n 0 rows row es fs (omega arith) below
    (λ j differs. listed_by-append j (under n Reliable reliable) (under n Lossy lossy) ∙ ap (λ t. t ++ listed_by j (under n Lossy lossy)) (listed_by-other n j Reliable reliable differs)
    ∙ listed_by-other n j Lossy lossy differs)
    ∙ ap (λ t. exchanges_from 0 rows es ++ (exchange_of row t ∷ []))
    (listed_by-append n (under n Reliable reliable) (under n Lossy lossy) ∙ ap (λ t. t ++ listed_by n (under n Lossy lossy)) (listed_by-under n Reliable reliable)
    ∙ ap (λ t. map (λ id. (id, Reliable)) reliable ++ t) (listed_by-under n Lossy lossy))

pub below_more : (n m : ℕ) (es : Listings) → n ≤ m → Below n es → Below m es
below_more n m es h below = All-weaker (λ (l : ℕ × Listing). (l.1).number < n) (λ (l : ℕ × Listing). (l.1).number < m) (λ l p. omega (arith, p, h)) es below

pub below_under : (n m : ℕ) (kind : Kind) (ids : List ℕ) → n < m → Below m (under n kind ids)
below_under n m kind [] h = All-nil (λ (l : ℕ × Listing). (l.1).number < m)
below_under n m kind (id ∷ ids) h = All-cons (λ (l : ℕ × Listing). (l.1).number < m) _ (under n kind ids) h (below_under n m kind ids h)

pub keys-under : (n : ℕ) (kind : Kind) (ids : List ℕ) → keys_of (under n kind ids) ≡ ids
keys-under n kind [] = refl
keys-under n kind (id ∷ ids) = ap (λ t. id ∷ t) (keys-under n kind ids)

pub keys_more : (n : ℕ) (kind : Kind) (es : Listings) (ids : List ℕ) → keys_of (es ++ under n kind ids) ≡ keys_of es ++ ids
keys_more n kind es ids = map-append (λ (e : ℕ × Listing). e.0) es (under n kind ids) ∙ ap (λ t. keys_of es ++ t) (keys-under n kind ids)

pub under_more : (n : ℕ) (kind : Kind) (es : Listings) (ids : List ℕ) (id : ℕ) → (es ++ under n kind ids) ++ under n kind (id ∷ []) ≡ es ++ under n kind (ids ++ (id ∷ []))
under_more n kind es ids id =
    append_assoc es (under n kind ids) (under n kind (id ∷ [])) ∙ ap (λ t. es ++ t) (sym (map-append (λ id. (id, record { number = n; kind = kind })) ids (id ∷ [])))

-- a request that is begun, and lists channels under one kind and then under the other
pub record IsMade (rows rows' : List Row) (row : Row) (es es' : Listings) (reliable lossy : List ℕ) : Type 0 where
  pub rows_are : rows' ≡ rows ++ (row ∷ [])
  pub listings_are : es' ≡ (es ++ under (length rows) Reliable reliable) ++ under (length rows) Lossy lossy

pub made_by : (rows rows' : List Row) (row : Row) (es es' : Listings) (reliable lossy : List ℕ) → Below (length rows) es → IsMade rows rows' row es es' reliable lossy
    → exchanges_from 0 rows' es' ≡ exchanges_from 0 rows es ++ (exchange_of row (map (λ id. (id, Reliable)) reliable ++ map (λ id. (id, Lossy)) lossy) ∷ [])
made_by rows rows' row es es' reliable lossy below m =
    ap (λ r. exchanges_from 0 r es') m.rows_are ∙ ap (λ l. exchanges_from 0 (rows ++ (row ∷ [])) l) m.listings_are ∙ made rows row es reliable lossy below

pub last_number : (rows rows' : List Row) (row : Row) → rows' ≡ rows ++ (row ∷ []) → length rows' - 1 ≡ length rows
last_number rows rows' row is = let e = ap (λ (r : List Row). length r) is ∙ length-append rows (row ∷ []) in omega (arith, e)

pub length-listed : (n : ℕ) (es es' : Listings) (kind : Kind) (ids : List ℕ) → es' ≡ es ++ under n kind ids → length es' ≡ length es + length ids
length-listed n es es' kind ids is =
    ap (λ (l : Listings). length l) is ∙ length-append es (under n kind ids) ∙ ap (λ k. length es + k) (length-map ids (λ id. (id, record { number = n; kind = kind })))

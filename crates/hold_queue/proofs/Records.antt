-- Lemmas on records and their bytes.
use Rattle.std.proofs.Common.{◌≡◌, ◌≢◌, inl, inr, ℕ, zero, suc, ◌≤◌, ◌<◌, ◌+◌, ◌-◌, ◌*◌, Bool, true, false, cond, nat_eq, List, [], ◌∷◌, ◌++◌, length, take, drop, All, slice_get, slice_set, Option, Some, None, refl, sym, ap, ◌∙◌, subst, arith, length-append, length-drop, length-take}
use Rattle.std.proofs.lemmas.Bool.{ne_eqb}
use Rattle.std.proofs.lemmas.List.{append_assoc, append-nil, drop-drop, drop-append-le, take-append-le, length-take-le, take_at, drop_at, length-set}
use Rattle.std.proofs.lemmas.List.Elements.{All-append, All-cons, All-nil, All-head, All-tail, All-set, All-push}
use Rattle.hold_queue.specs.declared.record.Record.{Record}
use Rattle.hold_queue.specs.Held.{Pdu, pdu_of, weight, oldest, without_oldest}
use Rattle.hold_queue.specs.Stored.{total, first_of, held_in, IsStored, is_for, gone}

-- ---- the bytes of records

take_suc : {A : Type 0} (k : ℕ) (xs : List A) (x : A) → slice_get xs k ≡ Some x → take (suc k) xs ≡ take k xs ++ (x ∷ [])
take_suc k [] x h = cc
take_suc zero (y ∷ xs) x h = let f : y ≡ x = cc in ap (λ z. z ∷ []) f
take_suc (suc k) (y ∷ xs) x h = ap (λ t. y ∷ t) (take_suc k xs x h)

pub take_more : {A : Type 0} (k : ℕ) (xs : List A) (x : A) → slice_get xs k ≡ Some x → take (k + 1) xs ≡ take k xs ++ (x ∷ [])
take_more k xs x h = let step : k + 1 ≡ suc k = omega arith in ap (λ n. take n xs) step ∙ take_suc k xs x h

pub total-append : (rs ss : List Record) → total (rs ++ ss) ≡ total rs + total ss
total-append [] ss = omega arith
total-append (r ∷ rs) ss = let e = total-append rs ss in omega (arith, e)

pub total_more : (i : ℕ) (rs : List Record) (r : Record) → slice_get rs i ≡ Some r → total (take (i + 1) rs) ≡ total (take i rs) + r.length
total_more i rs r h = let e = total-append (take i rs) (r ∷ []) in ap total (take_more i rs r h) ∙ omega (arith, e)

-- the bytes of a record end within those of all
pub total_at : (i : ℕ) (rs : List Record) (r : Record) → slice_get rs i ≡ Some r → total (take i rs) + r.length ≤ total rs
total_at i [] r h = cc
total_at zero (s ∷ rs) r h = let f : s ≡ r = cc in let g = ap (λ (x : Record). x.length) f in omega (arith, g)
total_at (suc i) (s ∷ rs) r h = let e = total_at i rs r h in omega (arith, e)

-- a PDU more
pub held_more : (rs : List Record) (r : Record) (bs ys : List ℕ) → total rs ≡ length bs → held_in (rs ++ (r ∷ [])) (bs ++ ys) ≡ held_in rs bs ++ held_in (r ∷ []) ys
held_more [] r [] ys h = refl
held_more [] r (b ∷ bs) ys h = absurd (omega (arith, h))
held_more (s ∷ rs) r bs ys h =
    let within : s.length ≤ length bs = omega (arith, h) in
    let rest : total rs ≡ length (drop s.length bs) = omega (arith, h, length-drop s.length bs) in
    let first = take-append-le s.length bs ys within in
    let then = drop-append-le s.length bs ys within in
    ap (λ t. cond s.is_held (pdu_of s.id s.at t ∷ []) [] ++ held_in (rs ++ (r ∷ [])) (drop s.length (bs ++ ys))) first
    ∙ ap (λ t. first_of s bs ++ held_in (rs ++ (r ∷ [])) t) then
    ∙ ap (λ t. first_of s bs ++ t) (held_more rs r (drop s.length bs) ys rest)
    ∙ sym (append_assoc (first_of s bs) (held_in rs (drop s.length bs)) (held_in (r ∷ []) ys))

-- ---- the oldest of a channel

skip_oldest : (id : ℕ) (r : Record) (bs : List ℕ) (rest : List Pdu) → is_for id r ≡ false → oldest id (first_of r bs ++ rest) ≡ oldest id rest
skip_oldest id r bs rest = by r.is_held
  where
    by : (h : Bool) → cond h (nat_eq r.id id) false ≡ false → oldest id (cond h (pdu_of r.id r.at (take r.length bs) ∷ []) [] ++ rest) ≡ oldest id rest
    by true e = ap (λ b. cond b (Some (pdu_of r.id r.at (take r.length bs))) (oldest id rest)) e
    by false e = refl

skip_without : (id : ℕ) (r : Record) (bs : List ℕ) (rest : List Pdu) → is_for id r ≡ false → without_oldest id (first_of r bs ++ rest) ≡ first_of r bs ++ without_oldest id rest
skip_without id r bs rest = by r.is_held
  where
    by : (h : Bool) → cond h (nat_eq r.id id) false ≡ false
        → without_oldest id (cond h (pdu_of r.id r.at (take r.length bs) ∷ []) [] ++ rest) ≡ cond h (pdu_of r.id r.at (take r.length bs) ∷ []) [] ++ without_oldest id rest
    by true e = ap (λ b. cond b rest (pdu_of r.id r.at (take r.length bs) ∷ without_oldest id rest)) e
    by false e = refl

first_oldest : (id : ℕ) (r : Record) (bs : List ℕ) (rest : List Pdu) → is_for id r ≡ true → oldest id (first_of r bs ++ rest) ≡ Some (pdu_of r.id r.at (take r.length bs))
first_oldest id r bs rest = by r.is_held
  where
    by : (h : Bool) → cond h (nat_eq r.id id) false ≡ true → oldest id (cond h (pdu_of r.id r.at (take r.length bs) ∷ []) [] ++ rest) ≡ Some (pdu_of r.id r.at (take r.length bs))
    by true e = ap (λ b. cond b (Some (pdu_of r.id r.at (take r.length bs))) (oldest id rest)) e
    by false e = cc

first_without : (id : ℕ) (r : Record) (bs : List ℕ) (rest : List Pdu) → is_for id r ≡ true → without_oldest id (first_of r bs ++ rest) ≡ rest
first_without id r bs rest = by r.is_held
  where
    by : (h : Bool) → cond h (nat_eq r.id id) false ≡ true → without_oldest id (cond h (pdu_of r.id r.at (take r.length bs) ∷ []) [] ++ rest) ≡ rest
    by true e = ap (λ b. cond b rest (pdu_of r.id r.at (take r.length bs) ∷ without_oldest id rest)) e
    by false e = cc

-- no record is of a PDU that is held for this channel
abbrev pub None_for : ℕ → List Record → Type 0
None_for id rs = All (λ (r : Record). is_for id r ≡ false) rs

-- one record more that is of no such PDU
pub none_more : (id i : ℕ) (rs : List Record) (r : Record) → slice_get rs i ≡ Some r → is_for id r ≡ false → None_for id (take i rs) → None_for id (take (i + 1) rs)
none_more id i rs r is not none = subst (None_for id) (sym (take_more i rs r is)) (All-push (λ (s : Record). is_for id s ≡ false) (take i rs) r none not)

pub not_held : (id : ℕ) (r : Record) → r.is_held ≡ false → is_for id r ≡ false
not_held id r e = ap (λ h. cond h (nat_eq r.id id) false) e

pub other_channel : (id : ℕ) (r : Record) → r.is_held ≡ true → r.id ≢ id → is_for id r ≡ false
other_channel id r e n = ap (λ h. cond h (nat_eq r.id id) false) e ∙ ne_eqb r.id id n

pub none_oldest : (id : ℕ) (rs : List Record) (bs : List ℕ) → None_for id rs → oldest id (held_in rs bs) ≡ None
none_oldest id [] bs none = refl
none_oldest id (r ∷ rs) bs none =
    skip_oldest id r bs (held_in rs (drop r.length bs)) (All-head (λ (s : Record). is_for id s ≡ false) r rs none)
    ∙ none_oldest id rs (drop r.length bs) (All-tail (λ (s : Record). is_for id s ≡ false) r rs none)

pub none_without : (id : ℕ) (rs : List Record) (bs : List ℕ) → None_for id rs → without_oldest id (held_in rs bs) ≡ held_in rs bs
none_without id [] bs none = refl
none_without id (r ∷ rs) bs none =
    skip_without id r bs (held_in rs (drop r.length bs)) (All-head (λ (s : Record). is_for id s ≡ false) r rs none)
    ∙ ap (λ t. first_of r bs ++ t) (none_without id rs (drop r.length bs) (All-tail (λ (s : Record). is_for id s ≡ false) r rs none))

pub oldest_at : (id i : ℕ) (rs : List Record) (r : Record) (bs : List ℕ) → slice_get rs i ≡ Some r → is_for id r ≡ true → None_for id (take i rs)
    → oldest id (held_in rs bs) ≡ Some (pdu_of r.id r.at (take r.length (drop (total (take i rs)) bs)))
oldest_at id i [] r bs is for none = cc
oldest_at id zero (s ∷ rs) r bs is for none =
    let f : s ≡ r = cc in
    ap (λ (x : Record). oldest id (first_of x bs ++ held_in rs (drop x.length bs))) f ∙ first_oldest id r bs (held_in rs (drop r.length bs)) for
oldest_at id (suc i) (s ∷ rs) r bs is for none =
    let lacks = λ (x : Record). is_for id x ≡ false in
    skip_oldest id s bs (held_in rs (drop s.length bs)) (All-head lacks s (take i rs) none)
    ∙ oldest_at id i rs r (drop s.length bs) is for (All-tail lacks s (take i rs) none)
    ∙ ap (λ t. Some (pdu_of r.id r.at (take r.length t))) (drop-drop (total (take i rs)) s.length bs)

pub removed_at : (id i : ℕ) (rs : List Record) (r : Record) (bs : List ℕ) → slice_get rs i ≡ Some r → is_for id r ≡ true → None_for id (take i rs)
    → held_in (slice_set rs i (gone r)) bs ≡ without_oldest id (held_in rs bs)
removed_at id i [] r bs is for none = cc
removed_at id zero (s ∷ rs) r bs is for none =
    let f : s ≡ r = cc in
    sym (ap (λ (x : Record). without_oldest id (first_of x bs ++ held_in rs (drop x.length bs))) f ∙ first_without id r bs (held_in rs (drop r.length bs)) for)
removed_at id (suc i) (s ∷ rs) r bs is for none =
    let lacks = λ (x : Record). is_for id x ≡ false in
    ap (λ t. first_of s bs ++ t) (removed_at id i rs r (drop s.length bs) is for (All-tail lacks s (take i rs) none))
    ∙ sym (skip_without id s bs (held_in rs (drop s.length bs)) (All-head lacks s (take i rs) none))

pub weight_oldest : (id : ℕ) (pdus : List Pdu) (p : Pdu) → oldest id pdus ≡ Some p → weight pdus ≡ (16 + length p.bytes) + weight (without_oldest id pdus)
weight_oldest id [] p h = cc
weight_oldest id (q ∷ pdus) p h = by (nat_eq q.id id) h (weight_oldest id pdus p)
  where
    by : (b : Bool) → cond b (Some q) (oldest id pdus) ≡ Some p → (oldest id pdus ≡ Some p → weight pdus ≡ (16 + length p.bytes) + weight (without_oldest id pdus))
        → (16 + length q.bytes) + weight pdus ≡ (16 + length p.bytes) + weight (cond b pdus (q ∷ without_oldest id pdus))
    by true h others = let f : q ≡ p = cc in ap (λ (x : Pdu). (16 + length x.bytes) + weight pdus) f
    by false h others = let e = others h in omega (arith, e)

pub weight-append : (ps qs : List Pdu) → weight (ps ++ qs) ≡ weight ps + weight qs
weight-append [] qs = omega arith
weight-append (p ∷ ps) qs = let e = weight-append ps qs in omega (arith, e)

-- ---- a record that is marked as gone

total-gone : (i : ℕ) (rs : List Record) (r : Record) → slice_get rs i ≡ Some r → total (slice_set rs i (gone r)) ≡ total rs
total-gone i [] r h = cc
total-gone zero (s ∷ rs) r h = let f : r ≡ s = cc in ap (λ (x : Record). x.length + total rs) f
total-gone (suc i) (s ∷ rs) r h = ap (λ n. s.length + n) (total-gone i rs r h)

short_at : (i : ℕ) (rs : List Record) (r : Record) → slice_get rs i ≡ Some r → All (λ (s : Record). s.length ≤ 1600) rs → r.length ≤ 1600
short_at i [] r h all = cc
short_at zero (s ∷ rs) r h all = let f : s ≡ r = cc in subst (λ (x : Record). x.length ≤ 1600) f (All-head (λ (s : Record). s.length ≤ 1600) s rs all)
short_at (suc i) (s ∷ rs) r h all = short_at i rs r h (All-tail (λ (s : Record). s.length ≤ 1600) s rs all)

pub gone_stored : (i : ℕ) (rs : List Record) (r : Record) (bs : List ℕ) → slice_get rs i ≡ Some r → IsStored rs bs → IsStored (slice_set rs i (gone r)) bs
gone_stored i rs r bs is s = record {
  short = All-set (λ (s : Record). s.length ≤ 1600) rs i (gone r) (short_at i rs r is s.short) s.short;
  total_is = total-gone i rs r is ∙ s.total_is;
  few = let e = length-set rs i (gone r) in let f = s.few in omega (arith, e, f);
  within = s.within;
}

pub within_at : (i : ℕ) (rs : List Record) (r : Record) (bs : List ℕ) → slice_get rs i ≡ Some r → IsStored rs bs → (r.length ≤ 1600) × (total (take i rs) + r.length ≤ length bs)
within_at i rs r bs is s = (short_at i rs r is s.short, let e = total_at i rs r is in let f = s.total_is in omega (arith, e, f))

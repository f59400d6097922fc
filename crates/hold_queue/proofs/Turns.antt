-- Lemmas on rings whose records go round once.
use Rattle.std.proofs.Common.{◌≡◌, ℕ, zero, suc, ◌≤◌, ◌+◌, ◌-◌, ◌*◌, Bool, true, false, cond, nat_eq, List, [], ◌∷◌, ◌++◌, length, take, drop, All, Option, Some, None, refl, sym, ap, ◌∙◌, subst, arith, length-append, length-drop, length-take}
use Rattle.std.proofs.lemmas.List.{append_assoc, append-nil, drop-append-le, take-append-le, length-take-le, take_at, drop_at}
use Rattle.std.proofs.lemmas.List.Elements.{All-append, All-cons, All-nil, All-head, All-tail}
use Rattle.hold_queue.specs.declared.record.Record.{Record}
use Rattle.hold_queue.specs.Held.{Pdu, pdu_of, weight, without}
use Rattle.hold_queue.specs.Stored.{total, first_of, held_in, IsStored, stays, left, turned_records, turned_bytes}
use Rattle.hold_queue.proofs.Records.{total-append}

-- the rings after so many turns
abbrev pub turned_by : Option ℕ → ℕ → List Record → List ℕ → List Record × List ℕ
turned_by leaving zero records bytes = (records, bytes)
turned_by leaving (suc n) records bytes = turned_by leaving n (turned_records leaving records) (turned_bytes leaving records bytes)

-- a record that stays, and its bytes
abbrev pub kept : Option ℕ → Record → List Record
kept leaving r = cond (stays leaving r) (r ∷ []) []

abbrev pub kept_bytes : Option ℕ → Record → List ℕ → List ℕ
kept_bytes leaving r bytes = cond (stays leaving r) (take r.length bytes) []

-- all records that stay, and their bytes
abbrev pub staying : Option ℕ → List Record → List Record
staying leaving [] = []
staying leaving (r ∷ records) = kept leaving r ++ staying leaving records

abbrev pub staying_bytes : Option ℕ → List Record → List ℕ → List ℕ
staying_bytes leaving [] bytes = []
staying_bytes leaving (r ∷ records) bytes = kept_bytes leaving r bytes ++ staying_bytes leaving records (drop r.length bytes)

-- ---- a turn

total_kept : (leaving : Option ℕ) (r : Record) (bs : List ℕ) → r.length ≤ length bs → total (kept leaving r) ≡ length (kept_bytes leaving r bs)
total_kept leaving r bs h = by (stays leaving r)
  where
    by : (b : Bool) → total (cond b (r ∷ []) []) ≡ length (cond b (take r.length bs) [])
    by true = let e = length-take-le r.length bs h in omega (arith, e)
    by false = refl

few_kept : (leaving : Option ℕ) (r : Record) (bs : List ℕ) → r.length ≤ length bs → (length (kept leaving r) ≤ 1) × (length (kept_bytes leaving r bs) ≤ r.length)
few_kept leaving r bs h = by (stays leaving r)
  where
    by : (b : Bool) → (length (cond b (r ∷ []) []) ≤ 1) × (length (cond b (take r.length bs) []) ≤ r.length)
    by true = let e = length-take-le r.length bs h in (omega arith, omega (arith, e))
    by false = (omega arith, omega arith)

short_kept : (leaving : Option ℕ) (r : Record) → r.length ≤ 1600 → All (λ (s : Record). s.length ≤ 1600) (kept leaving r)
short_kept leaving r h = by (stays leaving r)
  where
    by : (b : Bool) → All (λ (s : Record). s.length ≤ 1600) (cond b (r ∷ []) [])
    by true = All-cons (λ (s : Record). s.length ≤ 1600) r [] h (All-nil (λ (s : Record). s.length ≤ 1600))
    by false = All-nil (λ (s : Record). s.length ≤ 1600)

pub turned_stored : (leaving : Option ℕ) (rs : List Record) (bs : List ℕ) → IsStored rs bs → IsStored (turned_records leaving rs) (turned_bytes leaving rs bs)
turned_stored leaving [] bs s = s
turned_stored leaving (r ∷ rs) bs s =
    let t = s.total_is in
    let few = s.few in
    let within = s.within in
    let h : r.length ≤ length bs = omega (arith, t) in
    let f = few_kept leaving r bs h in
    let is = total_kept leaving r bs h in
    record {
      short = All-append (λ (s : Record). s.length ≤ 1600) rs (kept leaving r) (All-tail (λ (s : Record). s.length ≤ 1600) r rs s.short)
          (short_kept leaving r (All-head (λ (s : Record). s.length ≤ 1600) r rs s.short));
      total_is = omega (arith, t, is, total-append rs (kept leaving r), length-append (drop r.length bs) (kept_bytes leaving r bs), length-drop r.length bs);
      few = omega (arith, few, f.0, length-append rs (kept leaving r));
      within = omega (arith, within, h, f.1, length-append (drop r.length bs) (kept_bytes leaving r bs), length-drop r.length bs);
    }

pub stored_then : (leaving : Option ℕ) (rs ss : List Record) (bs ys : List ℕ) → IsStored rs bs → ss ≡ turned_records leaving rs → ys ≡ turned_bytes leaving rs bs → IsStored ss ys
stored_then leaving rs ss bs ys s records bytes =
    subst (λ t. IsStored ss t) (sym bytes) (subst (λ t. IsStored t (turned_bytes leaving rs bs)) (sym records) (turned_stored leaving rs bs s))

-- after as many turns as there are records, those that stay stand in order behind the others
pub all_turned : (leaving : Option ℕ) (rs ds : List Record) (bs xs : List ℕ) → total rs ≡ length bs
    → turned_by leaving (length rs) (rs ++ ds) (bs ++ xs) ≡ (ds ++ staying leaving rs, xs ++ staying_bytes leaving rs bs)
all_turned leaving [] ds [] xs h = ap (λ l. (l, xs)) (sym (append-nil ds)) ∙ ap (λ l. (ds ++ [], l)) (sym (append-nil xs))
all_turned leaving [] ds (b ∷ bs) xs h = absurd (omega (arith, h))
all_turned leaving (r ∷ rs) ds bs xs h =
    let within : r.length ≤ length bs = omega (arith, h) in
    let rest : total rs ≡ length (drop r.length bs) = omega (arith, h, length-drop r.length bs) in
    let records = append_assoc rs ds (kept leaving r) in
    let bytes : drop r.length (bs ++ xs) ++ kept_bytes leaving r (bs ++ xs) ≡ drop r.length bs ++ (xs ++ kept_bytes leaving r bs) =
    ap (λ t. t ++ kept_bytes leaving r (bs ++ xs)) (drop-append-le r.length bs xs within)
    ∙ ap (λ t. (drop r.length bs ++ xs) ++ cond (stays leaving r) t []) (take-append-le r.length bs xs within)
    ∙ append_assoc (drop r.length bs) xs (kept_bytes leaving r bs) in
    ap (λ t. turned_by leaving (length rs) t (drop r.length (bs ++ xs) ++ kept_bytes leaving r (bs ++ xs))) records
    ∙ ap (λ t. turned_by leaving (length rs) (rs ++ (ds ++ kept leaving r)) t) bytes
    ∙ all_turned leaving rs (ds ++ kept leaving r) (drop r.length bs) (xs ++ kept_bytes leaving r bs) rest
    ∙ ap (λ t. (t, (xs ++ kept_bytes leaving r bs) ++ staying_bytes leaving rs (drop r.length bs))) (append_assoc ds (kept leaving r) (staying leaving rs))
    ∙ ap (λ t. (ds ++ (kept leaving r ++ staying leaving rs), t)) (append_assoc xs (kept_bytes leaving r bs) (staying_bytes leaving rs (drop r.length bs)))

-- ---- what is held then

left_first : (leaving : Option ℕ) (r : Record) (bs : List ℕ) (rest : List Pdu)
    → left leaving (first_of r bs ++ rest) ≡ cond (stays leaving r) (pdu_of r.id r.at (take r.length bs) ∷ []) [] ++ left leaving rest
left_first None r bs rest = refl
left_first (Some id) r bs rest = by r.is_held (nat_eq r.id id) refl
  where
    by : (h b : Bool) → nat_eq r.id id ≡ b → without id (cond h (pdu_of r.id r.at (take r.length bs) ∷ []) [] ++ rest) ≡ cond (cond b false h) (pdu_of r.id r.at (take r.length bs) ∷ []) [] ++ without id rest
    by true true e = ap (λ c. cond c (without id rest) (pdu_of r.id r.at (take r.length bs) ∷ without id rest)) e
    by true false e = ap (λ c. cond c (without id rest) (pdu_of r.id r.at (take r.length bs) ∷ without id rest)) e
    by false true e = refl
    by false false e = refl

stays_held : (leaving : Option ℕ) (r : Record) → stays leaving r ≡ true → r.is_held ≡ true
stays_held None r h = h
stays_held (Some id) r h = by (nat_eq r.id id) h
  where
    by : (b : Bool) → cond b false r.is_held ≡ true → r.is_held ≡ true
    by true h = cc
    by false h = h

pub held_staying : (leaving : Option ℕ) (rs : List Record) (bs : List ℕ) → total rs ≡ length bs
    → held_in (staying leaving rs) (staying_bytes leaving rs bs) ≡ left leaving (held_in rs bs)
held_staying None [] bs h = refl
held_staying (Some id) [] bs h = refl
held_staying leaving (r ∷ rs) bs h =
    let within : r.length ≤ length bs = omega (arith, h) in
    let rest : total rs ≡ length (drop r.length bs) = omega (arith, h, length-drop r.length bs) in
    by (stays leaving r) refl within (held_staying leaving rs (drop r.length bs) rest) ∙ sym (left_first leaving r bs (held_in rs (drop r.length bs)))
  where
    by : (b : Bool) → stays leaving r ≡ b → r.length ≤ length bs → held_in (staying leaving rs) (staying_bytes leaving rs (drop r.length bs)) ≡ left leaving (held_in rs (drop r.length bs))
        → held_in (cond b (r ∷ []) [] ++ staying leaving rs) (cond b (take r.length bs) [] ++ staying_bytes leaving rs (drop r.length bs))
        ≡ cond b (pdu_of r.id r.at (take r.length bs) ∷ []) [] ++ left leaving (held_in rs (drop r.length bs))
    by true is within others =
        let sb = staying_bytes leaving rs (drop r.length bs) in
        let n = length-take-le r.length bs within in
        ap (λ c. cond c (pdu_of r.id r.at (take r.length (take r.length bs ++ sb)) ∷ []) [] ++ held_in (staying leaving rs) (drop r.length (take r.length bs ++ sb))) (stays_held leaving r is)
        ∙ ap (λ t. pdu_of r.id r.at t ∷ held_in (staying leaving rs) (drop r.length (take r.length bs ++ sb))) (take_at (take r.length bs) sb r.length n)
        ∙ ap (λ t. pdu_of r.id r.at (take r.length bs) ∷ held_in (staying leaving rs) t) (drop_at (take r.length bs) sb r.length n)
        ∙ ap (λ t. pdu_of r.id r.at (take r.length bs) ∷ t) others
    by false is within others = others

-- ---- what they count then

abbrev pub AllHeld : List Record → Type 0
AllHeld rs = All (λ (r : Record). r.is_held ≡ true) rs

pub staying_are_held : (leaving : Option ℕ) (rs : List Record) → AllHeld (staying leaving rs)
staying_are_held leaving [] = All-nil (λ (r : Record). r.is_held ≡ true)
staying_are_held leaving (r ∷ rs) = by (stays leaving r) refl (staying_are_held leaving rs)
  where
    by : (b : Bool) → stays leaving r ≡ b → AllHeld (staying leaving rs) → AllHeld (cond b (r ∷ []) [] ++ staying leaving rs)
    by true is others = All-cons (λ (r : Record). r.is_held ≡ true) r (staying leaving rs) (stays_held leaving r is) others
    by false is others = others

pub weight_dense : (rs : List Record) (bs : List ℕ) → AllHeld rs → total rs ≡ length bs → weight (held_in rs bs) ≡ 16 * length rs + length bs
weight_dense [] bs all h = omega (arith, h)
weight_dense (r ∷ rs) bs all h =
    let within : r.length ≤ length bs = omega (arith, h) in
    let rest : total rs ≡ length (drop r.length bs) = omega (arith, h, length-drop r.length bs) in
    let others = weight_dense rs (drop r.length bs) (All-tail (λ (s : Record). s.is_held ≡ true) r rs all) rest in
    let n = length-take-le r.length bs within in
    ap (λ c. weight (cond c (pdu_of r.id r.at (take r.length bs) ∷ []) [] ++ held_in rs (drop r.length bs))) (All-head (λ (s : Record). s.is_held ≡ true) r rs all)
    ∙ omega (arith, others, n, h, rest, length-drop r.length bs)

-- rings that are closed up: what they hold, and that none is gone
pub closed : (leaving : Option ℕ) (rs ss : List Record) (bs ys : List ℕ) (n count : ℕ) → n ≡ 0 → count ≡ length rs → IsStored rs bs → IsStored ss ys
    → turned_by leaving n ss ys ≡ turned_by leaving count rs bs
    → (held_in ss ys ≡ left leaving (held_in rs bs)) × (weight (held_in ss ys) ≡ 16 * length ss + length ys)
closed leaving rs ss bs ys n count none is old new turned =
    let all : turned_by leaving (length rs) rs bs ≡ (staying leaving rs, staying_bytes leaving rs bs) =
    sym (ap (λ t. turned_by leaving (length rs) t (bs ++ [])) (append-nil rs) ∙ ap (λ t. turned_by leaving (length rs) rs t) (append-nil bs))
    ∙ all_turned leaving rs [] bs [] old.total_is in
    let both : (ss, ys) ≡ (staying leaving rs, staying_bytes leaving rs bs) =
    sym (ap (λ k. turned_by leaving k ss ys) none) ∙ turned ∙ ap (λ k. turned_by leaving k rs bs) is ∙ all in
    let records : ss ≡ staying leaving rs = ap (λ p. p.0) both in
    let bytes : ys ≡ staying_bytes leaving rs bs = ap (λ p. p.1) both in (
      ap (λ t. held_in t ys) records ∙ ap (λ t. held_in (staying leaving rs) t) bytes ∙ held_staying leaving rs bs old.total_is,
      weight_dense ss ys (subst AllHeld (sym records) (staying_are_held leaving rs)) new.total_is,
    )

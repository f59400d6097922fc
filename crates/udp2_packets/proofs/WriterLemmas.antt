-- Lemmas on writing a datagram.
use Rattle.std.proofs.Common.{◌≡◌, ℕ, zero, suc, ◌+◌, ◌-◌, ◌<◌, ◌≤◌, inl, inr, Bool, true, false, ltb, cond, slice_set, List, [], ◌∷◌, ◌++◌, length, take, drop, replicate, Ok, Err, refl, sym, ap, ◌∙◌, arith, append-nil, append_assoc, length-append}
use Rattle.std.proofs.lemmas.Bool.{cases_lt}
use Rattle.std.proofs.Math.Seq.{take-append_seam}
use Rattle.std.proofs.lemmas.List.{length-drop, length-replicate, length-take-le}
use Rattle.std.proofs.lemmas.Slice.{drop-append-drop}
use Rattle.mt_base.specs.declared.errors.NoRoom.{NoRoom}
use Rattle.mt_base.specs.Writing.{puts, then_put, joined}
use Rattle.mt_base.proofs.Fill.{puts-append, puts_fit, joined-append}
use Rattle.mt_base.proofs.Fields.{not_both}
use Rattle.udp2_packets.specs.Value.{Packet}
use Rattle.udp2_packets.specs.Layout.{fields, text, rest_in, kind, prefix, exchanged, zeros, all_fields, plain_fields, written_fields, spelled, finished}

-- all fields are the packet's text
pub text_is : (p : Packet) → joined (all_fields p) ≡ text p
text_is p = joined-append (fields p) (rest_in p.body ∷ []) ∙ ap (λ t. joined (fields p) ++ t) (append-nil (rest_in p.body))

-- ---- the exchange

pub length-exchanged : (xs : List ℕ) → length (exchanged xs) ≡ length xs
length-exchanged [] = refl
length-exchanged (a ∷ []) = refl
length-exchanged (a ∷ b ∷ []) = refl
length-exchanged (a ∷ b ∷ c ∷ []) = refl
length-exchanged (a ∷ b ∷ c ∷ d ∷ []) = refl
length-exchanged (a ∷ b ∷ c ∷ d ∷ e ∷ []) = refl
length-exchanged (a ∷ b ∷ c ∷ d ∷ e ∷ f ∷ []) = refl
length-exchanged (a ∷ b ∷ c ∷ d ∷ e ∷ f ∷ g ∷ []) = refl
length-exchanged (a ∷ b ∷ c ∷ d ∷ e ∷ f ∷ g ∷ h ∷ xs) = refl

pub exchanged-append : (xs ys : List ℕ) → 8 ≤ length xs → exchanged (xs ++ ys) ≡ exchanged xs ++ ys
exchanged-append [] ys long = absurd (omega arith)
exchanged-append (a ∷ []) ys long = absurd (omega arith)
exchanged-append (a ∷ b ∷ []) ys long = absurd (omega arith)
exchanged-append (a ∷ b ∷ c ∷ []) ys long = absurd (omega arith)
exchanged-append (a ∷ b ∷ c ∷ d ∷ []) ys long = absurd (omega arith)
exchanged-append (a ∷ b ∷ c ∷ d ∷ e ∷ []) ys long = absurd (omega arith)
exchanged-append (a ∷ b ∷ c ∷ d ∷ e ∷ f ∷ []) ys long = absurd (omega arith)
exchanged-append (a ∷ b ∷ c ∷ d ∷ e ∷ f ∷ g ∷ []) ys long = absurd (omega arith)
exchanged-append (a ∷ b ∷ c ∷ d ∷ e ∷ f ∷ g ∷ h ∷ xs) ys long = refl

-- ---- the prefix byte takes the place of the first byte

-- the bytes of a datagram before the exchange
pub written_is : (p : Packet) → joined (written_fields p) ≡ prefix 0 (kind p.body) (length (text p)) ∷ (text p ++ zeros p)
unfolding written_fields
written_is p =
    ap (λ t. prefix 0 (kind p.body) (length (text p)) ∷ t) (joined-append (all_fields p) (zeros p ∷ []) ∙ ap (λ t. t ++ (zeros p ++ [])) (text_is p) ∙ ap (λ t. text p ++ t) (append-nil (zeros p)))

-- what is spelled is the datagram of the text
pub spelled_is : (p : Packet) → spelled p ≡ finished (kind p.body) (text p)
unfolding spelled finished
spelled_is p = ap exchanged (written_is p)

-- a datagram has the prefix byte and the text, and at least eight bytes
pub length-finished : (kind : ℕ) (text : List ℕ) → length (finished kind text) ≡ 1 + length text + (7 - length text)
unfolding finished
length-finished kind text =
    let n : ℕ = 0 in
    let all = prefix 0 kind (length text) ∷ (text ++ replicate (7 - length text) 0) in
    omega (arith, length-exchanged all, length-append text (replicate (7 - length text) 0), length-replicate (7 - length text) n)

behind : (x y n : ℕ) (xs : List ℕ) → 1 ≤ n → drop n (x ∷ xs) ≡ drop n (y ∷ xs)
behind x y zero xs h = absurd (omega arith)
behind x y (suc n) xs h = refl

as_finished : (kind : ℕ) (text : List ℕ) → finished kind text ≡ exchanged (prefix 0 kind (length text) ∷ (text ++ replicate (7 - length text) 0))
unfolding finished
as_finished kind text = refl

-- what stands after the prefix byte was set, zeros were put behind the fields, and bytes exchanged
pub finishing : (old set filled last : List ℕ) (kind end byte n : ℕ) → 1 ≤ end → end ≤ length old → byte ≡ prefix 0 kind (end - 1) → set ≡ slice_set old 0 byte
    → filled ≡ take end set ++ (replicate (8 - end) 0 ++ drop (end + (8 - end)) set) → last ≡ exchanged filled → n ≡ end + (8 - end)
    → (n ≡ length (finished kind (drop 1 (take end old)))) × (last ≡ finished kind (drop 1 (take end old)) ++ drop n old)
finishing [] set filled last kind end byte n some within byte_is set_is filled_is last_is n_is = absurd (omega arith)
finishing (x ∷ xs) set filled last kind zero byte n some within byte_is set_is filled_is last_is n_is = absurd (omega arith)
finishing (x ∷ xs) set filled last kind (suc k) byte n some within byte_is set_is filled_is last_is n_is =
    let front : List ℕ = take k xs in
    let long : length front ≡ k = length-take-le k xs (omega arith) in
    let first : byte ≡ prefix 0 kind (length front) = byte_is ∙ ap (prefix 0 kind) (omega arith) in
    let zero_count : 8 - suc k ≡ 7 - length front = omega arith in
    let rest : drop (suc k + (8 - suc k)) (byte ∷ xs) ≡ drop n (x ∷ xs) = ap (λ m. drop m (byte ∷ xs)) (sym n_is) ∙ behind byte x n xs (omega arith) in
    let all : List ℕ = prefix 0 kind (length front) ∷ (front ++ replicate (7 - length front) 0) in
    let laid : filled ≡ all ++ drop n (x ∷ xs) =
    filled_is ∙ ap (λ s. take (suc k) s ++ (replicate (8 - suc k) 0 ++ drop (suc k + (8 - suc k)) s)) set_is
    ∙ ap (λ t. (byte ∷ front) ++ (replicate (8 - suc k) 0 ++ t)) rest ∙ ap (λ m. (byte ∷ front) ++ (replicate m 0 ++ drop n (x ∷ xs))) zero_count
    ∙ ap (λ b. (b ∷ front) ++ (replicate (7 - length front) 0 ++ drop n (x ∷ xs))) first ∙ sym (append_assoc (prefix 0 kind (length front) ∷ front) (replicate (7 - length front) 0) (drop n (x ∷ xs))) in
    let z : ℕ = 0 in
    let eight : 8 ≤ length all = omega (arith, length-append front (replicate (7 - length front) 0), length-replicate (7 - length front) z) in
    (omega (arith, length-finished kind front), last_is ∙ ap exchanged laid ∙ exchanged-append all (drop n (x ∷ xs)) eight ∙ ap (λ t. t ++ drop n (x ∷ xs)) (sym (as_finished kind front)))

-- the fields of a packet, finished, are the datagram that it is spelled by
pub made : (p : Packet) (from plain last : List ℕ) (end n : ℕ) → end ≡ length (0 ∷ text p) → plain ≡ (0 ∷ text p) ++ drop end from
    → n ≡ length (finished (kind p.body) (drop 1 (take end plain))) → last ≡ finished (kind p.body) (drop 1 (take end plain)) ++ drop n plain
    → (n ≡ length (spelled p)) × (last ≡ spelled p ++ drop n from)
made p from plain last end n end_is plain_is n_is last_is =
    let cut : take end plain ≡ 0 ∷ text p = ap (λ x. take end x) plain_is ∙ ap (λ m. take m ((0 ∷ text p) ++ drop end from)) end_is ∙ take-append_seam (0 ∷ text p) (drop end from) in
    let datagram : finished (kind p.body) (drop 1 (take end plain)) ≡ spelled p = ap (λ t. finished (kind p.body) (drop 1 t)) cut ∙ sym (spelled_is p) in
    let long : n ≡ length (spelled p) = n_is ∙ ap length datagram in
    let more : n ≡ end + (7 - length (text p)) = omega (arith, ap length (spelled_is p), length-finished (kind p.body) (text p)) in
    let rest : drop n plain ≡ drop n from = ap (λ x. drop n x) plain_is ∙ drop-append-drop end from (0 ∷ text p) n (omega arith) (sym end_is) in
    (long, last_is ∙ ap (λ t. t ++ drop n plain) datagram ∙ ap (λ t. spelled p ++ t) rest)

-- ---- where a field does not fit

-- which field it is does not depend on the bytes before
same_refusal : (fs : List (List ℕ)) (a b after : List ℕ) (e : NoRoom) → length a ≡ length b → puts fs (record { before = a; after = after }) ≡ Err e → puts fs (record { before = b; after = after }) ≡ Err e
same_refusal [] a b after e same h = cc
same_refusal (f ∷ fs) a b after e same h =
    by_test (ltb (length after) (length f)) h (same_refusal fs (a ++ f) (b ++ f) (drop (length f) after) e (omega (arith, length-append a f, length-append b f)))
  where
    by_test : (t : Bool) → then_put (cond t (Err (record { at = length a; need = length f })) (Ok (record { before = a ++ f; after = drop (length f) after }))) (puts fs) ≡ Err e
        → (puts fs (record { before = a ++ f; after = drop (length f) after }) ≡ Err e → puts fs (record { before = b ++ f; after = drop (length f) after }) ≡ Err e)
        → then_put (cond t (Err (record { at = length b; need = length f })) (Ok (record { before = b ++ f; after = drop (length f) after }))) (puts fs) ≡ Err e
    by_test true is later = ap (λ n. Err (record { at = n; need = length f })) (sym same) ∙ is
    by_test false is later = later is

pub no_room : (p : Packet) (from : List ℕ) (e : NoRoom) → puts (plain_fields p) (record { before = []; after = from }) ≡ Err e → puts (written_fields p) (record { before = []; after = from }) ≡ Err e
unfolding plain_fields written_fields
no_room p from e is = by_test (ltb (length from) 1) is
  where
    later : (b : ℕ) → puts (all_fields p) (record { before = 0 ∷ []; after = drop 1 from }) ≡ Err e → puts (all_fields p ++ (zeros p ∷ [])) (record { before = b ∷ []; after = drop 1 from }) ≡ Err e
    later b h =
        puts-append (all_fields p) (zeros p ∷ []) (record { before = b ∷ []; after = drop 1 from })
        ∙ ap (λ r. then_put r (puts (zeros p ∷ []))) (same_refusal (all_fields p) (0 ∷ []) (b ∷ []) (drop 1 from) e refl h)

    by_test : (t : Bool) → then_put (cond t (Err (record { at = 0; need = 1 })) (Ok (record { before = 0 ∷ []; after = drop 1 from }))) (puts (all_fields p)) ≡ Err e
        → then_put (cond t (Err (record { at = 0; need = 1 })) (Ok (record { before = prefix 0 (kind p.body) (length (text p)) ∷ []; after = drop 1 from }))) (puts (all_fields p ++ (zeros p ∷ []))) ≡ Err e
    by_test true h = h
    by_test false h = later (prefix 0 (kind p.body) (length (text p))) h

pub too_long : (p : Packet) (from : List ℕ) (e : NoRoom) → puts (plain_fields p) (record { before = []; after = from }) ≡ Err e → length from < length (spelled p)
unfolding spelled
too_long p from e is = elim (cases_lt (length from) (length (joined (written_fields p)))) [
  | inl h ↦ omega (arith, length-exchanged (joined (written_fields p)))
  | inr h ↦ (let fit = puts_fit (written_fields p) (record { before = []; after = from }) h in not_both fit.0 e fit.1 (no_room p from e is))
]

pub short_enough : (text from last : List ℕ) (n : ℕ) → n ≡ length text → last ≡ text ++ drop n from → length last ≡ length from → length text ≤ length from
short_enough text from last n long is same = omega (arith, ap length is, length-append text (drop n from), length-drop n from)

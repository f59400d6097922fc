-- Lemmas on two perfect links of parts that are joined.
use Rattle.std.proofs.Common.{◌≡◌, ℕ, ◌+◌, ◌≤◌, ◌<◌, inl, inr, Bool, true, false, List, [], ◌∷◌, ◌++◌, length, take, drop, All, Some, None, unwrap_or, Ok, if◌then◌else◌, refl, sym, ap, ◌∙◌, subst, append_assoc, arith}
use Rattle.std.proofs.lemmas.List.{take-append-drop, take-take}
use Rattle.std.proofs.lemmas.List.Elements.{All-nil, All-cons, All-head, All-tail, All-append}
use Rattle.mt_base.specs.Trace.{Trace, Start, ◌▷◌}
use Rattle.mt_windows.specs.declared.limits.TheConstants.{NUMBERS, PART}
use Rattle.carrier.specs.declared.state.Took.TheVariants.{Used, Ignored}
use Rattle.carrier.specs.Entries.{Entry, Gave, In, Polled, Pulled, Owed, Posted, Next, posted}
use Rattle.carrier.specs.Perfect.{Comes, Sends, spelled, number_of, bytes_of, sent, may_send}
use Rattle.carrier.specs.PerfectThin.{PerfectThin, IsPickedFrom, unsent, first_spelled, part_due, past, least_new, taken, handed, kept_parts, first_part, part_answer_by}
use Rattle.carrier.proofs.PerfectThin.{rises}
use Rattle.carrier.proofs.PerfectJoined.{split_at, shows, cut, cut_count, IsOf, is_of_more, is_of_last, may_number}

-- ---- what was handed out and what was not

pub parts_in_order : (t : Trace Entry) → PerfectThin t → handed t ++ kept_parts t ≡ taken t
parts_in_order Start h = refl
parts_in_order (t ▷ Posted bytes) h = parts_in_order t h.4
parts_in_order (t ▷ In now datagram Used) h =
    split_at (handed t) (kept_parts t ++ bytes_of datagram ∷ []) (taken t ++ bytes_of datagram ∷ [])
    (sym (append_assoc (handed t) (kept_parts t) (bytes_of datagram ∷ [])) ∙ ap (λ xs. xs ++ bytes_of datagram ∷ []) (parts_in_order t h.1))
parts_in_order (t ▷ In now datagram (Ignored why)) h = parts_in_order t h.1
parts_in_order (t ▷ Polled now out) h = parts_in_order t h.1
parts_in_order (t ▷ Next None) h = parts_in_order t h.1
parts_in_order (t ▷ Next (Some bytes)) h = by (kept_parts t) refl h.0 (parts_in_order t h.1)
  where
    by : (kept : List (List ℕ)) → kept_parts t ≡ kept → Some bytes ≡ first_part kept → handed t ++ kept_parts t ≡ taken t → (handed t ++ bytes ∷ []) ++ drop (length (handed t ++ bytes ∷ [])) (taken t) ≡ taken t
    by [] f e before = absurd cc
    by (first ∷ rest) f e before =
        split_at (handed t ++ bytes ∷ []) rest (taken t)
        (append_assoc (handed t) (bytes ∷ []) rest
        ∙ ap (λ x. handed t ++ x ∷ rest) (ap (λ o. unwrap_or o []) e)
        ∙ ap (λ xs. handed t ++ xs) (sym f)
        ∙ before)
parts_in_order (t ▷ Gave bytes) h = absurd h
parts_in_order (t ▷ Pulled room bytes) h = absurd h
parts_in_order (t ▷ Owed count) h = absurd h

-- ---- some of a list, in order

pub picked_more : (xs ys zs : List (List ℕ)) → IsPickedFrom xs ys → IsPickedFrom xs (ys ++ zs)
picked_more [] ys zs h = tt
picked_more (x ∷ xs) [] zs h = absurd h
picked_more (x ∷ xs) (y ∷ ys) zs (inl h) = inl (h.0, picked_more xs ys zs h.1)
picked_more (x ∷ xs) (y ∷ ys) zs (inr h) = inr (picked_more (x ∷ xs) ys zs h)

pub picked_last : (xs ys : List (List ℕ)) (x : List ℕ) → IsPickedFrom xs ys → IsPickedFrom (xs ++ x ∷ []) (ys ++ x ∷ [])
picked_last [] [] x h = inl (refl, tt)
picked_last [] (y ∷ ys) x h = inr (picked_last [] ys x tt)
picked_last (first ∷ xs) [] x h = absurd h
picked_last (first ∷ xs) (y ∷ ys) x (inl h) = inl (h.0, picked_last xs ys x h.1)
picked_last (first ∷ xs) (y ∷ ys) x (inr h) = inr (picked_last (first ∷ xs) ys x h)

pub picked_front : (xs more ys : List (List ℕ)) → IsPickedFrom (xs ++ more) ys → IsPickedFrom xs ys
picked_front [] more ys h = tt
picked_front (x ∷ xs) more [] h = absurd h
picked_front (x ∷ xs) more (y ∷ ys) (inl h) = inl (h.0, picked_front xs more ys h.1)
picked_front (x ∷ xs) more (y ∷ ys) (inr h) = inr (picked_front (x ∷ xs) more ys h)

-- ---- a perfect post that sends

-- what is due is the first of the parts that wait
pub record IsFirst (t : Trace Entry) (datagram : List ℕ) : Type 0 where
  pub bytes : List ℕ
  pub others : List (List ℕ)
  pub are : unsent t ≡ bytes ∷ others
  pub spells : datagram ≡ spelled (sent t) bytes
  pub small : sent t < NUMBERS

pub part_is : (t : Trace Entry) (datagram : List ℕ) → Some datagram ≡ part_due t → IsFirst t datagram
part_is t datagram e = by (may_send (length (unsent t)) (sent t)) refl e
  where
    first : (parts : List (List ℕ)) → unsent t ≡ parts → sent t < NUMBERS → Some datagram ≡ first_spelled (sent t) parts → IsFirst t datagram
    first [] f small e = absurd cc
    first (bytes ∷ others) f small e = record {
      bytes = bytes;
      others = others;
      are = f;
      spells = ap (λ o. unwrap_or o []) e;
      small = small;
    }

    by : (b : Bool) → may_send (length (unsent t)) (sent t) ≡ b → Some datagram ≡ (if b then first_spelled (sent t) (unsent t) else None) → IsFirst t datagram
    by true f e = first (unsent t) refl (may_number (length (unsent t)) (sent t) f) e
    by false f e = absurd cc

abbrev IsShort : List ℕ → Type 0
IsShort bytes = length bytes ≤ PART

-- the parts that wait are short
pub are_short : (t : Trace Entry) → PerfectThin t → All IsShort (unsent t)
are_short Start h = All-nil IsShort
are_short (t ▷ Posted bytes) h = All-append IsShort (unsent t) (bytes ∷ []) (are_short t h.4) (All-cons IsShort bytes [] h.2 (All-nil IsShort))
are_short (t ▷ Polled now (Some out)) h =
    let is = part_is t out h.0 in
    subst (λ xs. All IsShort (drop 1 xs)) (sym is.are) (All-tail IsShort is.bytes is.others (subst (All IsShort) is.are (are_short t h.1)))
are_short (t ▷ Polled now None) h = are_short t h.1
are_short (t ▷ In now datagram took) h = are_short t h.1
are_short (t ▷ Next bytes) h = are_short t h.1
are_short (t ▷ Gave bytes) h = absurd h
are_short (t ▷ Pulled room bytes) h = absurd h
are_short (t ▷ Owed count) h = absurd h

-- the datagrams that were sent are the parts
pub post_parts : (a : Trace Entry) (datagram : List ℕ) → PerfectThin a → Sends a datagram → IsOf (cut a) datagram
post_parts Start datagram h s = absurd s
post_parts (t ▷ Polled now (Some out)) datagram h (inl same) =
    let is = part_is t out h.0 in
    let short : length is.bytes ≤ PART = All-head IsShort is.bytes is.others (subst (All IsShort) is.are (are_short t h.1)) in
    let first : number_of out ≡ Ok (length (cut t)) =
    ap number_of is.spells ∙ shows (sent t) is.bytes is.small short ∙ ap Ok (sym (cut_count t)) in
    subst (λ d. IsOf (cut t ++ bytes_of out ∷ []) d) same (is_of_last (cut t) out first)
post_parts (t ▷ Polled now (Some out)) datagram h (inr before) = is_of_more (cut t) (bytes_of out ∷ []) datagram (post_parts t datagram h.1 before)
post_parts (t ▷ Polled now None) datagram h s = post_parts t datagram h.1 s
post_parts (t ▷ Posted bytes) datagram h s = post_parts t datagram h.4 s
post_parts (t ▷ In now d took) datagram h s = post_parts t datagram h.1 s
post_parts (t ▷ Next bytes) datagram h s = post_parts t datagram h.1 s
post_parts (t ▷ Gave bytes) datagram h s = absurd h
post_parts (t ▷ Pulled room bytes) datagram h s = absurd h
post_parts (t ▷ Owed count) datagram h s = absurd h

-- the parts that were sent and those that wait are those that were posted
pub all_posted : (a : Trace Entry) → PerfectThin a → cut a ++ unsent a ≡ posted a
all_posted Start h = refl
all_posted (t ▷ Posted bytes) h = sym (append_assoc (cut t) (unsent t) (bytes ∷ [])) ∙ ap (λ xs. xs ++ bytes ∷ []) (all_posted t h.4)
all_posted (t ▷ Polled now (Some out)) h =
    let is = part_is t out h.0 in
    ap (λ xs. (cut t ++ xs ∷ []) ++ drop 1 (unsent t)) (ap bytes_of is.spells)
    ∙ ap (λ xs. (cut t ++ is.bytes ∷ []) ++ drop 1 xs) is.are
    ∙ append_assoc (cut t) (is.bytes ∷ []) is.others
    ∙ ap (λ xs. cut t ++ xs) (sym is.are)
    ∙ all_posted t h.1
all_posted (t ▷ Polled now None) h = all_posted t h.1
all_posted (t ▷ In now d took) h = all_posted t h.1
all_posted (t ▷ Next bytes) h = all_posted t h.1
all_posted (t ▷ Gave bytes) h = absurd h
all_posted (t ▷ Pulled room bytes) h = absurd h
all_posted (t ▷ Owed count) h = absurd h

-- ---- a perfect post that accepts

-- what was accepted are some of the parts below the least new number
pub picked : (a b : Trace Entry) → PerfectThin a → PerfectThin b → Comes a b → IsPickedFrom (taken b) (take (least_new b) (cut a))
picked a Start f h c = tt
picked a (t ▷ In now datagram Used) f h c =
    let d = post_parts a datagram f c.0 in
    let least = least_new t in
    let above : least ≤ d.number = rises least (length (kept_parts t)) d.number (h.0 ∙ ap (part_answer_by least (length (kept_parts t))) d.shown) in
    let most : past least (number_of datagram) ≡ d.number + 1 = ap (past least) d.shown ∙ omega (arith, above) in
    let front : take least (cut a) ++ drop least (take d.number (cut a)) ≡ take d.number (cut a) =
    ap (λ xs. xs ++ drop least (take d.number (cut a))) (sym (take-take least d.number (cut a) above)) ∙ take-append-drop least (take d.number (cut a)) in
    let before = subst (IsPickedFrom (taken t)) front (picked_more (taken t) (take least (cut a)) (drop least (take d.number (cut a))) (picked a t f h.1 c.1)) in
    subst (IsPickedFrom (taken t ++ bytes_of datagram ∷ [])) (sym d.part ∙ ap (λ n. take n (cut a)) (sym most)) (picked_last (taken t) (take d.number (cut a)) (bytes_of datagram) before)
picked a (t ▷ In now datagram (Ignored why)) f h c = picked a t f h.1 c.1
picked a (t ▷ Polled now out) f h c = picked a t f h.1 c
picked a (t ▷ Posted bytes) f h c = picked a t f h.4 c
picked a (t ▷ Next bytes) f h c = picked a t f h.1 c
picked a (t ▷ Gave bytes) f h c = absurd h
picked a (t ▷ Pulled room bytes) f h c = absurd h
picked a (t ▷ Owed count) f h c = absurd h

pub parts_arrive : (a b : Trace Entry) → PerfectThin a → PerfectThin b → Comes a b → IsPickedFrom (taken b) (posted a)
parts_arrive a b f h c =
    let n = least_new b in
    let sent_parts = subst (IsPickedFrom (taken b)) (take-append-drop n (cut a)) (picked_more (taken b) (take n (cut a)) (drop n (cut a)) (picked a b f h c)) in
    subst (IsPickedFrom (taken b)) (all_posted a f) (picked_more (taken b) (cut a) (unsent a) sent_parts)

pub handed_arrive : (a b : Trace Entry) → PerfectThin a → PerfectThin b → Comes a b → IsPickedFrom (handed b) (posted a)
handed_arrive a b f h c =
    picked_front (handed b) (kept_parts b) (posted a) (subst (λ xs. IsPickedFrom xs (posted a)) (sym (parts_in_order b h)) (parts_arrive a b f h c))

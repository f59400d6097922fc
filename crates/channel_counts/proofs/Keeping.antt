-- Lists of channels, place by place.
use Rattle.std.specs.List.{list_any}
use Rattle.std.proofs.Common.{◌≡◌, refl, ap, sym, ◌∙◌, ◌++◌, ◌∷◌, [], ℕ, zero, suc, ◌<◌, List, length, map, take, drop, option_map, slice_get, get_or, set, Some, nat_eq, ◌||◌, arith, append-nil, append_assoc}
use Rattle.channel_counts.specs.declared.channel.Channel.{Channel}
use Rattle.channel_counts.specs.Counting.{AreKept, IsKept}
use Rattle.channel_counts.specs.Lines.{channel_lines, both_lines}
use Rattle.channel_counts.specs.Told.{Told, has}

-- a list whose first elements were changed
abbrev pub up_to : (Told → Told) → ℕ → List Told → List Told
up_to f zero told = told
up_to f (suc n) [] = []
up_to f (suc n) (t ∷ told) = f t ∷ up_to f n told

pub up_to_all : (f : Told → Told) (told : List Told) → up_to f (length told) told ≡ map f told
up_to_all f [] = refl
up_to_all f (t ∷ told) = ap (λ rest. f t ∷ rest) (up_to_all f told)

pub as_many : (kept : List Channel) (told : List Told) → AreKept kept told → length kept ≡ length told
as_many [] [] h = refl
as_many (c ∷ kept) (t ∷ told) h = ap suc (as_many kept told h.1)
as_many [] (t ∷ told) h = elim h [ ]
as_many (c ∷ kept) [] h = elim h [ ]

pub one_more : (kept : List Channel) (told : List Told) (c : Channel) (t : Told) → AreKept kept told → IsKept c t → AreKept (kept ++ c ∷ []) (told ++ t ∷ [])
one_more [] [] c t h is = (is, tt)
one_more (d ∷ kept) (u ∷ told) c t h is = (h.0, one_more kept told c t h.1 is)
one_more [] (u ∷ told) c t h is = elim h [ ]
one_more (d ∷ kept) [] c t h is = elim h [ ]

pub has_same : (id : ℕ) (kept : List Channel) (told : List Told) → AreKept kept told → list_any (λ c. nat_eq c.id id) kept ≡ has id told
has_same id [] [] h = refl
has_same id (c ∷ kept) (t ∷ told) h =
    ap (λ n. nat_eq n id || list_any (λ k. nat_eq k.id id) kept) (h.0).id_is ∙ ap (λ b. nat_eq t.id id || b) (has_same id kept told h.1)
has_same id [] (t ∷ told) h = elim h [ ]
has_same id (c ∷ kept) [] h = elim h [ ]

pub id_same : (place : ℕ) (kept : List Channel) (told : List Told) → AreKept kept told → option_map (λ c. c.id) (slice_get kept place) ≡ option_map (λ t. t.id) (slice_get told place)
id_same place [] [] h = refl
id_same zero (c ∷ kept) (t ∷ told) h = ap Some (h.0).id_is
id_same (suc n) (c ∷ kept) (t ∷ told) h = id_same n kept told h.1
id_same place [] (t ∷ told) h = elim h [ ]
id_same place (c ∷ kept) [] h = elim h [ ]

-- the element at the place that comes next stands as it was; with it changed, one more is changed
pub step : (f : Told → Told) (i : ℕ) (kept : List Channel) (told : List Told) (d new : Channel) → i < length kept → AreKept kept (up_to f i told)
    → ((t : Told) → IsKept (get_or kept i d) t → IsKept new (f t)) → AreKept (set kept i new) (up_to f (suc i) told)
step f zero [] told d new lt h changes = absurd (omega arith)
step f zero (c ∷ kept) [] d new lt h changes = elim h [ ]
step f zero (c ∷ kept) (t ∷ told) d new lt h changes = (changes t h.0, h.1)
step f (suc i) [] told d new lt h changes = absurd (omega arith)
step f (suc i) (c ∷ kept) [] d new lt h changes = elim h [ ]
step f (suc i) (c ∷ kept) (t ∷ told) d new lt h changes =
    let below : i < length kept = omega arith in
    (h.0, step f i kept told d new below h.1 changes)

-- a list in the place of one as long
pub in_place : (n : ℕ) (xs ys : List Channel) → length xs ≡ length ys → n ≡ length ys → take n (xs ++ drop (length xs) ys) ≡ xs
in_place zero [] [] same all = refl
in_place (suc n) [] [] same all = refl
in_place n [] (y ∷ ys) same all = absurd (omega arith)
in_place n (x ∷ xs) [] same all = absurd (omega arith)
in_place zero (x ∷ xs) (y ∷ ys) same all = absurd (omega arith)
in_place (suc m) (x ∷ xs) (y ∷ ys) same all =
    let one : length xs ≡ length ys = omega arith in
    let two : m ≡ length ys = omega arith in
    ap (λ rest. x ∷ rest) (in_place m xs ys one two)

-- the lines of the first channels, and of one more
pub lines_more : (i : ℕ) (kept : List Channel) (told : List Told) (d : Channel) → i < length kept → AreKept kept told → (before new : List ℕ)
    → ((t : Told) → IsKept (get_or kept i d) t → new ≡ before ++ both_lines t) → (old : List ℕ) → before ≡ old ++ channel_lines (take i told)
    → new ≡ old ++ channel_lines (take (suc i) told)
lines_more zero [] told d lt h before new writes old is = absurd (omega arith)
lines_more (suc i) [] told d lt h before new writes old is = absurd (omega arith)
lines_more zero (c ∷ kept) [] d lt h before new writes old is = elim h [ ]
lines_more (suc i) (c ∷ kept) [] d lt h before new writes old is = elim h [ ]
lines_more zero (c ∷ kept) (t ∷ told) d lt h before new writes old is =
    writes t h.0 ∙ ap (λ bytes. bytes ++ both_lines t) (is ∙ append-nil old) ∙ ap (λ bytes. old ++ bytes) (sym (append-nil (both_lines t)))
lines_more (suc i) (c ∷ kept) (t ∷ told) d lt h before new writes old is =
    let below : i < length kept = omega arith in
    lines_more i kept told d below h.1 before new writes (old ++ both_lines t) (is ∙ sym (append_assoc old (both_lines t) (channel_lines (take i told))))
    ∙ append_assoc old (both_lines t) (channel_lines (take (suc i) told))

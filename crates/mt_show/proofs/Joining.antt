-- Texts written piece by piece.
use Rattle.std.proofs.Common.{◌≡◌, ℕ, ◌+◌, ◌<◌, ◌≤◌, ◌/◌, ◌%◌, List, [], ◌∷◌, ◌++◌, length, map, take, get_or, refl, sym, ap, ◌∙◌, append_assoc, append-nil}
use Rattle.std.proofs.lemmas.List.{take_all, take_more}
use Rattle.std.specs.List.{join_with_byte}
use Rattle.hex.specs.Hex.{encode_with, encode_lower, lower_digits}
use Rattle.mt_show.specs.Steps.{behind, Adds, AddsWords}

-- the words of two lists
pub behind-append : (byte : ℕ) (xs ys : List (List ℕ)) → behind byte (xs ++ ys) ≡ behind byte xs ++ behind byte ys
behind-append byte [] ys = refl
behind-append byte (x ∷ xs) ys = ap (λ t. byte ∷ x ++ t) (behind-append byte xs ys) ∙ ap (λ t. byte ∷ t) (sym (append_assoc x (behind byte xs) (behind byte ys)))

-- bytes and more bytes
pub more : (xs ys old mid new : List ℕ) → Adds xs old mid → Adds ys mid new → Adds (xs ++ ys) old new
more xs ys old mid new first second = second ∙ ap (λ t. t ++ ys) first ∙ append_assoc old xs ys

-- words and more words
pub more_words : (xs ys : List (List ℕ)) (old mid new : List ℕ) → AddsWords xs old mid → AddsWords ys mid new → AddsWords (xs ++ ys) old new
more_words xs ys old mid new first second = second ∙ ap (λ t. t ++ behind 32 ys) first ∙ append_assoc old (behind 32 xs) (behind 32 ys) ∙ ap (λ t. old ++ t) (sym (behind-append 32 xs ys))

-- a word and bytes at its end
pub longer_word : (word bytes old mid new : List ℕ) → AddsWords (word ∷ []) old mid → Adds bytes mid new → AddsWords ((word ++ bytes) ∷ []) old new
longer_word word bytes old mid new first second =
    second ∙ ap (λ t. t ++ bytes) first ∙ append_assoc old (32 ∷ word ++ []) bytes
    ∙ ap (λ t. old ++ 32 ∷ t) (ap (λ t. t ++ bytes) (append-nil word) ∙ sym (append-nil (word ++ bytes)))

-- a first word, and words behind it
pub joined : (byte : ℕ) (word : List ℕ) (words : List (List ℕ)) → join_with_byte byte (word ∷ words) ≡ word ++ behind byte words
joined byte word [] = sym (append-nil word)
joined byte word (next ∷ words) = ap (λ t. word ++ byte ∷ t) (joined byte next words)

-- one byte more in digits
pair : ℕ → List ℕ
pair byte = get_or lower_digits (byte / 16) 0 ∷ get_or lower_digits (byte % 16) 0 ∷ []

encode-append : (xs ys : List ℕ) → encode_lower (xs ++ ys) ≡ encode_lower xs ++ encode_lower ys
unfolding encode_with
encode-append [] ys = refl
encode-append (x ∷ xs) ys = ap (λ t. get_or lower_digits (x / 16) 0 ∷ get_or lower_digits (x % 16) 0 ∷ t) (encode-append xs ys)

pub one_more_byte : (bytes : List ℕ) (i byte high low : ℕ) (old mid new : List ℕ) → i < length bytes → byte ≡ get_or bytes i 0
    → high ≡ get_or lower_digits (byte / 16) 0 → low ≡ get_or lower_digits (byte % 16) 0
    → Adds (encode_lower (take i bytes)) old mid → Adds (high ∷ low ∷ []) mid new → Adds (encode_lower (take (i + 1) bytes)) old new
unfolding encode_with
one_more_byte bytes i byte high low old mid new within is h l first second =
    let next : take (i + 1) bytes ≡ take i bytes ++ byte ∷ [] = take_more bytes i 0 within ∙ ap (λ b. take i bytes ++ b ∷ []) (sym is) in
    let two : encode_lower (byte ∷ []) ≡ high ∷ low ∷ [] = ap (λ d. d ∷ get_or lower_digits (byte % 16) 0 ∷ []) (sym h) ∙ ap (λ d. high ∷ d ∷ []) (sym l) in
    more (encode_lower (take i bytes)) (high ∷ low ∷ []) old mid new first second ∙ ap (λ t. old ++ t) (sym (ap encode_lower next ∙ encode-append (take i bytes) (byte ∷ []) ∙ ap (λ t. encode_lower (take i bytes) ++ t) two))

pub all_bytes : (bytes : List ℕ) (i : ℕ) (old new : List ℕ) → length bytes ≤ i → Adds (encode_lower (take i bytes)) old new → Adds (encode_lower bytes) old new
all_bytes bytes i old new all h = h ∙ ap (λ t. old ++ encode_lower t) (take_all i bytes all)

-- the parts of a list, in words, with one more at the end
behind-push : {A : Type 0} (byte : ℕ) (word : A → List ℕ) (xs : List A) (x : A) → behind byte (map word (xs ++ x ∷ [])) ≡ behind byte (map word xs) ++ (byte ∷ word x)
behind-push byte word [] x = ap (λ t. byte ∷ t) (append-nil (word x))
behind-push byte word (y ∷ ys) x =
    ap (λ t. byte ∷ word y ++ t) (behind-push byte word ys x) ∙ ap (λ t. byte ∷ t) (sym (append_assoc (word y) (behind byte (map word ys)) (byte ∷ word x)))

-- a separator and a word behind others
pub one_more_part : {A : Type 0} (byte : ℕ) (word : A → List ℕ) (xs : List A) (x : A) (old mid comma new : List ℕ) → Adds (behind byte (map word xs)) old mid
    → Adds (byte ∷ []) mid comma → Adds (word x) comma new → Adds (behind byte (map word (xs ++ x ∷ []))) old new
one_more_part byte word xs x old mid comma new first then last =
    more (behind byte (map word xs)) (byte ∷ word x) old mid new first (more (byte ∷ []) (word x) mid comma new then last) ∙ ap (λ t. old ++ t) (sym (behind-push byte word xs x))

-- a first word, words, and the end of a line
pub whole_line : (first : List ℕ) (words : List (List ℕ)) (old mid new : List ℕ) → Adds (first ++ behind 32 words) old mid → Adds (10 ∷ []) mid new → Adds (first ++ behind 32 words ++ 10 ∷ []) old new
whole_line first words old mid new line last = more (first ++ behind 32 words) (10 ∷ []) old mid new line last

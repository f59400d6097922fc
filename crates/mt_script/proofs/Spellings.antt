-- Each event has a spelling of its own; and it can be told whether words are those of an event.
use Rattle.std.proofs.Common.{◌≡◌, ◌≢◌, ℕ, ◌<◌, ◌^◌, ◌%◌, Bool, true, false, not, ltb, eqb, ◌&&◌, ◌⊎◌, inl, inr, List, [], ◌∷◌, length, Result, Ok, Err, cond, refl, sym, ap, subst, ◌∙◌, codes, arith}
use Rattle.std.proofs.lemmas.Bool.{cases_lt, and_parts}
use Rattle.std.proofs.lemmas.Bool.Decides.{nat_tests, Decides-and, Decides-eqb}
use Rattle.std.proofs.lemmas.Fmt.{decimal_is_IsNumeral, decimal_injective}
use Rattle.std.proofs.lemmas.Str.Parse.{digit_at}
use Rattle.std.proofs.lemmas.List.{get_or_default}
use Rattle.std.proofs.lemmas.List.Elements.{All-nil, All-cons, All-append, All-weaker}
use Rattle.std.proofs.lemmas.List.Sums.{AllPass-from_list_all}
use Rattle.std.proofs.lemmas.Slice.Eq.{bytes_eq-Decides}
use Rattle.std.specs.Bool.{Decides}
use Rattle.std.specs.List.{All, Contains, AllByRecursion, list_all, join_with_byte}
use Rattle.std.specs.Fmt.{decimal}
use Rattle.std.specs.Str.{bytes_eq}
use Rattle.std.specs.Str.Parse.{digits_value}
use Rattle.hex.specs.Hex.{decode_of, encode_lower}
use Rattle.hex.specs.declared.error.FromHexError.{FromHexError}
use Rattle.hex.proofs.HexLemmas.{decode_of-encode_lower, decode_of-ok}
use Rattle.mt_base.specs.declared.kinds.Role.{Role}
use Rattle.mt_base.specs.declared.kinds.Role.TheVariants.{Server, Client}
use Rattle.mt_base.specs.declared.kinds.Kind.{Kind}
use Rattle.mt_base.specs.declared.kinds.Kind.TheVariants.{Reliable, Lossy}
use Rattle.mt_base.proofs.Deciding.{holds_or_not}
use Rattle.mt_script.specs.declared.event.Event.{Event}
use Rattle.mt_script.specs.declared.event.Event.TheVariants.{Open, Send, Main}
use Rattle.mt_script.specs.Lines.{Lacks}
use Rattle.mt_script.specs.Spelling.{side_name, kind_name, hex_text, words_of, spelled, IsBytes, IsWord, IsEvent}
use Rattle.mt_script.specs.Meaning.{commands}
use Rattle.mt_script.specs.declared.values.Command.{Command}
use Rattle.mt_script.specs.declared.values.Command.TheVariants as command
use Rattle.mt_script.specs.Reading.{split_at_blanks, command_name, is_lower_hex, is_lower_digit}
use Rattle.mt_script.proofs.HexDigits.{bytes_there, lower_text, hex_bytes, hex_reads, full_text}
use Rattle.mt_script.proofs.LineMeaning.{split_spelled, listed_command}

-- two lists of words whose first words differ
apart : (a b : List ℕ) (xs ys : List (List ℕ)) → bytes_eq a b ≡ false → a ∷ xs ≡ b ∷ ys → ⊥
apart a b xs ys differ e =
    let same : a ≡ b = cc in
    let equal = (bytes_eq-Decides a b).1 same in cc

-- ---- one spelling

side_name-injective : (a b : Role) → side_name a ≡ side_name b → a ≡ b
side_name-injective Server Server e = refl
side_name-injective Client Client e = refl
side_name-injective Server Client e = let same = (bytes_eq-Decides (side_name Server) (side_name Client)).1 e in cc
side_name-injective Client Server e = let same = (bytes_eq-Decides (side_name Client) (side_name Server)).1 e in cc

not_dash : (byte : ℕ) (rest : List ℕ) → codes "-" ≢ encode_lower (byte ∷ rest)
unfolding Rattle.hex.specs.Hex.encode_with
not_dash byte rest e = cc

-- bytes have one text
pub hex_text-injective : (a b : List ℕ) → IsBytes a → IsBytes b → hex_text a ≡ hex_text b → a ≡ b
hex_text-injective [] [] ha hb e = refl
hex_text-injective [] (y ∷ ys) ha hb e = absurd (not_dash y ys e)
hex_text-injective (x ∷ xs) [] ha hb e = absurd (not_dash x xs (sym e))
hex_text-injective (x ∷ xs) (y ∷ ys) ha hb e =
    let one = decode_of-encode_lower (x ∷ xs) (bytes_there (x ∷ xs) ha) in
    let other = decode_of-encode_lower (y ∷ ys) (bytes_there (y ∷ ys) hb) in
    let both = sym one ∙ ap decode_of e ∙ other in cc

words_of-injective : (a b : Event) → IsEvent a → IsEvent b → words_of a ≡ words_of b → a ≡ b
words_of-injective (Open m) (Open n) ha hb e = let same : m ≡ n = cc in ap Open same
words_of-injective (Open m) (Send t j n) ha hb e = absurd (apart (codes "open") (codes "send") _ _ refl e)
words_of-injective (Open m) (Main t) ha hb e = absurd (apart (codes "open") (codes "main") _ _ refl e)
words_of-injective (Send s i m) (Open n) ha hb e = absurd (apart (codes "send") (codes "open") _ _ refl e)
words_of-injective (Send s i m) (Send t j n) ha hb e =
    let sides : side_name s ≡ side_name t = cc in
    let ids : decimal i ≡ decimal j = cc in
    let texts : hex_text m ≡ hex_text n = cc in
    let side : s ≡ t = side_name-injective s t sides in
    let id : i ≡ j = decimal_injective i j (omega (arith, ha.0)) (omega (arith, hb.0)) ids in
    let message : m ≡ n = hex_text-injective m n ha.1 hb.1 texts in
    ap (λ x. Send x i m) side ∙ ap (λ x. Send t x m) id ∙ ap (λ x. Send t j x) message
words_of-injective (Send s i m) (Main t) ha hb e = absurd (apart (codes "send") (codes "main") _ _ refl e)
words_of-injective (Main s) (Open n) ha hb e = absurd (apart (codes "main") (codes "open") _ _ refl e)
words_of-injective (Main s) (Send t j n) ha hb e = absurd (apart (codes "main") (codes "send") _ _ refl e)
words_of-injective (Main s) (Main t) ha hb e =
    let sides : side_name s ≡ side_name t = cc in ap Main (side_name-injective s t sides)

-- no two events have one spelling
pub spelled-injective : (a b : Event) → IsEvent a → IsEvent b → spelled a ≡ spelled b → a ≡ b
spelled-injective a b ha hb e = words_of-injective a b ha hb (sym (split_spelled a ha) ∙ ap split_at_blanks e ∙ split_spelled b hb)

-- ---- words read back

abbrev pub side_of : List ℕ → Role
side_of word = cond (bytes_eq word (codes "server")) Server Client

pub side_back : (side : Role) → side_of (side_name side) ≡ side
side_back Server = refl
side_back Client = refl

abbrev pub kind_of : List ℕ → Kind
kind_of word = cond (bytes_eq word (codes "reliable")) Reliable Lossy

pub kind_back : (kind : Kind) → kind_of (kind_name kind) ≡ kind
kind_back Reliable = refl
kind_back Lossy = refl

pub number_back : (n : ℕ) → n < 2 ^ 64 → digits_value 10 (decimal n) ≡ n
number_back n small = (decimal_is_IsNumeral n small).1

decoded : Result (List ℕ) FromHexError → List ℕ
decoded (Ok bytes) = bytes
decoded (Err e) = []

pub bytes_of : List ℕ → List ℕ
bytes_of word = cond (bytes_eq word (codes "-")) [] (decoded (decode_of word))

not_true : (b : Bool) → (b ≡ true → ⊥) → b ≡ false
not_true true h = absurd (h refl)
not_true false h = refl

other_text : (byte : ℕ) (rest : List ℕ) → bytes_eq (encode_lower (byte ∷ rest)) (codes "-") ≡ false
other_text byte rest = not_true _ (λ h. not_dash byte rest (sym ((bytes_eq-Decides (encode_lower (byte ∷ rest)) (codes "-")).0 h)))

pub bytes_back : (bytes : List ℕ) → IsBytes bytes → bytes_of (hex_text bytes) ≡ bytes
unfolding bytes_of decoded
bytes_back [] h = refl
bytes_back (byte ∷ rest) h =
    ap (λ b. cond b [] (decoded (decode_of (encode_lower (byte ∷ rest))))) (other_text byte rest)
    ∙ ap decoded (decode_of-encode_lower (byte ∷ rest) (bytes_there (byte ∷ rest) h))

-- ---- a spelling is a line

-- a byte that can stand in a line
abbrev pub Plain : ℕ → Type 0
Plain byte = (byte < 256) × (byte ≢ 10)

abbrev pub is_plain : ℕ → Bool
is_plain byte = ltb byte 256 && not (eqb byte 10)

plain_test : (byte : ℕ) → is_plain byte ≡ true → Plain byte
plain_test byte h =
    let parts = and_parts (ltb byte 256) (not (eqb byte 10)) h in
    ((let small = parts.0 in grind (arith, nat_tests)), (λ e. let other = parts.1 in grind (arith, nat_tests)))

pub plain_text : (text : List ℕ) → list_all is_plain text ≡ true → All Plain text
plain_text text h = All-weaker (λ b. is_plain b ≡ true) Plain plain_test text (AllPass-from_list_all is_plain text h)

pub plain_side : (side : Role) → All Plain (side_name side)
plain_side Server = plain_text (side_name Server) refl
plain_side Client = plain_text (side_name Client) refl

pub plain_kind : (kind : Kind) → All Plain (kind_name kind)
plain_kind Reliable = plain_text (kind_name Reliable) refl
plain_kind Lossy = plain_text (kind_name Lossy) refl

pub plain_decimal : (id : ℕ) → id < 2 ^ 64 → All Plain (decimal id)
plain_decimal id small k d within =
    let digits = (decimal_is_IsNumeral id (omega arith)).0.1 in
    let range = digit_at (decimal id) k digits within in
    let same = get_or_default (decimal id) k d 0 within in
    (omega (arith, range, same), (λ e. omega (arith, range, same)))

plain_lower : (x : ℕ) → is_lower_digit x ≡ true → Plain x
plain_lower x h = (grind (arith, nat_tests), (λ e. grind (arith, nat_tests)))

pub plain_hex : (bytes : List ℕ) → IsBytes bytes → All Plain (hex_text bytes)
plain_hex [] h = plain_text (codes "-") refl
plain_hex (byte ∷ rest) h =
    All-weaker (λ x. is_lower_digit x ≡ true) Plain plain_lower (encode_lower (byte ∷ rest))
    (AllPass-from_list_all is_lower_digit (encode_lower (byte ∷ rest)) (lower_text (byte ∷ rest) h))

plain_words : (event : Event) → IsEvent event → AllByRecursion (All Plain) (words_of event)
plain_words (Open name) h = (plain_text (codes "open") refl, ((λ k d within. (h.0.bytes k d within, h.1 k d within)), tt))
plain_words (Send side id message) h = (plain_text (codes "send") refl, (plain_side side, (plain_decimal id (omega (arith, h.0)), (plain_hex message h.1, tt))))
plain_words (Main side) h = (plain_text (codes "main") refl, (plain_side side, (plain_text (codes "all") refl, tt)))

pub plain_joined : (words : List (List ℕ)) → AllByRecursion (All Plain) words → All Plain (join_with_byte 32 words)
plain_joined [] h = All-nil Plain
plain_joined (word ∷ []) h = h.0
plain_joined (word ∷ next ∷ words) h = All-append Plain word (32 ∷ join_with_byte 32 (next ∷ words)) h.0 (All-cons Plain 32 (join_with_byte 32 (next ∷ words)) (plain_test 32 refl) (plain_joined (next ∷ words) h.1))

-- the spelling of an event is a line
pub spelled_line : (event : Event) → IsEvent event → IsBytes (spelled event) × Lacks 10 (spelled event)
spelled_line event h =
    let plain = plain_joined (words_of event) (plain_words event h) in
    (All-weaker Plain (λ b. b < 256) (λ b p. p.0) (spelled event) plain, All-weaker Plain (λ b. b ≢ 10) (λ b p. p.1) (spelled event) plain)

-- ---- what can be told

pub same_or_not : (a b : List ℕ) → (a ≡ b) ⊎ (a ≢ b)
same_or_not a b = holds_or_not (bytes_eq a b) (bytes_eq-Decides a b)

-- a word that spells one of these values, or none
abbrev pub Told : {A : Type 0} → (A → Type 0) → (A → List ℕ) → List ℕ → Type 0
Told {A} Is spelling word = ((value : A) × Is value × (word ≡ spelling value)) ⊎ ((value : A) → Is value → word ≢ spelling value)

neither : (word : List ℕ) → word ≢ codes "server" → word ≢ codes "client" → (side : Role) → Unit {0} → word ≢ side_name side
neither word other nor Server h = other
neither word other nor Client h = nor

tell_side : (word : List ℕ) → Told {A = Role} (λ _. Unit {0}) side_name word
tell_side word =
    elim (same_or_not word (codes "server")) [
      | inl is ↦ inl (Server, tt, is)
      | inr other ↦ elim (same_or_not word (codes "client")) [
        | inl is ↦ inl (Client, tt, is)
        | inr nor ↦ inr (neither word other nor)
      ]
    ]

value_of : (word : List ℕ) (id : ℕ) → id < 2 ^ 32 → word ≡ decimal id → digits_value 10 word ≡ id
value_of word id small is = ap (digits_value 10) is ∙ (decimal_is_IsNumeral id (omega arith)).1

tell_id : (word : List ℕ) → Told {A = ℕ} (λ id. id < 2 ^ 32) decimal word
tell_id word =
    elim (cases_lt (digits_value 10 word) (2 ^ 32)) [
      | inl small ↦ elim (same_or_not word (decimal (digits_value 10 word))) [
        | inl is ↦ inl (digits_value 10 word, small, is)
        | inr other ↦ inr (λ id h is. other (is ∙ ap decimal (sym (value_of word id h is))))
      ]
      | inr large ↦ inr (λ id h is. let same = value_of word id h is in absurd (omega arith))
    ]

even_text : (word bytes : List ℕ) → decode_of word ≡ Ok bytes → length word % 2 ≡ 0
even_text word bytes e = (decode_of-ok word bytes e).0

is_even_hex : (word : List ℕ) → Decides (is_lower_hex word && eqb (length word % 2) 0) ((is_lower_hex word ≡ true) × (length word % 2 ≡ 0))
is_even_hex word =
    Decides-and (is_lower_hex word) (eqb (length word % 2) 0) (λ h. h, λ h. h) (Decides-eqb (length word % 2) 0)

-- a word spells bytes, or none
pub tell_bytes : (word : List ℕ) → Told {A = List ℕ} IsBytes hex_text word
tell_bytes word =
    elim (same_or_not word (codes "-")) [
      | inl is ↦ inl ([], (λ k d within. absurd (omega arith)), is)
      | inr other ↦ elim (holds_or_not (is_lower_hex word && eqb (length word % 2) 0) (is_even_hex word)) [
        | inl digits ↦
            let parts = and_parts (not (eqb (length word) 0)) (list_all is_lower_digit word) digits.0 in
            let m = hex_bytes word digits.1 parts.1 in
            inl (m.0, m.1, full_text word m.0 digits.0 m.2)
        | inr odd ↦ inr (λ bytes h is. elim (hex_reads word bytes h is) [
          | inl dash ↦ other dash
          | inr reads ↦ odd (reads.0, even_text word bytes reads.1)
        ])
      ]
    ]

-- words that are those of one event, or of none
abbrev pub ToldWords : List (List ℕ) → Type 0
ToldWords words = ((event : Event) × IsEvent event × (words ≡ words_of event)) ⊎ ((event : Event) → IsEvent event → words ≢ words_of event)

-- a word of a line: it can be a name, if it isn't empty
abbrev pub Fine : List ℕ → Type 0
Fine word = IsBytes word × Lacks 32 word × Lacks 10 word

tell_name : (word : List ℕ) → Fine word → Told {A = List ℕ} (λ name. IsWord name × Lacks 10 name) (λ name. name) word
tell_name [] h = inr (λ name is e. let long = is.0.not_empty in let none : length name ≡ 0 = ap length (sym e) in omega arith)
tell_name (x ∷ xs) h = inl (x ∷ xs, (record { bytes = h.0; not_empty = omega arith; no_blank = h.1 }, h.2), refl)

-- words behind a command are those of its own kind of event
open_words : (rest : List (List ℕ)) (event : Event) → codes "open" ∷ rest ≡ words_of event → (name : List ℕ) × (event ≡ Open name) × (rest ≡ name ∷ [])
open_words rest (Open name) e = (name, refl, cc)
open_words rest (Send s i m) e = absurd (apart (codes "open") (codes "send") _ _ refl e)
open_words rest (Main s) e = absurd (apart (codes "open") (codes "main") _ _ refl e)

send_words : (rest : List (List ℕ)) (event : Event) → codes "send" ∷ rest ≡ words_of event
    → (side : Role) × (id : ℕ) × (message : List ℕ) × (event ≡ Send side id message) × (rest ≡ side_name side ∷ decimal id ∷ hex_text message ∷ [])
send_words rest (Open name) e = absurd (apart (codes "send") (codes "open") _ _ refl e)
send_words rest (Send s i m) e = (s, i, m, refl, cc)
send_words rest (Main s) e = absurd (apart (codes "send") (codes "main") _ _ refl e)

main_words : (rest : List (List ℕ)) (event : Event) → codes "main" ∷ rest ≡ words_of event → (side : Role) × (event ≡ Main side) × (rest ≡ side_name side ∷ codes "all" ∷ [])
main_words rest (Open name) e = absurd (apart (codes "main") (codes "open") _ _ refl e)
main_words rest (Send s i m) e = absurd (apart (codes "main") (codes "send") _ _ refl e)
main_words rest (Main s) e = (s, refl, cc)

open_one : (word : List ℕ) → Told {A = List ℕ} (λ name. IsWord name × Lacks 10 name) (λ name. name) word → ToldWords (codes "open" ∷ word ∷ [])
open_one word (inl is) = inl (Open is.0, is.1, ap (λ w. codes "open" ∷ w ∷ []) is.2)
open_one word (inr none) =
    inr (λ event h e.
    let v = open_words (word ∷ []) event e in
    let same : word ≡ v.0 = let both = v.2 in cc in
    none v.0 (subst IsEvent v.1 h) same)

tell_open : (rest : List (List ℕ)) → AllByRecursion Fine rest → ToldWords (codes "open" ∷ rest)
tell_open [] h = inr (λ event is e. let v = open_words [] event e in let both = v.2 in cc)
tell_open (word ∷ []) h = open_one word (tell_name word h.0)
tell_open (word ∷ next ∷ rest) h = inr (λ event is e. let v = open_words (word ∷ next ∷ rest) event e in let both = v.2 in cc)

send_three : (a b c : List ℕ) → Told {A = Role} (λ _. Unit {0}) side_name a → Told {A = ℕ} (λ id. id < 2 ^ 32) decimal b → Told {A = List ℕ} IsBytes hex_text c
    → ToldWords (codes "send" ∷ a ∷ b ∷ c ∷ [])
send_three a b c (inl s) (inl i) (inl m) =
    inl (Send s.0 i.0 m.0, (i.1, m.1), ap (λ w. codes "send" ∷ w ∷ b ∷ c ∷ []) s.2 ∙ ap (λ w. codes "send" ∷ side_name s.0 ∷ w ∷ c ∷ []) i.2 ∙ ap (λ w. codes "send" ∷ side_name s.0 ∷ decimal i.0 ∷ w ∷ []) m.2)
send_three a b c (inr none) i m =
    inr (λ event h e.
    let v = send_words (a ∷ b ∷ c ∷ []) event e in
    let same : a ≡ side_name v.0 = let both = v.4 in cc in
    none v.0 tt same)
send_three a b c (inl s) (inr none) m =
    inr (λ event h e.
    let v = send_words (a ∷ b ∷ c ∷ []) event e in
    let same : b ≡ decimal v.1 = let both = v.4 in cc in
    let holds = subst IsEvent v.3 h in
    none v.1 holds.0 same)
send_three a b c (inl s) (inl i) (inr none) =
    inr (λ event h e.
    let v = send_words (a ∷ b ∷ c ∷ []) event e in
    let same : c ≡ hex_text v.2 = let both = v.4 in cc in
    let holds = subst IsEvent v.3 h in
    none v.2 holds.1 same)

tell_send : (rest : List (List ℕ)) → ToldWords (codes "send" ∷ rest)
tell_send [] = inr (λ event is e. let v = send_words [] event e in let both = v.4 in cc)
tell_send (a ∷ []) = inr (λ event is e. let v = send_words (a ∷ []) event e in let both = v.4 in cc)
tell_send (a ∷ b ∷ []) = inr (λ event is e. let v = send_words (a ∷ b ∷ []) event e in let both = v.4 in cc)
tell_send (a ∷ b ∷ c ∷ []) = send_three a b c (tell_side a) (tell_id b) (tell_bytes c)
tell_send (a ∷ b ∷ c ∷ d ∷ rest) = inr (λ event is e. let v = send_words (a ∷ b ∷ c ∷ d ∷ rest) event e in let both = v.4 in cc)

main_two : (a b : List ℕ) → Told {A = Role} (λ _. Unit {0}) side_name a → (b ≡ codes "all") ⊎ (b ≢ codes "all") → ToldWords (codes "main" ∷ a ∷ b ∷ [])
main_two a b (inl s) (inl all) = inl (Main s.0, tt, ap (λ w. codes "main" ∷ w ∷ b ∷ []) s.2 ∙ ap (λ w. codes "main" ∷ side_name s.0 ∷ w ∷ []) all)
main_two a b (inr none) all =
    inr (λ event h e.
    let v = main_words (a ∷ b ∷ []) event e in
    let same : a ≡ side_name v.0 = let both = v.2 in cc in
    none v.0 tt same)
main_two a b (inl s) (inr none) =
    inr (λ event h e.
    let v = main_words (a ∷ b ∷ []) event e in
    let same : b ≡ codes "all" = let both = v.2 in cc in
    none same)

tell_main : (rest : List (List ℕ)) → ToldWords (codes "main" ∷ rest)
tell_main [] = inr (λ event is e. let v = main_words [] event e in let both = v.2 in cc)
tell_main (a ∷ []) = inr (λ event is e. let v = main_words (a ∷ []) event e in let both = v.2 in cc)
tell_main (a ∷ b ∷ []) = main_two a b (tell_side a) (same_or_not b (codes "all"))
tell_main (a ∷ b ∷ c ∷ rest) = inr (λ event is e. let v = main_words (a ∷ b ∷ c ∷ rest) event e in let both = v.2 in cc)

pub tell_behind : (command : Command) (rest : List (List ℕ)) → AllByRecursion Fine rest → ToldWords (command_name command ∷ rest)
tell_behind command.Open rest h = tell_open rest h
tell_behind command.Send rest h = tell_send rest
tell_behind command.Main rest h = tell_main rest

unlisted : (word : List ℕ) → word ≢ codes "open" → word ≢ codes "send" → word ≢ codes "main" → (command : Command) × (word ≡ command_name command) → ⊥
unlisted word o s m (command.Open, is) = o is
unlisted word o s m (command.Send, is) = s is
unlisted word o s m (command.Main, is) = m is

pub tell_command : (word : List ℕ) → ((command : Command) × (word ≡ command_name command)) ⊎ (¬ Contains commands word)
tell_command word =
    elim (same_or_not word (codes "open")) [
      | inl is ↦ inl (command.Open, is)
      | inr o ↦ elim (same_or_not word (codes "send")) [
        | inl is ↦ inl (command.Send, is)
        | inr s ↦ elim (same_or_not word (codes "main")) [
          | inl is ↦ inl (command.Main, is)
          | inr m ↦ inr (λ listed. unlisted word o s m (listed_command word listed))
        ]
      ]
    ]

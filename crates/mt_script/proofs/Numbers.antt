-- Words that spell a number.
use Rattle.std.proofs.Common.{◌≡◌, ◌≢◌, ℕ, ◌<◌, ◌≤◌, ◌^◌, true, List, [], ◌∷◌, length, get_or, Option, Result, Ok, Err, refl, sym, ap, subst, ◌∙◌, inl, inr, arith}
use Rattle.std.proofs.lemmas.Bool.{cases_lt}
use Rattle.std.proofs.lemmas.Bool.Decides.{nat_tests}
use Rattle.std.proofs.lemmas.Fmt.{decimal_digit, first_decimal, decimal_is_IsNumeral, decimal-digits_value, parse-decimal, IsAscii-decimal}
use Rattle.std.proofs.lemmas.Str.{IsUtf8-from_ascii}
use Rattle.std.proofs.lemmas.Str.Parse.{IsNumeralModel, numerals_by_value, tells_digits, parse_plain, digit_at}
use Rattle.std.specs.Fmt.{decimal}
use Rattle.std.specs.Result.{result_ok}
use Rattle.std.specs.Str.{IsUtf8}
use Rattle.std.specs.Str.Parse.{ParsesUnsigned, AllDigits, digits_value}
use Rattle.mt_script.specs.Reading.{begins_as_number, IsNumberOf}

own : IsNumeralModel (AllDigits 10) (digits_value 10)
own = numerals_by_value (AllDigits 10) tells_digits

-- what such a word begins with
begins_first : (word : List ℕ) → begins_as_number word ≡ true → (48 ≤ get_or word 0 0) × (get_or word 0 0 ≤ 57) × (get_or word 0 0 ≡ 48 → length word ≡ 1)
begins_first [] h = cc
begins_first (first ∷ []) h = (grind (arith, nat_tests), grind (arith, nat_tests), λ _. refl)
begins_first (first ∷ next ∷ rest) h = (grind (arith, nat_tests), grind (arith, nat_tests), λ e. let up : 49 ≤ first = grind (arith, nat_tests) in absurd (omega arith))

-- a word that begins so and is read as a number is that number's spelling
pub number_spelled : {E : Type 0} (bits : ℕ) → 2 ^ bits ≤ 2 ^ 64 → (word : List ℕ) (n : ℕ) (r : Result ℕ E) → begins_as_number word ≡ true → ParsesUnsigned bits 10 word r → r ≡ Ok n
    → word ≡ decimal n
number_spelled {E} bits narrow word n r begins parses is =
    let first = begins_first word begins in
    let plus : get_or word 0 0 ≢ 43 = λ e. omega arith in
    let ok = parse_plain own {E = E} bits word (Ok n) (subst (λ (x : Result ℕ E). ParsesUnsigned bits 10 word x) is parses) plus in
    let fits : digits_value 10 word < 2 ^ 64 = omega (arith, ok.0.2, narrow) in
    sym (decimal-digits_value own word ok.0.0 ok.0.1 first.2 fits) ∙ ap decimal (sym ok.1)

some_digits : (word : List ℕ) → 0 < length word → 49 ≤ get_or word 0 0 → get_or word 0 0 ≤ 57 → begins_as_number word ≡ true
some_digits [] some low high = absurd (omega arith)
some_digits (first ∷ []) some low high = grind (arith, nat_tests)
some_digits (first ∷ next ∷ rest) some low high = grind (arith, nat_tests)

-- a number's spelling begins so
decimal_begins : (id : ℕ) → id < 2 ^ 64 → begins_as_number (decimal id) ≡ true
decimal_begins id small =
    elim (cases_lt 0 id) [
      | inl up ↦
          let numeral = (decimal_is_IsNumeral id small).0 in
          let digit = digit_at (decimal id) 0 numeral.1 numeral.0 in
          some_digits (decimal id) numeral.0 (first_decimal id up small) digit.1
      | inr down ↦
          let zero_is : id ≡ 0 = omega arith in
          ap (λ n. begins_as_number (decimal n)) zero_is ∙ ap begins_as_number (decimal_digit 0 (omega arith))
    ]

-- what holds of a number's spelling
pub record IsSpelling (word : List ℕ) : Type 0 where
  pub begins : begins_as_number word ≡ true
  pub utf8 : IsUtf8 word

pub number_reads : (word : List ℕ) (id : ℕ) → id < 2 ^ 64 → word ≡ decimal id → IsSpelling word
number_reads word id wide is =
    record {
      begins = ap begins_as_number is ∙ decimal_begins id wide;
      utf8 = subst IsUtf8 (sym is) (IsUtf8-from_ascii (decimal id) (IsAscii-decimal id wide));
    }

-- what parsing answers is what the word spells
pub number_parsed : {E : Type 0} (bits : ℕ) → 2 ^ bits ≤ 2 ^ 64 → (word text : List ℕ) (r : Result ℕ E) (o : Option ℕ) → text ≡ word → begins_as_number word ≡ true
    → ParsesUnsigned bits 10 text r → o ≡ result_ok r → IsNumberOf bits word o
number_parsed {E} bits narrow word text (Ok n) o same begins parses is =
    let read = subst (λ t. ParsesUnsigned {E = E} bits 10 t (Ok n)) same parses in
    subst (IsNumberOf bits word) (sym is) (number_spelled {E = E} bits narrow word n (Ok n) begins read refl)
number_parsed {E} bits narrow word text (Err e) o same begins parses is =
    let r : Result ℕ E = Err e in
    subst (IsNumberOf bits word) (sym is) (λ id small spells.
    let reads : r ≡ Ok id = parse-decimal {E = E} bits id text r small (omega (arith, narrow)) (same ∙ spells) parses in cc)

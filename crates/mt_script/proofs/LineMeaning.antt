-- A line and its words; what the words mean, the line means.
use Rattle.std.proofs.Common.{◌≡◌, ◌≢◌, ℕ, zero, suc, ◌+◌, ◌<◌, ◌^◌, Bool, true, false, not, cond, eqb, List, [], ◌∷◌, ◌++◌, take, Err, refl, sym, ap, subst, ◌∙◌, codes, lit<, arith}
use Rattle.std.proofs.lemmas.Bool.Decides.{nat_tests}
use Rattle.std.proofs.lemmas.Fmt.{decimal_is_IsNumeral}
use Rattle.std.proofs.lemmas.Str.Parse.{digit_at}
use Rattle.std.proofs.lemmas.List.{get_or_default}
use Rattle.std.proofs.lemmas.List.Elements.{All-weaker, All-tail}
use Rattle.std.proofs.lemmas.List.Splits.{slice_split_none, slice_split_at, join_with_byte-slice_split}
use Rattle.std.proofs.lemmas.List.Sums.{AllPass-from_list_all}
use Rattle.std.specs.List.{Contains, list_all, onto_first, join_with_byte, position_or_len}
use Rattle.std.specs.Fmt.{decimal}
use Rattle.hex.specs.Hex.{encode_lower}
use Rattle.mt_base.specs.declared.kinds.Role.{Role}
use Rattle.mt_base.specs.declared.kinds.Role.TheVariants.{Server, Client}
use Rattle.mt_base.specs.declared.kinds.Kind.{Kind}
use Rattle.mt_base.specs.declared.kinds.Kind.TheVariants.{Reliable, Lossy}
use Rattle.mt_script.specs.Lines.{Lacks}
use Rattle.mt_script.specs.Spelling.{side_name, kind_name, hex_text, words_of, spelled, IsBytes, IsWord, IsEvent}
use Rattle.mt_script.specs.Meaning.{commands, first_word}
use Rattle.mt_script.specs.declared.event.Event.{Event}
use Rattle.mt_script.specs.declared.event.Event.TheVariants.{Open, Send, Main}
use Rattle.mt_script.specs.declared.values.Command.{Command}
use Rattle.mt_script.specs.declared.values.Command.TheVariants as command
use Rattle.mt_script.specs.declared.fault.LineFault.{LineFault}
use Rattle.mt_script.specs.declared.fault.LineFault.TheVariants as fault
use Rattle.mt_script.specs.Reading.{split_at_blanks, command_name, is_lower_digit, Completes, MeansAs}
use Rattle.mt_script.proofs.Cutting.{none_passes}
use Rattle.mt_script.proofs.HexDigits.{lower_text}

-- a name behind `open ` has no byte that the line lacks
behind_open : (byte : ℕ) (name : List ℕ) → Lacks byte (codes "open " ++ name) → Lacks byte name
behind_open byte name h =
    let P : ℕ → Type 0 = λ x. x ≢ byte in
    All-tail P 32 name (All-tail P 110 (32 ∷ name) (All-tail P 101 (110 ∷ 32 ∷ name) (All-tail P 112 (101 ∷ 110 ∷ 32 ∷ name) (All-tail P 111 (112 ∷ 101 ∷ 110 ∷ 32 ∷ name) h))))

-- a name alone behind `open` is an event, where the line has no byte 10
pub opens : (words after : List (List ℕ)) (name : List ℕ) → IsWord name × (words ≡ name ∷ after) → after ≡ []
    → (codes "open" ∷ words ≡ words_of (Open name)) × (Lacks 10 (spelled (Open name)) → IsEvent (Open name))
opens words after name taken none = (
  ap (λ ws. codes "open" ∷ ws) (taken.1 ∙ ap (λ ws. name ∷ ws) none),
  λ h. (taken.0, behind_open 10 name h),
)

-- ---- the first word

one_more : (b : Bool) (x : ℕ) (xs : List ℕ) (n : ℕ) (parts tail : List (List ℕ)) → parts ≡ take n xs ∷ tail
    → (rest : List (List ℕ)) × (cond b ([] ∷ parts) (onto_first x parts) ≡ take (cond (not b) (1 + n) 0) (x ∷ xs) ∷ rest)
one_more true x xs n parts tail e = (parts, refl)
one_more false x xs n parts tail e = let more : suc n ≡ 1 + n = omega arith in (tail, ap (onto_first x) e ∙ ap (λ k. take k (x ∷ xs) ∷ tail) more)

-- the words of a line begin with its first word
pub words_begin : (line : List ℕ) → (rest : List (List ℕ)) × (split_at_blanks line ≡ first_word line ∷ rest)
words_begin [] = ([], refl)
words_begin (x ∷ xs) =
    let ih = words_begin xs in
    one_more (eqb x 32) x xs (position_or_len (λ b. eqb b 32) xs) (split_at_blanks xs) ih.0 ih.1

-- each command is in the list
pub command_listed : (command : Command) → Contains commands (command_name command)
command_listed command.Open = (0, lit< tt, refl)
command_listed command.Send = (1, lit< tt, refl)
command_listed command.Main = (2, lit< tt, refl)

-- and what the list has is a command
pub listed_command : (word : List ℕ) → Contains commands word → (command : Command) × (word ≡ command_name command)
listed_command word (zero, small, is) = (command.Open, sym is)
listed_command word (suc zero, small, is) = (command.Send, sym is)
listed_command word (suc (suc zero), small, is) = (command.Main, sym is)
listed_command word (suc (suc (suc k)), small, is) = absurd (omega arith)

-- a line whose words begin with no command
pub no_command : (line : List ℕ) → ((command : Command) (rest : List (List ℕ)) → split_at_blanks line ≢ command_name command ∷ rest) → ¬ Contains commands (first_word line)
no_command line none listed =
    let begins = words_begin line in
    let command = listed_command (first_word line) listed in
    none command.0 begins.0 (begins.1 ∙ ap (λ w. w ∷ begins.0) command.1)

-- ---- the words of an event

-- no word has a blank
abbrev pub NoBlanks : List (List ℕ) → Type 0
NoBlanks [] = Unit {0}
NoBlanks (word ∷ words) = Lacks 32 word × NoBlanks words

-- joined words are cut into the same words
pub split_joined : (word : List ℕ) (words : List (List ℕ)) → NoBlanks (word ∷ words) → split_at_blanks (join_with_byte 32 (word ∷ words)) ≡ word ∷ words
split_joined word [] h = slice_split_none (λ x. eqb x 32) word (none_passes 32 word h.0)
split_joined word (next ∷ words) h =
    slice_split_at (λ x. eqb x 32) word 32 (join_with_byte 32 (next ∷ words)) (none_passes 32 word h.0) refl
    ∙ ap (λ ws. word ∷ ws) (split_joined next words h.1)

pub tested : (word : List ℕ) → list_all (λ x. not (eqb x 32)) word ≡ true → Lacks 32 word
tested word h = All-weaker (λ x. not (eqb x 32) ≡ true) (λ x. x ≢ 32) (λ x p e. let q = p in grind (arith, nat_tests)) word (AllPass-from_list_all (λ x. not (eqb x 32)) word h)

pub side_no_blank : (side : Role) → Lacks 32 (side_name side)
side_no_blank Server = tested (side_name Server) refl
side_no_blank Client = tested (side_name Client) refl

pub kind_no_blank : (kind : Kind) → Lacks 32 (kind_name kind)
kind_no_blank Reliable = tested (kind_name Reliable) refl
kind_no_blank Lossy = tested (kind_name Lossy) refl

pub decimal_no_blank : (id : ℕ) → id < 2 ^ 64 → Lacks 32 (decimal id)
decimal_no_blank id small k d within e =
    let digits = (decimal_is_IsNumeral id (omega arith)).0.1 in
    let range = digit_at (decimal id) k digits within in
    let same = get_or_default (decimal id) k d 0 within in
    omega (arith, range, same)

lower_no_blank : (x : ℕ) → is_lower_digit x ≡ true → x ≢ 32
lower_no_blank x h e = grind (arith, nat_tests)

pub hex_no_blank : (bytes : List ℕ) → IsBytes bytes → Lacks 32 (hex_text bytes)
hex_no_blank [] h = tested (codes "-") refl
hex_no_blank (byte ∷ rest) h =
    All-weaker (λ x. is_lower_digit x ≡ true) (λ x. x ≢ 32) lower_no_blank (encode_lower (byte ∷ rest))
    (AllPass-from_list_all is_lower_digit (encode_lower (byte ∷ rest)) (lower_text (byte ∷ rest) h))

-- the line of an event is cut into its words
pub split_spelled : (event : Event) → IsEvent event → split_at_blanks (spelled event) ≡ words_of event
split_spelled (Open name) h = split_joined (codes "open") (name ∷ []) (tested (codes "open") refl, (h.0.no_blank, tt))
split_spelled (Send side id message) h =
    split_joined (codes "send") (side_name side ∷ decimal id ∷ hex_text message ∷ [])
    (tested (codes "send") refl, (side_no_blank side, (decimal_no_blank id (omega (arith, h.0)), (hex_no_blank message h.1, tt))))
split_spelled (Main side) h =
    split_joined (codes "main") (side_name side ∷ codes "all" ∷ []) (tested (codes "main") refl, (side_no_blank side, (tested (codes "all") refl, tt)))

-- a line that is cut into the words of an event is its line
pub spelled_by_words : (line : List ℕ) (event : Event) → split_at_blanks line ≡ words_of event → line ≡ spelled event
spelled_by_words line event e = sym (join_with_byte-slice_split 32 line) ∙ ap (join_with_byte 32) e

-- ---- what reading answered of the words, of the line

pub line_completes : (line : List ℕ) (command : Command) (words : List (List ℕ)) (event : Event) → Lacks 10 line → split_at_blanks line ≡ command_name command ∷ words
    → (command_name command ∷ words ≡ words_of event) × (Lacks 10 (spelled event) → IsEvent event) → IsEvent event × (line ≡ spelled event)
line_completes line command words event lacks cut completes =
    let is = spelled_by_words line event (cut ∙ completes.0) in
    (completes.1 (subst (Lacks 10) is lacks), is)

pub no_event : (line : List ℕ) (words : List (List ℕ)) → split_at_blanks line ≡ words → ((event : Event) → IsEvent event → words ≢ words_of event) → (event : Event) → IsEvent event → line ≢ spelled event
no_event line words cut none event h is = none event h (sym cut ∙ ap split_at_blanks is ∙ split_spelled event h)

pub begins_with : (line word : List ℕ) (words : List (List ℕ)) → split_at_blanks line ≡ word ∷ words → word ≡ first_word line
begins_with line word words cut =
    let begins = words_begin line in
    let both : word ∷ words ≡ first_word line ∷ begins.0 = sym cut ∙ begins.1 in cc

pub line_fails : (line : List ℕ) (command : Command) (words : List (List ℕ)) (fault : LineFault) → split_at_blanks line ≡ command_name command ∷ words
    → Completes (command_name command) words (Err fault) → MeansAs line (Err fault)
line_fails line command words fault.BadWords cut none = (
  subst (Contains commands) (begins_with line (command_name command) words cut) (command_listed command),
  no_event line (command_name command ∷ words) cut none,
)
line_fails line command words fault.BadCommand cut none = absurd none
line_fails line command words fault.NoMemory cut none = tt

-- Each line has exactly one meaning.
use Rattle.std.proofs.Common.{◌≡◌, ◌≢◌, ℕ, zero, suc, ◌<◌, eqb, inl, inr, List, [], ◌∷◌, take, Some, None, refl, sym, ap, subst, ◌∙◌, arith}
use Rattle.std.proofs.lemmas.Bool.{cases_eq}
use Rattle.std.proofs.lemmas.List.Elements.{All-nil, All-cons, All-head, All-tail}
use Rattle.std.specs.List.{AllByRecursion, Contains, position_or_len}
use Rattle.mt_script.specs.declared.event.Event.{Event}
use Rattle.mt_script.specs.declared.event.Event.TheVariants.{Open, Send, Main}
use Rattle.mt_script.specs.declared.values.Command.{Command}
use Rattle.mt_script.specs.declared.values.Command.TheVariants as command
use Rattle.mt_script.specs.Lines.{Lacks}
use Rattle.mt_script.specs.Spelling.{words_of, spelled, IsBytes, IsEvent}
use Rattle.mt_script.specs.Meaning.{commands, first_word, IsSkipped, Meaning, Does, UnknownCommand, WrongWords, Means}
use Rattle.mt_script.specs.Reading.{split_at_blanks, command_name}
use Rattle.mt_script.proofs.LineMeaning.{words_begin, begins_with, command_listed, listed_command, split_spelled, spelled_by_words, no_event}
use Rattle.mt_script.proofs.LineLaws.{each_part, other_byte}
use Rattle.mt_script.proofs.Spellings.{Fine, ToldWords, tell_behind, tell_command, spelled-injective}

-- ---- a meaning

no_word : Fine []
no_word = (All-nil (λ b. b < 256), All-nil (λ b. b ≢ 32), All-nil (λ b. b ≢ 10))

-- the words of a line are fine
fine_words : (line : List ℕ) → IsBytes line → Lacks 10 line → AllByRecursion Fine (split_at_blanks line)
fine_words [] bytes lacks = (no_word, tt)
fine_words (x ∷ xs) bytes lacks =
    each_part Fine (eqb x 32) x (split_at_blanks xs) no_word
    (λ other l fine. (
      All-cons (λ b. b < 256) x l (All-head (λ b. b < 256) x xs bytes) fine.0,
      All-cons (λ b. b ≢ 32) x l (other_byte x 32 other) fine.1,
      All-cons (λ b. b ≢ 10) x l (All-head (λ b. b ≢ 10) x xs lacks) fine.2,
    ))
    (fine_words xs (All-tail (λ b. b < 256) x xs bytes) (All-tail (λ b. b ≢ 10) x xs lacks))

told_line : (line : List ℕ) (c : Command) (rest : List (List ℕ)) → split_at_blanks line ≡ command_name c ∷ rest → Contains commands (first_word line) → ToldWords (command_name c ∷ rest) → (m : Meaning) × Means line m
told_line line c rest cut listed (inl event) = (Does (Some event.0), (event.1, spelled_by_words line event.0 (cut ∙ event.2)))
told_line line c rest cut listed (inr none) = (WrongWords, (listed, no_event line (command_name c ∷ rest) cut none))

tell_line : (line : List ℕ) → IsBytes line → Lacks 10 line → ¬ IsSkipped line → (m : Meaning) × Means line m
tell_line line bytes lacks skipped =
    let begins = words_begin line in
    let fine = subst (AllByRecursion Fine) begins.1 (fine_words line bytes lacks) in
    elim (tell_command (first_word line)) [
      | inl c ↦
          let cut = begins.1 ∙ ap (λ w. w ∷ begins.0) c.1 in
          told_line line c.0 begins.0 cut (subst (Contains commands) (sym c.1) (command_listed c.0)) (tell_behind c.0 begins.0 fine.1)
      | inr other ↦ (UnknownCommand, (skipped, other))
    ]

-- each line has a meaning
pub some_meaning : (line : List ℕ) → IsBytes line → Lacks 10 line → (m : Meaning) × Means line m
some_meaning [] bytes lacks = (Does None, tt)
some_meaning (x ∷ xs) bytes lacks =
    elim (cases_eq x 35) [
      | inl comment ↦ (Does None, comment)
      | inr other ↦ tell_line (x ∷ xs) bytes lacks other
    ]

-- ---- and no other

event_not_skipped : (event : Event) → IsSkipped (spelled event) → ⊥
event_not_skipped (Open name) h = omega arith
event_not_skipped (Send side id message) h = omega arith
event_not_skipped (Main side) h = omega arith

-- the line of an event begins with a command
event_command : (line : List ℕ) (event : Event) → split_at_blanks line ≡ words_of event → Contains commands (first_word line)
event_command line (Open name) cut = subst (Contains commands) (begins_with line _ _ cut) (command_listed command.Open)
event_command line (Send side id message) cut = subst (Contains commands) (begins_with line _ _ cut) (command_listed command.Send)
event_command line (Main side) cut = subst (Contains commands) (begins_with line _ _ cut) (command_listed command.Main)

event_listed : (line : List ℕ) (event : Event) → IsEvent event → line ≡ spelled event → Contains commands (first_word line)
event_listed line event h is = event_command line event (ap split_at_blanks is ∙ split_spelled event h)

front_head : (n x y : ℕ) (xs ys : List ℕ) → take n (x ∷ xs) ≡ y ∷ ys → x ≡ y
front_head zero x y xs ys e = cc
front_head (suc n) x y xs ys e = cc

no_comment : (x : ℕ) (xs : List ℕ) (n : ℕ) → x ≡ 35 → (c : Command) × (take n (x ∷ xs) ≡ command_name c) → ⊥
no_comment x xs n is (command.Open, e) = let head : x ≡ 111 = front_head n x 111 xs _ e in omega arith
no_comment x xs n is (command.Send, e) = let head : x ≡ 115 = front_head n x 115 xs _ e in omega arith
no_comment x xs n is (command.Main, e) = let head : x ≡ 109 = front_head n x 109 xs _ e in omega arith

empty_command : (c : Command) × ([] ≡ command_name c) → ⊥
empty_command (command.Open, e) = cc
empty_command (command.Send, e) = cc
empty_command (command.Main, e) = cc

-- a line without effect begins with no command
skipped_unlisted : (line : List ℕ) → IsSkipped line → Contains commands (first_word line) → ⊥
skipped_unlisted [] h listed = empty_command (listed_command (first_word []) listed)
skipped_unlisted (x ∷ xs) h listed = no_comment x xs (position_or_len (λ b. eqb b 32) (x ∷ xs)) h (listed_command (first_word (x ∷ xs)) listed)

skipped_not_event : (line : List ℕ) (event : Event) → IsSkipped line → line ≡ spelled event → ⊥
skipped_not_event line event h is = event_not_skipped event (subst IsSkipped is h)

-- no line has two meanings
pub one_meaning : (line : List ℕ) (a b : Meaning) → Means line a → Means line b → a ≡ b
one_meaning line (Does None) (Does None) ha hb = refl
one_meaning line (Does None) (Does (Some e)) ha hb = absurd (skipped_not_event line e ha hb.1)
one_meaning line (Does None) UnknownCommand ha hb = absurd (hb.0 ha)
one_meaning line (Does None) WrongWords ha hb = absurd (skipped_unlisted line ha hb.0)
one_meaning line (Does (Some e)) (Does None) ha hb = absurd (skipped_not_event line e hb ha.1)
one_meaning line (Does (Some d)) (Does (Some e)) ha hb = ap (λ x. Does (Some x)) (spelled-injective d e ha.0 hb.0 (sym ha.1 ∙ hb.1))
one_meaning line (Does (Some e)) UnknownCommand ha hb = absurd (hb.1 (event_listed line e ha.0 ha.1))
one_meaning line (Does (Some e)) WrongWords ha hb = absurd (hb.1 e ha.0 ha.1)
one_meaning line UnknownCommand (Does None) ha hb = absurd (ha.0 hb)
one_meaning line UnknownCommand (Does (Some e)) ha hb = absurd (ha.1 (event_listed line e hb.0 hb.1))
one_meaning line UnknownCommand UnknownCommand ha hb = refl
one_meaning line UnknownCommand WrongWords ha hb = absurd (ha.1 hb.0)
one_meaning line WrongWords (Does None) ha hb = absurd (skipped_unlisted line hb ha.0)
one_meaning line WrongWords (Does (Some e)) ha hb = absurd (ha.1 e hb.0 hb.1)
one_meaning line WrongWords UnknownCommand ha hb = absurd (hb.1 ha.0)
one_meaning line WrongWords WrongWords ha hb = refl

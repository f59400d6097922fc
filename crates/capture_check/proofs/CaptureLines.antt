-- The lines of a capture that were read so far.
use Rattle.std.proofs.Common.{◌≡◌, ℕ, ◌+◌, List, [], ◌∷◌, ◌++◌, length, map, All, Ok, sym, ap, subst, ◌∙◌, append_assoc, length-append, arith}
use Rattle.std.proofs.lemmas.List.{map-append}
use Rattle.std.proofs.lemmas.List.Elements.{All-nil, All-cons, All-append}
use Rattle.mt_script.specs.Lines.{lines_of}
use Rattle.capture_check.specs.declared.entry.Entry.{Entry}
use Rattle.capture_check.specs.Spelling.{spelled, IsEntry}
use Rattle.capture_check.specs.Reading.{AddsLine}

-- lines were read up to this rest, as many as the number says, and gave the entries
pub record SoFar (text rest : List ℕ) (number : ℕ) (entries : List Entry) : Type 0 where
  pub good : All IsEntry entries
  pub parts : lines_of text ≡ map spelled entries ++ lines_of rest
  pub counted : number ≡ length entries

-- one more line
pub goes_on : (text rest line after : List ℕ) (number : ℕ) (old new : List Entry) → SoFar text rest number old → lines_of rest ≡ line ∷ lines_of after → AddsLine old new line (number + 1) (Ok tt)
    → SoFar text after (number + 1) new
goes_on text rest line after number old new s cut adds =
    let entry = adds.0 in
    let more : map spelled old ++ line ∷ lines_of after ≡ map spelled (old ++ entry ∷ []) ++ lines_of after =
    ap (λ l. map spelled old ++ l ∷ lines_of after) adds.1.1 ∙ sym (append_assoc (map spelled old) (spelled entry ∷ []) (lines_of after))
    ∙ ap (λ ls. ls ++ lines_of after) (sym (map-append spelled old (entry ∷ []))) in
    subst (λ es. SoFar text after (number + 1) es) (sym adds.2) (record {
      good = All-append IsEntry old (entry ∷ []) s.good (All-cons IsEntry entry [] adds.1.0 (All-nil IsEntry));
      parts = s.parts ∙ ap (λ ls. map spelled old ++ ls) cut ∙ more;
      counted = omega (arith, s.counted, length-append old (entry ∷ []));
    })

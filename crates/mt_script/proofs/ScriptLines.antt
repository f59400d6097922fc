-- The lines of a script that were read so far.
use Rattle.std.proofs.Common.{◌≡◌, ℕ, ◌+◌, List, [], ◌∷◌, ◌++◌, length, Option, Some, None, Ok, refl, sym, ap, ◌∙◌, append_assoc, length-append, arith}
use Rattle.mt_script.specs.declared.event.Event.{Event}
use Rattle.mt_script.specs.declared.event.Line.{Line}
use Rattle.mt_script.specs.Lines.{lines_of}
use Rattle.mt_script.specs.Meaning.{Does, Means, Do, numbered}
use Rattle.mt_script.specs.Reading.{AddsLine}

-- lines were read up to this rest, as many as the number says, and gave the script
pub record SoFar (text rest : List ℕ) (number : ℕ) (script : List Line) : Type 0 where
  pub before : List (List ℕ)
  pub does : List (Option Event)
  pub parts : lines_of text ≡ before ++ lines_of rest
  pub good : Do before does
  pub counted : number ≡ length before
  pub kept : script ≡ numbered 1 does

pub length-Do : (lines : List (List ℕ)) (does : List (Option Event)) → Do lines does → length does ≡ length lines
length-Do [] [] h = refl
length-Do [] (d ∷ rest) h = absurd h
length-Do (line ∷ lines) [] h = absurd h
length-Do (line ∷ lines) (d ∷ rest) h = let ih = length-Do lines rest h.1 in omega arith

pub Do-push : (lines : List (List ℕ)) (does : List (Option Event)) (line : List ℕ) (d : Option Event) → Do lines does → Means line (Does d) → Do (lines ++ line ∷ []) (does ++ d ∷ [])
Do-push [] [] line d h m = (m, tt)
Do-push [] (e ∷ rest) line d h m = absurd h
Do-push (other ∷ lines) [] line d h m = absurd h
Do-push (other ∷ lines) (e ∷ rest) line d h m = (h.0, Do-push lines rest line d h.1 m)

pub numbered-push : (number : ℕ) (does : List (Option Event)) (d : Option Event) → numbered number (does ++ d ∷ []) ≡ numbered number does ++ numbered (number + length does) (d ∷ [])
numbered-push number [] d = let same : number ≡ number + 0 = omega arith in ap (λ n. numbered n (d ∷ [])) same
numbered-push number (None ∷ rest) d =
    let same : number + 1 + length rest ≡ number + length (d ∷ rest) = omega arith in
    numbered-push (number + 1) rest d ∙ ap (λ n. numbered (number + 1) rest ++ numbered n (d ∷ [])) same
numbered-push number (Some event ∷ rest) d =
    let same : number + 1 + length rest ≡ number + length (d ∷ rest) = omega arith in
    ap (λ t. record { event = event; number = number } ∷ t) (numbered-push (number + 1) rest d ∙ ap (λ n. numbered (number + 1) rest ++ numbered n (d ∷ [])) same)

-- one more line
pub goes_on : (text rest line after : List ℕ) (number : ℕ) (old new : List Line) → SoFar text rest number old → lines_of rest ≡ line ∷ lines_of after → AddsLine old new line (number + 1) (Ok tt) → SoFar text after (number + 1) new
goes_on text rest line after number old new s cut adds =
    let long = length-Do s.before s.does s.good in
    let at : number + 1 ≡ 1 + length s.does = omega (arith, s.counted) in
    record {
      before = s.before ++ line ∷ [];
      does = s.does ++ adds.0 ∷ [];
      parts = s.parts ∙ ap (λ ls. s.before ++ ls) cut ∙ sym (append_assoc s.before (line ∷ []) (lines_of after));
      good = Do-push s.before s.does line adds.0 s.good adds.1;
      counted = omega (arith, s.counted, length-append s.before (line ∷ []));
      kept = adds.2 ∙ ap (λ k. k ++ numbered (number + 1) (adds.0 ∷ [])) s.kept
          ∙ ap (λ n. numbered 1 s.does ++ numbered n (adds.0 ∷ [])) at ∙ sym (numbered-push 1 s.does adds.0);
    }

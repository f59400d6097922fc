-- Lines and their answers: what was shown so far.
use Rattle.std.proofs.Common.{◌≡◌, ℕ, ◌+◌, List, [], ◌∷◌, ◌++◌, length, Some, Ok, Err, refl, sym, ap, ◌∙◌, subst, append_assoc, append-nil, length-append, arith}
use Rattle.std.specs.List.{All, join_with_byte}
use Rattle.std.proofs.lemmas.List.Elements.{All-nil, All-cons}
use Rattle.mt_script.specs.Lines.{lines_of, ended}
use Rattle.mt_script.specs.Meaning.{IsShort}
use Rattle.mt_show.specs.declared.asked.Asked.{Asked}
use Rattle.mt_show.specs.declared.refusal.ShowRefusal.{ShowRefusal}
use Rattle.mt_show.specs.declared.refusal.ShowRefusal.TheVariants.{BadLine, TooManyLines, NoMemory}
use Rattle.mt_show.specs.Grammar.{first_word, Keeps}
use Rattle.mt_show.specs.Answer.{Answers, AreAnswered, ShownAs, Shows}
use Rattle.mt_show.specs.Steps.{Asks, AddsAnswer, AddsLine}
use Rattle.mt_show.proofs.Joining.{joined}

-- lines were answered up to this rest, as many as the number says, and gave the output
pub record SoFar (text rest : List ℕ) (number : ℕ) (output : List ℕ) : Type 0 where
  pub before : List (List ℕ)
  pub answers : List (List ℕ)
  pub parts : lines_of text ≡ before ++ lines_of rest
  pub answered : AreAnswered before answers
  pub counted : number ≡ length before
  pub output_is : output ≡ ended answers

answered-push : (lines answers : List (List ℕ)) (line answer : List ℕ) → AreAnswered lines answers → Answers line answer → AreAnswered (lines ++ line ∷ []) (answers ++ answer ∷ [])
answered-push [] [] line answer h a = (a, tt)
answered-push [] (x ∷ xs) line answer h a = absurd h
answered-push (l ∷ ls) [] line answer h a = absurd h
answered-push (l ∷ ls) (x ∷ xs) line answer h a = (h.0, answered-push ls xs line answer h.1 a)

ended-push : (answers : List (List ℕ)) (answer : List ℕ) → ended (answers ++ answer ∷ []) ≡ ended answers ++ (answer ++ 10 ∷ [])
ended-push [] answer = refl
ended-push (x ∷ xs) answer = ap (λ t. x ++ 10 ∷ t) (ended-push xs answer) ∙ sym (append_assoc x (10 ∷ ended xs) (answer ++ 10 ∷ []))

pub at_start : (text output : List ℕ) → output ≡ [] → SoFar text text 0 output
at_start text output none = record { before = []; answers = []; parts = refl; answered = tt; counted = refl; output_is = none }

-- one more line
pub goes_on : (text rest line after : List ℕ) (number : ℕ) (old new : List ℕ) → SoFar text rest number old → lines_of rest ≡ line ∷ lines_of after
    → AddsLine line (number + 1) old new (Ok tt) → SoFar text after (number + 1) new
goes_on text rest line after number old new s cut adds = record {
  before = s.before ++ line ∷ [];
  answers = s.answers ++ adds.0 ∷ [];
  parts = s.parts ∙ ap (λ ls. s.before ++ ls) cut ∙ sym (append_assoc s.before (line ∷ []) (lines_of after));
  answered = answered-push s.before s.answers line adds.0 s.answered adds.1;
  counted = omega (arith, s.counted, length-append s.before (line ∷ []));
  output_is = adds.2 ∙ ap (λ t. t ++ (adds.0 ++ 10 ∷ [])) s.output_is ∙ sym (ended-push s.answers adds.0);
}

-- lines that are answered keep the grammar
pub kept_before : (lines answers : List (List ℕ)) → AreAnswered lines answers → All Keeps lines
kept_before [] [] h = All-nil Keeps
kept_before [] (x ∷ xs) h = absurd h
kept_before (l ∷ ls) [] h = absurd h
kept_before (l ∷ ls) (x ∷ xs) h = All-cons Keeps l ls (h.0.asked, h.0.is_asked, h.0.line_is) (kept_before ls xs h.1)

-- a line that is refused
pub stops : (text rest line after : List ℕ) (number : ℕ) (old new : List ℕ) (r : ShowRefusal) → IsShort text → SoFar text rest number old → lines_of rest ≡ line ∷ lines_of after
    → AddsLine line (number + 1) old new (Err r) → Shows text (Err r)
stops text rest line after number old new (BadLine n) short s cut adds = (
  short,
  record {
    before = s.before;
    line = line;
    after = lines_of after;
    parts = s.parts ∙ ap (λ ls. s.before ++ ls) cut;
    kept = kept_before s.before s.answers s.answered;
    broken = adds.1;
    number_is = adds.0 ∙ ap (λ k. k + 1) s.counted;
  },
)
stops text rest line after number old new (TooManyLines limit) short s cut adds = absurd adds
stops text rest line after number old new NoMemory short s cut adds = tt

-- no line is left
pub ends : (text rest : List ℕ) (number : ℕ) (output : List ℕ) → IsShort text → SoFar text rest number output → rest ≡ [] → ShownAs text (Ok output)
ends text rest number output short s none =
    let all : lines_of text ≡ s.before = s.parts ∙ ap (λ r. s.before ++ lines_of r) none ∙ append-nil s.before in
    (short, s.answers, subst (λ ls. AreAnswered ls s.answers) (sym all) s.answered, s.output_is)

-- the answer to a line, from what was added
pub line_answered : (line : List ℕ) (number : ℕ) (asked : Asked) (old new : List ℕ) → Asks line (Some asked) → AddsAnswer asked old new → AddsLine line number old new (Ok tt)
line_answered line number asked old new is adds =
    let answer = join_with_byte 32 (first_word asked ∷ adds.0) in
    let put = ap (λ t. t ++ 10 ∷ []) (sym (joined 32 (first_word asked) adds.0)) in
    (answer, record { asked = asked; words = adds.0; is_asked = is.0; line_is = is.1; shown = adds.1; answer_is = refl }, adds.2 ∙ ap (λ t. old ++ t) put)

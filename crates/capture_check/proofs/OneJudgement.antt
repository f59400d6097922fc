-- Each list of entries is judged in at most one way by the rules up to a number, and in exactly one
-- by those of numbers.
use Rattle.std.proofs.Common.{◌≡◌, ℕ, ◌+◌, inl, inr, List, [], ◌∷◌, ◌++◌, length, Option, Some, None, refl, sym, ap, subst, ◌∙◌, append_assoc, append-nil}
use Rattle.std.proofs.lemmas.Bool.{cases_order}
use Rattle.capture_check.specs.declared.entry.Entry.{Entry}
use Rattle.capture_check.specs.declared.judgement.Judgement.{Judgement}
use Rattle.capture_check.specs.declared.judgement.Judgement.TheVariants.{Holds, Breaks}
use Rattle.capture_check.specs.Rules.{number_of, Keeps, Hold, BreaksRule, FirstBreak, Judged}
use Rattle.capture_check.specs.GivenSoFar.{rule_broken}
use Rattle.capture_check.proofs.Places.{given_by}
use Rattle.capture_check.proofs.Judging.{Verdict, verdict, holds_on, none_hold}
use Rattle.capture_check.proofs.Stepping.{Places, same, sooner, later, two_places}

-- ---- a judgement

HasJudgement : List Entry → Type 0
HasJudgement entries = (judgement : Judgement) × Judged 3 entries judgement

by_verdict : (before : List Entry) (entry : Entry) (rest : List Entry) (o : Option ℕ) → Hold 3 before → Verdict before entry o
    → (Keeps 3 before entry → HasJudgement (before ++ entry ∷ rest)) → HasJudgement (before ++ entry ∷ rest)
unfolding HasJudgement
by_verdict before entry rest None holds keeps on = on keeps
by_verdict before entry rest (Some rule) holds broken on =
    (Breaks (length before + 1) rule, record { before = before; entry = entry; after = rest; parts = refl; kept = holds; breaks = broken; line_is = refl })

judged_from : (before rest : List Entry) → Hold 3 before → HasJudgement (before ++ rest)
unfolding HasJudgement
judged_from before [] holds = (Holds, subst (Hold 3) (sym (append-nil before)) holds)
judged_from before (entry ∷ rest) holds =
    by_verdict before entry rest (rule_broken (given_by before) entry) holds (verdict before entry holds)
    (λ keeps. subst HasJudgement (append_assoc before (entry ∷ []) rest) (judged_from (before ++ entry ∷ []) rest (holds_on before entry holds keeps)))

pub some_judgement : (entries : List Entry) → (judgement : Judgement) × Judged 3 entries judgement
unfolding HasJudgement
some_judgement entries = judged_from [] entries none_hold

-- ---- and no other

not_both : (most : ℕ) (before : List Entry) (entry : Entry) (number : ℕ) → Keeps most before entry → BreaksRule most before entry number → ⊥
not_both most before entry number keeps b = b.broken (keeps b.rule b.within)

one_rule : (most : ℕ) (before : List Entry) (entry : Entry) (r q : ℕ) → BreaksRule most before entry r → BreaksRule most before entry q → r ≡ q
one_rule most before entry r q a b =
    elim (cases_order (number_of a.rule) (number_of b.rule)) [
      | inr (inl less) ↦ absurd (a.broken (b.least a.rule less))
      | inl equal ↦ a.number_is ∙ equal ∙ sym b.number_is
      | inr (inr more) ↦ absurd (b.broken (a.least b.rule more))
    ]

one_break : (most : ℕ) (entries : List Entry) (line rule other_line other_rule : ℕ) (f : FirstBreak most entries line rule) (g : FirstBreak most entries other_line other_rule)
    → Places f.before g.before f.entry g.entry f.after g.after → (line ≡ other_line) × (rule ≡ other_rule)
one_break most entries line rule other_line other_rule f g (same lists entry ends) =
    let moved = subst (λ e. BreaksRule most g.before e rule) entry (subst (λ l. BreaksRule most l f.entry rule) lists f.breaks) in
    (f.line_is ∙ ap (λ l. length l + 1) lists ∙ sym g.line_is, one_rule most g.before g.entry rule other_rule moved g.breaks)
one_break most entries line rule other_line other_rule f g (sooner rest is ends) = absurd (not_both most f.before f.entry rule (g.kept f.before f.entry rest is) f.breaks)
one_break most entries line rule other_line other_rule f g (later rest is ends) = absurd (not_both most g.before g.entry other_rule (f.kept g.before g.entry rest is) g.breaks)

pub one_judgement : (most : ℕ) (entries : List Entry) (a b : Judgement) → Judged most entries a → Judged most entries b → a ≡ b
one_judgement most entries Holds Holds ha hb = refl
one_judgement most entries Holds (Breaks line rule) ha hb = absurd (not_both most hb.before hb.entry rule (ha hb.before hb.entry hb.after hb.parts) hb.breaks)
one_judgement most entries (Breaks line rule) Holds ha hb = absurd (not_both most ha.before ha.entry rule (hb ha.before ha.entry ha.after ha.parts) ha.breaks)
one_judgement most entries (Breaks line rule) (Breaks l r) ha hb =
    let both = one_break most entries line rule l r ha hb (two_places ha.before hb.before ha.entry hb.entry ha.after hb.after (sym ha.parts ∙ hb.parts)) in
    ap (λ n. Breaks n rule) both.0 ∙ ap (λ n. Breaks l n) both.1

use Rattle.std.proofs.Common.{ap, sym, subst, ◌∙◌, refl, length}
use Rattle.capture_check.specs.Rules.{Framing, Judged}
use Rattle.capture_check.specs.Passes.{Finds, IsWithin, unbroken}
use Rattle.capture_check.proofs.Passing.{judged_within, judged_next, framing_next}
use Rattle.capture_check.proofs.frames.check_frames.Goals as goal

pub unbroken-requires : goal.unbroken-requires
unbroken-requires c =
    subst (λ l. IsWithin (length l) c.in_ok-tellings.tellings) (sym c.entries.ensures)
    (judged_within 6 c.args.capture.now c.in_ok-tellings.tellings c.in_ok-tellings.ensures)

pub returns : goal.returns
returns c =
    let over = c.unbroken.ensures ∙ ap (λ l. unbroken l c.in_ok-tellings.tellings) c.entries.ensures in
    subst (Judged 7 c.args.capture.now) (sym c.with_found.ensures)
    (judged_next 6 Framing c.args.capture.now c.in_ok-tellings.tellings c.in_ok-found.found framing_next refl c.in_ok-tellings.ensures
    (subst (λ l. Finds Framing l c.in_ok-found.found) over c.in_ok-found.ensures))

use Rattle.std.proofs.Common.{ap, sym, subst, ◌∙◌, refl, length}
use Rattle.capture_check.specs.Rules.{Asking, Judged}
use Rattle.capture_check.specs.Passes.{Finds, IsWithin, unbroken}
use Rattle.capture_check.proofs.Passing.{judged_within, judged_next, asking_next}
use Rattle.capture_check.proofs.all_rules.check.Goals as goal

pub unbroken-requires : goal.unbroken-requires
unbroken-requires c =
    subst (λ l. IsWithin (length l) c.in_ok-frames.frames) (sym c.entries.ensures)
    (judged_within 7 c.args.capture.now c.in_ok-frames.frames c.in_ok-frames.ensures)

pub returns : goal.returns
returns c =
    let over = c.unbroken.ensures ∙ ap (λ l. unbroken l c.in_ok-frames.frames) c.entries.ensures in
    subst (Judged 8 c.args.capture.now) (sym c.with_found.ensures)
    (judged_next 7 Asking c.args.capture.now c.in_ok-frames.frames c.in_ok-found.found asking_next refl c.in_ok-frames.ensures
    (subst (λ l. Finds Asking l c.in_ok-found.found) over c.in_ok-found.ensures))

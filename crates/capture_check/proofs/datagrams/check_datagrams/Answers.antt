use Rattle.std.proofs.Common.{ap, sym, subst, ◌∙◌, refl, length}
use Rattle.capture_check.specs.Rules.{Layouts, Judged}
use Rattle.capture_check.specs.Passes.{Finds, IsWithin, unbroken}
use Rattle.capture_check.proofs.Passing.{judged_within, judged_next, layouts_next}
use Rattle.capture_check.proofs.datagrams.check_datagrams.Goals as goal

pub unbroken-requires : goal.unbroken-requires
unbroken-requires c =
    subst (λ l. IsWithin (length l) c.in_ok-numbers.numbers) (sym c.entries.ensures)
    (judged_within 3 c.args.capture.now c.in_ok-numbers.numbers c.in_ok-numbers.ensures)

pub returns : goal.returns
returns c =
    let over = c.unbroken.ensures ∙ ap (λ l. unbroken l c.in_ok-numbers.numbers) c.entries.ensures in
    subst (Judged 4 c.args.capture.now) (sym c.with_found.ensures)
    (judged_next 3 Layouts c.args.capture.now c.in_ok-numbers.numbers c.first_unreadable-found.result layouts_next refl c.in_ok-numbers.ensures
    (subst (λ l. Finds Layouts l c.first_unreadable-found.result) over c.first_unreadable-found.ensures))

use Rattle.std.proofs.Common.{ap, sym, subst, ◌∙◌, refl, length, arith}
use Rattle.capture_check.specs.Rules.{Numbering, Tellings, Judged}
use Rattle.capture_check.specs.Passes.{Finds, IsWithin, Obey, unbroken}
use Rattle.capture_check.proofs.Passing.{judged_within, judged_next, tellings_next, unbroken_obey}
use Rattle.capture_check.proofs.tellings.check_tellings.Goals as goal

pub unbroken-requires : goal.unbroken-requires
unbroken-requires c =
    subst (λ l. IsWithin (length l) c.in_ok-messages.messages) (sym c.entries.ensures)
    (judged_within 5 c.args.capture.now c.in_ok-messages.messages c.in_ok-messages.ensures)

pub first_untold-requires : goal.first_untold-requires
first_untold-requires c =
    let over = c.unbroken.ensures ∙ ap (λ l. unbroken l c.in_ok-messages.messages) c.entries.ensures in
    subst (Obey Numbering) (sym over) (unbroken_obey 5 Numbering c.args.capture.now c.in_ok-messages.messages (omega arith) c.in_ok-messages.ensures)

pub returns : goal.returns
returns c =
    let over = c.unbroken.ensures ∙ ap (λ l. unbroken l c.in_ok-messages.messages) c.entries.ensures in
    subst (Judged 6 c.args.capture.now) (sym c.with_found.ensures)
    (judged_next 5 Tellings c.args.capture.now c.in_ok-messages.messages c.in_ok-found.found tellings_next refl c.in_ok-messages.ensures
    (subst (λ l. Finds Tellings l c.in_ok-found.found) over c.in_ok-found.ensures))

use Rattle.std.proofs.Common.{ap, sym, subst, ◌∙◌, refl, length}
use Rattle.capture_check.specs.Rules.{Messages, Judged}
use Rattle.capture_check.specs.Passes.{Finds, IsWithin, unbroken}
use Rattle.capture_check.proofs.Passing.{judged_within, judged_next, messages_next}
use Rattle.capture_check.proofs.messages.check_messages.Goals as goal

pub unbroken-requires : goal.unbroken-requires
unbroken-requires c =
    subst (λ l. IsWithin (length l) c.in_ok-datagrams.datagrams) (sym c.entries.ensures)
    (judged_within 4 c.args.capture.now c.in_ok-datagrams.datagrams c.in_ok-datagrams.ensures)

pub returns : goal.returns
returns c =
    let over = c.unbroken.ensures ∙ ap (λ l. unbroken l c.in_ok-datagrams.datagrams) c.entries.ensures in
    subst (Judged 5 c.args.capture.now) (sym c.with_found.ensures)
    (judged_next 4 Messages c.args.capture.now c.in_ok-datagrams.datagrams c.in_ok-found.found messages_next refl c.in_ok-datagrams.ensures
    (subst (λ l. Finds Messages l c.in_ok-found.found) over c.in_ok-found.ensures))

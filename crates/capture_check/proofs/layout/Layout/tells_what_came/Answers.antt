use Rattle.std.proofs.Common.{ℕ, sym, subst}
use Rattle.capture_check.specs.Tellings.{Tells}
use Rattle.capture_check.specs.TellingsSoFar.{MayTell}
use Rattle.capture_check.proofs.layout.Layout.tells_what_came.Goals as goal

pub returns-in-First-clause-kept : goal.returns-in-First-clause-kept
returns-in-First-clause-kept c held =
    subst (λ l. (n : ℕ) → Tells l c.args.datagram.now n → MayTell c.args.came.now l c.args.datagram.now n) (sym c.in-First.is) (c.first_came.ensures.kept held)

pub returns-in-First-clause-broken : goal.returns-in-First-clause-broken
returns-in-First-clause-broken c fails =
    subst (λ l. (n : ℕ) × Tells l c.args.datagram.now n × ¬ MayTell c.args.came.now l c.args.datagram.now n) (sym c.in-First.is) (c.first_came.ensures.broken fails)

pub returns-in-Second-clause-kept : goal.returns-in-Second-clause-kept
returns-in-Second-clause-kept c held =
    subst (λ l. (n : ℕ) → Tells l c.args.datagram.now n → MayTell c.args.came.now l c.args.datagram.now n) (sym c.in-Second.is) (c.second_came.ensures.kept held)

pub returns-in-Second-clause-broken : goal.returns-in-Second-clause-broken
returns-in-Second-clause-broken c fails =
    subst (λ l. (n : ℕ) × Tells l c.args.datagram.now n × ¬ MayTell c.args.came.now l c.args.datagram.now n) (sym c.in-Second.is) (c.second_came.ensures.broken fails)

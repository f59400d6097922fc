use Rattle.std.proofs.Common.{[], ◌∷◌, ◌++◌, sym, subst, ap, ◌∙◌}
use Rattle.capture_check.specs.declared.entry.Entry.TheVariants.{Out}
use Rattle.capture_check.specs.Requests.{AsksForTunnel}
use Rattle.capture_check.specs.RequestsSoFar.{AreRequests}
use Rattle.capture_check.proofs.Asking.{if_ok_four, if_ok_one, issues, issues_again, neither}
use Rattle.capture_check.proofs.requests.Requests.note.Goals as goal

pub returns-in-Issue-clause-kept : goal.returns-in-Issue-clause-kept
returns-in-Issue-clause-kept c =
    let requests = c.args.self.now in
    if_ok_four c.add.result (λ added fresh again here others before agreed are held.
    subst (λ e. AsksForTunnel before e × AreRequests (before ++ e ∷ []) (record { issued = c.add.new.self; gave_data = requests.gave_data })) (sym c.in-Issue.is)
    (issues before c.in-Issue.id c.in-Issue.kind c.in-Issue.cookie requests c.add.new.self are (fresh held) (here held) (others held)))
    c.add.ensures.fresh c.add.ensures.again c.add.ensures.here c.add.ensures.others

pub returns-in-Issue-clause-broken : goal.returns-in-Issue-clause-broken
returns-in-Issue-clause-broken c =
    if_ok_one c.add.result (λ added again before agreed are fails.
    subst (λ e. ¬ AsksForTunnel before e) (sym c.in-Issue.is) (issues_again before c.in-Issue.id c.in-Issue.kind c.in-Issue.cookie c.args.self.now are (again fails)))
    c.add.ensures.again

pub returns-in-Out-clause-kept : goal.returns-in-Out-clause-kept
returns-in-Out-clause-kept c before agreed are held =
    let is = c.in-Out.is ∙ ap (Out c.in-Out.side c.in-Out.kind c.in-Out.number) (sym c.bytes.ensures) in
    subst (λ e. AsksForTunnel before e × AreRequests (before ++ e ∷ []) c.give.new.self) (sym is) (c.give.ensures.kept before agreed are held c.in-Out.number)

pub returns-in-Out-clause-broken : goal.returns-in-Out-clause-broken
returns-in-Out-clause-broken c before agreed are fails =
    let is = c.in-Out.is ∙ ap (Out c.in-Out.side c.in-Out.kind c.in-Out.number) (sym c.bytes.ensures) in
    subst (λ e. ¬ AsksForTunnel before e) (sym is) (c.give.ensures.broken before agreed are fails c.in-Out.number)

pub returns-in_default : goal.returns-in_default
returns-in_default c =
    record {
      kept = λ before agreed are held. neither before c.args.self.now c.args.entry.now c.in_default.not-Issue (λ side kind number datagram. c.in_default.not-Out side kind number datagram) are;
      broken = λ before agreed are fails. absurd (cc);
    }

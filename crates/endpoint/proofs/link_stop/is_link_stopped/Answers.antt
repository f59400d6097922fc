use Rattle.std.proofs.Common.{arith, is_some, nat_lt, sym, ap, ◌∙◌}
use Rattle.std.proofs.lemmas.Bool.{le-ltb, lt-ltb}
use Rattle.endpoint.proofs.LinkStop.{broken_stops, full_stops, or_first, or_second, rest_stops}
use Rattle.endpoint.proofs.link_stop.is_link_stopped.Goals as goal
use Rattle.endpoint.proofs.link_stop.is_link_stopped.Goals.{then-is_some-via-then-is_some, then-is_some-via-else-is_some+then-is_full}

pub returns-then-is_some-clause-stops : goal.returns-then-is_some-clause-stops
returns-then-is_some-clause-stops c role outset p gone st at =
    elim c.then-is_some.branch [
      | then-is_some-via-then-is_some w ↦ broken_stops role outset p gone c.args.session.now c.args.load st at (ap is_some (sym c.broken.ensures) ∙ sym c.is_some.ensures ∙ w.if-is_some.true)
      | then-is_some-via-else-is_some+then-is_full w ↦ full_stops role outset p gone c.args.session.now c.args.load w.is_full.result st at (w.is_full.ensures.acts p.acts gone st) w.if-is_full.true
    ]

pub returns-then-load-clause-stops : goal.returns-then-load-clause-stops
returns-then-load-clause-stops c role outset p gone st at =
    or_first (nat_lt 2094080 c.args.load) c.is_hold_full-is_hold_full.result (lt-ltb 2094080 c.args.load (omega (arith, c.if-load.true)))
    ∙ rest_stops role outset p gone c.args.session.now c.args.load c.is_full.result c.is_hold_full-is_hold_full.result st at (ap is_some (sym c.broken.ensures) ∙ sym c.is_some.ensures ∙ c.if-is_some.false) (c.is_full.ensures.acts p.acts gone st) c.if-is_full.false
    (c.is_hold_full-is_hold_full.ensures.acts p.acts gone st)

pub returns-else-load-clause-stops : goal.returns-else-load-clause-stops
returns-else-load-clause-stops c role outset p gone st at =
    or_second (nat_lt 2094080 c.args.load) c.is_hold_full-is_hold_full.result (le-ltb 2094080 c.args.load (omega (arith, c.if-load.false)))
    ∙ rest_stops role outset p gone c.args.session.now c.args.load c.is_full.result c.is_hold_full-is_hold_full.result st at (ap is_some (sym c.broken.ensures) ∙ sym c.is_some.ensures ∙ c.if-is_some.false) (c.is_full.ensures.acts p.acts gone st) c.if-is_full.false
    (c.is_hold_full-is_hold_full.ensures.acts p.acts gone st)

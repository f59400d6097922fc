use Rattle.std.proofs.Common.{sym, ap, ◌∙◌, unwrap_or, arith}
use Rattle.mt_windows.proofs.Marks.{not_above, not_recent, not_any}
use Rattle.mt_windows.proofs.seen.Seen.has.Goals as goal
use Rattle.mt_windows.proofs.seen.Seen.has.Goals.{then-number-greatest-via-then-number-greatest, then-number-greatest-via-else-number-greatest+then-greatest-number-ge-TELL}

pub returns-in_default : goal.returns-in_default
returns-in_default g c noted h = not_any c.args.self.now noted 512 c.args.number h (ap (λ s. s.greatest) (sym c.self.view_is) ∙ c.in_default.is)

pub returns-then-number-greatest : goal.returns-then-number-greatest
returns-then-number-greatest g c noted h =
    let top = ap (λ o. unwrap_or o 0) (ap (λ s. s.greatest) (sym c.self.view_is) ∙ c.in-Some.is) in
    elim c.then-number-greatest.branch [
      | then-number-greatest-via-then-number-greatest w ↦ not_above c.args.self.now noted 512 c.args.number h (omega (arith, top, w.if-number-greatest.true))
      | then-number-greatest-via-else-number-greatest+then-greatest-number-ge-TELL w ↦ not_recent c.args.self.now noted 512 c.args.number h (omega (arith, top, w.if-number-greatest.false, w.if-greatest-number-ge-TELL.true))
    ]

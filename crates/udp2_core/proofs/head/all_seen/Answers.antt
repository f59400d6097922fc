use Rattle.std.proofs.Common.{◌≡◌, ◌+◌, ◌-◌, ◌∙◌, ap, arith}
use Rattle.mt_windows.specs.Noted.{is_seen}
use Rattle.udp2_core.proofs.Flags.{all_there, one_missing}
use Rattle.udp2_core.proofs.head.all_seen.Goals as goal

pub returns-then-not-has : goal.returns-then-not-has
returns-then-not-has c seen h =
    let from = c.args.last + 1 - c.args.count in
    let k = c.args.count - 1 - c.loop-behind.behind in
    let there : c.args.last - c.loop-behind.behind ≡ from + k = omega arith in
    one_missing seen from c.args.count k (omega arith)
    (c.if-not-has.ensures seen h ∙ ap (is_seen 512 seen) there)

pub returns : goal.returns
returns c seen h =
    let from = c.args.last + 1 - c.args.count in
    all_there seen from c.args.count
    (λ k less. let there : from + k ≡ c.args.last - (c.args.count - 1 - k) = omega (arith, less) in
    ap (is_seen 512 seen) there
    ∙ c.loop-behind.invariant seen h (c.args.count - 1 - k) (omega (arith, less)))

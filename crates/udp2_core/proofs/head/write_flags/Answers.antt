use Rattle.std.proofs.Common.{◌+◌, ◌-◌, ◌<◌, ◌∙◌, All, ap, subst, sym, arith, rules}
use Rattle.mt_windows.specs.declared.limits.TheConstants.{TELL}
use Rattle.mt_windows.specs.Noted.{is_seen}
use Rattle.coded_vector.specs.Written.{coded_of}
use Rattle.link_machine.proofs.FlagLemmas.{said_of}
use Rattle.udp2_core.proofs.ReadBack.{coded_bytes, coded_short}
use Rattle.udp2_core.proofs.head.write_flags.Goals as goal

pub write_flags-requires-clause-room : goal.write_flags-requires-clause-room
write_flags-requires-clause-room c flags few =
    let short = coded_short flags (omega (arith, few)) in omega (arith, short)

pub returns-clause-bound : goal.returns-clause-bound
returns-clause-bound c =
    let told = c.write_flags.ensures in
    omega (arith, told.3, coded_short told.0 (omega (arith, told.1)))

pub returns-clause-bytes : goal.returns-clause-bytes
returns-clause-bytes c =
    let told = c.write_flags.ensures in
    subst (All (λ b. b < 256)) (sym told.4) (coded_bytes told.0)

pub returns-clause-coded : goal.returns-clause-coded
returns-clause-coded c seen h =
    let told = c.write_flags.ensures in
    told.4 ∙ ap coded_of (said_of _ (is_seen TELL seen) c.args.from (c.args.last + 1 - c.args.from) told.0
    (λ k flag small said. search rules) told.2 (omega (arith, told.1)) (omega arith))

use Rattle.std.proofs.Common.{◌≡◌, ◌+◌, ◌-◌, true, replicate, sym, ap, ◌∙◌, subst, arith}
use Rattle.carrier.specs.Layout.{Upto, tells}
use Rattle.carrier.specs.Sending.{hears_named, tell_all}
use Rattle.udp2_core.specs.SettleView.{Settles, layout_from}
use Rattle.udp2_core.proofs.Tellings.{settles_nothing}
use Rattle.udp2_core.proofs.settle.settle_last.Goals as goal

pub returns-in-Some-clause-settles : goal.returns-in-Some-clause-settles
returns-in-Some-clause-settles c first acts h =
    let layout = layout_from first in
    let count : c.args.count - 1 + 1 ≡ c.args.count = omega (arith, c.requires.some) in
    let same = sym (c.read.ensures.number first acts h) ∙ c.in-Some.is in
    subst (λ o. Settles first c.settle_upto.result c.settle_upto.new.window acts (hears_named layout acts (Upto c.args.named (replicate c.args.count true)) o)) (sym same)
    (subst (λ n. Settles first c.settle_upto.result c.settle_upto.new.window acts (tell_all layout acts (tells (Upto c.in-Some.named (replicate n true))))) count
    (c.settle_upto.ensures.settles first acts h))

pub returns-in-None-clause-settles : goal.returns-in-None-clause-settles
returns-in-None-clause-settles c first acts h =
    let same = sym (c.read.ensures.number first acts h) ∙ c.in-None.is in
    settles_nothing first _ acts _ (ap (hears_named (layout_from first) acts (Upto c.args.named (replicate c.args.count true))) same) h

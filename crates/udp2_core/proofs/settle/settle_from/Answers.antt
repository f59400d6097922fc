use Rattle.std.proofs.Common.{sym, ap, ◌∙◌, subst}
use Rattle.coded_vector.specs.CodedBytes.{flags_of}
use Rattle.carrier.specs.Layout.{From}
use Rattle.carrier.specs.Sending.{hears_named}
use Rattle.udp2_core.specs.SettleView.{Settles, layout_from}
use Rattle.udp2_core.proofs.Tellings.{settles_nothing}
use Rattle.udp2_core.proofs.settle.settle_from.Goals as goal

pub returns-in-Some-clause-settles : goal.returns-in-Some-clause-settles
returns-in-Some-clause-settles c first acts h =
    let same = sym (c.read.ensures.number first acts h) ∙ c.in-Some.is in
    subst (λ o. Settles first c.settle_flags.result c.settle_flags.new.window acts (hears_named (layout_from first) acts (From c.args.named (flags_of c.args.coded.now)) o)) (sym same)
    (c.settle_flags.ensures.settles first acts h)

pub returns-in-None-clause-settles : goal.returns-in-None-clause-settles
returns-in-None-clause-settles c first acts h =
    let same = sym (c.read.ensures.number first acts h) ∙ c.in-None.is in
    settles_nothing first _ acts _ (ap (hears_named (layout_from first) acts (From c.args.named (flags_of c.args.coded.now))) same) h

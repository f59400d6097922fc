use Rattle.std.proofs.Common.{◌≡◌, ◌∙◌, drop, take, ap, arith}
use Rattle.udp2_packets.specs.Layout.{finished}
use Rattle.link_machine.proofs.Written.{front_is}
use Rattle.udp2_core.proofs.Heads.{behind_place, datagram_size}
use Rattle.udp2_core.proofs.second.SecondWireLayout.finish.Goals as goal

pub returns-clause-bound : goal.returns-clause-bound
returns-clause-bound c =
    omega (arith, c.finish2.ensures.0, (datagram_size 0 c.max.result c.args.out.now (omega arith)).1)

pub returns-clause-whole : goal.returns-clause-whole
returns-clause-whole c =
    omega (arith, c.finish2.ensures.0, (datagram_size 0 c.max.result c.args.out.now (omega arith)).0)

pub returns-clause-text : goal.returns-clause-text
returns-clause-text c =
    let same : drop 1 (take c.max.result c.args.out.now) ≡ drop 1 (take c.args.length c.args.out.now) =
    ap (λ n. drop 1 (take n c.args.out.now)) c.max.ensures ∙ behind_place c.args.length c.args.out.now in
    front_is _ _ c.finish2.new.out c.finish2.result c.finish2.ensures.0 c.finish2.ensures.1
    ∙ ap (finished 0) same

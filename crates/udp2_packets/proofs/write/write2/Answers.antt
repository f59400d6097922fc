use Rattle.std.proofs.Common.{◌≡◌, ◌≤◌, length, rules, arith, sym, ◌∙◌}
use Rattle.udp2_packets.specs.Layout.{spelled}
use Rattle.udp2_packets.specs.Views.{packet_of}
use Rattle.udp2_packets.proofs.WriterLemmas.{made, short_enough}
use Rattle.udp2_packets.proofs.write.write2.Goals as goal

pub returns-clause-ok : goal.returns-clause-ok
returns-clause-ok c =
    let done = c.in_ok-end.ensures.ok in
    made (packet_of c.args.packet.now) c.args.out.now c.write_fields2.new.out c.finish2.new.out c.in_ok-end.end c.finish2.result done.0 done.1 c.finish2.ensures.0 c.finish2.ensures.1

pub returns-clause-fits : goal.returns-clause-fits
returns-clause-fits c =
    let done = returns-clause-ok c in
    let before : length c.args.out.now ≡ 1232 = search rules in
    let after : length c.finish2.new.out ≡ 1232 = search rules in
    let fits : length (spelled (packet_of c.args.packet.now)) ≤ length c.args.out.now = short_enough _ c.args.out.now c.finish2.new.out c.finish2.result done.0 done.1 (after ∙ sym before) in
    omega arith

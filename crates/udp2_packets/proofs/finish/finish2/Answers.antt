use Rattle.std.proofs.Common.{◌≡◌, ◌+◌, ◌-◌, ◌≤◌, length, refl, rules, arith}
use Rattle.udp2_packets.specs.Layout.{kind}
use Rattle.udp2_packets.specs.Views.{body_of}
use Rattle.udp2_packets.proofs.WriterLemmas.{finishing}
use Rattle.udp2_packets.proofs.finish.finish2.Goals as goal

pub returns : goal.returns
returns c =
    let whole : length c.args.out.now ≡ 1232 = search rules in
    let within : c.args.end ≤ length c.args.out.now = omega arith in
    let most : c.max.result ≡ c.args.end + (8 - c.args.end) = omega (arith, c.max.ensures) in
    finishing c.args.out.now _ c.fill_up.new.out c.exchange.new.bytes (kind (body_of c.args.body.now)) c.args.end c.prefix.result c.max.result
    c.requires.some within c.prefix.ensures refl c.fill_up.ensures c.exchange.ensures most

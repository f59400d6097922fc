use Rattle.std.proofs.Common.{nat_lt, ap, ◌∙◌, rules, arith}
use Rattle.udp1_packets.specs.Layout.{spelled}
use Rattle.udp_open.specs.Handshake.{syn_ack}
use Rattle.udp_open.specs.OpeningView.{Handshake}
use Rattle.udp_open.proofs.Openings.{fills, none_behind}
use Rattle.udp_open.proofs.opening.Opening.answer.Goals as goal

pub returns-clause-bytes : goal.returns-clause-bytes
returns-clause-bytes c =
    let o = c.args.self.now in
    fills (nat_lt 0 o.owed) c.send_syn_ack.new.out (spelled (syn_ack o.settings c.args.agreement)) (search rules) c.send_syn_ack.array_long
    (c.send_syn_ack.ensures ∙ ap (λ (h : Handshake). spelled (syn_ack h.settings c.args.agreement)) c.self.view_is)

pub returns-clause-rest : goal.returns-clause-rest
returns-clause-rest c = none_behind c.send_syn_ack.new.out c.args.out.now c.send_syn_ack.array_long (omega (arith, c.fits-out))

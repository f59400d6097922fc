use Rattle.std.proofs.Common.{nat_lt, sym, ap, ◌∙◌, rules, arith}
use Rattle.udp1_packets.specs.Layout.{spelled}
use Rattle.udp_open.specs.declared.timer.Timer.{Timer}
use Rattle.udp_open.specs.Handshake.{syn}
use Rattle.udp_open.specs.OpeningView.{Handshake}
use Rattle.udp_open.proofs.Openings.{asks_now, none_behind}
use Rattle.udp_open.proofs.opening.Opening.ask.Goals as goal

pub returns-clause-bytes : goal.returns-clause-bytes
returns-clause-bytes c =
    let o = c.args.self.now in
    asks_now o.settings o.timer o.moment c.send_syn.new.out (search rules)
    (ap (λ (t : Timer). nat_lt 16 t.expiries) (sym c.started-timer.ensures.value) ∙ sym c.is_over.ensures ∙ c.if-is_over.false)
    c.send_syn.array_long
    (c.send_syn.ensures ∙ ap (λ (h : Handshake). spelled (syn h.settings)) c.self.view_is)

pub returns-clause-rest : goal.returns-clause-rest
returns-clause-rest c = none_behind c.send_syn.new.out c.args.out.now c.send_syn.array_long (omega (arith, c.fits-out))

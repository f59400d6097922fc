use Rattle.std.proofs.Common.{◌∙◌, ap, sym}
use Rattle.mt_base.specs.Ends.{other}
use Rattle.dvc_pdus.specs.Views.{pdu_of}
use Rattle.end_session.specs.Store.{Store}
use Rattle.end_session.proofs.Pulled.{carried_drawn, empty_drawn, nothing_pulled}
use Rattle.end_session.proofs.session.Session.draw_payload.Goals as goal

pub returns-then-is_empty-clause-drawn : goal.returns-then-is_empty-clause-drawn
returns-then-is_empty-clause-drawn c t gone place is_full at_is st =
    empty_drawn c.args.self.now.role c.args.kind place is_full c.args.payload.now t gone c.args.self.now (sym c.is_empty.ensures ∙ c.if-is_empty.true)
    (nothing_pulled c.args.self.now c.args.kind place is_full t gone c.requires.may st (c.draw_nothing.ensures t gone c.args.kind place st))

pub returns-clause-drawn : goal.returns-clause-drawn
returns-clause-drawn c t gone place is_full at_is st =
    carried_drawn c.args.self.now.role c.other.result c.args.kind place is_full c.args.payload.now (pdu_of c.in_ok-pdu.pdu) t gone c.draw_carried.new.self (sym c.is_empty.ensures ∙ c.if-is_empty.false)
    (c.other.ensures ∙ ap (λ (s : Store). other s.role) c.self.view_is) c.in_ok-pdu.ensures.exact (c.draw_carried.ensures.drawn t gone place is_full at_is st)

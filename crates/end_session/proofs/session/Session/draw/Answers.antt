use Rattle.std.proofs.Common.{refl}
use Rattle.mt_base.specs.declared.kinds.Kind.TheVariants.{Lossy}
use Rattle.tunnel_pdus.specs.Views.{pdu_of}
use Rattle.end_calls.specs.Streams.{drawn_by}
use Rattle.end_session.proofs.Pulled.{whole_drawn}
use Rattle.end_session.proofs.session.Session.draw.Goals as goal

pub returns-in_default-clause-drawn : goal.returns-in_default-clause-drawn
returns-in_default-clause-drawn c t gone place at_is st =
    whole_drawn c.args.self.now.role place (drawn_by c.args.self.now.role (pdu_of c.args.pdu.now)) t gone c.draw_pdu.new.self (c.in_default.ensures.drawn t gone place at_is st)

pub returns-in_default-clause-lossy : goal.returns-in_default-clause-lossy
returns-in_default-clause-lossy c = (c.draw_pdu.ensures.wrote).others Lossy refl

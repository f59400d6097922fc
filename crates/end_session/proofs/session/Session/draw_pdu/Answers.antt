use Rattle.std.proofs.Common.{sym, subst}
use Rattle.tunnel_pdus.specs.Views.{pdu_of}
use Rattle.end_calls.specs.Streams.{drawn_by}
use Rattle.end_session.specs.Pulling.{IsDrawn}
use Rattle.end_session.proofs.session.Session.draw_pdu.Goals as goal

pub returns-in-CreateRequest-clause-drawn : goal.returns-in-CreateRequest-clause-drawn
returns-in-CreateRequest-clause-drawn c t gone place at_is st =
    subst (λ p. IsDrawn c.args.self.now.role c.args.kind place c.args.is_full (drawn_by c.args.self.now.role (pdu_of p)) t gone c.draw_request.new.self) (sym c.in-CreateRequest.is) (c.draw_request.ensures.drawn t gone place at_is st)

pub returns-in-CreateResponse-clause-drawn : goal.returns-in-CreateResponse-clause-drawn
returns-in-CreateResponse-clause-drawn c t gone place at_is st =
    subst (λ p. IsDrawn c.args.self.now.role c.args.kind place c.args.is_full (drawn_by c.args.self.now.role (pdu_of p)) t gone c.draw_answer.new.self) (sym c.in-CreateResponse.is) (c.draw_answer.ensures.drawn t gone place c.args.is_full at_is st)

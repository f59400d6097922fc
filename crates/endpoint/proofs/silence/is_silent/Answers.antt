use Rattle.std.proofs.Common.{sym, ap, ◌∙◌}
use Rattle.endpoint.proofs.Idle.{silent_by, tells_silent}
use Rattle.endpoint.proofs.silence.is_silent.Goals as goal

pub returns-in-None : goal.returns-in-None
returns-in-None c t gone st = sym (ap tells_silent c.in-None.is) ∙ silent_by c.args.session.now.role c.args.kind t c.tunnel.result (c.tunnel.ensures.acts t gone st)

pub returns-in-Asked : goal.returns-in-Asked
returns-in-Asked c t gone st = sym (ap tells_silent c.in-Asked.is) ∙ silent_by c.args.session.now.role c.args.kind t c.tunnel.result (c.tunnel.ensures.acts t gone st)

pub returns-in-Attached : goal.returns-in-Attached
returns-in-Attached c t gone st = sym (ap tells_silent c.in-Attached.is) ∙ silent_by c.args.session.now.role c.args.kind t c.tunnel.result (c.tunnel.ensures.acts t gone st)

pub returns-in-Open : goal.returns-in-Open
returns-in-Open c t gone st = sym (ap tells_silent c.in-Open.is) ∙ silent_by c.args.session.now.role c.args.kind t c.tunnel.result (c.tunnel.ensures.acts t gone st)

pub returns-in-Refused : goal.returns-in-Refused
returns-in-Refused c t gone st = sym (ap tells_silent c.in-Refused.is) ∙ silent_by c.args.session.now.role c.args.kind t c.tunnel.result (c.tunnel.ensures.acts t gone st)

pub returns-in-Silent : goal.returns-in-Silent
returns-in-Silent c t gone st = sym (ap tells_silent c.in-Silent.is) ∙ silent_by c.args.session.now.role c.args.kind t c.tunnel.result (c.tunnel.ensures.acts t gone st)

use Rattle.std.proofs.Common.{is_some, sym, ap, ◌∙◌}
use Rattle.endpoint.proofs.Stopping.{stops_before, stops_full, stops_link}
use Rattle.endpoint.proofs.main_reading.is_stopped.Goals as goal

pub returns-then-is_some-clause-stopped : goal.returns-then-is_some-clause-stopped
returns-then-is_some-clause-stopped g c unread sent role p q l queued way =
    sym (stops_before _ _ _ _ unread sent role p q l queued c.args.reader.now c.args.reliable.now way (ap is_some (sym c.broken.ensures) ∙ sym c.is_some.ensures ∙ c.if-is_some.true))

pub returns-then-is_full-clause-stopped : goal.returns-then-is_full-clause-stopped
returns-then-is_full-clause-stopped g c unread sent role p q l queued way =
    sym (stops_full _ _ _ _ unread sent role p q l queued c.args.reader.now c.args.reliable.now c.is_full.result way c.is_full.ensures.acts c.if-is_full.true)

pub returns-clause-stopped : goal.returns-clause-stopped
returns-clause-stopped g c unread sent role p q l queued way =
    stops_link _ _ _ _ unread sent role p q l queued c.args.reader.now c.args.reliable.now c.is_full.result c.is_link_full.result way (ap is_some (sym c.broken.ensures) ∙ sym c.is_some.ensures ∙ c.if-is_some.false) c.is_full.ensures.acts c.if-is_full.false
    c.is_link_full.ensures.some c.is_link_full.ensures.none

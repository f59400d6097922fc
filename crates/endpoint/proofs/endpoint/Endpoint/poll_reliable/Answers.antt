use Rattle.std.proofs.Common.{false, option_map, take}
use Rattle.mt_base.specs.declared.kinds.Kind.TheVariants.{Reliable}
use Rattle.mt_base.specs.Trace.{◌▷◌}
use Rattle.end_calls.specs.Calls.{WireOut, past}
use Rattle.endpoint.proofs.Inside.{inside}
use Rattle.endpoint.proofs.PolledReliable.{idle, polled_by}
use Rattle.endpoint.proofs.endpoint.Endpoint.poll_reliable.Goals as goal

pub silence_closed-requires-clause-paused : goal.silence_closed-requires-clause-paused
silence_closed-requires-clause-paused g c =
    let old = c.self.invariant in
    (old.0, past old.0 old.1, old.2.tells.gone, idle c.self.inside.reader c.self.inside.postings old.0 old.1 old.2.tells)

pub invariant_of-self-2 : goal.invariant_of-self-2
invariant_of-self-2 g c =
    let old = c.self.invariant in
    let sent = c.poll-sent.ensures in (
      old.0,
      old.1 ▷ WireOut Reliable c.args.now false (option_map (λ n. take n c.poll-sent.new.out) c.poll-sent.result) (g.C.Carrier.condition c.poll-sent.new.self),
      polled_by _ _ _ _ _ _ c.self.inside.reader c.self.inside.postings c.self.inside.reliable c.in-Some.link c.poll-sent.new.self c.self.inside.lossy old.0 old.1 c.args.now _ c.state-state.result c.silence_closed.new.session old.2 c.in-Some.is c.state-state.ensures sent.trace sent.left
          c.silence_closed.ensures,
    )

pub returns-clause-polled : goal.returns-clause-polled
returns-clause-polled g c role t k =
    let sent = c.poll-sent.ensures in
    polled_by _ _ _ _ _ _ c.self.inside.reader c.self.inside.postings c.self.inside.reliable c.in-Some.link c.poll-sent.new.self c.self.inside.lossy role t c.args.now _ c.state-state.result c.silence_closed.new.session (inside _ _ c.self.view_is k) c.in-Some.is c.state-state.ensures
    sent.trace sent.left c.silence_closed.ensures

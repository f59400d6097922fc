use Rattle.std.proofs.Common.{Option, Some, None, take, option_map}
use Rattle.std.specs.Prelude.{IsSomeAnd}
use Rattle.mt_base.specs.Trace.{◌▷◌}
use Rattle.carrier.specs.declared.state.LinkState.{LinkState}
use Rattle.end_calls.specs.Calls.{WireOut}
use Rattle.endpoint.specs.Polled.{is_full_at, state_in}
use Rattle.endpoint.specs.Standing.{EndStands}
use Rattle.session_end.proofs.session_end.SessionEndEnd.wire_out.Goals as goal

-- what is there, and what holds of it
found : (P : LinkState → Type 0) (o : Option LinkState) → IsSomeAnd o P → (x : LinkState) × P x
found P (Some x) h = (x, h)
found P None h = absurd h

pub returns-clause-adds : goal.returns-clause-adds
returns-clause-adds g c = λ role t h linked.
    let full = is_full_at g.P.Post.load c.args.link c.args.self.now.endpoint in
    let polled = found
    (λ state. EndStands g.C.Carrier.stands g.C.Carrier.left g.C.Carrier.condition g.P.Post.stands g.P.Post.left g.P.Post.condition c.wire_out.new.self role (t ▷ WireOut c.args.link c.args.now full (option_map (λ n. take n c.wire_out.new.out) c.wire_out.result) state))
    (state_in g.C.Carrier.condition g.P.Post.condition c.args.link c.wire_out.new.self)
    (c.wire_out.ensures.polled role t h linked) in
    (record { is_full = full; state = polled.0 }, polled.1)

use Rattle.std.proofs.Common.{rules, sym}
use Rattle.end_session.specs.AskedView.{request_of}
use Rattle.endpoint.proofs.Repeated.{again_short}
use Rattle.endpoint.proofs.repeating.ask_again.Goals as goal

pub returns-clause-written : goal.returns-clause-written
returns-clause-written c t gone st =
    let a = c.asked.type_inv in
    let b = c.asked.ensures.value in
    let d = c.in-Some.is in
    let r = c.repeat.ensures in
    again_short c.args.session.now c.repeat.new.self t gone (request_of c.in-Some._asked) st (r.stands t gone st) r.same.0 c.requires.waits (sym c.in-Some.ensures.value) (search rules)

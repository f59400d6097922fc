use Rattle.std.proofs.Common.{ap, length, min, take, drop, sym, ◌++◌, ◌∙◌}
use Rattle.end_calls.specs.Calls.{acts}
use Rattle.endpoint.proofs.Inside.{inside}
use Rattle.endpoint.proofs.MainGiven.{given}
use Rattle.endpoint.proofs.Steps.{unsent_is}
use Rattle.mt_base.specs.Trace.{◌▷◌}
use Rattle.end_calls.specs.Calls.{MainOut}
use Rattle.endpoint.proofs.endpoint.Endpoint.main_out.Goals as goal

pub returns-clause-count : goal.returns-clause-count
returns-clause-count g c role t k =
    let e = inside _ _ c.self.view_is k in
    c.main_out.ensures.count ∙ ap (λ m. min (length c.args.out.now) (length m)) (sym (unsent_is role t e.tells.gone c.self.inside.reader.session e.tells.gone_is e.tells.role_is (e.tells.reads).stands))

pub returns-clause-bytes : goal.returns-clause-bytes
returns-clause-bytes g c role t k =
    let e = inside _ _ c.self.view_is k in
    c.main_out.ensures.bytes
    ∙ ap (λ m. take c.main_out.result m ++ drop c.main_out.result c.args.out.now) (sym (unsent_is role t e.tells.gone c.self.inside.reader.session e.tells.gone_is e.tells.role_is (e.tells.reads).stands))

pub returns-clause-stands : goal.returns-clause-stands
returns-clause-stands g c role t k =
    let e = inside _ _ c.self.view_is k in
    let r = c.main_out.ensures in
    given _ _ _ _ _ _ _ _ _ _ role t c.main_out.new.self c.args.out.now c.main_out.new.out c.main_out.result e r.count r.bytes (r.stands (acts role t) e.tells.gone (e.tells.reads).stands) r.same.0 r.same.1

pub invariant_of-self : goal.invariant_of-self
invariant_of-self g c =
    let old = c.self.invariant in
    let e = old.2 in
    let r = c.main_out.ensures in (
      old.0,
      old.1 ▷ MainOut (length c.args.out.now) (take c.main_out.result c.main_out.new.out),
      given _ _ _ _ _ _ _ _ _ _ old.0 old.1 c.main_out.new.self c.args.out.now c.main_out.new.out c.main_out.result e r.count r.bytes (r.stands (acts old.0 old.1) e.tells.gone (e.tells.reads).stands) r.same.0 r.same.1,
    )

use Rattle.std.proofs.Common.{arith, refl}
use Rattle.std.proofs.lemmas.Result.{err_from_is_err_and}
use Rattle.mt_base.specs.CursorView.{left}
use Rattle.mt_base.proofs.Fields.{as_err}
use Rattle.dvc_pdus.proofs.Items.{passed_more, passed_refused, passed_all}
use Rattle.dvc_pdus.proofs.SyncItems.{number_item}
use Rattle.dvc_pdus.proofs.sync.ids.Goals as goal

pub returns-in_err-number : goal.returns-in_err-number
returns-in_err-number c =
    let p = err_from_is_err_and c.from_residual.result c.from_residual.ensures.1 in
    rw p.1 (passed_refused number_item c.args.count c.loop.counter (left c.args.from.now) (left c.loop.from) _ c.loop-test.true c.loop.invariant (as_err c.in_err-number.ensures p.2))

pub loop-preserved : goal.loop-preserved
loop-preserved c =
    passed_more number_item c.args.count c.loop.counter (left c.args.from.now) (left c.loop.from) (left c.number.new.from) _ c.rest-bytes.result.now
    (λ k. omega (arith, c.type_inv.bytes k)) c.rest-bytes.ensures c.loop-test.true c.loop.invariant c.in_ok-number.ensures

pub returns : goal.returns
returns c =
    passed_all number_item c.args.count c.loop.counter (left c.args.from.now) (left c.loop.from) _ c.rest-bytes.result.now _ _
    c.loop-test.false c.loop.invariant (omega (arith, c.at.ensures, c.at-at.ensures)) c.rest-bytes.ensures refl c.new.ensures

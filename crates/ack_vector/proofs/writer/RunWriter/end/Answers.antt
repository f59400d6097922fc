use Rattle.std.proofs.Common.{Err, ap, sym, ◌∙◌, arith}
use Rattle.std.proofs.lemmas.Result.{err_from_is_err_and}
use Rattle.mt_base.specs.OutView.{spot}
use Rattle.ack_vector.proofs.WriterLemmas.{last_put, last_none, all_written}
use Rattle.ack_vector.proofs.writer.RunWriter.end.Goals as goal

pub returns-in_err-put_u8-clause-written : goal.returns-in_err-put_u8-clause-written
returns-in_err-put_u8-clause-written c =
    let w = c.args.self.now in
    let p = err_from_is_err_and c.from_residual.result c.from_residual.ensures.1 in
    rw p.1 (last_put w.received w.length _ _ _ (omega arith) (omega arith) c.element.ensures
    c.in_err-put_u8.ensures.written ∙ ap Err (sym p.2))

pub returns-in_ok-put_u8-clause-written : goal.returns-in_ok-put_u8-clause-written
returns-in_ok-put_u8-clause-written c =
    let w = c.args.self.now in
    last_put w.received w.length _ _ _ (omega arith) (omega arith) c.element.ensures
    c.in_ok-put_u8.ensures.written

pub returns-in_ok-put_u8-clause-all : goal.returns-in_ok-put_u8-clause-all
returns-in_ok-put_u8-clause-all c flags es before h is =
    let w = c.args.self.now in
    all_written w flags es before (spot c.args.out.now) (spot c.put_u8.new.self) h is
    (last_put w.received w.length _ _ _ (omega arith) (omega arith) c.element.ensures
    c.in_ok-put_u8.ensures.written)

pub returns-else-self-gt0-clause-written : goal.returns-else-self-gt0-clause-written
returns-else-self-gt0-clause-written c =
    last_none _ c.args.self.now.length _ (omega arith)

pub returns-else-self-gt0-clause-all : goal.returns-else-self-gt0-clause-all
returns-else-self-gt0-clause-all c flags es before h is =
    let w = c.args.self.now in
    all_written w flags es before (spot c.args.out.now) (spot c.args.out.now) h is
    (last_none _ w.length _ (omega arith))

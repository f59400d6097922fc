use Rattle.std.proofs.Common.{Err, ap, sym, ◌∙◌, arith}
use Rattle.std.proofs.lemmas.Result.{err_from_is_err_and}
use Rattle.ack_vector.proofs.WriterLemmas.{step_starts, ends_by, full_by, grows_by, step_put, step_none, stands_on}
use Rattle.ack_vector.proofs.writer.RunWriter.flag.Goals as goal

pub returns-then-self-eq0-clause-written : goal.returns-then-self-eq0-clause-written
returns-then-self-eq0-clause-written c =
    step_none _ _ _ _ 1 _ (step_starts c.args.self.now.length _ _ (omega arith))

pub returns-then-self-eq0-clause-stands : goal.returns-then-self-eq0-clause-stands
returns-then-self-eq0-clause-stands c flags es h =
    let w = c.args.self.now in
    stands_on _ _ _ _ flags es (step_starts w.length w.received c.args.received (omega arith)) h

pub returns-in_err-put_u8-clause-written : goal.returns-in_err-put_u8-clause-written
returns-in_err-put_u8-clause-written c =
    let w = c.args.self.now in
    let p = err_from_is_err_and c.from_residual.result c.from_residual.ensures.1 in
    rw p.1 (step_put _ _ _ _ _ _ w.length _ _ _
    (ends_by w.length w.received c.args.received c.if-self-received.true (omega arith) (omega arith))
    (omega arith) c.element.ensures c.in_err-put_u8.ensures.written ∙ ap Err (sym p.2))

pub returns-in_ok-put_u8-clause-written : goal.returns-in_ok-put_u8-clause-written
returns-in_ok-put_u8-clause-written c =
    let w = c.args.self.now in
    step_put _ _ _ _ _ _ w.length _ _ _
    (ends_by w.length w.received c.args.received c.if-self-received.true (omega arith) (omega arith))
    (omega arith) c.element.ensures c.in_ok-put_u8.ensures.written

pub returns-in_ok-put_u8-clause-stands : goal.returns-in_ok-put_u8-clause-stands
returns-in_ok-put_u8-clause-stands c flags es h =
    let w = c.args.self.now in
    stands_on _ _ _ _ flags es
    (ends_by w.length w.received c.args.received c.if-self-received.true (omega arith)
    (omega arith)) h

pub returns-in_err-put_u8-2-clause-written : goal.returns-in_err-put_u8-2-clause-written
returns-in_err-put_u8-2-clause-written c =
    let w = c.args.self.now in
    let p = err_from_is_err_and c.from_residual-in_err-put_u8-2.result
    c.from_residual-in_err-put_u8-2.ensures.1 in
    rw p.1 (step_put _ _ _ _ _ _ 63 _ _ _
    (full_by w.length w.received c.args.received c.if-self-received.false (omega arith))
    (omega arith) c.element-then-self-eq62.ensures c.in_err-put_u8-2.ensures.written
    ∙ ap Err (sym p.2))

pub returns-in_ok-put_u8-2-clause-written : goal.returns-in_ok-put_u8-2-clause-written
returns-in_ok-put_u8-2-clause-written c =
    let w = c.args.self.now in
    step_put _ _ _ _ _ _ 63 _ _ _
    (full_by w.length w.received c.args.received c.if-self-received.false (omega arith))
    (omega arith) c.element-then-self-eq62.ensures c.in_ok-put_u8-2.ensures.written

pub returns-in_ok-put_u8-2-clause-stands : goal.returns-in_ok-put_u8-2-clause-stands
returns-in_ok-put_u8-2-clause-stands c flags es h =
    let w = c.args.self.now in
    stands_on _ _ _ _ flags es
    (full_by w.length w.received c.args.received c.if-self-received.false (omega arith)) h

pub returns-else-self-eq62-clause-written : goal.returns-else-self-eq62-clause-written
returns-else-self-eq62-clause-written c =
    let w = c.args.self.now in
    step_none _ _ _ _ _ _
    (grows_by w.length w.received c.args.received c.if-self-received.false (omega arith))

pub returns-else-self-eq62-clause-stands : goal.returns-else-self-eq62-clause-stands
returns-else-self-eq62-clause-stands c flags es h =
    let w = c.args.self.now in
    stands_on _ _ _ _ flags es
    (grows_by w.length w.received c.args.received c.if-self-received.false (omega arith)) h

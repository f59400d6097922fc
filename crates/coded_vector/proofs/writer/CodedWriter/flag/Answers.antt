use Rattle.std.proofs.Common.{Err, take, ◌+◌, ap, sym, refl, ◌∙◌, ◌≢◌, set, arith}
use Rattle.std.proofs.lemmas.Result.{err_from_is_err_and}
use Rattle.mt_base.specs.Longest.{longest}
use Rattle.coded_vector.proofs.WriterLemmas.{few_at, equal_at, seven_at, ends_at, full_at, grows_at, step_put, step_none, stands_on, keeps_few, keeps_run, kept_more}
use Rattle.coded_vector.proofs.writer.CodedWriter.flag.Goals as goal

pub returns-then-self-lt6-clause-written : goal.returns-then-self-lt6-clause-written
returns-then-self-lt6-clause-written c =
    let w = c.args.self.now in
    let r = c.args.received in
    step_none _ _ _ _ (few_at w r (omega arith))

pub returns-then-self-lt6-clause-stands : goal.returns-then-self-lt6-clause-stands
returns-then-self-lt6-clause-stands c flags cs h =
    let w = c.args.self.now in
    let r = c.args.received in
    stands_on _ _ _ _ _ flags cs (few_at w r (omega arith))
    (keeps_few (w.count + 1) (set w.flags c.from.result r) w.received (omega arith)
    ∙ ap (λ n. take (w.count + 1) (set w.flags n r)) c.from.ensures ∙ kept_more w.flags w.count r (omega arith)) h

pub returns-then-stretch-eq7-clause-written : goal.returns-then-stretch-eq7-clause-written
returns-then-stretch-eq7-clause-written c =
    let w = c.args.self.now in
    let r = c.args.received in
    step_none _ _ _ _ (equal_at w r (omega arith) (sym c.stretch.ensures.exact ∙ c.if-stretch-eq7.true))

pub returns-then-stretch-eq7-clause-stands : goal.returns-then-stretch-eq7-clause-stands
returns-then-stretch-eq7-clause-stands c flags cs h =
    let w = c.args.self.now in
    let r = c.args.received in
    stands_on _ _ _ _ _ flags cs (equal_at w r (omega arith) (sym c.stretch.ensures.exact ∙ c.if-stretch-eq7.true))
    (refl) h

pub returns-in_err-put_u8-clause-written : goal.returns-in_err-put_u8-clause-written
returns-in_err-put_u8-clause-written c =
    let w = c.args.self.now in
    let r = c.args.received in
    let unequal : longest r (set w.flags 6 r) ≢ 7 = λ e. absurd (omega (arith, e, c.stretch.ensures.exact, c.if-stretch-eq7.false)) in
    let p = err_from_is_err_and c.from_residual.result c.from_residual.ensures.1 in
    rw p.1 (step_put _ _ _ _ _ _ _ (seven_at w r (omega arith) unequal)
    (omega arith) c.bits.ensures.exact c.in_err-put_u8.ensures.written ∙ ap Err (sym p.2))

pub returns-in_ok-put_u8-clause-written : goal.returns-in_ok-put_u8-clause-written
returns-in_ok-put_u8-clause-written c =
    let w = c.args.self.now in
    let r = c.args.received in
    let unequal : longest r (set w.flags 6 r) ≢ 7 = λ e. absurd (omega (arith, e, c.stretch.ensures.exact, c.if-stretch-eq7.false)) in
    step_put _ _ _ _ _ _ _ (seven_at w r (omega arith) unequal)
    (omega arith) c.bits.ensures.exact c.in_ok-put_u8.ensures.written

pub returns-in_ok-put_u8-clause-stands : goal.returns-in_ok-put_u8-clause-stands
returns-in_ok-put_u8-clause-stands c flags cs h =
    let w = c.args.self.now in
    let r = c.args.received in
    let unequal : longest r (set w.flags 6 r) ≢ 7 = λ e. absurd (omega (arith, e, c.stretch.ensures.exact, c.if-stretch-eq7.false)) in
    stands_on _ _ _ _ _ flags cs (seven_at w r (omega arith) unequal)
    (refl) h

pub returns-in_err-put_u8-2-clause-written : goal.returns-in_err-put_u8-2-clause-written
returns-in_err-put_u8-2-clause-written c =
    let w = c.args.self.now in
    let r = c.args.received in
    let p = err_from_is_err_and c.from_residual-in_err-put_u8-2.result c.from_residual-in_err-put_u8-2.ensures.1 in
    rw p.1 (step_put _ _ _ _ _ _ _ (ends_at w r (omega arith) c.if-self-received.true)
    (omega arith) c.run.ensures c.in_err-put_u8-2.ensures.written ∙ ap Err (sym p.2))

pub returns-in_ok-put_u8-2-clause-written : goal.returns-in_ok-put_u8-2-clause-written
returns-in_ok-put_u8-2-clause-written c =
    let w = c.args.self.now in
    let r = c.args.received in
    step_put _ _ _ _ _ _ _ (ends_at w r (omega arith) c.if-self-received.true)
    (omega arith) c.run.ensures c.in_ok-put_u8-2.ensures.written

pub returns-in_ok-put_u8-2-clause-stands : goal.returns-in_ok-put_u8-2-clause-stands
returns-in_ok-put_u8-2-clause-stands c flags cs h =
    let w = c.args.self.now in
    let r = c.args.received in
    stands_on _ _ _ _ _ flags cs (ends_at w r (omega arith) c.if-self-received.true)
    (kept_more w.flags 0 r (omega arith)) h

pub returns-in_err-put_u8-3-clause-written : goal.returns-in_err-put_u8-3-clause-written
returns-in_err-put_u8-3-clause-written c =
    let w = c.args.self.now in
    let r = c.args.received in
    let p = err_from_is_err_and c.from_residual-in_err-put_u8-3.result c.from_residual-in_err-put_u8-3.ensures.1 in
    rw p.1 (step_put _ _ _ _ _ _ _ (full_at w r (omega arith) c.if-self-received.false)
    (omega arith) c.run-then-self-eq62.ensures c.in_err-put_u8-3.ensures.written ∙ ap Err (sym p.2))

pub returns-in_ok-put_u8-3-clause-written : goal.returns-in_ok-put_u8-3-clause-written
returns-in_ok-put_u8-3-clause-written c =
    let w = c.args.self.now in
    let r = c.args.received in
    step_put _ _ _ _ _ _ _ (full_at w r (omega arith) c.if-self-received.false)
    (omega arith) c.run-then-self-eq62.ensures c.in_ok-put_u8-3.ensures.written

pub returns-in_ok-put_u8-3-clause-stands : goal.returns-in_ok-put_u8-3-clause-stands
returns-in_ok-put_u8-3-clause-stands c flags cs h =
    let w = c.args.self.now in
    let r = c.args.received in
    stands_on _ _ _ _ _ flags cs (full_at w r (omega arith) c.if-self-received.false)
    (refl) h

pub returns-else-self-eq62-clause-written : goal.returns-else-self-eq62-clause-written
returns-else-self-eq62-clause-written c =
    let w = c.args.self.now in
    let r = c.args.received in
    step_none _ _ _ _ (grows_at w r (omega arith) (omega arith) c.if-self-received.false)

pub returns-else-self-eq62-clause-stands : goal.returns-else-self-eq62-clause-stands
returns-else-self-eq62-clause-stands c flags cs h =
    let w = c.args.self.now in
    let r = c.args.received in
    stands_on _ _ _ _ _ flags cs (grows_at w r (omega arith) (omega arith) c.if-self-received.false)
    (keeps_run (w.count + 1) w.flags w.received (omega arith)) h

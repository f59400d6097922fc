use Rattle.std.proofs.Common.{Err, Ok, ap, sym, ◌∙◌, take, arith}
use Rattle.std.proofs.lemmas.Result.{err_from_is_err_and}
use Rattle.mt_base.specs.OutView.{spot}
use Rattle.coded_vector.proofs.WriterLemmas.{last_put, last_few, all_written}
use Rattle.coded_vector.proofs.writer.CodedWriter.end.Goals as goal
use Rattle.coded_vector.proofs.writer.CodedWriter.end.Goals.{then-self-lt7+in_ok-write_few, else-self-lt7+in_ok-put_u8}

pub returns-in_err-put_u8-clause-written : goal.returns-in_err-put_u8-clause-written
returns-in_err-put_u8-clause-written c =
    let p = err_from_is_err_and c.from_residual-in_err-put_u8.result
    c.from_residual-in_err-put_u8.ensures.1 in
    rw p.1 (last_put c.args.self.now _ _ _ (omega arith) (omega arith) c.run.ensures
    c.in_err-put_u8.ensures.written ∙ ap Err (sym p.2))

pub returns-clause-written : goal.returns-clause-written
returns-clause-written c =
    elim c.if-self-lt7.branch [
      | then-self-lt7+in_ok-write_few w ↦
          last_few c.args.self.now _ (spot c.args.out.now) _ w.if-self-lt7.true
          (ap (λ n. take n c.args.self.now.flags) w.from.ensures)
          w.in_ok-write_few.ensures.written
          ∙ ap (λ o. Ok (spot o)) (sym w.out-is)
      | else-self-lt7+in_ok-put_u8 w ↦
          last_put c.args.self.now _ (spot c.args.out.now) _ w.if-self-lt7.false (omega arith)
          w.run.ensures w.in_ok-put_u8.ensures.written
          ∙ ap (λ o. Ok (spot o)) (sym w.out-is)
    ]

pub returns-clause-all : goal.returns-clause-all
returns-clause-all c flags cs before h is =
    all_written c.args.self.now flags cs before (spot c.args.out.now) (spot c.if-self-lt7.out) h is
    (elim c.if-self-lt7.branch [
      | then-self-lt7+in_ok-write_few w ↦
          last_few c.args.self.now _ (spot c.args.out.now) _ w.if-self-lt7.true
          (ap (λ n. take n c.args.self.now.flags) w.from.ensures)
          w.in_ok-write_few.ensures.written
          ∙ ap (λ o. Ok (spot o)) (sym w.out-is)
      | else-self-lt7+in_ok-put_u8 w ↦
          last_put c.args.self.now _ (spot c.args.out.now) _ w.if-self-lt7.false (omega arith)
          w.run.ensures w.in_ok-put_u8.ensures.written
          ∙ ap (λ o. Ok (spot o)) (sym w.out-is)
    ])

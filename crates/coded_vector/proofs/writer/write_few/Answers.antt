use Rattle.std.proofs.Common.{Err, ap, sym, ◌∙◌, ◌≡◌, drop, length, arith, rules}
use Rattle.std.proofs.lemmas.List.{length-drop}
use Rattle.std.proofs.lemmas.Result.{err_from_is_err_and}
use Rattle.mt_base.specs.OutView.{spot}
use Rattle.coded_vector.proofs.WriterLemmas.{few_on, few_refused, few_done}
use Rattle.coded_vector.proofs.writer.write_few.Goals as goal

pub loop-flag-preserved : goal.loop-flag-preserved
loop-flag-preserved c =
    let rest = c.loop-flag.rest.now in
    let behind : c.split_at.result.1.now ≡ drop c.stretch-length.result rest =
    c.split_at.ensures.back ∙ ap (λ n. drop n rest) c.from.ensures in (
      c.loop-flag.invariant.0
          ∙ few_on rest c.split_at.result.1.now c.in-Some.flag.now c.stretch-length.result
          c.run.result (spot c.loop-flag.out) (spot c.put_u8.new.self) c.in-Some.ensures.value
          c.loop-flag.invariant.1 c.stretch-length.ensures.exact (omega arith) c.run.ensures
          behind c.in_ok-put_u8.ensures.written,
      omega (
        arith,
        c.loop-flag.invariant.1,
        ap length behind,
        length-drop c.stretch-length.result rest,
      ),
      search rules,
    )

pub returns-in_err-put_u8-clause-written : goal.returns-in_err-put_u8-clause-written
returns-in_err-put_u8-clause-written c =
    let p = err_from_is_err_and c.from_residual.result c.from_residual.ensures.1 in
    rw p.1 (c.loop-flag.invariant.0
    ∙ few_refused c.loop-flag.rest.now c.in-Some.flag.now c.stretch-length.result c.run.result
    (spot c.loop-flag.out) _ c.in-Some.ensures.value c.loop-flag.invariant.1
    c.stretch-length.ensures.exact (omega arith) c.run.ensures c.in_err-put_u8.ensures.written
    ∙ ap Err (sym p.2))

pub returns-clause-written : goal.returns-clause-written
returns-clause-written c =
    c.loop-flag.invariant.0
    ∙ few_done c.loop-flag.rest.now (spot c.loop-flag.out) c.in_default.ensures.value

use Rattle.std.proofs.Common.{◌≡◌, ◌+◌, ◌%◌, ◌^◌, length, sym, ap, ◌∙◌, arith}
use Rattle.std.proofs.lemmas.List.{length_push}
use Rattle.std.proofs.lemmas.Option.{slice_get_within}
use Rattle.std.proofs.Common.{Some}
use Rattle.coded_vector.specs.CodedBytes.{flags_of}
use Rattle.coded_vector.specs.CodedView.{coded_left}
use Rattle.coded_vector.proofs.FlagLemmas.{length-flags_of}
use Rattle.capture_check.specs.Arrivals.{has}
use Rattle.capture_check.proofs.Taken.{yielded_flag, yielded_all}
use Rattle.capture_check.proofs.Flagged.{flagged_kept, flagged_from, further}
use Rattle.capture_check.proofs.told.coded_came.Goals as goal
use Rattle.capture_check.proofs.told.coded_came.Goals.{else-received-via-then-received+else-not-has, else-received-via-else-received}

pub overflow_add-base : goal.overflow_add-base
overflow_add-base c =
    let flags = flags_of c.args.coded.now in
    let flag = yielded_flag coded_left flags _ _ _ c.next.new.self c.loop-offset.yielded c.in-Some.offset c.in-Some.received
    c.read_coded-offset-items.ensures c.into_iter-offset-iterator.ensures.into_iter_gives c.loop-offset.yielded_by c.in-Some.ensures.steps in
    omega (arith, flag.place, slice_get_within flags _ _ flag.flag_is, length-flags_of c.args.coded.now, c.requires, c.from-base.ensures, c.ranges.base)

pub returns-then-not-has-clause-broken : goal.returns-then-not-has-clause-broken
returns-then-not-has-clause-broken c fails =
    let flags = flags_of c.args.coded.now in
    let flag = yielded_flag coded_left flags _ _ _ c.next.new.self c.loop-offset.yielded c.in-Some.offset c.in-Some.received
    c.read_coded-offset-items.ensures c.into_iter-offset-iterator.ensures.into_iter_gives c.loop-offset.yielded_by c.in-Some.ensures.steps in
    let number : c.from-base.result + c.in-Some.offset ≡ c.args.base + length c.loop-offset.yielded = omega (arith, flag.place, c.from-base.ensures) in (
      (c.args.base + length c.loop-offset.yielded) % 2 ^ 16,
      flagged_from c.args.base (length c.loop-offset.yielded) flags (flag.flag_is ∙ ap Some c.if-received.true),
      ap (λ n. has c.args.came.now (n % 2 ^ 16)) (sym number) ∙ sym c.has.ensures ∙ c.if-not-has.true,
    )

pub loop-offset-preserved : goal.loop-offset-preserved
loop-offset-preserved c =
    let flags = flags_of c.args.coded.now in
    let flag = yielded_flag coded_left flags _ _ _ c.next.new.self c.loop-offset.yielded c.in-Some.offset c.in-Some.received
    c.read_coded-offset-items.ensures c.into_iter-offset-iterator.ensures.into_iter_gives c.loop-offset.yielded_by c.in-Some.ensures.steps in
    let number : c.from-base.result + c.in-Some.offset ≡ c.args.base + length c.loop-offset.yielded = omega (arith, flag.place, c.from-base.ensures) in
    λ k less. further c.args.came.now c.args.base (length c.loop-offset.yielded) flags c.in-Some.received flag.flag_is
    (λ received. elim c.else-received.branch [
      | else-received-via-then-received+else-not-has w ↦ ap (λ n. has c.args.came.now (n % 2 ^ 16)) (sym number) ∙ sym w.has.ensures ∙ w.if-not-has.false
      | else-received-via-else-received w ↦ (let not_so = w.if-received.false in absurd (cc))
    ])
    c.loop-offset.invariant k (omega (arith, less, length_push c.loop-offset.yielded (c.in-Some.offset, c.in-Some.received)))

pub returns-clause-kept : goal.returns-clause-kept
returns-clause-kept c fine =
    let flags = flags_of c.args.coded.now in
    let long = yielded_all coded_left flags _ _ _ c.loop-offset.yielded
    c.read_coded-offset-items.ensures c.into_iter-offset-iterator.ensures.into_iter_gives c.loop-offset.yielded_by c.in-None.ensures.steps.0 in
    flagged_kept c.args.came.now c.args.base (length c.loop-offset.yielded) flags (omega (arith, long)) c.loop-offset.invariant

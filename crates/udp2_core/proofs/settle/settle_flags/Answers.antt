use Rattle.std.proofs.Common.{◌≡◌, ◌+◌, ◌||◌, ◌∷◌, ◌++◌, [], length, sym, ap, ◌∙◌, subst, arith}
use Rattle.std.proofs.lemmas.List.{length_push}
use Rattle.std.proofs.lemmas.Option.{slice_get_within}
use Rattle.coded_vector.specs.CodedBytes.{flags_of}
use Rattle.coded_vector.specs.CodedView.{coded_left}
use Rattle.coded_vector.proofs.FlagLemmas.{length-flags_of}
use Rattle.carrier.specs.Layout.{From, tells}
use Rattle.udp2_core.specs.SettleView.{Settles}
use Rattle.udp2_core.proofs.Tellings.{taken_below, taking_start, taking_skip, taking_step, taking_end}
use Rattle.udp2_core.proofs.ToldFlags.{from_at, from_below, from_above, yielded_flag, yielded_all}
use Rattle.udp2_core.proofs.settle.settle_flags.Goals as goal

pub loop-offset-init : goal.loop-offset-init
loop-offset-init c = record {
  queued = omega arith;
  settles = λ first acts h.
      taking_start first _ _ (tells (From c.args.base (flags_of c.args.coded.now))) acts h
      (λ n less. from_below c.args.base (flags_of c.args.coded.now) n (omega (arith, less)));
}

pub overflow_add-base : goal.overflow_add-base
overflow_add-base c =
    let flags = flags_of c.args.coded.now in
    let flag = yielded_flag coded_left flags _ _ _ c.next.new.self c.loop-offset.yielded c.in-Some.offset c.in-Some.received
    c.read_coded-offset-items.ensures c.into_iter-offset-iterator.ensures.into_iter_gives c.loop-offset.yielded_by c.in-Some.ensures.steps in
    omega (arith, flag.place, slice_get_within flags _ _ flag.flag_is, length-flags_of c.args.coded.now, c.requires.few, c.requires.base)

pub settle_number-settled-requires : goal.settle_number-settled-requires
settle_number-settled-requires c =
    let flags = flags_of c.args.coded.now in
    let flag = yielded_flag coded_left flags _ _ _ c.next.new.self c.loop-offset.yielded c.in-Some.offset c.in-Some.received
    c.read_coded-offset-items.ensures c.into_iter-offset-iterator.ensures.into_iter_gives c.loop-offset.yielded_by c.in-Some.ensures.steps in
    omega (arith, flag.place, slice_get_within flags _ _ flag.flag_is, length-flags_of c.args.coded.now, c.requires.few, c.requires.base)

pub loop-offset-preserved-then-received : goal.loop-offset-preserved-then-received
loop-offset-preserved-then-received c =
    let flags = flags_of c.args.coded.now in
    let flag = yielded_flag coded_left flags _ _ _ c.next.new.self c.loop-offset.yielded c.in-Some.offset c.in-Some.received
    c.read_coded-offset-items.ensures c.into_iter-offset-iterator.ensures.into_iter_gives c.loop-offset.yielded_by c.in-Some.ensures.steps in
    let number : c.args.base + c.in-Some.offset ≡ c.args.base + length c.loop-offset.yielded = omega (arith, flag.place) in
    let more : c.args.base + length c.loop-offset.yielded + 1 ≡ c.args.base + length (c.loop-offset.yielded ++ (c.in-Some.offset, c.in-Some.received) ∷ []) =
    omega (arith, length_push c.loop-offset.yielded (c.in-Some.offset, c.in-Some.received)) in
    let i = c.loop-offset.invariant in
    let e = c.settle_number-settled.ensures in
    record {
      queued = omega (arith, e.queued, i.queued);
      settles = λ first acts h.
          let told = tells (From c.args.base flags) in
          let here = subst (λ n. Settles first c.loop-offset.settled c.loop-offset.window acts (taken_below first told n acts)) (sym number) (i.settles first acts h) in
          let is = ap told number ∙ from_at c.args.base flags _ _ flag.flag_is ∙ c.if-received.true in
          let next : c.args.base + c.in-Some.offset + 1 ≡ c.args.base + length (c.loop-offset.yielded ++ (c.in-Some.offset, c.in-Some.received) ∷ []) = ap (λ n. n + 1) number ∙ more in
          subst (λ n. Settles first (c.loop-offset.settled || c.settle_number-settled.result) c.settle_number-settled.new.window acts (taken_below first told n acts)) next
          (taking_step first _ _ _ _ _ told acts here is (e.sends first) (e.settled first));
    }

pub loop-offset-preserved : goal.loop-offset-preserved
loop-offset-preserved c =
    let flags = flags_of c.args.coded.now in
    let flag = yielded_flag coded_left flags _ _ _ c.next.new.self c.loop-offset.yielded c.in-Some.offset c.in-Some.received
    c.read_coded-offset-items.ensures c.into_iter-offset-iterator.ensures.into_iter_gives c.loop-offset.yielded_by c.in-Some.ensures.steps in
    let more : c.args.base + length c.loop-offset.yielded + 1 ≡ c.args.base + length (c.loop-offset.yielded ++ (c.in-Some.offset, c.in-Some.received) ∷ []) =
    omega (arith, length_push c.loop-offset.yielded (c.in-Some.offset, c.in-Some.received)) in
    let i = c.loop-offset.invariant in
    record {
      queued = i.queued;
      settles = λ first acts h.
          let told = tells (From c.args.base flags) in
          let is = from_at c.args.base flags _ _ flag.flag_is ∙ c.if-received.false in
          subst (λ n. Settles first c.loop-offset.settled c.loop-offset.window acts (taken_below first told n acts)) more
          (taking_skip first _ _ _ told acts (i.settles first acts h) is);
    }

pub returns-clause-settles : goal.returns-clause-settles
returns-clause-settles c first acts h =
    let flags = flags_of c.args.coded.now in
    let long = yielded_all coded_left flags _ _ _ c.loop-offset.yielded
    c.read_coded-offset-items.ensures c.into_iter-offset-iterator.ensures.into_iter_gives c.loop-offset.yielded_by c.in-None.ensures.steps.0 in
    taking_end first _ (c.args.base + length c.loop-offset.yielded) _ (tells (From c.args.base flags)) acts (c.loop-offset.invariant.settles first acts h)
    (λ n ge. from_above c.args.base flags n (omega (arith, ge, long)))

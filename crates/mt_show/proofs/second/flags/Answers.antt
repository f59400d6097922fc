use Rattle.std.proofs.Common.{◌∷◌, sym, ap, ◌∙◌, append-nil}
use Rattle.coded_vector.specs.CodedBytes.{flags_of}
use Rattle.coded_vector.specs.CodedView.{coded_left}
use Rattle.mt_show.proofs.Taken.{all_taken}
use Rattle.mt_show.proofs.Flags.{one_more_flag, flags_put}
use Rattle.mt_show.proofs.second.flags.Goals as goal

pub loop-next-init : goal.loop-next-init
loop-next-init c = sym (append-nil c.flag.new.out.bytes.items)

pub loop-next-preserved : goal.loop-next-preserved
loop-next-preserved c =
    one_more_flag c.loop-next.yielded (c.in-Some-2.field-0-0, c.in-Some-2.next) c.flag.new.out.bytes.items c.loop-next.out.bytes.items c.flag-in-loop-next.new.out.bytes.items
    c.loop-next.invariant c.in_ok-flag-2.ensures

pub returns : goal.returns
returns c =
    let left = all_taken coded_left c.loop-next.yielded c.into_iter-next-iterator.result c.loop-next.next-iterator c.next-in-loop-next.new.self c.loop-next.yielded_by c.in-None.ensures.steps in
    let others = sym (ap coded_left c.into_iter-next-iterator.ensures.into_iter_gives) ∙ left in
    flags_put (flags_of c.args.coded.now) (c.in-Some.field-0-0, c.in-Some.first) c.loop-next.yielded c.args.out.now.bytes.items c.flag.new.out.bytes.items c.loop-next.out.bytes.items
    (sym c.read_coded-flags.ensures ∙ c.in-Some.ensures.steps ∙ ap (λ r. (c.in-Some.field-0-0, c.in-Some.first) ∷ r) others) c.in_ok-flag.ensures c.loop-next.invariant

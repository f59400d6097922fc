use Rattle.std.proofs.Common.{◌≡◌, nat_eq, Some, None, slice_get, IfNone, rules, ap, refl, sym, subst, ◌∙◌, ◌+◌, ◌≤◌, length, arith}
use Rattle.std.specs.Map.{lookup}
use Rattle.dvc_channels.specs.Acts.{weight}
use Rattle.dvc_channels.specs.Table.{Kept, IsFair}
use Rattle.dvc_channels.proofs.Entries.{counted_written, fair_at}
use Rattle.dvc_channels.proofs.Calls.{of, unchanged, none_taken, took_within, took_leaves}
use Rattle.dvc_channels.proofs.channels.Channels.take.Goals as goal

pub invariant_of-self-in_err-message : goal.invariant_of-self-in_err-message
invariant_of-self-in_err-message c =
    let m = c.self.inside in
    let old = c.in_ok-get_mut.field-0.now in
    let new = c.take.new.self in
    let is : lookup (nat_eq c.args.id) m.channels.entries ≡ Some old = search rules in
    let held = c.get_mut.follows.holds new in
    let same = none_taken old new (sym c.take.ensures.oldest ∙ c.in_err-message.was) c.take.ensures.rest in
    counted_written c.args.id old new m.channels.entries _ m.waiting m.waiting _ _ c.self.invariant is held.0 held.6
    (subst (λ (k : Kept). IsFair k.part) (sym same) (fair_at c.args.id old m.channels.entries m.waiting (c.self.invariant).0 is)) (ap (λ (k : Kept). m.waiting + weight k.whole) (sym same))

pub returns-in_err-message-clause-none : goal.returns-in_err-message-clause-none
returns-in_err-message-clause-none c =
    let m = c.self.inside in
    let old = c.in_ok-get_mut.field-0.now in
    let new = c.take.new.self in
    let is : lookup (nat_eq c.args.id) m.channels.entries ≡ Some old = search rules in
    let held = c.get_mut.follows.holds new in
    let same = none_taken old new (sym c.take.ensures.oldest ∙ c.in_err-message.was) c.take.ensures.rest in
    let table = unchanged c.args.id old new m.channels.entries _ m.waiting m.waiting c.args.self.now c.self.view_is is held.0 same refl in
    rw c.from_residual-in_err-message.ensures table

pub overflow_sub-self : goal.overflow_sub-self
overflow_sub-self c =
    let m = c.self.inside in
    let old = c.in_ok-get_mut.field-0.now in
    let is : lookup (nat_eq c.args.id) m.channels.entries ≡ Some old = search rules in
    let first : slice_get old.whole 0 ≡ Some c.in_ok-message.message = sym c.take.ensures.oldest ∙ c.in_ok-message.was in
    let within = took_within c.args.id old m.channels.entries m.waiting c.in_ok-message.message (c.self.invariant).0 is first in
    rw c.bytes.ensures within

pub invariant_of-self-2 : goal.invariant_of-self-2
invariant_of-self-2 c =
    let m = c.self.inside in
    let old = c.in_ok-get_mut.field-0.now in
    let new = c.take.new.self in
    let is : lookup (nat_eq c.args.id) m.channels.entries ≡ Some old = search rules in
    let held = c.get_mut.follows.holds new in
    let first : slice_get old.whole 0 ≡ Some c.in_ok-message.message = sym c.take.ensures.oldest ∙ c.in_ok-message.was in
    let within = took_within c.args.id old m.channels.entries m.waiting c.in_ok-message.message (c.self.invariant).0 is first in
    let leaves = took_leaves old new m.waiting c.in_ok-message.message within first c.take.ensures.rest in
    counted_written c.args.id old new m.channels.entries _ m.waiting _ _ _ c.self.invariant is held.0 held.6
    (subst (λ (k : Kept). IsFair k.part) (sym c.take.ensures.rest) (fair_at c.args.id old m.channels.entries m.waiting (c.self.invariant).0 is)) (rw c.bytes.ensures leaves)

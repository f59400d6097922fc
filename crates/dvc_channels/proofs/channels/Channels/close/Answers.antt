use Rattle.std.proofs.Common.{◌≡◌, nat_eq, Some, rules, ap, refl, sym, subst, ◌∙◌, ◌+◌}
use Rattle.std.specs.Map.{lookup}
use Rattle.dvc_channels.specs.Acts.{weight, TakesData, state}
use Rattle.dvc_channels.specs.Table.{Kept, IsFair, Stands, IsKept}
use Rattle.dvc_channels.proofs.Entries.{counted_written, fair_at}
use Rattle.dvc_channels.proofs.Calls.{of, unchanged}
use Rattle.dvc_channels.proofs.channels.Channels.close.Goals as goal

pub invariant_of-self-in_default-state : goal.invariant_of-self-in_default-state
invariant_of-self-in_default-state c =
    let m = c.self.inside in
    let old = c.in-Some.channel.now in
    let is : lookup (nat_eq c.args.id) m.channels.entries ≡ Some old = search rules in
    let held = c.get_mut.follows.holds old in
    counted_written c.args.id old old m.channels.entries _ m.waiting m.waiting _ _ c.self.invariant is held.0 held.6 (fair_at c.args.id old m.channels.entries m.waiting (c.self.invariant).0 is) refl

pub returns-in_default-state-clause-unchanged : goal.returns-in_default-state-clause-unchanged
returns-in_default-state-clause-unchanged c =
    let m = c.self.inside in
    let old = c.in-Some.channel.now in
    let is : lookup (nat_eq c.args.id) m.channels.entries ≡ Some old = search rules in
    unchanged c.args.id old old m.channels.entries _ m.waiting m.waiting c.args.self.now c.self.view_is is (c.get_mut.follows.holds old).0 refl refl

pub invariant_of-self-2 : goal.invariant_of-self-2
invariant_of-self-2 c =
    let m = c.self.inside in
    let old = c.in-Some.channel.now in
    let new = c.close.new.self in
    let is : lookup (nat_eq c.args.id) m.channels.entries ≡ Some old = search rules in
    let held = c.get_mut.follows.holds new in
    counted_written c.args.id old new m.channels.entries _ m.waiting m.waiting _ _ c.self.invariant is held.0 held.6
    (subst IsFair (sym (ap (λ (k : Kept). k.part) c.close.ensures)) tt) (ap (λ (k : Kept). m.waiting + weight k.whole) (sym c.close.ensures))

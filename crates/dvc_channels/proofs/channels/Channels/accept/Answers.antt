use Rattle.std.proofs.Common.{◌≡◌, nat_eq, Some, is_some, rules, ap, sym, subst}
use Rattle.std.specs.Map.{lookup}
use Rattle.dvc_pdus.specs.Views.{pdu_of}
use Rattle.dvc_channels.specs.Table.{Stands}
use Rattle.dvc_channels.proofs.Entries.{counted_written}
use Rattle.dvc_channels.proofs.Calls.{of, came_stands, came_counts, came_unchanged}
use Rattle.dvc_channels.proofs.channels.Channels.accept.Goals as goal

pub invariant_of-self-2 : goal.invariant_of-self-2
invariant_of-self-2 c =
    let m = c.self.inside in
    let old = c.in-Some.channel.now in
    let new = c.accept.new.self in
    let is : lookup (nat_eq c.args.id) m.channels.entries ≡ Some old = search rules in
    let held = c.get_mut.follows.holds new in
    let e = c.accept.ensures in
    counted_written c.args.id old new m.channels.entries _ m.waiting c.accept.new.waiting _ _ c.self.invariant is held.0 held.6 e.fair
    (came_counts (pdu_of c.args.pdu.now) c.accept.result old new m.waiting c.accept.new.waiting e.came e.counted e.unchanged)

pub returns-clause-came : goal.returns-clause-came
returns-clause-came c t h =
    let m = c.self.inside in
    let old = c.in-Some.channel.now in
    let new = c.accept.new.self in
    let is : lookup (nat_eq c.args.id) m.channels.entries ≡ Some old = search rules in
    let held = c.get_mut.follows.holds new in
    let stood : Stands (of m.channels.entries m.waiting) t = subst (λ s. Stands s t) (sym c.self.view_is) h in
    came_stands c.args.id (pdu_of c.args.pdu.now) c.accept.result old new m.channels.entries _ m.waiting c.accept.new.waiting t stood is (held.3 (ap is_some is)).0 held.1 c.accept.ensures.came

pub returns-clause-unchanged : goal.returns-clause-unchanged
returns-clause-unchanged c =
    let m = c.self.inside in
    let old = c.in-Some.channel.now in
    let new = c.accept.new.self in
    let is : lookup (nat_eq c.args.id) m.channels.entries ≡ Some old = search rules in
    let held = c.get_mut.follows.holds new in
    came_unchanged c.args.id old new m.channels.entries _ m.waiting c.accept.new.waiting c.args.self.now c.accept.result c.self.view_is is held.0 c.accept.ensures.unchanged

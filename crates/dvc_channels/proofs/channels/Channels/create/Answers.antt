use Rattle.std.proofs.Common.{◌≡◌, nat_eq, None, ◌<◌, length, rules, ap, sym, subst, ◌∙◌}
use Rattle.std.specs.Map.{lookup}
use Rattle.indexmap.proofs.CallerLemmas.{insert_entry-new}
use Rattle.dvc_channels.specs.Table.{Kept, Stands}
use Rattle.dvc_channels.proofs.Entries.{counted_added}
use Rattle.dvc_channels.proofs.Calls.{of, made_stands}
use Rattle.dvc_channels.proofs.channels.Channels.create.Goals as goal

pub invariant_of-self : goal.invariant_of-self
invariant_of-self c =
    let m = c.self.inside in
    let k = c.in_ok-channel.channel in
    let new : lookup (nat_eq c.args.id) m.channels.entries ≡ None = search rules in
    let few : length m.channels.entries < 256 = search rules in
    let e = c.in-Ok.ensures in
    counted_added c.args.id k m.channels.entries _ m.waiting _ _ c.self.invariant e.updates.0 (e.entries ∙ insert_entry-new nat_eq m.channels c.args.id k new) e.unique few e.spare
    (ap (λ (k : Kept). k.whole) c.in_ok-channel.ensures) (ap (λ (k : Kept). k.part) c.in_ok-channel.ensures)

pub returns-clause-made : goal.returns-clause-made
returns-clause-made c t h =
    let m = c.self.inside in
    let k = c.in_ok-channel.channel in
    let new : lookup (nat_eq c.args.id) m.channels.entries ≡ None = search rules in
    let e = c.in-Ok.ensures in
    let stood : Stands (of m.channels.entries m.waiting) t = subst (λ s. Stands s t) (sym c.self.view_is) h in
    made_stands c.args.id c.args.name.now k m.channels.entries _ m.waiting m.waiting t stood new e.updates.0 (e.entries ∙ insert_entry-new nat_eq m.channels c.args.id k new) c.in_ok-channel.ensures

use Rattle.std.proofs.Common.{◌≡◌, true, sym, subst}
use Rattle.mt_base.specs.declared.kinds.Kind.{Kind}
use Rattle.mt_base.specs.Trace.{Trace}
use Rattle.dvc_pdus.specs.Value.{Close}
use Rattle.soft_sync.specs.Words.{inward}
use Rattle.mt_endpoint.specs.Acts.{Act}
use Rattle.mt_endpoint.specs.Channels.{table}
use Rattle.mt_endpoint.specs.Holding.{is_through}
use Rattle.end_session.specs.Releasing.{IsOldest, Released}
use Rattle.end_session.specs.Standing.{Gone, Stands}
use Rattle.end_session.specs.contracts.session.Session.{the_view}
use Rattle.end_session.proofs.ClosesReleased.{IsCloseDue, close_released, close_takes, close_told}
use Rattle.end_session.proofs.DataHeard.{IsClosedBy}
use Rattle.end_session.proofs.Freed.{lawful_by}
use Rattle.end_session.proofs.session.Session.release_close.Goals as goal

pub end_channel-requires : goal.end_channel-requires
end_channel-requires c =
    let s = the_view c.self.inside in
    let w = c.self.invariant in
    let o = c.requires.oldest in
    let d : IsCloseDue o.0 c.args.id s = subst (IsCloseDue o.0 c.args.id) (sym c.self.view_is) (record { word = o.1; fresh = c.requires.fresh; oldest = o.2 }) in
    record { takes = (table s.role w.0.0, (w.0.2).knows.channels_stand, close_takes s w.0.0 w.0.1 o.0 c.args.id d w.0.2); place = close_told s w.0.0 w.0.1 o.0 c.args.id d w.0.2 }

-- the end that it leaves, which stands for one act more
released : (c : goal.After-close) (kind : Kind) (t : Trace Act) (gone : Gone) → is_through kind (inward c.args.id c.args.self.now.paths) ≡ true → IsOldest kind c.args.id (Close c.args.id) c.args.self.now → Stands (the_view c.self.inside) t gone
    → Released kind c.args.id (Close c.args.id) t gone (record (the_view c.self.inside) { channels = c.end_channel.new.channels; paths = c.end_channel.new.paths; held_reliable = c.end_channel.new.reliable; held_lossy = c.end_channel.new.lossy; outgoing = c.close.new.self }) true
released c kind t gone word oldest st =
    let s = the_view c.self.inside in
    let by : IsClosedBy s c.args.id c.end_channel.new.channels c.end_channel.new.paths c.end_channel.new.reliable c.end_channel.new.lossy = record {
      ended = c.end_channel.ensures.ended;
      told_is = c.end_channel.ensures.paths;
      reliable_is = c.end_channel.ensures.reliable;
      lossy_is = c.end_channel.ensures.lossy;
    } in
    close_released s t gone kind c.args.id c.end_channel.new.channels c.end_channel.new.paths c.end_channel.new.reliable c.end_channel.new.lossy c.close.new.self c.outward-path.result c.is_silent.result
    (subst (IsCloseDue kind c.args.id) (sym c.self.view_is) (record { word = word; fresh = c.requires.fresh; oldest = oldest })) by c.outward-path.ensures c.is_silent.ensures c.close.ensures st

pub invariant_of-self : goal.invariant_of-self
invariant_of-self c =
    let w = c.self.invariant in
    let o = c.requires.oldest in
    lawful_by o.0 c.args.id (Close c.args.id) w.0.0 w.0.1 _ true (released c o.0 w.0.0 w.0.1 o.1 o.2 w.0.2) w.1

pub returns-clause-released : goal.returns-clause-released
returns-clause-released c kind t gone word oldest st = released c kind t gone word oldest (subst (λ s. Stands s t gone) (sym c.self.view_is) st)

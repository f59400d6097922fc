use Rattle.std.proofs.Common.{ℕ, List, sym, subst}
use Rattle.mt_base.specs.declared.kinds.Kind.TheVariants.{Reliable}
use Rattle.mt_base.specs.Trace.{Trace}
use Rattle.dvc_pdus.specs.Value.{Close}
use Rattle.mt_endpoint.specs.Acts.{Act, Draws, Carried}
use Rattle.mt_endpoint.specs.Channels.{table}
use Rattle.mt_endpoint.specs.Growing.{grown}
use Rattle.end_session.specs.Behind.{IsPassing}
use Rattle.end_session.specs.Coming.{Came}
use Rattle.end_session.specs.Standing.{Gone, Stands}
use Rattle.end_session.specs.contracts.session.Session.{the_view}
use Rattle.end_session.proofs.ClosesPassed.{IsEnding, end_place, ended_at_once, may_end}
use Rattle.end_session.proofs.DataHeard.{IsClosedBy}
use Rattle.end_session.proofs.Passed.{came_outside}
use Rattle.end_session.proofs.session.Session.pass_close.Goals as goal

pub end_channel-requires : goal.end_channel-requires
end_channel-requires c =
    let s = the_view c.self.inside in
    let w = c.self.invariant in
    let p = c.requires.passing in
    let e = subst (IsEnding c.args.id p.0) (sym c.self.view_is) (record { passing = p.1; opened = c.requires.open_one }) in
    record { takes = (table s.role w.0.0, (w.0.2).knows.channels_stand, may_end s w.0.0 w.0.1 c.args.id p.0 e w.0.2); place = end_place s w.0.0 w.0.1 c.args.id p.0 e w.0.2 }

-- the end that it leaves
ended : (c : goal.After-close) (bytes : List ℕ) (t : Trace Act) (gone : Gone) (place : ℕ) → IsPassing Reliable bytes (Close c.args.id) c.args.self.now → Stands (the_view c.self.inside) t gone
    → Came (grown (the_view c.self.inside).role t (Draws Reliable place (Carried bytes (Close c.args.id)))) gone
    (record (the_view c.self.inside) { channels = c.end_channel.new.channels; paths = c.end_channel.new.paths; held_reliable = c.end_channel.new.reliable; held_lossy = c.end_channel.new.lossy; outgoing = c.close.new.self })
ended c bytes t gone place passing st =
    let s = the_view c.self.inside in
    let by : IsClosedBy s c.args.id c.end_channel.new.channels c.end_channel.new.paths c.end_channel.new.reliable c.end_channel.new.lossy = record {
      ended = c.end_channel.ensures.ended;
      told_is = c.end_channel.ensures.paths;
      reliable_is = c.end_channel.ensures.reliable;
      lossy_is = c.end_channel.ensures.lossy;
    } in
    ended_at_once s t gone place c.args.id bytes c.end_channel.new.channels c.end_channel.new.paths c.end_channel.new.reliable c.end_channel.new.lossy c.close.new.self c.outward-path.result c.is_silent.result
    (subst (IsEnding c.args.id bytes) (sym c.self.view_is) (record { passing = passing; opened = c.requires.open_one })) by c.outward-path.ensures c.is_silent.ensures c.close.ensures st

pub invariant_of-self : goal.invariant_of-self
invariant_of-self c =
    let s = the_view c.self.inside in
    let w = c.self.invariant in
    let p = c.requires.passing in
    (((grown s.role w.0.0 (Draws Reliable 0 (Carried p.0 (Close c.args.id)))).acts, w.0.1, (ended c p.0 w.0.0 w.0.1 0 p.1 w.0.2).1), w.1)

pub returns-clause-came : goal.returns-clause-came
returns-clause-came c bytes t gone place passing st =
    let s = the_view c.self.inside in
    came_outside s c.args.self.now t (Draws Reliable place (Carried bytes (Close c.args.id))) gone
    (record s { channels = c.end_channel.new.channels; paths = c.end_channel.new.paths; held_reliable = c.end_channel.new.reliable; held_lossy = c.end_channel.new.lossy; outgoing = c.close.new.self }) c.self.view_is
    (ended c bytes t gone place passing (subst (λ s. Stands s t gone) (sym c.self.view_is) st))

use Rattle.std.proofs.Common.{◌≡◌, ◌++◌, [], length, None}
use Rattle.mt_base.specs.declared.kinds.Role.TheVariants.{Client}
use Rattle.mt_base.specs.Trace.{Trace}
use Rattle.dvc_pdus.specs.ListViews.{lists_left}
use Rattle.mt_endpoint.specs.Acts.{Act}
use Rattle.mt_endpoint.specs.Faults.{ids_fault}
use Rattle.mt_endpoint.specs.Moving.{channels_listed}
use Rattle.end_session.specs.ListedView.{channels_left}
use Rattle.end_session.specs.Standing.{Gone, Stands}
use Rattle.end_session.proofs.session.Session.ids_cause.Given as goal

-- there is nothing against the channels so far
abbrev pub invariant-loop-channel : goal.invariant-loop-channel
invariant-loop-channel l = record {
  split : channels_listed (lists_left l.fn.lists) ≡ l.yielded ++ channels_left l.channel-iterator;
  count : l.count ≡ length l.yielded;
  fine : (t : Trace Act) (gone : Gone) → Stands l.fn.self t gone → ids_fault Client t [] l.yielded ≡ None;
}

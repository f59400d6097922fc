use Rattle.std.proofs.Common.{sym, ap, subst, ◌∙◌}
use Rattle.dvc_pdus.specs.ListViews.{lists_left}
use Rattle.mt_endpoint.specs.Growing.{release_all}
use Rattle.mt_endpoint.specs.Moving.{channels_listed}
use Rattle.end_session.specs.Coming.{Ended}
use Rattle.end_session.specs.ListedView.{channels_left}
use Rattle.end_session.proofs.OnWay.{IsOnWay, begin, done, fails, onward, passed_on}
use Rattle.end_session.proofs.session.Session.release_listed.Goals as goal

pub loop-id-init : goal.loop-id-init
loop-id-init c =
    let s = c.args.self.now in
    let all = channels_listed (lists_left c.args.lists) in
    subst (IsOnWay s s all) (sym (ap channels_left c.into_iter-id-iterator.ensures.into_iter_gives ∙ c.of-id-items.ensures)) (begin s all c.requires.whole c.requires.words c.requires.room)

pub loop-id-preserved : goal.loop-id-preserved
loop-id-preserved c =
    let s = c.args.self.now in
    let all = channels_listed (lists_left c.args.lists) in
    let e = c.release.ensures in
    onward s c.loop-id.self c.release.new.self all (channels_left c.next.new.self) c.in-Some.id c.in-Some.kind (subst (IsOnWay s c.loop-id.self all) c.in-Some.ensures.steps c.loop-id.invariant)
    (record { main_is = e.written.0; reliable_is = e.written.1; lossy_is = e.lossy; words_are = e.paths; role_is = e.same.0; broken_is = e.same.1; owed_is = e.owed }) c.in_ok-release.ensures.came

pub returns-clause-came : goal.returns-clause-came
returns-clause-came c t gone st =
    let s = c.args.self.now in
    let all = channels_listed (lists_left c.args.lists) in
    done s c.loop-id.self all (subst (IsOnWay s c.loop-id.self all) (c.in-None.ensures.steps).0 c.loop-id.invariant) t gone st

pub returns-in_err-release-clause-ended : goal.returns-in_err-release-clause-ended
returns-in_err-release-clause-ended c t gone st =
    let s = c.args.self.now in
    let all = channels_listed (lists_left c.args.lists) in
    passed_on (λ untaken. Ended t (release_all s.role all t) gone c.release.new.self untaken) c.from_residual.result c.in_err-release.field-0.0 c.from_residual.ensures.1
    (fails s c.loop-id.self c.release.new.self all (channels_left c.next.new.self) c.in-Some.id c.in-Some.kind c.in_err-release.field-0.0 (subst (IsOnWay s c.loop-id.self all) c.in-Some.ensures.steps c.loop-id.invariant)
    c.in_err-release.ensures.ended t gone st)

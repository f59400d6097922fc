use Rattle.std.proofs.Common.{IfErr, refl, sym, subst, ◌∙◌}
use Rattle.std.proofs.lemmas.Result.{err_from_is_err_and}
use Rattle.end_calls.specs.Law.{whole}
use Rattle.end_session.specs.declared.untaken.Untaken.{Untaken}
use Rattle.end_session.specs.Coming.{Ended, all_released}
use Rattle.end_session.proofs.LetGo.{ended_on, went_on, went_over}
use Rattle.end_session.proofs.session.Session.release.Goals as goal

pub loop-init : goal.loop-init
loop-init c = record { role = refl; whole = refl; owed = refl; quiet = refl; paths = λ made. refl; stands = λ t gone st. (t, whole t, refl, st) }

pub loop-preserved : goal.loop-preserved
loop-preserved c =
    let before = c.loop.invariant in
    let did = c.in_ok-release_one.ensures in record {
      role = c.release_one.ensures.same.0 ∙ before.role;
      whole = c.release_one.ensures.same.1 ∙ before.whole;
      owed = c.release_one.ensures.owed ∙ before.owed;
      quiet = did.quiet c.if-branch.true ∙ before.quiet;
      paths = λ made. c.release_one.ensures.paths made ∙ before.paths made;
      stands = λ t gone st.
          let v = before.stands t gone st in
          went_on c.loop.self c.release_one.new.self c.args.kind c.args.id t v.0 gone _ c.in_ok-release_one.field-0 c.if-branch.true c.release_one.ensures.same.0 v.1 v.2 (did.went v.0 gone v.3);
    }

pub returns-clause-came : goal.returns-clause-came
returns-clause-came c t gone st =
    let v = c.loop.invariant.stands t gone st in
    went_over c.loop.self c.release_one.new.self c.args.kind c.args.id v.0 gone _ c.in_ok-release_one.field-0 c.if-branch.false c.release_one.ensures.same.0 v.2 (c.in_ok-release_one.ensures.went v.0 gone v.3)

pub returns-in_err-release_one-clause-ended : goal.returns-in_err-release_one-clause-ended
returns-in_err-release_one-clause-ended c t gone st =
    let v = c.loop.invariant.stands t gone st in
    let p = err_from_is_err_and c.from_residual.result c.from_residual.ensures.1 in
    let ends = λ (untaken : Untaken). Ended t (all_released c.args.self.now.role c.args.kind c.args.id t) gone c.release_one.new.self untaken in
    subst (λ r. IfErr r ends) (sym p.1)
    (subst ends (sym p.2)
    (ended_on t v.0 (all_released c.loop.self.role c.args.kind c.args.id v.0) (all_released c.args.self.now.role c.args.kind c.args.id t) gone c.release_one.new.self c.in_err-release_one.field-0.0 v.1 v.2 (c.in_err-release_one.ensures.ended v.0 gone v.3)))

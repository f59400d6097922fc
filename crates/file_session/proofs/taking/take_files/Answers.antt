use Rattle.std.proofs.Common.{◌∷◌, ◌++◌, [], ℕ, List, Ok, refl, sym, ap, ◌∙◌, subst}
use Rattle.mt_base.specs.Trace.{◌▷◌}
use Rattle.mt_endpoint.specs.Acts.{Takes}
use Rattle.end_calls.specs.Calls.{Own}
use Rattle.endpoint.specs.Standing.{EndStands}
use Rattle.file_messages.specs.Files.{File}
use Rattle.file_transfer.specs.Keeping.{HasKept}
use Rattle.file_session.specs.Messages.{handed, with_takes}
use Rattle.file_session.specs.Taking.{HandsOut, KeepsOn}
use Rattle.file_session.proofs.Growing.{bad_more, hands_more, took_more, took_none, took_same}
use Rattle.file_session.proofs.Taken.{err_not_false, no_err, not_false, same_err}
use Rattle.file_session.proofs.Waiting.{falls}
use Rattle.file_session.proofs.LawsKept.{laws_same, laws_then}
use Rattle.file_session.proofs.taking.take_files.Goals as goal

pub messages-init : goal.messages-init
messages-init g c = record {
  laws = laws_same _ _ c.args.end.now;
  faults = refl;
  prefix = refl;
  stands = c.requires.stands;
  calls = λ role t k. ([], k);
  took = λ role t files k h. took_none (λ u. EndStands g.C.Carrier.stands g.C.Carrier.left g.C.Carrier.condition g.P.Post.stands g.P.Post.left g.P.Post.condition c.args.end.now role u) t _ files _ _ k h;
}

pub messages-smaller : goal.messages-smaller
messages-smaller g c =
    let s = c.messages.invariant.stands in
    let m = c.in-Ok-true.ensures.some s.0 s.1 s.2 (not_false _ c.in-Ok-true.field-0-test) in
    falls _ _ _ _ _ _ c.messages.end c.take_one.new.end s.0 s.1 m.0 s.2 m.2

pub messages-preserved : goal.messages-preserved
messages-preserved g c =
    let i = c.messages.invariant in
    let s = i.stands in
    let m = c.in-Ok-true.ensures.some s.0 s.1 s.2 (not_false _ c.in-Ok-true.field-0-test) in
    record {
      laws = laws_then _ _ _ _ _ i.laws c.take_one.ensures.laws;
      faults = c.in-Ok-true.ensures.counts (no_err _ _) ∙ i.faults;
      prefix = c.take_one.ensures.prefix ∙ i.prefix;
      stands = (s.0, s.1 ▷ Own (Takes 1 m.0), m.2);
      calls = λ role t k.
          let b = i.calls role t k in
          let n = c.in-Ok-true.ensures.some role (with_takes t b.0) b.1 (not_false _ c.in-Ok-true.field-0-test) in
          hands_more (λ u. EndStands g.C.Carrier.stands g.C.Carrier.left g.C.Carrier.condition g.P.Post.stands g.P.Post.left g.P.Post.condition c.take_one.new.end role u) t b.0 n.0 n.2;
      took = λ role t files k h.
          let b = i.took role t files k h in
          let n = c.in-Ok-true.ensures.some role (with_takes t b.messages) b.calls (not_false _ c.in-Ok-true.field-0-test) in
          took_more (λ u. EndStands g.C.Carrier.stands g.C.Carrier.left g.C.Carrier.condition g.P.Post.stands g.P.Post.left g.P.Post.condition c.messages.end role u) (λ u. EndStands g.C.Carrier.stands g.C.Carrier.left g.C.Carrier.condition g.P.Post.stands g.P.Post.left g.P.Post.condition c.take_one.new.end role u) t _ files c.messages.incoming c.take_one.new.incoming _ _ _ n.0 b n.2
          (subst (λ (p : List ℕ). (later : List File) × HasKept c.take_one.new.incoming (handed (with_takes t b.messages) ++ n.0 ∷ []) later × KeepsOn p b.later later (g.F.FileStore.told c.messages.store) (g.F.FileStore.told c.take_one.new.store)) i.prefix (n.4 (handed (with_takes t b.messages)) b.later b.kept));
    }

pub returns-in-Ok-false-clause-calls : goal.returns-in-Ok-false-clause-calls
returns-in-Ok-false-clause-calls g c role t k =
    let e = c.in-Ok-false.ensures.none (ap Ok c.in-Ok-false.field-0-test) in
    subst (λ x. HandsOut (λ u. EndStands g.C.Carrier.stands g.C.Carrier.left g.C.Carrier.condition g.P.Post.stands g.P.Post.left g.P.Post.condition x role u) t) (sym e.0) (c.messages.invariant.calls role t k)

pub returns-in-Ok-false-clause-took : goal.returns-in-Ok-false-clause-took
returns-in-Ok-false-clause-took g c role t files k h =
    let e = c.in-Ok-false.ensures.none (ap Ok c.in-Ok-false.field-0-test) in
    took_same (λ x u. EndStands g.C.Carrier.stands g.C.Carrier.left g.C.Carrier.condition g.P.Post.stands g.P.Post.left g.P.Post.condition x role u) c.messages.end c.take_one.new.end t _ files c.messages.incoming c.take_one.new.incoming _ _ _ e.0 e.1 e.2 (c.messages.invariant.took role t files k h)

pub returns-in-Err-clause-calls : goal.returns-in-Err-clause-calls
returns-in-Err-clause-calls g c role t k =
    let b = c.messages.invariant.calls role t k in
    let n = c.in-Err.ensures.some role (with_takes t b.0) b.1 (err_not_false c.in-Err.fault) in
    hands_more (λ u. EndStands g.C.Carrier.stands g.C.Carrier.left g.C.Carrier.condition g.P.Post.stands g.P.Post.left g.P.Post.condition c.take_one.new.end role u) t b.0 n.0 n.2

pub returns-in-Err-clause-bad : goal.returns-in-Err-clause-bad
returns-in-Err-clause-bad g c bad role t files k h =
    let b = c.messages.invariant.took role t files k h in
    let n = c.in-Err.ensures.some role (with_takes t b.messages) b.calls (err_not_false c.in-Err.fault) in
    bad_more (λ u. EndStands g.C.Carrier.stands g.C.Carrier.left g.C.Carrier.condition g.P.Post.stands g.P.Post.left g.P.Post.condition c.take_one.new.end role u) t b.messages n.0 n.2 (n.5 (same_err _ _ bad) (handed (with_takes t b.messages)) b.later b.kept)

pub returns-in-Ok-false-clause-laws : goal.returns-in-Ok-false-clause-laws
returns-in-Ok-false-clause-laws g c = laws_then _ _ _ _ _ c.messages.invariant.laws c.take_one.ensures.laws

pub returns-in-Err-clause-laws : goal.returns-in-Err-clause-laws
returns-in-Err-clause-laws g c = laws_then _ _ _ _ _ c.messages.invariant.laws c.take_one.ensures.laws

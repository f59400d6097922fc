use Rattle.std.proofs.Common.{◌+◌, ◌<◌, [], sym, ap, ◌∙◌, subst, arith}
use Rattle.std.proofs.lemmas.List.Elements.{All-from_get_or}
use Rattle.mt_base.specs.Trace.{◌▷◌}
use Rattle.carrier.specs.Entries.{In}
use Rattle.udp_open.specs.OpeningView.{Follows}
use Rattle.udp_open.proofs.LinkSteps.{none_at}
use Rattle.lossy_mode.specs.LossyView.{Lossy, OpenLink, StandsThin}
use Rattle.lossy_mode.proofs.Steps.{Hearing, Taking, agreed_at, flagged, hears_link, opens, passes, takes_open}
use Rattle.lossy_mode.proofs.link.LossyCorePost.input.Goals as goal
use Rattle.lossy_mode.proofs.link.LossyCorePost.input.Goals.{in_default-via-in-Agreed+else-not-has_syn, in_default-via-in_default}

pub returns-in-Agreed-clause-trace : goal.returns-in-Agreed-clause-trace
returns-in-Agreed-clause-trace c t h =
    let i = c.self.inside in
    let j = c.self-in-Agreed.inside in
    let l : Lossy = record { opening = i.opening; role = i.role; link = i.link } in
    let now = subst (λ (l : Lossy). StandsThin l t) (sym c.self.view_is) h in
    let d = c.args.datagram.now in
    let took = c.take.result in
    let good = All-from_get_or (λ b. b < 256) d 0 (λ k within. omega (arith, c.type_inv.datagram k)) in
    let flag = sym c.has_syn.ensures ∙ c.if-not-has_syn.true in
    let a = agreed_at i.opening.agreement c.in-Agreed.version c.in-Agreed.peer_initial (sym c.end.ensures.value ∙ c.in-Agreed.is) in
    let settings = ap (λ (x : Lossy). (x.opening).settings) c.self-in-Agreed.view_is ∙ c.pass-in-Agreed.ensures.settings in
    let passed = c.pass-in-Agreed.ensures.follows t now.follows in
    let follows = subst (λ (x : Lossy). Follows x.opening (t ▷ In c.args.now [] passed.0)) (sym c.self-in-Agreed.view_is) passed.1 in
    let before = ap (λ (x : Lossy). x.link) c.self-in-Agreed.view_is ∙ c.pass-in-Agreed.ensures.link ∙ c.pass.ensures in
    let raw : Taking j.link c.take.new.self c.first_number.result d took = record {
      moment_is = ap (λ (x : OpenLink). x.moment) c.take.ensures.others;
      parts_is = ap (λ (x : OpenLink). x.parts) c.take.ensures.others;
      next_is = ap (λ (x : OpenLink). x.next) c.take.ensures.others;
      holds = c.take.ensures.holds;
      owes = c.take.ensures.owes;
      answers = c.take.ensures.answer;
    } in
    let number = c.first_number.ensures.value ∙ ap (λ p. p + 1) (sym a.2) in
    let taking = subst (λ (p : OpenLink). Taking p c.take.new.self ((a.0).peer_initial + 1) d took) before
    (subst (λ n. Taking j.link c.take.new.self n d took) number raw) in
    takes_open j.opening j.role l c.take.new.self t c.args.now d took a.0 settings now
    (passes j.opening i.opening t c.args.now d passed.0 took settings good flag now.follows follows)
    taking (sym now.follows.agreement_is ∙ a.1) flag

pub returns-in_default-clause-trace : goal.returns-in_default-clause-trace
returns-in_default-clause-trace c t h =
    let i = c.self.inside in
    let l : Lossy = record { opening = i.opening; role = i.role; link = i.link } in
    let now = subst (λ (l : Lossy). StandsThin l t) (sym c.self.view_is) h in
    let d = c.args.datagram.now in
    let good = All-from_get_or (λ b. b < 256) d 0 (λ k within. omega (arith, c.type_inv.datagram k)) in
    let raw : Hearing c.in_default.self c.hear.new.self c.args.now d c.hear.result = record {
      answer = c.hear.ensures.answer;
      follows = c.hear.ensures.follows;
      owing = c.hear.ensures.owes;
      settings = c.hear.ensures.settings;
      link = c.hear.ensures.link;
    } in
    let at = λ (x : Lossy). Hearing x c.hear.new.self c.args.now d c.hear.result in
    elim c.in_default.branch [
      | in_default-via-in-Agreed+else-not-has_syn w ↦
          hears_link l c.hear.new.self t c.args.now d c.hear.result now good
          (subst at (w.self-is ∙ ap (λ (k : OpenLink). record { opening = i.opening; role = i.role; link = k }) c.pass.ensures) raw)
          (flagged (sym w.has_syn.ensures ∙ w.if-not-has_syn.false))
      | in_default-via-in_default w ↦
          hears_link l c.hear.new.self t c.args.now d c.hear.result now good
          (subst at (w.self-is ∙ ap (λ (k : OpenLink). record { opening = i.opening; role = i.role; link = k }) c.pass.ensures) raw)
          (opens (sym now.follows.agreement_is ∙ none_at i.opening.agreement (sym c.end.ensures.value ∙ w.in_default.is)))
    ]

use Rattle.std.proofs.Common.{◌≡◌, ◌<◌, length, None, Some, IfErr, refl, sym, ap, subst, ◌∙◌, arith}
use Rattle.std.proofs.lemmas.List.Elements.{All-from_get_or}
use Rattle.std.proofs.lemmas.Result.{err_from_is_err_and}
use Rattle.mt_base.specs.Trace.{◌▷◌}
use Rattle.mt_endpoint.specs.Acts.{Sends}
use Rattle.mt_endpoint.specs.Moving.{outward}
use Rattle.end_calls.specs.Calls.{Own, acts}
use Rattle.end_calls.specs.Refusing.{why_not_sent}
use Rattle.endpoint.proofs.Inside.{inside}
use Rattle.endpoint.proofs.MessagesSent.{as_sent, sent, short_part, step_of}
use Rattle.endpoint.proofs.endpoint.Endpoint.send.Goals as goal

pub carry-requires-clause-message : goal.carry-requires-clause-message
carry-requires-clause-message g c =
    let old = c.self.invariant in
    let tells = (old.2).tells in
    let s = c.in_ok-path.ensures.sent (acts old.0 old.1) tells.gone (tells.reads).stands in
    (step_of c.send.new.self c.send.new.self.role (acts old.0 old.1) c.args.id c.args.message.now _ refl s.1).1

pub carry-requires-clause-part : goal.carry-requires-clause-part
carry-requires-clause-part g c is =
    let old = c.self.invariant in
    let tells = (old.2).tells in
    let u = acts old.0 old.1 in
    let s = c.in_ok-path.ensures.sent u tells.gone (tells.reads).stands in
    short_part (outward c.args.id u) c.args.message.now (step_of c.send.new.self c.send.new.self.role u c.args.id c.args.message.now _ refl s.1).2 (sym s.0 ∙ is)

pub returns-clause-allowed : goal.returns-clause-allowed
returns-clause-allowed g c role t k =
    let e = inside _ _ c.self.view_is k in
    as_sent (λ why. why ≡ None) g.C.Carrier.load g.P.Post.load _ _ role t c.args.id c.args.message.now c.load_of-load.result c.parts_of-parts.result c.self.view_is e.tells c.load_of-load.ensures c.parts_of-parts.ensures
    (c.in_ok-path.ensures.allowed (acts role t) e.tells.gone (e.tells.reads).stands)

pub returns-in_err-path-clause-refused : goal.returns-in_err-path-clause-refused
returns-in_err-path-clause-refused g c role t k =
    let e = inside _ _ c.self.view_is k in
    let same = err_from_is_err_and c.from_residual.result c.from_residual.ensures.1 in
    as_sent (λ cause. IfErr c.from_residual.result (λ why. cause ≡ Some why)) g.C.Carrier.load g.P.Post.load _ _ role t c.args.id c.args.message.now c.load_of-load.result c.parts_of-parts.result c.self.view_is e.tells c.load_of-load.ensures c.parts_of-parts.ensures
    (subst (λ r. IfErr r (λ why. why_not_sent ((c.self.inside.reader).session).broken ((c.self.inside.reader).session).role (acts role t) (record { unsent = length (((c.self.inside.reader).session).outgoing).main; reliable = c.load_of-load.result; lossy = c.parts_of-parts.result }) c.args.id c.args.message.now ≡ Some why)) (sym same.1)
    (c.in_err-path.ensures.refused (acts role t) e.tells.gone (e.tells.reads).stands ∙ ap Some (sym same.2)))

pub invariant_of-self-2 : goal.invariant_of-self-2
invariant_of-self-2 g c =
    let old = c.self.invariant in
    let e = old.2 in
    let u = acts old.0 old.1 in
    let st = (e.tells.reads).stands in
    let h = c.in_ok-path.ensures in (
      old.0,
      old.1 ▷ Own (Sends c.args.id c.args.message.now),
      sent _ _ _ g.C.Carrier.load _ _ _ g.P.Post.load c.self.inside.reader c.self.inside.postings c.self.inside.reliable c.carry.new.reliable c.self.inside.lossy c.carry.new.lossy old.0 old.1 c.args.id c.args.message.now c.load_of-load.result c.parts_of-parts.result c.in_ok-path.path c.send.new.self e
          c.load_of-load.ensures c.parts_of-parts.ensures (All-from_get_or (λ b. b < 256) c.args.message.now 0 (λ i within. omega (arith, c.type_inv.message i))) (h.sent u e.tells.gone st) (h.allowed u e.tells.gone st) h.same.0 h.same.1 c.carry.ensures.reliable c.carry.ensures.lossy,
    )

pub returns-clause-sent : goal.returns-clause-sent
returns-clause-sent g c role t k =
    let e = inside _ _ c.self.view_is k in
    let u = acts role t in
    let st = (e.tells.reads).stands in
    let h = c.in_ok-path.ensures in
    sent _ _ _ g.C.Carrier.load _ _ _ g.P.Post.load c.self.inside.reader c.self.inside.postings c.self.inside.reliable c.carry.new.reliable c.self.inside.lossy c.carry.new.lossy role t c.args.id c.args.message.now c.load_of-load.result c.parts_of-parts.result c.in_ok-path.path c.send.new.self e
    c.load_of-load.ensures c.parts_of-parts.ensures (All-from_get_or (λ b. b < 256) c.args.message.now 0 (λ i within. omega (arith, c.type_inv.message i))) (h.sent u e.tells.gone st) (h.allowed u e.tells.gone st) h.same.0 h.same.1 c.carry.ensures.reliable c.carry.ensures.lossy

use Rattle.std.proofs.Common.{inl, inr, sym, subst, ◌∙◌, arith}
use Rattle.endpoint.proofs.KeepsLaws.{law_then, same_law}
use Rattle.endpoint.proofs.PartsOn.{Going, ends_empty, ends_stopped, going_first, some_on, turns}
use Rattle.endpoint.proofs.parts.take_parts.Goals as goal

pub loop-has_part-init : goal.loop-has_part-init
loop-has_part-init g c = record {
  lawful = c.requires.lawful;
  room = inl (omega arith);
  law = same_law g.P.Post.law c.args.link.now;
  going = λ unhanded sent role outset p m way at. going_first _ _ _ g.P.Post.load unhanded sent role outset p m c.args.reader.now c.args.link.now way;
}

pub loop-has_part-preserved : goal.loop-has_part-preserved
loop-has_part-preserved g c =
    let before = c.loop-has_part.invariant in
    let s = c.is_link_stopped.ensures in
    let goes = c.if-not-is_link_stopped.true in
    let did = c.take_part-has_part.ensures in
    let r = c.loop-has_part.reader in
    let l = c.loop-has_part.link in
    let now = c.take_part-has_part.new.reader in
    let d = c.take_part-has_part.new.link in
    let has_part = c.take_part-has_part.result in record {
      lawful = some_on g.P.Post.stands g.P.Post.left g.P.Post.condition g.P.Post.load r now l d has_part before.lawful did.taken did.none;
      room = inr (omega (arith, s.room goes, did.main));
      law = law_then g.P.Post.law c.args.link.now l d before.law did.law;
      going = λ unhanded sent role outset p m way at.
          turns g.P.Post.stands g.P.Post.left g.P.Post.condition g.P.Post.load c.args.link.now unhanded sent role outset p m r now l d c.args.load has_part
          (subst (λ b. Going g.P.Post.stands g.P.Post.left g.P.Post.condition g.P.Post.load c.args.link.now unhanded sent role outset p m b r l) c.loop-has_part-test.true (before.going unhanded sent role outset p m way at)) at (s.whole goes)
          (λ q gone st is_at. sym goes ∙ s.stops role outset q gone st is_at) (λ rest q k on. did.taken rest sent role q k on) did.none did.stays;
    }

pub returns-else-not-is_link_stopped-clause-handed : goal.returns-else-not-is_link_stopped-clause-handed
returns-else-not-is_link_stopped-clause-handed g c unhanded sent role outset p m way at =
    let r = c.loop-has_part.reader in
    let l = c.loop-has_part.link in
    ends_stopped g.P.Post.stands g.P.Post.left g.P.Post.condition g.P.Post.load c.args.link.now unhanded sent role outset p m r l c.args.load
    (subst (λ b. Going g.P.Post.stands g.P.Post.left g.P.Post.condition g.P.Post.load c.args.link.now unhanded sent role outset p m b r l) c.loop-has_part-test.true (c.loop-has_part.invariant.going unhanded sent role outset p m way at)) at
    (λ q gone st is_at. sym c.if-not-is_link_stopped.false ∙ c.is_link_stopped.ensures.stops role outset q gone st is_at)

pub returns-after-loop-has_part-clause-handed : goal.returns-after-loop-has_part-clause-handed
returns-after-loop-has_part-clause-handed g c unhanded sent role outset p m way at =
    let r = c.loop-has_part.reader in
    let l = c.loop-has_part.link in
    ends_empty g.P.Post.stands g.P.Post.left g.P.Post.condition g.P.Post.load c.args.link.now unhanded sent role outset p m r l
    (subst (λ b. Going g.P.Post.stands g.P.Post.left g.P.Post.condition g.P.Post.load c.args.link.now unhanded sent role outset p m b r l) c.loop-has_part-test.false (c.loop-has_part.invariant.going unhanded sent role outset p m way at))

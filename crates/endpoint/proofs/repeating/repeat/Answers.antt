use Rattle.std.proofs.Common.{length, sym, ap, subst, ◌∙◌, arith}
use Rattle.mt_endpoint.specs.Acts.{Repeats}
use Rattle.end_calls.specs.Calls.{steps}
use Rattle.endpoint.specs.Attached.{posts_bytes}
use Rattle.endpoint.specs.Posted.{IsReady, Posts}
use Rattle.endpoint.proofs.Repeated.{again_posts, full_posts, none_of}
use Rattle.endpoint.proofs.repeating.repeat.Goals as goal

pub returns-then-is_full-clause-posted : goal.returns-then-is_full-clause-posted
returns-then-is_full-clause-posted g c role p gone i ready =
    let s = c.args.session.now in
    let l = c.args.link.now in
    let r = c.repeat.ensures in
    let whole = sym c.broken.ensures ∙ none_of c.broken.result (sym c.is_some.ensures ∙ c.if-is_some.false) in
    subst (λ b. Posts g.P.Post.stands role p (steps role (Repeats b) p) gone c.repeat.new.self l l) (sym c.if-is_full.true) (full_posts g.P.Post.stands role p gone s c.repeat.new.self l i c.requires.asking whole (r.stands p.acts gone i.stands) r.same.0 r.same.1)

pub post_waiting-requires : goal.post_waiting-requires
post_waiting-requires g c =
    let q = c.requires.paused in
    omega (arith, ap length c.waiting.ensures, c.ask_again.ensures.written q.1.acts q.2 q.3.stands)

pub returns-clause-posted : goal.returns-clause-posted
returns-clause-posted g c role p gone i ready =
    let s = c.args.session.now in
    let put = c.ask_again.new.session in
    let now = c.given.new.self in
    let old = c.args.link.now in
    let new = c.post_waiting.new.link in
    let r = c.ask_again.ensures in
    let whole = sym c.broken.ensures ∙ none_of c.broken.result (sym c.is_some.ensures ∙ c.if-is_some.false) in
    subst (λ b. Posts g.P.Post.stands role p (steps role (Repeats b) p) gone now old new) (sym c.if-is_full.false)
    (again_posts g.P.Post.stands g.P.Post.condition g.P.Post.load role p gone s put now old new i c.requires.asking whole (subst (λ b. IsReady g.P.Post.condition g.P.Post.load b p old) c.if-is_full.false ready) r.stands r.same.0 r.same.1 c.given.ensures.stands c.given.ensures.left
    (λ u h open_now room. subst (λ bytes. g.P.Post.stands new (posts_bytes bytes u)) c.waiting.ensures (c.post_waiting.ensures.trace u h open_now room)))

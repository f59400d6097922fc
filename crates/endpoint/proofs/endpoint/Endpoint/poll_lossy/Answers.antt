use Rattle.std.proofs.Common.{option_map, refl, sym, take, ap}
use Rattle.mt_base.specs.declared.kinds.Kind.TheVariants.{Lossy}
use Rattle.mt_base.specs.Trace.{◌▷◌}
use Rattle.end_calls.specs.Calls.{WireOut, acts, past}
use Rattle.endpoint.specs.Kept.{Kept}
use Rattle.endpoint.specs.Posted.{is_full_in}
use Rattle.endpoint.proofs.Asking.{asking}
use Rattle.endpoint.proofs.Inside.{inside}
use Rattle.endpoint.proofs.PolledLossy.{attached_prior, first, lossy_by, prior, with_lossy}
use Rattle.endpoint.proofs.PolledReliable.{idle}
use Rattle.endpoint.proofs.endpoint.Endpoint.poll_lossy.Goals as goal

pub before_poll-requires-clause-asking : goal.before_poll-requires-clause-asking
before_poll-requires-clause-asking g c holds =
    let old = c.self.invariant in
    let e = with_lossy _ _ _ _ _ _ c.self.inside.reader c.self.inside.postings c.self.inside.reliable c.self.inside.lossy c.in-Some.link old.0 old.1 old.2 c.in-Some.is in
    asking c.self.inside.reader c.self.inside.postings old.0 old.1 c.args.now c.is_due-is_due.result e.tells e.has_lossy.attached holds (c.is_due-is_due.ensures (acts old.0 old.1) e.tells.gone e.tells.reads.stands)

pub before_poll-requires-clause-paused : goal.before_poll-requires-clause-paused
before_poll-requires-clause-paused g c =
    let old = c.self.invariant in
    (old.0, past old.0 old.1, old.2.tells.gone, idle c.self.inside.reader c.self.inside.postings old.0 old.1 old.2.tells)

pub silence_closed-requires-clause-attached : goal.silence_closed-requires-clause-attached
silence_closed-requires-clause-attached g c =
    let old = c.self.invariant in
    let r = c.self.inside.reader in
    let link = c.in-Some.link in
    let full = c.is_full-is_full.result in
    let e = with_lossy _ _ _ _ _ _ r c.self.inside.postings c.self.inside.reliable c.self.inside.lossy link old.0 old.1 old.2 c.in-Some.is in
    let due_is = c.is_due-is_due.ensures (acts old.0 old.1) e.tells.gone e.tells.reads.stands in
    let posts = first _ _ _ _ _ _ g.P.Post.load r c.self.inside.postings c.self.inside.reliable link c.before_poll.new.link old.0 old.1 c.args.now c.is_due-is_due.result full c.before_poll.new.session e due_is c.is_full-is_full.ensures c.before_poll.ensures.posted in
    attached_prior g.P.Post.stands r c.self.inside.postings old.0 old.1 c.args.now full e.tells.gone c.before_poll.new.session link c.before_poll.new.link (idle r c.self.inside.postings old.0 old.1 e.tells) e.has_lossy.attached posts

pub silence_closed-requires-clause-paused : goal.silence_closed-requires-clause-paused
silence_closed-requires-clause-paused g c =
    let old = c.self.invariant in
    let r = c.self.inside.reader in
    let link = c.in-Some.link in
    let full = c.is_full-is_full.result in
    let e = with_lossy _ _ _ _ _ _ r c.self.inside.postings c.self.inside.reliable c.self.inside.lossy link old.0 old.1 old.2 c.in-Some.is in
    let due_is = c.is_due-is_due.ensures (acts old.0 old.1) e.tells.gone e.tells.reads.stands in
    let posts = first _ _ _ _ _ _ g.P.Post.load r c.self.inside.postings c.self.inside.reliable link c.before_poll.new.link old.0 old.1 c.args.now c.is_due-is_due.result full c.before_poll.new.session e due_is c.is_full-is_full.ensures c.before_poll.ensures.posted in
    (old.0, prior old.0 old.1 c.args.now full, posts.after, posts.idle)

pub invariant_of-self-2 : goal.invariant_of-self-2
invariant_of-self-2 g c =
    let old = c.self.invariant in
    let sent = c.poll-sent.ensures in
    let link = c.in-Some.link in
    let due_is = c.is_due-is_due.ensures (acts old.0 old.1) old.2.tells.gone old.2.tells.reads.stands in (
      old.0,
      old.1 ▷ WireOut Lossy c.args.now (is_full_in g.P.Post.load c.self.inside.lossy) (option_map (λ n. take n c.poll-sent.new.out) c.poll-sent.result) (g.P.Post.condition c.poll-sent.new.self),
      lossy_by _ _ _ _ _ _ g.P.Post.load c.self.inside.reader c.self.inside.postings c.poll_at.new.self c.self.inside.reliable c.self.inside.lossy c.self.inside.lossy link c.before_poll.new.link c.poll-sent.new.self old.0 old.1 c.args.now c.is_due-is_due.result c.is_full-is_full.result _ c.state-state.result
          c.before_poll.new.session c.silence_closed.new.session old.2 refl c.in-Some.is due_is c.is_full-is_full.ensures c.before_poll.ensures.posted c.before_poll.ensures.left sent.trace sent.left c.state-state.ensures c.silence_closed.ensures c.poll_at.ensures,
    )

pub returns-clause-polled : goal.returns-clause-polled
returns-clause-polled g c role t k =
    let e = inside _ _ c.self.view_is k in
    let sent = c.poll-sent.ensures in
    let link = c.in-Some.link in
    let due_is = c.is_due-is_due.ensures (acts role t) e.tells.gone e.tells.reads.stands in
    lossy_by _ _ _ _ _ _ g.P.Post.load c.self.inside.reader c.self.inside.postings c.poll_at.new.self c.self.inside.reliable c.self.inside.lossy c.args.self.now.lossy link c.before_poll.new.link c.poll-sent.new.self role t c.args.now c.is_due-is_due.result c.is_full-is_full.result _ c.state-state.result
    c.before_poll.new.session c.silence_closed.new.session e (ap (λ (k : Kept _ _). k.lossy) (sym c.self.view_is)) c.in-Some.is due_is c.is_full-is_full.ensures c.before_poll.ensures.posted c.before_poll.ensures.left sent.trace sent.left c.state-state.ensures c.silence_closed.ensures c.poll_at.ensures

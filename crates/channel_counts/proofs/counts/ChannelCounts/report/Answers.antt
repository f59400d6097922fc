use Rattle.std.proofs.Common.{◌≡◌, ◌≤◌, ◌++◌, List, sym, subst, ap, ◌∙◌, length, arith, take_all}
use native.Mathlib.Numerals.{unary_clauses}
use Rattle.channel_counts.specs.declared.channel.Channel.{Channel}
use Rattle.channel_counts.specs.Counting.{AreKept, IsKept}
use Rattle.channel_counts.specs.Lines.{channel_lines}
use Rattle.channel_counts.specs.Told.{Told}
use Rattle.channel_counts.proofs.Keeping.{as_many, lines_more}
use Rattle.channel_counts.proofs.counts.ChannelCounts.report.Goals as goal

pub loop-channel-preserved : goal.loop-channel-preserved
loop-channel-preserved c told h =
    simp unary_clauses (lines_more c.loop-channel.channel-index c.deref-channel-items.result.now told c.channel-item.result c.loop-channel-test.true
    (subst (λ (items : List Channel). AreKept items told) (sym c.self.view_is ∙ sym c.deref-channel-items.ensures.value) h)
    c.loop-channel.report c.report.new.report (λ t is. c.in_ok-report.ensures t (subst (λ (x : Channel). IsKept x t) (sym c.channel-item.is) is)) c.args.report.now (c.loop-channel.invariant told h))

pub returns : goal.returns
returns c told h =
    let many : length c.args.self.now ≡ length told = as_many c.args.self.now told h in
    let lens : length c.deref-channel-items.result.now ≡ length c.args.self.now = ap length (c.deref-channel-items.ensures.value ∙ c.self.view_is) in
    let all : length told ≤ c.loop-channel.channel-index = omega arith in
    c.loop-channel.invariant told h ∙ ap (λ (ts : List Told). c.args.report.now ++ channel_lines ts) (take_all c.loop-channel.channel-index told all)

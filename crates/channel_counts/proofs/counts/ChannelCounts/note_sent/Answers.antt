use Rattle.std.proofs.Common.{◌≡◌, ◌<◌, List, ap, sym, subst, length, map, arith, ◌∙◌, ℕ}
use native.Mathlib.Numerals.{unary_clauses}
use Rattle.channel_counts.specs.declared.channel.Channel.{Channel}
use Rattle.channel_counts.specs.Counting.{AreKept}
use Rattle.channel_counts.specs.Told.{Told, noted, with_sent}
use Rattle.channel_counts.proofs.Keeping.{as_many, in_place, step, up_to, up_to_all}
use Rattle.channel_counts.proofs.counts.ChannelCounts.note_sent.Goals as goal

pub loop-channel-init : goal.loop-channel-init
loop-channel-init c told h = subst (λ (items : List Channel). AreKept items told) (sym c.self.view_is ∙ sym c.deref_mut-channel-items.ensures.value) h

pub loop-channel-preserved : goal.loop-channel-preserved
loop-channel-preserved c told h =
    let below : c.loop-channel.channel-index < length c.loop-channel.channel-items = omega arith in
    simp unary_clauses (step (noted c.args.side c.args.id (with_sent c.args.message.now)) c.loop-channel.channel-index c.loop-channel.channel-items told c.channel-item.result c.note_sent.new.self
    below (c.loop-channel.invariant told h) c.note_sent.ensures)

pub returns : goal.returns
returns c told h =
    let change : Told → Told = noted c.args.side c.args.id (with_sent c.args.message.now) in
    let many : length c.args.self.now ≡ length told = as_many c.args.self.now told h in
    let lens : length c.deref_mut-channel-items.result.now ≡ length c.args.self.now = ap length (c.deref_mut-channel-items.ensures.value ∙ c.self.view_is) in
    let index_is : c.loop-channel.channel-index ≡ length told = omega arith in
    let same : length c.loop-channel.channel-items ≡ length c.self.inside.channels.items =
    c.loop-channel.auto.channel-items ∙ ap length c.deref_mut-channel-items.ensures.value in
    subst (λ (items : List Channel). AreKept items (map change told))
    (sym (in_place c.self.inside.channels.len c.loop-channel.channel-items c.self.inside.channels.items same c.self.inside.channels.ok.0))
    (subst (λ (ts : List Told). AreKept c.loop-channel.channel-items ts) (ap (λ (n : ℕ). up_to change n told) index_is ∙ up_to_all change told)
    (c.loop-channel.invariant told h))

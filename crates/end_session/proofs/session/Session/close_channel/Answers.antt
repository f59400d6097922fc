use Rattle.std.proofs.Common.{◌≡◌, ℕ, List, length, None, inl, sym, ap, subst, ◌∙◌}
use Rattle.mt_base.specs.Trace.{Trace, ◌▷◌}
use Rattle.mt_base.specs.declared.kinds.Kind.TheVariants.{Reliable}
use Rattle.dvc_channels.specs.Acts.{TakesData}
use Rattle.mt_endpoint.specs.Acts.{Act, Closes}
use Rattle.mt_endpoint.specs.Channels.{is_open_in, table}
use Rattle.mt_endpoint.specs.Moving.{outward}
use Rattle.end_session.specs.Closing.{before_closing, closing_path, loads_of, written_on}
use Rattle.end_session.specs.Outgoing.{waiting_for}
use Rattle.end_session.specs.Standing.{Gone, Stands}
use Rattle.end_session.specs.Store.{Store}
use Rattle.end_session.specs.contracts.session.Session.{the_view}
use Rattle.end_session.proofs.ChannelsClosed.{MayClose, close_by_room, closes, has_room, is_told, may_close}
use Rattle.end_session.proofs.ChannelsOpened.{first_is}
use Rattle.end_session.proofs.session.Session.close_channel.Goals as goal

-- what holds inside, where there was no cause before the room
may : (inside s : Store) (t : Trace Act) (id : ℕ) → inside ≡ s → before_closing s.broken s.role t id ≡ None → MayClose inside.role t id
may inside s t id is none = subst (λ (s : Store). MayClose s.role t id) (sym is) (may_close s.broken s.role t id none)

pub returns-in-Some-clause-refused : goal.returns-in-Some-clause-refused
returns-in-Some-clause-refused c t gone parts st =
    first_is (before_closing c.args.self.now.broken c.args.self.now.role t c.args.id) _ c.in-Some.why (sym (c.close_refusal.ensures t gone st) ∙ c.in-Some.is)

pub returns-in-Some-close_room-clause-refused : goal.returns-in-Some-close_room-clause-refused
returns-in-Some-close_room-clause-refused c t gone parts st =
    close_by_room c.args.self.now.broken c.args.self.now.role t (loads_of c.args.self.now.outgoing c.args.load parts) c.args.id c.close_path-path.result c.len.result (sym (c.close_refusal.ensures t gone st) ∙ c.in_default.is)
    (c.close_path-path.ensures ∙ ap closing_path (c.outward.ensures t gone st)) (c.len.ensures.count ∙ ap (λ (b : List ℕ). length b) c.of-pdu.ensures)
    ∙ sym (c.close_room.ensures t gone parts st) ∙ c.in-Some-close_room.is

pub end_channel-requires : goal.end_channel-requires
end_channel-requires c =
    let w = c.self.invariant in
    let st = subst (λ s. Stands s w.0.0 w.0.1) c.self.view_is w.0.2 in
    let m = may (the_view c.self.inside) c.args.self.now w.0.0 c.args.id c.self.view_is (sym (c.close_refusal.ensures w.0.0 w.0.1 st) ∙ c.in_default.is) in
    record {
      takes = (table c.self.inside.role w.0.0, (w.0.2).knows.channels_stand, subst TakesData (sym m.open_is) tt);
      place = inl (is_told c.self.inside.role w.0.0 c.args.id c.self.inside.paths.channels (((w.0.2).knows).words_are).channels_are (ap is_open_in m.open_is));
    }

pub write_on-requires-clause-room : goal.write_on-requires-clause-room
write_on-requires-clause-room c =
    let w = c.self.invariant in
    let st = subst (λ s. Stands s w.0.0 w.0.1) c.self.view_is w.0.2 in
    has_room w.0.0 (loads_of c.args.self.now.outgoing c.args.load 0) c.close_path-path.result (outward c.args.id w.0.0) c.self.inside.outgoing c.len.result (length c.bytes.result.now)
    (sym (c.close_room.ensures w.0.0 w.0.1 0 st) ∙ c.in_default-close_room.is) (c.close_path-path.ensures ∙ ap closing_path (c.outward.ensures w.0.0 w.0.1 st))
    (c.len.ensures.count ∙ sym (ap (λ (b : List ℕ). length b) c.bytes.ensures.bytes)) c.bytes.ensures.bounds.1 (sym (ap (λ (s : Store). length (s.outgoing).main) c.self.view_is))
    (ap (λ (s : Store). waiting_for Reliable s.outgoing) c.self.view_is ∙ c.requires)

-- the end that it leaves, which stands for one act more
stands : (c : goal.After-write_on) (t : Trace Act) (gone : Gone) → Stands c.args.self.now t gone
    → Stands (record (the_view c.self.inside) { channels = c.end_channel.new.channels; paths = c.end_channel.new.paths; held_reliable = c.end_channel.new.reliable; held_lossy = c.end_channel.new.lossy; outgoing = c.write_on.new.outgoing }) (t ▷ Closes c.args.id) gone
stands c t gone st =
    let here = subst (λ s. Stands s t gone) (sym c.self.view_is) st in
    let m = may (the_view c.self.inside) c.args.self.now t c.args.id c.self.view_is (sym (c.close_refusal.ensures t gone st) ∙ c.in_default.is) in
    let u = table c.self.inside.role t in
    closes (the_view c.self.inside) t gone c.args.id c.end_channel.new.channels c.end_channel.new.paths c.end_channel.new.reliable c.end_channel.new.lossy c.write_on.new.outgoing here m
    (c.end_channel.ensures.ended u (here.knows).channels_stand) c.end_channel.ensures.paths c.end_channel.ensures.reliable c.end_channel.ensures.lossy
    (c.write_on.ensures ∙ ap (λ p. written_on p c.bytes.result.now c.self.inside.outgoing) (c.close_path-path.ensures ∙ ap closing_path (c.outward.ensures t gone st))
    ∙ ap (λ b. written_on (closing_path (outward c.args.id t)) b c.self.inside.outgoing) (c.bytes.ensures.bytes ∙ c.of-pdu.ensures))

pub invariant_of-self : goal.invariant_of-self
invariant_of-self c =
    let w = c.self.invariant in
    ((w.0.0 ▷ Closes c.args.id, w.0.1, stands c w.0.0 w.0.1 (subst (λ s. Stands s w.0.0 w.0.1) c.self.view_is w.0.2)), w.1)

pub returns-clause-closed : goal.returns-clause-closed
returns-clause-closed c t gone st = stands c t gone st

pub returns-clause-allowed : goal.returns-clause-allowed
returns-clause-allowed c t gone parts st =
    close_by_room c.args.self.now.broken c.args.self.now.role t (loads_of c.args.self.now.outgoing c.args.load parts) c.args.id c.close_path-path.result c.len.result (sym (c.close_refusal.ensures t gone st) ∙ c.in_default.is)
    (c.close_path-path.ensures ∙ ap closing_path (c.outward.ensures t gone st)) (c.len.ensures.count ∙ ap (λ (b : List ℕ). length b) c.of-pdu.ensures)
    ∙ sym (c.close_room.ensures t gone parts st) ∙ c.in_default-close_room.is

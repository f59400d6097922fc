use Rattle.std.proofs.Common.{◌++◌, length, sym, ap, subst, ◌∙◌, arith}
use Rattle.mt_base.specs.Trace.{Trace, ◌▷◌}
use Rattle.dvc_channels.specs.Fragments.{fragments_of}
use Rattle.mt_endpoint.specs.Acts.{Act, Sends}
use Rattle.mt_endpoint.specs.Moving.{outward}
use Rattle.end_calls.specs.Refusing.{Loads}
use Rattle.end_session.specs.MessageGiven.{frames_of}
use Rattle.end_session.specs.Standing.{Gone, Stands}
use Rattle.end_session.specs.Store.{Store}
use Rattle.end_session.specs.contracts.session.Session.{the_view}
use Rattle.end_session.proofs.MessagesSent.{given, may_send, none_waits, path_found, room_said, said}
use Rattle.end_session.proofs.session.Session.send.Goals as goal

pub returns-in-Some-clause-refused : goal.returns-in-Some-clause-refused
returns-in-Some-clause-refused c t gone st = sym (c.send_refusal.ensures t gone st) ∙ c.in-Some.is

pub say_message-requires-clause-size : goal.say_message-requires-clause-size
say_message-requires-clause-size c =
    let w = c.self.invariant in
    let s = c.args.self.now in
    let st = subst (λ s. Stands s w.0.0 w.0.1) c.self.view_is w.0.2 in
    let loads : Loads = record { unsent = length (s.outgoing).main; reliable = c.args.load; lossy = c.args.parts } in
    (may_send s.broken s.role w.0.0 loads c.args.id c.args.message.now (sym (c.send_refusal.ensures w.0.0 w.0.1 st) ∙ c.in_default.is)).short

pub say_message-requires-clause-room : goal.say_message-requires-clause-room
say_message-requires-clause-room c =
    let w = c.self.invariant in
    let s = c.args.self.now in
    let st = subst (λ s. Stands s w.0.0 w.0.1) c.self.view_is w.0.2 in
    let loads : Loads = record { unsent = length (s.outgoing).main; reliable = c.args.load; lossy = c.args.parts } in
    let m = may_send s.broken s.role w.0.0 loads c.args.id c.args.message.now (sym (c.send_refusal.ensures w.0.0 w.0.1 st) ∙ c.in_default.is) in
    let path = path_found s w.0.0 w.0.1 c.args.id c.self.inside.paths c.outward.result st (ap (λ (s : Store). s.paths) c.self.view_is) c.outward.ensures ∙ c.in-Main.is in
    omega (
      arith,
      room_said (length (s.outgoing).main) c.args.load c.args.parts (outward c.args.id w.0.0) (fragments_of c.args.id c.args.message.now) path m.room,
      ap (λ (s : Store). length (s.outgoing).main) c.self.view_is,
    )

-- the end that it leaves where the path is the main stream
stands : (c : goal.After-say_message) (t : Trace Act) (gone : Gone) → Stands c.args.self.now t gone → Stands (record (the_view c.self.inside) { outgoing = c.say_message.new.outgoing }) (t ▷ Sends c.args.id c.args.message.now) gone
stands c t gone st =
    let s = c.args.self.now in
    let pdus = fragments_of c.args.id c.args.message.now in
    let loads : Loads = record { unsent = length (s.outgoing).main; reliable = c.args.load; lossy = c.args.parts } in
    let m = may_send s.broken s.role t loads c.args.id c.args.message.now (sym (c.send_refusal.ensures t gone st) ∙ c.in_default.is) in
    let path = path_found s t gone c.args.id c.self.inside.paths c.outward.result st (ap (λ (s : Store). s.paths) c.self.view_is) c.outward.ensures ∙ c.in-Main.is in
    let is = c.say_message.ensures ∙ ap (λ (s : Store). record s.outgoing { main = (s.outgoing).main ++ frames_of pdus }) c.self.view_is in
    subst (λ (s : Store). Stands (record s { outgoing = c.say_message.new.outgoing }) (t ▷ Sends c.args.id c.args.message.now) gone) (sym c.self.view_is)
    (said s t gone loads c.args.id c.args.message.now c.say_message.new.outgoing st m path is)

pub invariant_of-self : goal.invariant_of-self
invariant_of-self c =
    let w = c.self.invariant in
    ((w.0.0 ▷ Sends c.args.id c.args.message.now, w.0.1, stands c w.0.0 w.0.1 (subst (λ s. Stands s w.0.0 w.0.1) c.self.view_is w.0.2)), w.1)

pub returns-in-Main-clause-sent : goal.returns-in-Main-clause-sent
returns-in-Main-clause-sent c t gone st =
    (sym (path_found c.args.self.now t gone c.args.id c.self.inside.paths c.outward.result st (ap (λ (s : Store). s.paths) c.self.view_is) c.outward.ensures ∙ c.in-Main.is), stands c t gone st)

pub returns-in-Main-clause-allowed : goal.returns-in-Main-clause-allowed
returns-in-Main-clause-allowed c t gone st = sym (c.send_refusal.ensures t gone st) ∙ c.in_default.is

pub returns-in-Tunnel-clause-sent : goal.returns-in-Tunnel-clause-sent
returns-in-Tunnel-clause-sent c t gone st =
    let s = c.args.self.now in
    let loads : Loads = record { unsent = length (s.outgoing).main; reliable = c.args.load; lossy = c.args.parts } in
    let m = may_send s.broken s.role t loads c.args.id c.args.message.now (sym (c.send_refusal.ensures t gone st) ∙ c.in_default.is) in
    let path = path_found s t gone c.args.id c.self.inside.paths c.outward.result st (ap (λ (s : Store). s.paths) c.self.view_is) c.outward.ensures ∙ c.in-Tunnel.is in
    (sym path, given s t gone loads c.args.id c.args.message.now c.in-Tunnel.kind st m path (none_waits c.in-Tunnel.kind s.outgoing c.requires.waits))

pub returns-in-Tunnel-clause-allowed : goal.returns-in-Tunnel-clause-allowed
returns-in-Tunnel-clause-allowed c t gone st = sym (c.send_refusal.ensures t gone st) ∙ c.in_default.is

use Rattle.std.proofs.Common.{◌≡◌, ℕ, ◌+◌, List, length, None, Some, sym, ap, subst, ◌∙◌, arith}
use Rattle.mt_base.specs.Trace.{Trace, ◌▷◌}
use Rattle.soft_sync.specs.Words.{why_not}
use Rattle.mt_endpoint.specs.Acts.{Act, Syncs}
use Rattle.end_calls.specs.declared.refusal.MoveRefusal.TheVariants as move
use Rattle.end_calls.specs.Refusing.{main_limit, passes, when}
use Rattle.end_session.specs.Standing.{Gone, Stands}
use Rattle.end_session.specs.Store.{Store}
use Rattle.end_session.specs.contracts.session.Session.{the_view}
use Rattle.end_session.proofs.ChannelsMoved.{moved, none_refuses, refused_before, request_fits, why_by_room}
use Rattle.end_session.proofs.ChannelsOpened.{fits_cause, full_cause, limit_within, room_for}
use Rattle.end_session.proofs.session.Session.soft_sync.Goals as goal

pub returns-in-Some-clause-refused : goal.returns-in-Some-clause-refused
returns-in-Some-clause-refused c t gone st =
    refused_before c.args.self.now.broken t (length ((c.args.self.now).outgoing).main) c.args.reliable.now c.args.lossy.now c.move_refusal.result c.in-Some.why (c.move_refusal.ensures t gone st) c.in-Some.is

pub of_sync-pdu-requires : goal.of_sync-pdu-requires
of_sync-pdu-requires c =
    let w = c.self.invariant in
    let s = c.args.self.now in
    let st = subst (λ s. Stands s w.0.0 w.0.1) c.self.view_is w.0.2 in
    let none = none_refuses s w.0.0 w.0.1 c.args.reliable.now c.args.lossy.now c.move_refusal.result c.requires st (c.move_refusal.ensures w.0.0 w.0.1 st) c.in_default.is in
    request_fits s w.0.0 w.0.1 c.args.reliable.now c.args.lossy.now c.requires st none (λ i. omega (arith, c.type_inv.reliable i)) (λ i. omega (arith, c.type_inv.lossy i))

pub returns-in-Some-full_main-clause-refused : goal.returns-in-Some-full_main-clause-refused
returns-in-Some-full_main-clause-refused c t gone st =
    let queued = length ((c.args.self.now).outgoing).main in
    let limit = main_limit t in
    let found = sym c.in-Some-full_main.is ∙ c.full_main.ensures t gone st ∙ ap (λ n. when (passes queued (n + 3) limit) limit) c.len.ensures.count in
    why_by_room c.args.self.now.broken t queued c.args.reliable.now c.args.lossy.now c.of_sync-pdu.result c.move_refusal.result (c.move_refusal.ensures t gone st) c.in_default.is c.of_sync-pdu.ensures
    ∙ full_cause (move.QueueFull queued) (passes queued (length c.of_sync-pdu.result + 3) limit) limit c.in-Some-full_main.limit found
    ∙ ap (λ n. Some (move.QueueFull n c.in-Some-full_main.limit)) (sym (c.main_len-queued.ensures.count ∙ ap (λ (s : Store). length (s.outgoing).main) c.self.view_is))

pub say-requires-clause-room : goal.say-requires-clause-room
say-requires-clause-room c =
    let w = c.self.invariant in
    let st = subst (λ s. Stands s w.0.0 w.0.1) c.self.view_is w.0.2 in
    let queued = length ((c.args.self.now).outgoing).main in
    let limit = main_limit w.0.0 in
    let found = sym c.in_default-full_main.is ∙ c.full_main.ensures w.0.0 w.0.1 st ∙ ap (λ n. when (passes queued (n + 3) limit) limit) c.len.ensures.count in
    omega (arith, room_for queued (length c.of_sync-pdu.result + 3) limit found, limit_within w.0.0, ap (λ (s : Store). length (s.outgoing).main) c.self.view_is, ap (λ (b : List ℕ). length b) c.bytes.ensures.bytes)

-- the end that it leaves, which stands for one act more
stands : (c : goal.After-say) (t : Trace Act) (gone : Gone) → Stands c.args.self.now t gone
    → Stands (record (the_view c.self.inside) { paths = c.request.new.self; outgoing = c.say.new.self }) (t ▷ Syncs c.args.reliable.now c.args.lossy.now) gone
stands c t gone st =
    let here = subst (λ s. Stands s t gone) (sym c.self.view_is) st in
    let none = none_refuses c.args.self.now t gone c.args.reliable.now c.args.lossy.now c.move_refusal.result c.requires st (c.move_refusal.ensures t gone st) c.in_default.is in
    let none_here : why_not c.args.reliable.now c.args.lossy.now (the_view c.self.inside).paths ≡ None = ap (λ (s : Store). why_not c.args.reliable.now c.args.lossy.now s.paths) c.self.view_is ∙ none in
    moved (the_view c.self.inside) t gone c.args.reliable.now c.args.lossy.now c.bytes.result.now c.request.result c.request.new.self c.say.new.self
    (ap (λ (s : Store). s.role) c.self.view_is ∙ c.requires) here none_here c.request.ensures.refused c.request.ensures.made (c.bytes.ensures.bytes ∙ c.of_sync-pdu.ensures) c.say.ensures

pub returns-clause-moved : goal.returns-clause-moved
returns-clause-moved c t gone st = stands c t gone st

pub invariant_of-self : goal.invariant_of-self
invariant_of-self c =
    let w = c.self.invariant in
    ((w.0.0 ▷ Syncs c.args.reliable.now c.args.lossy.now, w.0.1, stands c w.0.0 w.0.1 (subst (λ s. Stands s w.0.0 w.0.1) c.self.view_is w.0.2)), w.1)

pub returns-clause-allowed : goal.returns-clause-allowed
returns-clause-allowed c t gone st =
    let queued = length ((c.args.self.now).outgoing).main in
    let limit = main_limit t in
    let found = sym c.in_default-full_main.is ∙ c.full_main.ensures t gone st ∙ ap (λ n. when (passes queued (n + 3) limit) limit) c.len.ensures.count in
    why_by_room c.args.self.now.broken t queued c.args.reliable.now c.args.lossy.now c.of_sync-pdu.result c.move_refusal.result (c.move_refusal.ensures t gone st) c.in_default.is c.of_sync-pdu.ensures
    ∙ fits_cause (move.QueueFull queued limit) (passes queued (length c.of_sync-pdu.result + 3) limit) limit found

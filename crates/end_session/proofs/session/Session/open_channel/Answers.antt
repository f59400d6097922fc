use Rattle.std.proofs.Common.{ℕ, ◌+◌, List, length, Some, sym, ap, subst, ◌∙◌, arith}
use Rattle.mt_base.specs.Trace.{Trace, ◌▷◌}
use Rattle.mt_base.specs.declared.kinds.Role.TheVariants.{Server}
use Rattle.mt_endpoint.specs.Acts.{Act, Opens}
use Rattle.end_calls.proofs.Writes.{creates_fit}
use Rattle.end_calls.specs.declared.refusal.OpenRefusal.TheVariants as opening
use Rattle.end_calls.specs.Refusing.{main_limit, passes, when}
use Rattle.end_session.specs.Standing.{Gone, Stands}
use Rattle.end_session.specs.Store.{Store}
use Rattle.end_session.specs.contracts.session.Session.{the_view}
use Rattle.end_session.proofs.ChannelsOpened.{fine, fits_cause, full_cause, limit_within, on_ok, opened, refused_before, room_for, why_by_room}
use Rattle.end_session.proofs.session.Session.open_channel.Goals as goal

pub returns-in-Some-clause-refused : goal.returns-in-Some-clause-refused
returns-in-Some-clause-refused c t gone st =
    refused_before c.args.self.now.broken t (length ((c.args.self.now).outgoing).main) c.args.name.now c.open_refusal.result c.in-Some.why (c.open_refusal.ensures t gone st) c.in-Some.is

pub of-pdu-requires : goal.of-pdu-requires
of-pdu-requires c =
    let w = c.self.invariant in
    let st = subst (λ s. Stands s w.0.0 w.0.1) c.self.view_is w.0.2 in
    let m = fine c.args.self.now w.0.0 c.args.name.now c.open_refusal.result (c.open_refusal.ensures w.0.0 w.0.1 st) c.in_default.is in
    let few = m.few in
    (Server, creates_fit c.next_id-id.result c.args.name.now (omega (arith, c.next_id-id.ensures.next w.0.0 w.0.1 st, few)) m.name_is)

pub returns-in-Some-full_main-clause-refused : goal.returns-in-Some-full_main-clause-refused
returns-in-Some-full_main-clause-refused c t gone st =
    let queued = length ((c.args.self.now).outgoing).main in
    let limit = main_limit t in
    let found = sym c.in-Some-full_main.is ∙ c.full_main.ensures t gone st ∙ ap (λ n. when (passes queued (n + 3) limit) limit) c.len.ensures.count in
    why_by_room c.args.self.now.broken t queued c.next_id-id.result c.args.name.now c.of-pdu.result c.open_refusal.result (c.open_refusal.ensures t gone st) c.in_default.is (c.next_id-id.ensures.next t gone st) c.of-pdu.ensures
    ∙ full_cause (opening.QueueFull queued) (passes queued (length c.of-pdu.result + 3) limit) limit c.in-Some-full_main.limit found
    ∙ ap (λ n. Some (opening.QueueFull n c.in-Some-full_main.limit)) (sym (c.main_len-queued.ensures.count ∙ ap (λ (s : Store). length (s.outgoing).main) c.self.view_is))

pub say-requires : goal.say-requires
say-requires c =
    let w = c.self.invariant in
    let st = subst (λ s. Stands s w.0.0 w.0.1) c.self.view_is w.0.2 in
    let queued = length ((c.args.self.now).outgoing).main in
    let limit = main_limit w.0.0 in
    let found = sym c.in_default-full_main.is ∙ c.full_main.ensures w.0.0 w.0.1 st ∙ ap (λ n. when (passes queued (n + 3) limit) limit) c.len.ensures.count in
    record {
      size = c.bytes.ensures.bounds;
      room = omega (arith, room_for queued (length c.of-pdu.result + 3) limit found, limit_within w.0.0, ap (λ (s : Store). length (s.outgoing).main) c.self.view_is, ap (λ (b : List ℕ). length b) c.bytes.ensures.bytes);
    }

-- the end that it leaves, which stands for one act more
stands : (c : goal.After-say) (t : Trace Act) (gone : Gone) → Stands c.args.self.now t gone
    → Stands (record (the_view c.self.inside) { channels = c.create.new.self; paths = c.set_channel.new.self; outgoing = c.say.new.self }) (t ▷ Opens c.next_id-id.result c.args.name.now) gone
stands c t gone st =
    let here = subst (λ s. Stands s t gone) (sym c.self.view_is) st in
    let m = fine c.args.self.now t c.args.name.now c.open_refusal.result (c.open_refusal.ensures t gone st) c.in_default.is in
    opened (the_view c.self.inside) t gone c.next_id-id.result c.args.name.now c.bytes.result.now c.create.new.self c.set_channel.new.self c.say.new.self
    (ap (λ (s : Store). s.role) c.self.view_is ∙ c.requires) (c.next_id-id.ensures.next t gone st) here m
    (λ u k. on_ok c.create.result (sym c.is_err.ensures.value ∙ c.if-is_err.false) (c.create.ensures.made u k)) c.set_channel.ensures (c.bytes.ensures.bytes ∙ c.of-pdu.ensures) c.say.ensures

pub returns-clause-opened : goal.returns-clause-opened
returns-clause-opened c t gone st = (c.next_id-id.ensures.next t gone st, stands c t gone st)

pub invariant_of-self-2 : goal.invariant_of-self-2
invariant_of-self-2 c =
    let w = c.self.invariant in
    ((w.0.0 ▷ Opens c.next_id-id.result c.args.name.now, w.0.1, stands c w.0.0 w.0.1 (subst (λ s. Stands s w.0.0 w.0.1) c.self.view_is w.0.2)), w.1)

pub returns-clause-allowed : goal.returns-clause-allowed
returns-clause-allowed c t gone st =
    let queued = length ((c.args.self.now).outgoing).main in
    let limit = main_limit t in
    let found = sym c.in_default-full_main.is ∙ c.full_main.ensures t gone st ∙ ap (λ n. when (passes queued (n + 3) limit) limit) c.len.ensures.count in
    why_by_room c.args.self.now.broken t queued c.next_id-id.result c.args.name.now c.of-pdu.result c.open_refusal.result (c.open_refusal.ensures t gone st) c.in_default.is (c.next_id-id.ensures.next t gone st) c.of-pdu.ensures
    ∙ fits_cause (opening.QueueFull queued limit) (passes queued (length c.of-pdu.result + 3) limit) limit found

pub returns-then-is_err-clause-refused : goal.returns-then-is_err-clause-refused
returns-then-is_err-clause-refused c t gone st =
    let queued = length ((c.args.self.now).outgoing).main in
    let limit = main_limit t in
    let found = sym c.in_default-full_main.is ∙ c.full_main.ensures t gone st ∙ ap (λ n. when (passes queued (n + 3) limit) limit) c.len.ensures.count in
    why_by_room c.args.self.now.broken t queued c.next_id-id.result c.args.name.now c.of-pdu.result c.open_refusal.result (c.open_refusal.ensures t gone st) c.in_default.is (c.next_id-id.ensures.next t gone st) c.of-pdu.ensures
    ∙ fits_cause (opening.QueueFull queued limit) (passes queued (length c.of-pdu.result + 3) limit) limit found

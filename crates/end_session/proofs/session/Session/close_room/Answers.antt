use Rattle.std.proofs.Common.{◌≡◌, ◌+◌, rules, length, Some, None, sym, ap, ◌∙◌}
use Rattle.end_calls.specs.declared.refusal.CloseRefusal.TheVariants as close
use Rattle.end_calls.specs.Refusing.{main_limit, passes}
use Rattle.end_session.specs.Closing.{full_for_size, loads_of}
use Rattle.end_session.specs.Store.{Store}
use Rattle.end_session.proofs.ChannelsOpened.{fits_cause, full_cause}
use Rattle.end_session.proofs.session.Session.close_room.Goals as goal

pub returns-in_err-limit-in-Main : goal.returns-in_err-limit-in-Main
returns-in_err-limit-in-Main c t gone parts st =
    let queued = length ((c.args.self.now).outgoing).main in
    let limit = main_limit t in
    let none : c.from_residual.result ≡ None = search rules in
    none
    ∙ sym (ap (λ p. full_for_size t (loads_of c.args.self.now.outgoing c.args.load parts) p c.args.size) c.in-Main.is
    ∙ fits_cause (close.QueueFull queued limit) (passes queued (c.args.size + 3) limit) limit (sym c.in_err-limit-in-Main.was ∙ c.full_main.ensures t gone st))

pub returns-in_ok-limit-in-Main : goal.returns-in_ok-limit-in-Main
returns-in_ok-limit-in-Main c t gone parts st =
    let queued = length ((c.args.self.now).outgoing).main in
    let limit = main_limit t in
    sym (ap (λ p. full_for_size t (loads_of c.args.self.now.outgoing c.args.load parts) p c.args.size) c.in-Main.is
    ∙ full_cause (close.QueueFull queued) (passes queued (c.args.size + 3) limit) limit c.in_ok-limit-in-Main.limit (sym c.in_ok-limit-in-Main.was ∙ c.full_main.ensures t gone st)
    ∙ ap (λ n. Some (close.QueueFull n c.in_ok-limit-in-Main.limit)) (sym (c.main_len-queued.ensures.count ∙ ap (λ (s : Store). length (s.outgoing).main) c.self.view_is)))

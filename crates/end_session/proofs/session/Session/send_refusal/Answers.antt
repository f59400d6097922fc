use Rattle.std.proofs.Common.{true, false, None, Some, length, nat_lt, refl, sym, ap, ◌∙◌, arith}
use Rattle.std.proofs.lemmas.Bool.{lt-ltb, le-ltb}
use Rattle.dvc_channels.specs.Fragments.{fragments_of}
use Rattle.mt_endpoint.specs.Moving.{outward}
use Rattle.end_calls.specs.declared.limits.TheConstants.{MESSAGE}
use Rattle.end_calls.specs.Refusing.{Loads, full_for, silence_on, too_long_for}
use Rattle.end_session.specs.Store.{Store}
use Rattle.end_session.proofs.MessagesSent.{by_causes, path_found, state_none}
use Rattle.end_session.proofs.session.Session.send_refusal.Goals as goal

pub returns-in-Some-silence_on : goal.returns-in-Some-silence_on
returns-in-Some-silence_on c t gone st =
    let s = c.args.self.now in
    let id = c.args.id in
    let message = c.args.message.now in
    let loads : Loads = record { unsent = length (s.outgoing).main; reliable = c.args.load; lossy = c.args.parts } in
    let whole = sym (ap (λ (s : Store). s.broken) c.self.view_is) ∙ c.in_default.is in
    let open_one = state_none s t gone id c.self.inside.channels c.state.result c.state_refusal.result st (ap (λ (s : Store). s.channels) c.self.view_is) c.state.ensures c.state_refusal.ensures c.in_default-state_refusal.is in
    let path = path_found s t gone id c.self.inside.paths c.outward-path.result st (ap (λ (s : Store). s.paths) c.self.view_is) c.outward-path.ensures in
    let silence = ap (silence_on t) path ∙ sym (c.silence_on.ensures t gone st) ∙ c.in-Some-silence_on.is in
    sym (by_causes s.broken s.role t loads id message (Some c.in-Some-silence_on.expiries) (nat_lt MESSAGE (length message)) (too_long_for (outward id t) (length message)) whole open_one silence refl refl)

pub returns-then-message-gt-MESSAGE : goal.returns-then-message-gt-MESSAGE
returns-then-message-gt-MESSAGE c t gone st =
    let s = c.args.self.now in
    let id = c.args.id in
    let message = c.args.message.now in
    let loads : Loads = record { unsent = length (s.outgoing).main; reliable = c.args.load; lossy = c.args.parts } in
    let whole = sym (ap (λ (s : Store). s.broken) c.self.view_is) ∙ c.in_default.is in
    let open_one = state_none s t gone id c.self.inside.channels c.state.result c.state_refusal.result st (ap (λ (s : Store). s.channels) c.self.view_is) c.state.ensures c.state_refusal.ensures c.in_default-state_refusal.is in
    let path = path_found s t gone id c.self.inside.paths c.outward-path.result st (ap (λ (s : Store). s.paths) c.self.view_is) c.outward-path.ensures in
    let silence = ap (silence_on t) path ∙ sym (c.silence_on.ensures t gone st) ∙ c.in_default-silence_on.is in
    let long = lt-ltb MESSAGE (length message) (omega (arith, c.if-message-gt-MESSAGE.true)) in
    sym (by_causes s.broken s.role t loads id message None true (too_long_for (outward id t) (length message)) whole open_one silence long refl)

pub returns-then-too_long_for : goal.returns-then-too_long_for
returns-then-too_long_for c t gone st =
    let s = c.args.self.now in
    let id = c.args.id in
    let message = c.args.message.now in
    let loads : Loads = record { unsent = length (s.outgoing).main; reliable = c.args.load; lossy = c.args.parts } in
    let whole = sym (ap (λ (s : Store). s.broken) c.self.view_is) ∙ c.in_default.is in
    let open_one = state_none s t gone id c.self.inside.channels c.state.result c.state_refusal.result st (ap (λ (s : Store). s.channels) c.self.view_is) c.state.ensures c.state_refusal.ensures c.in_default-state_refusal.is in
    let path = path_found s t gone id c.self.inside.paths c.outward-path.result st (ap (λ (s : Store). s.paths) c.self.view_is) c.outward-path.ensures in
    let silence = ap (silence_on t) path ∙ sym (c.silence_on.ensures t gone st) ∙ c.in_default-silence_on.is in
    let long = le-ltb MESSAGE (length message) (omega (arith, c.if-message-gt-MESSAGE.false)) in
    let too_long = ap (λ p. too_long_for p (length message)) path ∙ sym c.too_long_for.ensures ∙ c.if-too_long_for.true in
    sym (by_causes s.broken s.role t loads id message None false true whole open_one silence long too_long)

pub returns : goal.returns
returns c t gone st =
    let s = c.args.self.now in
    let id = c.args.id in
    let message = c.args.message.now in
    let loads : Loads = record { unsent = length (s.outgoing).main; reliable = c.args.load; lossy = c.args.parts } in
    let whole = sym (ap (λ (s : Store). s.broken) c.self.view_is) ∙ c.in_default.is in
    let open_one = state_none s t gone id c.self.inside.channels c.state.result c.state_refusal.result st (ap (λ (s : Store). s.channels) c.self.view_is) c.state.ensures c.state_refusal.ensures c.in_default-state_refusal.is in
    let path = path_found s t gone id c.self.inside.paths c.outward-path.result st (ap (λ (s : Store). s.paths) c.self.view_is) c.outward-path.ensures in
    let silence = ap (silence_on t) path ∙ sym (c.silence_on.ensures t gone st) ∙ c.in_default-silence_on.is in
    let long = le-ltb MESSAGE (length message) (omega (arith, c.if-message-gt-MESSAGE.false)) in
    let too_long = ap (λ p. too_long_for p (length message)) path ∙ sym c.too_long_for.ensures ∙ c.if-too_long_for.false in
    let unsent = c.main_len-unsent.ensures.count ∙ ap (λ (s : Store). length (s.outgoing).main) c.self.view_is in
    c.full_for.ensures ∙ ap (λ n. full_for (record { unsent = n; reliable = c.args.load; lossy = c.args.parts }) c.outward-path.result (fragments_of id message)) unsent
    ∙ ap (λ p. full_for loads p (fragments_of id message)) (sym path) ∙ sym (by_causes s.broken s.role t loads id message None false false whole open_one silence long too_long)

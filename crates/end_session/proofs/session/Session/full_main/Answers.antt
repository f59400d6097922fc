use Rattle.std.proofs.Common.{◌≡◌, ℕ, ◌+◌, ◌<◌, ◌≤◌, Some, None, nat_lt, length, sym, ap, ◌∙◌, arith}
use Rattle.std.proofs.lemmas.Bool.{lt-ltb, le-ltb}
use Rattle.end_calls.specs.Refusing.{when}
use Rattle.end_session.specs.Store.{Store}
use Rattle.end_session.proofs.session.Session.full_main.Goals as goal

full_is : (limit by queued held size : ℕ) → limit ≡ by → queued ≡ held → limit < queued + size → Some limit ≡ when (nat_lt by (held + size)) by
full_is limit by queued held size e q h = ap Some e ∙ sym (ap (λ b. when b by) (lt-ltb by (held + size) (omega (arith, e, q, h))))

fits_is : (limit by queued held size : ℕ) → limit ≡ by → queued ≡ held → queued + size ≤ limit → None ≡ when (nat_lt by (held + size)) by
fits_is limit by queued held size e q h = sym (ap (λ b. when b by) (le-ltb by (held + size) (omega (arith, e, q, h))))

pub returns-then-main_len-size : goal.returns-then-main_len-size
returns-then-main_len-size c t gone st = full_is c.main_limit-limit.result _ c.main_len.result _ c.args.size (c.main_limit-limit.ensures t gone st) (c.main_len.ensures.count ∙ ap (λ (s : Store). length (s.outgoing).main) c.self.view_is) (omega (arith, c.if-main_len-size.true))

pub returns-else-main_len-size : goal.returns-else-main_len-size
returns-else-main_len-size c t gone st = fits_is c.main_limit-limit.result _ c.main_len.result _ c.args.size (c.main_limit-limit.ensures t gone st) (c.main_len.ensures.count ∙ ap (λ (s : Store). length (s.outgoing).main) c.self.view_is) (omega (arith, c.if-main_len-size.false))

use Rattle.std.proofs.Common.{◌≡◌, List, ℕ, Option, option_map, take, sym, ap, subst}
use Rattle.mt_base.specs.Trace.{Trace, ◌▷◌}
use Rattle.carrier.specs.Entries.{Entry, Polled}
use Rattle.link_core.specs.CoreView.{Core, Stands, core_of}
use Rattle.link_core.proofs.link.LinkCoreCarrier.poll.Goals.{in-First, in-Second}
use Rattle.link_core.proofs.link.LinkCoreCarrier.poll.Goals as goal

polls : (n m : Core) (t : Trace Entry) (now : ℕ) (xs ys : List ℕ) (r q : Option ℕ) → n ≡ m → xs ≡ ys → r ≡ q
    → Stands m (t ▷ Polled now (option_map (λ k. take k ys) q)) → Stands n (t ▷ Polled now (option_map (λ k. take k xs) r))
polls n m t now xs ys r q core text count h =
    subst (λ k. Stands k (t ▷ Polled now (option_map (λ k. take k xs) r))) (sym core)
    (subst (λ o. Stands m (t ▷ Polled now (option_map (λ k. take k xs) o))) (sym count)
    (subst (λ zs. Stands m (t ▷ Polled now (option_map (λ k. take k zs) q))) (sym text) h))

pub returns-clause-trace : goal.returns-clause-trace
returns-clause-trace c t h =
    let was = subst (λ (k : Core). Stands k t) (sym c.self.view_is) h in
    elim c.match-self.branch [
      | in-First w ↦ polls _ _ t c.args.now c.match-self.out _ c.match-self.result _ (ap (λ i. core_of i.core) w.self-inside-is) w.out-is w.result-is
          (w.poll.ensures.trace t (subst (λ a. Stands (core_of a) t) w.in-First.is was))
      | in-Second w ↦ polls _ _ t c.args.now c.match-self.out _ c.match-self.result _ (ap (λ i. core_of i.core) w.self-inside-is) w.out-is w.result-is
          (w.poll-in-Second.ensures.trace t (subst (λ a. Stands (core_of a) t) w.in-Second.is was))
    ]

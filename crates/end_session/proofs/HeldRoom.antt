-- The room that is left where PDUs are held.
use Rattle.std.proofs.Common.{◌≡◌, ℕ, ◌+◌, ◌≤◌, nat_lt, Bool, true, false, refl, sym, ap, arith}
use Rattle.std.proofs.lemmas.Bool.{le-ltb, lt-ltb, ltb-false, ltb-true}
use Rattle.mt_base.specs.declared.kinds.Kind.{Kind}
use Rattle.mt_base.specs.declared.kinds.Kind.TheVariants.{Reliable, Lossy}
use Rattle.mt_base.specs.Trace.{Trace}
use Rattle.hold_queue.specs.Held as hold
use Rattle.mt_endpoint.specs.Acts.{Act}
use Rattle.mt_endpoint.specs.Holding.{held, weight}
use Rattle.end_calls.specs.declared.limits.TheConstants.{HELD_PDU, HOLD}
use Rattle.end_session.specs.Standing.{Gone, Stands}
use Rattle.end_session.specs.Store.{Store}
use Rattle.end_session.proofs.Kept.{weights_same}

by_room : (room weighs : ℕ) → room + weighs ≡ 1048576 → nat_lt room 1616 ≡ nat_lt 1048576 (weighs + 1616)
by_room room weighs all = by_test (nat_lt room 1616) refl where
  by_test : (b : Bool) → nat_lt room 1616 ≡ b → b ≡ nat_lt 1048576 (weighs + 1616)
  by_test true is = sym (lt-ltb 1048576 (weighs + 1616) (omega (arith, all, ltb-true room 1616 is)))
  by_test false is = sym (le-ltb 1048576 (weighs + 1616) (omega (arith, all, ltb-false room 1616 is)))

pub full_is : (u s : Store) (t : Trace Act) (gone : Gone) (room : ℕ) → u ≡ s → room + hold.weight u.held_reliable ≡ 1048576 → Stands s t gone → nat_lt room 1616 ≡ nat_lt HOLD (weight (held s.role Reliable t) + HELD_PDU)
full_is u s t gone room is all st =
    by_room room (weight (held s.role Reliable t))
    (omega (arith, all, ap (λ (x : Store). hold.weight x.held_reliable) is, weights_same (held s.role Reliable t) s.held_reliable (st.knows).reliable_held))

pub is_within : (u s : Store) (t : Trace Act) (gone : Gone) (kind : Kind) (reliable lossy : ℕ) → u ≡ s → reliable + hold.weight u.held_reliable ≡ 1048576 → lossy + hold.weight u.held_lossy ≡ 1048576 → Stands s t gone
    → weight (held s.role kind t) ≤ HOLD
is_within u s t gone Reliable reliable lossy is all all_lossy st =
    omega (arith, all, ap (λ (x : Store). hold.weight x.held_reliable) is, weights_same (held s.role Reliable t) s.held_reliable (st.knows).reliable_held)
is_within u s t gone Lossy reliable lossy is all all_lossy st =
    omega (arith, all_lossy, ap (λ (x : Store). hold.weight x.held_lossy) is, weights_same (held s.role Lossy t) s.held_lossy (st.knows).lossy_held)

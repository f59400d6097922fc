-- What a machine's value says of the trace that it stands for.
use Rattle.std.proofs.Common.{◌≡◌, ℕ, ◌≤◌, nat_lt, Bool, true, false, length, drop, if◌then◌else◌, refl, ap, ◌∙◌, arith}
use Rattle.std.proofs.lemmas.Bool.{ltb-true}
use Rattle.mt_base.specs.Trace.{Trace}
use Rattle.mt_windows.specs.Arrived.{passed}
use Rattle.mt_windows.specs.ArrivedView.{left_of}
use Rattle.mt_windows.proofs.Order.{receives_left}
use Rattle.carrier.specs.Entries.{Entry, pulled}
use Rattle.carrier.specs.Receiving.{accepted, received}
use Rattle.carrier.specs.Sending.{is_closed, timer}
use Rattle.carrier.specs.declared.state.LinkState.TheVariants.{Open, Closed}
use Rattle.carrier.proofs.links.Closes.{expiries_bound}
use Rattle.link_machine.specs.Wire.{Wire}
use Rattle.link_machine.specs.MachineView.{Machine, Stands, condition_of, layout_at}

pub left_is : (wire : Wire) (m : Machine) (t : Trace Entry) → Stands wire m t
    → left_of m.receiver.inbox ≡ drop (length (pulled t)) (passed (accepted (layout_at wire m) t))
left_is wire m t s =
    receives_left m.receiver.inbox m.receiver.config.peer (received (layout_at wire m) t).parts (length (pulled t)) s.hears.receives

-- more than sixteen in a row, and at most one more
by_count : (n : ℕ) → n ≤ 17 → (if nat_lt 16 n then Closed n else Open) ≡ (if nat_lt 16 n then Closed 17 else Open)
by_count n most = by_test (nat_lt 16 n) refl
  where
    by_test : (b : Bool) → nat_lt 16 n ≡ b → (if b then Closed n else Open) ≡ (if b then Closed 17 else Open)
    by_test true h = ap Closed (omega (arith, most, ltb-true 16 n h))
    by_test false h = refl

pub state_is : (wire : Wire) (m : Machine) (t : Trace Entry) → Stands wire m t
    → condition_of m ≡ (if is_closed (layout_at wire m) t then Closed 17 else Open)
state_is wire m t s =
    ap (λ timer. if nat_lt 16 timer.expiries then Closed timer.expiries else Open) s.sends.timer_is
    ∙ by_count (timer (layout_at wire m) t).expiries (expiries_bound (layout_at wire m) t)

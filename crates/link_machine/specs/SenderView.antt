-- What the sending half of a machine stands for.
use Rattle.std.specs.Prelude.{◌≡◌, ℕ, ◌+◌, ◌<◌, ◌≤◌, ◌^◌, ◌&&◌, ◌||◌, Bool, nat_le, if◌then◌else◌, Option, Some, None, is_some, option_map, unwrap_or}
use Rattle.mt_base.specs.Trace.{Trace}
use Rattle.mt_windows.specs.Sending.{Act, may_cut, lowest_or_next, passed_over}
use Rattle.mt_windows.specs.SendingView.{Outbox, Sends}
use Rattle.carrier.specs.Layout.{Layout}
use Rattle.carrier.specs.Sending.{Timer, is_over, is_waiting, expires, expiry}
use Rattle.carrier.specs.Due.{may_send}
use Rattle.carrier.specs.declared.limits.TheConstants.{EXPIRIES}
use Rattle.link_machine.specs.declared.choice.Choice.{Choice}
use Rattle.link_machine.specs.declared.choice.Choice.TheVariants.{Silent, Again, Fresh, Telling}
use Rattle.link_machine.specs.declared.config.SenderConfig.{SenderConfig}
use Rattle.link_machine.specs.Wire.{Wire, layout_of}

-- what is kept: what never changes, the window, the window told by the other end, and the timer
pub record Sender : Type 0 where
  pub config : SenderConfig
  pub outbox : Outbox
  pub peer_window : ℕ
  pub timer : Timer

-- what is true of every sending half
pub record IsSoundOut (s : Sender) : Type 0 where
  pub some_own : 1 ≤ s.config.own
  pub own_bound : s.config.own ≤ 2 ^ 32
  pub wait_bound : s.config.wait ≤ 500
  pub start_bound : s.timer.start < 2 ^ 62
  pub expiries_bound : s.timer.expiries ≤ EXPIRIES + 1

-- this half stands for these acts, this window of the other end, and this timer
pub record Speaks (s : Sender) (acts : Trace Act) (window : ℕ) (timer : Timer) : Type 0 where
  pub sends : Sends s.outbox s.config.own acts
  pub window_is : s.peer_window ≡ window
  pub timer_is : s.timer ≡ timer

-- the layout of this half, with any other half
abbrev pub layout_out : Wire → Sender → ℕ → ℕ → Layout
layout_out wire s delay peer = layout_of wire s.config.wait delay s.config.own peer

-- ---- what is sent first

-- more expiries in a row than the link survives, with the one that comes now
abbrev pub is_ended : Layout → Timer → Trace Act → ℕ → Bool
is_ended layout timer acts at =
    is_over layout timer || (expires layout timer acts at && nat_le layout.bounds.expiries timer.expiries)

-- At an expiry the lowest unsettled part; else the lowest part that was passed over; else a new part;
-- else no part.
abbrev pub choice_at : Layout → Trace Act → ℕ → Timer → ℕ → Choice
choice_at layout acts told timer at =
    if is_ended layout timer acts at then Silent
    else (if expires layout timer acts at && may_send layout acts
    then Again (layout.own + lowest_or_next layout.bounds.windows acts)
    else (if is_some (passed_over layout.bounds.windows acts) && may_send layout acts
    then Again (layout.own + unwrap_or (passed_over layout.bounds.windows acts) 0)
    else (if may_cut layout.bounds.windows layout.own acts told then Fresh else Telling)))

-- the same, apart from the end: the part that is sent again, and what is sent first
abbrev pub again_part : Layout → Trace Act → Bool → Option ℕ
again_part layout acts expired =
    if expired then Some (layout.own + lowest_or_next layout.bounds.windows acts)
    else option_map (λ p. layout.own + p) (passed_over layout.bounds.windows acts)

abbrev pub again_or : Option ℕ → Choice → Choice
again_or None choice = choice
again_or (Some part) choice = Again part

abbrev pub first_choice : Layout → Trace Act → ℕ → Bool → Choice
first_choice layout acts told expired =
    let new = if may_cut layout.bounds.windows layout.own acts told then Fresh else Telling in
    if may_send layout acts then again_or (again_part layout acts expired) new else new

-- the timer after an expiry, where there is one
abbrev pub timer_at : Layout → Trace Act → Timer → ℕ → Timer
timer_at layout acts timer at =
    if expires layout timer acts at then record { start = at; expiries = timer.expiries + 1 } else timer

-- the timer after a new part: it begins to run where it did not
abbrev pub timer_begun : Layout → Trace Act → Timer → ℕ → Timer
timer_begun layout acts timer at =
    if is_waiting layout acts then timer else record { start = at; expiries = timer.expiries }

-- ---- when something is sent

-- a part can be sent at once
abbrev pub is_ready : Layout → Trace Act → ℕ → Bool
is_ready layout acts told =
    (is_some (passed_over layout.bounds.windows acts) && may_send layout acts)
    || may_cut layout.bounds.windows layout.own acts told

-- the moment of the next expiry that sends a part or closes the link
abbrev pub next_expiry : Layout → Trace Act → Timer → Option ℕ
next_expiry layout acts timer =
    if is_waiting layout acts && (may_send layout acts || nat_le layout.bounds.expiries timer.expiries)
    then Some (expiry layout timer) else None

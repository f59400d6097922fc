-- What a link has come to after the calls of its trace.
use Rattle.std.specs.Prelude.{ℕ, List, [], length, drop, if◌then◌else◌, Option, Some, None}
use Rattle.mt_base.specs.Trace.{Trace}
use Rattle.mt_windows.specs.Arrived.{passed}
use Rattle.mt_windows.specs.Sending.{cuts, is_open, piece, queued, sum_of}
use Rattle.mt_windows.specs.SendingView.{limits}
use Rattle.carrier.specs.declared.state.LinkState.{LinkState}
use Rattle.carrier.specs.declared.state.LinkState.TheVariants.{Opening, Open, Closed}
use Rattle.carrier.specs.Entries.{Entry, given, pulled}
use Rattle.carrier.specs.Receiving.{accepted}
use Rattle.carrier.specs.Sending.{acts, is_closed as is_machine_closed}
use Rattle.udp_open.specs.declared.settings.OpenSettings.{OpenSettings}
use Rattle.udp_open.specs.declared.agreement.Agreement.{Agreement}
use Rattle.udp_open.specs.Handshake.{agreed, is_closed}
use Rattle.udp_open.specs.LinkTrace.{machine, machine_layout}

-- the bytes of the parts that its machine accepted, up to the least part that is missing
abbrev pub passed_by : OpenSettings → Trace Entry → Option Agreement → List ℕ
passed_by settings t None = []
passed_by settings t (Some a) = passed (accepted (machine_layout settings a) (machine settings t))

-- those of them that were not pulled
abbrev pub left_after : OpenSettings → Trace Entry → List ℕ
left_after settings t = drop (length (pulled t)) (passed_by settings t (agreed settings t))

-- how many bytes were given and are not in a settled part: all of them while the link opens
abbrev pub queued_by : OpenSettings → Trace Entry → Option Agreement → ℕ
queued_by settings t None = length (given t)
queued_by settings t (Some a) = queued limits (acts (machine_layout settings a) (machine settings t))

abbrev pub queued_after : OpenSettings → Trace Entry → ℕ
queued_after settings t = queued_by settings t (agreed settings t)

-- how many bytes are in a settled part
abbrev pub settled_by : OpenSettings → Trace Entry → Option Agreement → ℕ
settled_by settings t None = 0
settled_by settings t (Some a) =
    let s = acts (machine_layout settings a) (machine settings t) in
    sum_of (λ p. if is_open limits s p then 0 else length (piece limits s p)) (cuts s)

abbrev pub settled_after : OpenSettings → Trace Entry → ℕ
settled_after settings t = settled_by settings t (agreed settings t)

-- It is closed exactly after 17 expiries in a row: those of the SYN, or of the machine.
abbrev pub state_by : OpenSettings → Trace Entry → Option Agreement → LinkState
state_by settings t None = if is_closed settings t then Closed 17 else Opening
state_by settings t (Some a) =
    if is_machine_closed (machine_layout settings a) (machine settings t) then Closed 17 else Open

abbrev pub state_after : OpenSettings → Trace Entry → LinkState
state_after settings t = state_by settings t (agreed settings t)

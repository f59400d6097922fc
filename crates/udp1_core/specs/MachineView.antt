-- What a link of the first layout stands for.
use Rattle.std.specs.Prelude.{ℕ, ◌+◌, ◌==◌, if◌then◌else◌}
use Rattle.mt_base.specs.Trace.{Trace}
use Rattle.carrier.specs.declared.state.LinkState.{LinkState}
use Rattle.carrier.specs.Entries.{Entry}
use Rattle.carrier.specs.Layout.{Layout}
use Rattle.link_machine.specs.MachineView.{Machine as AnyMachine, Stands as StandsFor, condition_of as condition_at, layout_at}
use Rattle.udp1_core.specs.FirstLayout.{first_layout, first_wire}

-- a machine, whatever its layout
abbrev pub Machine : Type 0
Machine = AnyMachine

-- the layout of its datagrams
abbrev pub layout_of : AnyMachine → Layout
layout_of m = layout_at first_wire m

-- The layout of a link of this version, with these initial numbers of this end and of the other one
-- (MS-RDPEUDP section 3.1.5). Parts are numbered from the number after the initial one on. The timer
-- waits at least 500 milliseconds in version 1 and 300 in version 2; one telling may be owed for 200
-- or 50 milliseconds.
abbrev pub link_layout : ℕ → ℕ → ℕ → Layout
link_layout own_initial peer_initial version =
    first_layout (if version == 1 then 500 else 300) (if version == 1 then 200 else 50) (own_initial + 1) (peer_initial + 1)

-- it stands for this trace of a link
abbrev pub Stands : AnyMachine → Trace Entry → Type 0
Stands m t = StandsFor first_wire m t

-- what the link is
abbrev pub condition_of : AnyMachine → LinkState
condition_of m = condition_at m

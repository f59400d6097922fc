-- What a link of whatever version stands for.
use Rattle.std.specs.Prelude.{◌⊎◌, ◌≡◌, ℕ, ◌==◌, Bool, if◌then◌else◌}
use Rattle.mt_base.specs.Trace.{Trace}
use Rattle.carrier.specs.declared.state.LinkState.{LinkState}
use Rattle.carrier.specs.Entries.{Entry}
use Rattle.carrier.specs.Layout.{Layout}
use Rattle.link_machine.specs.MachineView.{Machine, StandsIn, condition_of as condition_at}
use Rattle.udp1_core.specs.MachineView.{layout_of as first_layout_of, link_layout as first_link_layout}
use Rattle.udp2_core.specs.SecondLayout.{second_layout}
use Rattle.link_core.specs.declared.any.AnyCore.{AnyCore}
use Rattle.link_core.specs.declared.any.AnyCore.TheVariants as any
use Rattle.link_core.specs.declared.layout.LinkLayout.{LinkLayout}
use Rattle.link_core.specs.declared.layout.LinkLayout.TheVariants.{First, Second}

-- the versions of a link
abbrev pub IsVersion : ℕ → Type 0
IsVersion version = (version ≡ 0x0001) ⊎ (version ≡ 0x0002) ⊎ (version ≡ 0x0101)

-- whether this version is the one whose datagrams have the second layout
abbrev pub is_second : ℕ → Bool
is_second version = version == 0x0101

-- which layout the datagrams of this version have
abbrev pub kind_of : ℕ → LinkLayout
kind_of version = if is_second version then Second else First

-- what is kept: which layout the datagrams have, and the machine
pub record Core : Type 0 where
  pub kind : LinkLayout
  pub machine : Machine

-- which layout its datagrams have
abbrev pub kind_in : AnyCore → LinkLayout
kind_in (any.First m) = First
kind_in (any.Second m) = Second

-- the machine at work
abbrev pub machine_in : AnyCore → Machine
machine_in (any.First m) = m
machine_in (any.Second m) = m

abbrev pub core_of : AnyCore → Core
core_of c = record { kind = kind_in c; machine = machine_in c }

-- the layout of the datagrams of such a machine
abbrev pub layout_by : LinkLayout → Machine → Layout
layout_by First m = first_layout_of m
layout_by Second m = second_layout

abbrev pub layout_of : Core → Layout
layout_of c = layout_by c.kind c.machine

-- The layout of a link of this version, with these initial numbers of this end and of the other one.
-- In version 0x0101 parts and transmissions are numbered from 1 on at both ends, whatever the initial
-- numbers.
abbrev pub link_layout : ℕ → ℕ → ℕ → Layout
link_layout own_initial peer_initial version =
    if is_second version then second_layout else first_link_layout own_initial peer_initial version

-- it stands for this trace of a link
abbrev pub Stands : Core → Trace Entry → Type 0
Stands c t = StandsIn (layout_of c) c.machine t

-- what the link is
abbrev pub condition_of : Core → LinkState
condition_of c = condition_at c.machine

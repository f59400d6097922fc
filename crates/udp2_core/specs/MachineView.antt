-- What a link of the second layout stands for.
use Rattle.std.specs.Prelude.{◌≡◌}
use Rattle.mt_base.specs.Trace.{Trace}
use Rattle.carrier.specs.declared.state.LinkState.{LinkState}
use Rattle.carrier.specs.Entries.{Entry}
use Rattle.link_machine.specs.MachineView.{Machine as AnyMachine, StandsIn, condition_of as condition_at}
use Rattle.udp2_core.specs.SecondLayout.{second_layout}

-- a machine, whatever its layout
abbrev pub Machine : Type 0
Machine = AnyMachine

-- it has the numbers and waits of the second layout
pub record IsSecond (m : AnyMachine) : Type 0 where
  pub own_is : m.sender.config.own ≡ second_layout.own
  pub wait_is : m.sender.config.wait ≡ second_layout.wait
  pub peer_is : m.receiver.config.peer ≡ second_layout.peer
  pub delay_is : m.receiver.config.delay ≡ second_layout.delay

-- it stands for this trace of a link
abbrev pub Stands : AnyMachine → Trace Entry → Type 0
Stands m t = StandsIn second_layout m t

-- what the link is
abbrev pub condition_of : AnyMachine → LinkState
condition_of m = condition_at m

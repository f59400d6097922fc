-- What an end keeps, part by part.
use Rattle.std.specs.Prelude.{ℕ, Bool, List, Option}
use Rattle.mt_base.specs.declared.kinds.Role.{Role}
use Rattle.dvc_channels.specs.Table.{Table}
use Rattle.soft_sync.specs.Words.{Words}
use Rattle.tunnel_cookies.specs.Entries.{Entries}
use Rattle.hold_queue.specs.Held as hold
use Rattle.end_calls.specs.declared.fault.Fault.{Fault}
use Rattle.end_session.specs.Known.{Known}
use Rattle.end_session.specs.Outgoing.{Outgoing}

pub record Store : Type 0 where
  pub role : Role
  pub channels : Table
  pub paths : Words
  pub issued : Entries
  pub reliable : Known
  pub lossy : Known
  pub held_reliable : List hold.Pdu
  pub held_lossy : List hold.Pdu
  pub is_ready : Bool
  pub owed : ℕ
  pub outgoing : Outgoing
  pub broken : Option Fault

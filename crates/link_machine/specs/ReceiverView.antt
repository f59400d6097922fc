-- What the receiving half of a machine stands for.
use Rattle.std.specs.Prelude.{◌≡◌, ℕ, ◌+◌, ◌<◌, ◌≤◌, ◌^◌, min, List, [], ◌∷◌, ◌++◌, length, get_or, if◌then◌else◌, Option, Some, None, IfSome, is_some}
use Rattle.mt_windows.specs.ArrivedView.{Inbox, Receives}
use Rattle.mt_windows.specs.declared.limits.TheConstants.{DATAGRAM}
use Rattle.mt_windows.specs.Noted.{greatest_of}
use Rattle.mt_windows.specs.NotedView.{Marks, Notes}
use Rattle.carrier.specs.Layout.{Layout, Load, Empty, Carries, Dummy, Correction, Received}
use Rattle.carrier.specs.Receiving.{arrival, parts_with, seen_with, taken}
use Rattle.link_machine.specs.declared.config.ReceiverConfig.{ReceiverConfig}
use Rattle.link_machine.specs.declared.load.Load.{Load as CodeLoad}
use Rattle.link_machine.specs.declared.load.Load.TheVariants as code
use Rattle.link_machine.specs.declared.numbers.Numbers.{Numbers}
use Rattle.link_machine.specs.Wire.{Wire, layout_of}

-- what is kept: what never changes, the window of parts, the transmissions seen of late and the
-- greatest of them, the floor, how many tellings are owed (two stand for more) and since when
pub record Receiver : Type 0 where
  pub config : ReceiverConfig
  pub inbox : Inbox
  pub marks : Marks
  pub last : Option ℕ
  pub floor : ℕ
  pub owed : ℕ
  pub since : ℕ

-- what is true of every receiving half
pub record IsSoundIn (r : Receiver) : Type 0 where
  pub some_peer : 1 ≤ r.config.peer
  pub peer_bound : r.config.peer ≤ 2 ^ 32
  pub delay_bound : r.config.delay ≤ 200
  pub last_bound : IfSome r.last (λ n. n < 2 ^ 62)
  pub owed_bound : r.owed ≤ 2
  pub since_bound : r.since < 2 ^ 62

-- so many tellings are owed, from these moments on
pub record Owes (count since : ℕ) (owed : List ℕ) : Type 0 where
  pub count_is : count ≡ min 2 (length owed)
  pub since_is : 0 < length owed → since ≡ get_or owed 0 0

-- this half stands for what was received, of which the first n bytes in order were pulled, this
-- floor, and tellings owed from these moments on
pub record Hears (r : Receiver) (got : Received) (n floor : ℕ) (owed : List ℕ) : Type 0 where
  pub receives : Receives r.inbox r.config.peer got.parts n
  pub notes : Notes r.marks got.seen
  pub last_is : r.last ≡ greatest_of got.seen
  pub floor_is : r.floor ≡ floor
  pub owes : Owes r.owed r.since owed

-- nothing was received
abbrev pub nothing : Received
nothing = record { parts = []; seen = [] }

-- the layout of this half, with any other half
abbrev pub layout_in : Wire → Receiver → ℕ → ℕ → Layout
layout_in wire r wait own = layout_of wire wait r.config.delay own r.config.peer

-- ---- what comes

-- a load as the layouts of links have it
abbrev pub load_of : CodeLoad → Load
load_of code.Empty = Empty
load_of (code.Part part transmission bytes) = Carries part transmission bytes.now
load_of (code.Dummy transmission) = Dummy transmission
load_of code.Correction = Correction

-- a part has at most as many bytes as a datagram, and numbers are below the modulus
abbrev pub Fits : ℕ → CodeLoad → Type 0
Fits modulus code.Empty = Unit {0}
Fits modulus (code.Part part transmission bytes) =
    (part < modulus) × (transmission < modulus) × (length bytes.now ≤ DATAGRAM)
Fits modulus (code.Dummy transmission) = transmission < modulus
Fits modulus code.Correction = Unit {0}

-- the numbers of a part, where both can be read
abbrev pub both : Option ℕ → Option ℕ → Option Numbers
both None transmission = None
both (Some part) None = None
both (Some part) (Some transmission) = Some (record { part = part; transmission = transmission })

-- what was received with this load, and the tellings owed after it
abbrev pub received_with : Layout → Received → ℕ → Load → Received
received_with layout got n load = record {
  parts = parts_with layout got n (arrival layout got n load);
  seen = seen_with got.seen (taken layout got n load);
}

abbrev pub owed_with : Layout → Received → ℕ → Load → ℕ → List ℕ → List ℕ
owed_with layout got n load at owed = if is_some (taken layout got n load) then owed ++ at ∷ [] else owed

-- the moment from which on a telling has to be sent alone: at once where two are owed
abbrev pub pressing_from : ℕ → List ℕ → Option ℕ
pressing_from delay [] = None
pressing_from delay (since ∷ []) = Some (since + delay)
pressing_from delay (since ∷ next ∷ more) = Some 0

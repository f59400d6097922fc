-- The rule of a capture that speaks of the layouts of datagrams: each is an opening, or is read by
-- the layout that its link agreed on.
use Rattle.std.specs.Prelude.{◌≡◌, ◌⊎◌, ℕ, true, ◌&&◌, ◌==◌, List, ◌∷◌, ◌++◌, All, Option, Some, None, if◌then◌else◌}
use Rattle.mt_base.specs.declared.kinds.Kind.{Kind}
use Rattle.udp1_packets.specs.Value.{Extended, Syn, SynBody, Packet}
use Rattle.udp1_packets.specs.Layout.{is_valid, Spells}
use Rattle.udp2_packets.specs.Value.{Packet as SecondPacket}
use Rattle.udp2_packets.specs.Layout.{Spells as SpellsSecond}
use Rattle.capture_check.specs.declared.layout.Layout.{Layout}
use Rattle.capture_check.specs.declared.layout.Layout.TheVariants.{First, Second}
use Rattle.capture_check.specs.declared.entry.Entry.{Entry}
use Rattle.capture_check.specs.declared.entry.Entry.TheVariants.{Out}

-- a datagram spells an opening of the first layout, a SYN or a SYN+ACK
pub record IsOpening (datagram : List ℕ) (syn : Syn) : Type 0 where
  pub packet : Packet
  pub spelled : Spells datagram packet
  pub body_is : packet.body ≡ SynBody syn

-- The layout that a SYN+ACK chooses: the second one exactly where its extension says that its
-- version is valid, and the version is 0x0101 (MS-RDPEUDP section 2.2.2.9).
abbrev pub chosen_by : Option Extended → Layout
chosen_by None = First
chosen_by (Some e) = if is_valid e.flags && (e.version == 0x0101) then Second else First

-- a datagram is a SYN+ACK that chooses this layout
abbrev pub Answers : List ℕ → Layout → Type 0
Answers datagram layout =
    (syn : Syn) × IsOpening datagram syn × (syn.answer ≡ true) × (layout ≡ chosen_by syn.extension)

-- an `out` of this kind is such a SYN+ACK
abbrev pub Chooses : Kind → Entry → Layout → Type 0
Chooses kind (Out side k number datagram) layout = (k ≡ kind) × Answers datagram layout
Chooses kind other layout = ⊥

-- an entry is no SYN+ACK on a link of this kind
abbrev pub ChoosesNone : Kind → Entry → Type 0
ChoosesNone kind entry = (layout : Layout) → ¬ Chooses kind entry layout

-- the last SYN+ACK on a link of this kind chose this layout
pub record Agreed (kind : Kind) (entries : List Entry) (layout : Layout) : Type 0 where
  pub front : List Entry
  pub answer : Entry
  pub back : List Entry
  pub parts : entries ≡ front ++ answer ∷ back
  pub chosen : Chooses kind answer layout
  pub last : All (ChoosesNone kind) back

-- a datagram spells a packet of this layout
abbrev pub IsReadBy : Layout → List ℕ → Type 0
IsReadBy First datagram = (packet : Packet) × Spells datagram packet
IsReadBy Second datagram = (packet : SecondPacket) × SpellsSecond datagram packet

-- Rule 4: an `out` is an opening, or is read by the layout that the last SYN+ACK of its kind chose.
abbrev pub IsReadable : List Entry → Entry → Type 0
IsReadable before (Out side kind number datagram) =
    ((syn : Syn) × IsOpening datagram syn)
    ⊎ ((layout : Layout) × Agreed kind before layout × IsReadBy layout datagram)
IsReadable before other = Unit {0}

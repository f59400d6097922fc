-- The rule of a capture that speaks of tunnels: no two requests are issued with one id, and the first
-- data of the client on the reliable link are a create request for a tunnel that was issued.
use Rattle.std.specs.Prelude.{◌≡◌, ℕ, List, ◌∷◌, ◌++◌, Option, Some, None}
use Rattle.mt_base.specs.declared.kinds.Role.TheVariants.{Client}
use Rattle.mt_base.specs.declared.kinds.Kind.{Kind}
use Rattle.mt_base.specs.declared.kinds.Kind.TheVariants.{Reliable}
use Rattle.udp1_packets.specs.Value.{Body, SynBody, DataBody, FecBody, BareBody, Packet}
use Rattle.udp1_packets.specs.Layout.{Spells}
use Rattle.udp2_packets.specs.Value.{NoBody, DummyBody, Body as SecondBody, DataBody as SecondData, Packet as SecondPacket}
use Rattle.udp2_packets.specs.Layout.{Spells as SpellsSecond}
use Rattle.tunnel_pdus.specs.Value.{CreateRequest}
use Rattle.tunnel_pdus.specs.Layout.{Spells as SpellsPdu}
use Rattle.capture_check.specs.declared.layout.Layout.{Layout}
use Rattle.capture_check.specs.declared.layout.Layout.TheVariants.{First, Second}
use Rattle.capture_check.specs.declared.entry.Entry.{Entry}
use Rattle.capture_check.specs.declared.entry.Entry.TheVariants.{Issue, Out}
use Rattle.capture_check.specs.Tellings.{HasLayout}

-- ---- what a datagram carries

-- the data of a packet of the first layout; an FEC payload is none
abbrev pub data_in : Body → Option (List ℕ)
data_in (SynBody syn) = None
data_in (DataBody vector aoa coded start bytes) = Some bytes
data_in (FecBody vector aoa coded start range index bytes) = None
data_in (BareBody vector aoa rest) = None

-- the data of a packet of the second layout
abbrev pub second_data_in : SecondBody → Option (List ℕ)
second_data_in NoBody = None
second_data_in (SecondData number part bytes) = Some bytes
second_data_in (DummyBody number rest) = None

-- a datagram carries these data
abbrev pub Carries : Layout → List ℕ → List ℕ → Type 0
Carries First datagram bytes =
    (packet : Packet) × Spells datagram packet × (data_in packet.body ≡ Some bytes)
Carries Second datagram bytes =
    (packet : SecondPacket) × SpellsSecond datagram packet × (second_data_in packet.body ≡ Some bytes)

-- a datagram that is given after these entries carries them, in its link's layout
abbrev pub CarriesAfter : Kind → List Entry → List ℕ → List ℕ → Type 0
CarriesAfter kind before datagram bytes =
    (layout : Layout) × HasLayout kind before datagram layout × Carries layout datagram bytes

-- the client gave data on the reliable link
pub record GaveData (entries : List Entry) : Type 0 where
  pub front : List Entry
  pub number : ℕ
  pub datagram : List ℕ
  pub back : List Entry
  pub parts : entries ≡ front ++ Out Client Reliable number datagram ∷ back
  pub bytes : List ℕ
  pub carries : CarriesAfter Reliable front datagram bytes

-- ---- what was issued

-- a request for a tunnel of this kind was issued, with this id and cookie
pub record IsIssued (id : ℕ) (kind : Kind) (cookie : List ℕ) (entries : List Entry) : Type 0 where
  pub front : List Entry
  pub back : List Entry
  pub parts : entries ≡ front ++ Issue id kind cookie ∷ back

-- Bytes are one tunnel create request and nothing more (MS-RDPEMT section 2.2.2.1), and it names the
-- id and the cookie of a request that was issued for a reliable tunnel.
pub record AsksForIssued (entries : List Entry) (bytes : List ℕ) : Type 0 where
  pub id : ℕ
  pub cookie : List ℕ
  pub spelled : SpellsPdu bytes (CreateRequest id cookie)
  pub issued : IsIssued id Reliable cookie entries

-- Rule 8: an `issue` has an id that no earlier one has; the first data of the client on the reliable
-- link are a create request for a tunnel that was issued.
abbrev pub AsksForTunnel : List Entry → Entry → Type 0
AsksForTunnel before (Issue id kind cookie) =
    (other_kind : Kind) (other_cookie : List ℕ) → ¬ IsIssued id other_kind other_cookie before
AsksForTunnel before (Out side kind number datagram) =
    (bytes : List ℕ) → side ≡ Client → kind ≡ Reliable → CarriesAfter Reliable before datagram bytes
    → ¬ GaveData before → AsksForIssued before bytes
AsksForTunnel before other = Unit {0}

-- The data that datagrams carry, and what was issued and asked for so far.
use Rattle.std.specs.Prelude.{◌≡◌, ◌↔◌, ℕ, nat_eq, List, Option, Some, IsTrue}
use Rattle.std.specs.Map.{lookup}
use Rattle.mt_base.specs.declared.kinds.Kind.{Kind}
use Rattle.mt_base.specs.declared.kinds.Kind.TheVariants.{Reliable}
use Rattle.tunnel_pdus.specs.Value.{Pdu, CreateRequest, CreateResponse, Data}
use Rattle.capture_check.specs.declared.layout.Layout.{Layout}
use Rattle.capture_check.specs.declared.entry.Entry.{Entry}
use Rattle.capture_check.specs.declared.issued.Issued.{Issued}
use Rattle.capture_check.specs.declared.requests.Requests.{Requests}
use Rattle.capture_check.specs.Requests.{Carries, CarriesAfter, GaveData, IsIssued}

-- a datagram carries just these data, or none
abbrev pub CarriesJust : Layout → List ℕ → Option (List ℕ) → Type 0
CarriesJust layout datagram carried = (bytes : List ℕ) → (carried ≡ Some bytes) ↔ Carries layout datagram bytes

abbrev pub CarriesJustAfter : Kind → List Entry → List ℕ → Option (List ℕ) → Type 0
CarriesJustAfter kind before datagram carried =
    (bytes : List ℕ) → (carried ≡ Some bytes) ↔ CarriesAfter kind before datagram bytes

-- what is kept of each request under its id is what was issued
abbrev pub AreIssued : List Entry → List (ℕ × Issued) → Type 0
AreIssued entries issued =
    (id : ℕ) (kind : Kind) (cookie : List ℕ)
    → (lookup (nat_eq id) issued ≡ Some (record { kind = kind; cookie = cookie }))
    ↔ IsIssued id kind cookie entries

-- a tunnel PDU is a create request for a reliable tunnel that was issued
abbrev pub NamesIssued : List Entry → Pdu → Type 0
NamesIssued entries (CreateRequest id cookie) = IsIssued id Reliable cookie entries
NamesIssued entries (CreateResponse hr) = ⊥
NamesIssued entries (Data payload) = ⊥

-- the requests that were issued, and whether the client gave data on the reliable link
pub record AreRequests (entries : List Entry) (requests : Requests) : Type 0 where
  pub issued : AreIssued entries requests.issued
  pub gave : IsTrue requests.gave_data ↔ GaveData entries

-- The datagrams that were given so far, and the rule that the next entry breaks.
use Rattle.std.specs.Prelude.{ℕ, ◌+◌, ◌-◌, ◌==◌, if◌then◌else◌, nat_lt, List, [], ◌∷◌, ◌++◌, length, slice_get, Option, Some, None}
use Rattle.mt_base.specs.declared.kinds.Role.{Role}
use Rattle.mt_base.specs.declared.kinds.Role.TheVariants.{Server, Client}
use Rattle.mt_base.specs.declared.kinds.Kind.{Kind}
use Rattle.mt_base.specs.declared.kinds.Kind.TheVariants.{Reliable, Lossy}
use Rattle.capture_check.specs.declared.entry.Entry.{Entry}
use Rattle.capture_check.specs.declared.entry.Entry.TheVariants.{Out, In}
use Rattle.capture_check.specs.Numbers.{late}

-- For each datagram of a side and kind, in order of their numbers, how many datagrams of the kind,
-- of both sides, were given before it.
pub record Given : Type 0 where
  pub server_reliable : List ℕ
  pub client_reliable : List ℕ
  pub server_lossy : List ℕ
  pub client_lossy : List ℕ

abbrev pub places : Given → Role → Kind → List ℕ
places given Server Reliable = given.server_reliable
places given Client Reliable = given.client_reliable
places given Server Lossy = given.server_lossy
places given Client Lossy = given.client_lossy

-- how many datagrams of a kind were given
abbrev pub given_of : Given → Kind → ℕ
given_of given Reliable = length given.server_reliable + length given.client_reliable
given_of given Lossy = length given.server_lossy + length given.client_lossy

-- one more datagram
abbrev pub with_out : Given → Role → Kind → Given
with_out given Server Reliable =
    record given { server_reliable = given.server_reliable ++ given_of given Reliable ∷ [] }
with_out given Client Reliable =
    record given { client_reliable = given.client_reliable ++ given_of given Reliable ∷ [] }
with_out given Server Lossy =
    record given { server_lossy = given.server_lossy ++ given_of given Lossy ∷ [] }
with_out given Client Lossy =
    record given { client_lossy = given.client_lossy ++ given_of given Lossy ∷ [] }

-- one more entry
abbrev pub with_entry : Given → Entry → Given
with_entry given (Out side kind number datagram) = with_out given side kind
with_entry given other = given

abbrev pub no_datagrams : Given
no_datagrams =
    record { server_reliable = []; client_reliable = []; server_lossy = []; client_lossy = [] }

-- the rule that a datagram breaks which was given at this place, or was not, and arrives now
abbrev pub arrival_rule : ℕ → Option ℕ → Option ℕ
arrival_rule total None = Some 2
arrival_rule total (Some place) = if nat_lt late (total - place) then Some 3 else None

-- the least rule that an entry breaks
abbrev pub rule_broken : Given → Entry → Option ℕ
rule_broken given (Out side kind number datagram) =
    if number == length (places given side kind) then None else Some 1
rule_broken given (In side kind number) =
    arrival_rule (given_of given kind) (slice_get (places given side kind) number)
rule_broken given other = None

-- How datagrams stand in memory.
use Rattle.std.specs.Prelude.{◌≡◌, ℕ, ◌+◌, ◌≤◌, List, length, map, take, drop, All}
use Rattle.mt_base.specs.declared.kinds.Role.{Role}
use Rattle.mt_base.specs.declared.kinds.Role.TheVariants.{Server, Client}
use Rattle.link_traffic.specs.declared.traffic.Given.{Given}
use Rattle.link_traffic.specs.Given.{places}

-- the datagrams that these places of the bytes hold
abbrev pub datagrams_in : List ℕ → List Given → List (Role × List ℕ)
datagrams_in bytes given = map (λ (g : Given). (g.side, take g.length (drop g.start bytes))) given

-- each stands within the bytes, and the places of each side's are kept
pub record IsStored (bytes : List ℕ) (given : List Given) (server client : List ℕ) : Type 0 where
  pub inside : All (λ (g : Given). g.start + g.length ≤ length bytes) given
  pub server_are : server ≡ places Server (datagrams_in bytes given)
  pub client_are : client ≡ places Client (datagrams_in bytes given)

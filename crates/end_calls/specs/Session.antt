-- Two ends by hand, in bytes: they tell each other their capabilities, and those of the server come to
-- the client in two pieces.
use Rattle.std.specs.Prelude.{◌≡◌, ℕ, true, List, [], ◌∷◌, take, drop, None}
use Rattle.mt_base.specs.declared.kinds.Role.{Role}
use Rattle.mt_base.specs.declared.kinds.Role.TheVariants.{Server, Client}
use Rattle.mt_base.specs.Trace.{Trace, Start, ◌▷◌}
use Rattle.mt_endpoint.specs.Acts.{Began}
use Rattle.mt_endpoint.specs.Channels.{is_ready}
use Rattle.end_calls.specs.Calls.{Entry, Own, MainIn, MainOut}
use Rattle.end_calls.specs.Net.{acts_of}

-- the frame of capabilities of version 3, and the client's answer
abbrev pub capabilities : List ℕ
capabilities = 3 ∷ 12 ∷ 0 ∷ 0x50 ∷ 0 ∷ 3 ∷ 0 ∷ 0 ∷ 0 ∷ 0 ∷ 0 ∷ 0 ∷ 0 ∷ 0 ∷ 0 ∷ []

abbrev pub capabilities_back : List ℕ
capabilities_back = 3 ∷ 4 ∷ 0 ∷ 0x50 ∷ 0 ∷ 3 ∷ 0 ∷ []

abbrev pub capable : Trace (Role × Entry)
capable =
    Start ▷ (Server, Own Began) ▷ (Client, Own Began) ▷ (Server, MainOut 15 capabilities)
    ▷ (Client, MainIn (take 4 capabilities) 4 0 None) ▷ (Client, MainIn (drop 4 capabilities) 11 0 None)
    ▷ (Client, MainOut 100 capabilities_back) ▷ (Server, MainIn capabilities_back 7 0 None)

-- each has read the other's capabilities
pub record Shown : Type 0 where
  pub at_server : is_ready (acts_of Server capable) ≡ true
  pub at_client : is_ready (acts_of Client capable) ≡ true

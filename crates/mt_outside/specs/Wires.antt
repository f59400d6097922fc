-- What a wire tells of its calls.
use Rattle.std.specs.Prelude.{ℕ, List, [], ◌∷◌, take, Option, Some, None}
use Rattle.std.specs.Option.{option_map}
use Rattle.mt_base.specs.declared.kinds.Role.{Role}
use Rattle.mt_outside.specs.Told.{added, counted}

-- The roles and ports of all opens, the datagrams taken and those sent, each in order, and how many
-- takes gave none. The lists are of wires that tell them, the count is told by all.
pub record WireTold : Type 0 where
  pub opened : Option (List (Role × ℕ))
  pub taken : Option (List (List ℕ))
  pub sent : Option (List (List ℕ))
  pub quiet : ℕ

-- after a call that opens it, whether it fails or not
abbrev pub opening : Role → ℕ → WireTold → WireTold
opening role port told = record told { opened = added told.opened ((role, port) ∷ []) }

-- the datagram that a take gave, with the buffer that it left
abbrev pub datagram_of : Option ℕ → List ℕ → Option (List ℕ)
datagram_of got out = option_map (λ n. take n out) got

-- after a take
abbrev pub came : Option (List ℕ) → WireTold → WireTold
came (Some datagram) told = record told { taken = added told.taken (datagram ∷ []) }
came None told = record told { quiet = counted told.quiet }

-- after a send
abbrev pub left : List ℕ → WireTold → WireTold
left datagram told = record told { sent = added told.sent (datagram ∷ []) }

-- The names of reasons and refusals, and how a refusal is said.
use Rattle.std.specs.Prelude.{ℕ, List, ◌++◌, codes, decimal}
use Rattle.tunnel_pdus.specs.declared.part.TunnelReason.{TunnelReason}
use Rattle.tunnel_pdus.specs.declared.part.TunnelReason.TheVariants as reason
use Rattle.tunnel_pdus.specs.declared.part.TunnelRefusal.{TunnelRefusal}

-- a reason has the name of its variant
abbrev pub tunnel_reason_name : TunnelReason → List ℕ
tunnel_reason_name reason.BadAction = codes "BadAction"
tunnel_reason_name reason.BadFlags = codes "BadFlags"
tunnel_reason_name reason.BadHeaderLength = codes "BadHeaderLength"
tunnel_reason_name reason.BadSubHeader = codes "BadSubHeader"
tunnel_reason_name reason.WrongLength = codes "WrongLength"
tunnel_reason_name reason.TooLong = codes "TooLong"
tunnel_reason_name reason.BadKind = codes "BadKind"
tunnel_reason_name reason.BadProtocol = codes "BadProtocol"

-- a refusal has its reason's name, and the place of its field
abbrev pub tunnel_name : TunnelRefusal → List ℕ
tunnel_name refusal = tunnel_reason_name refusal.reason

abbrev pub tunnel_place : TunnelRefusal → ℕ
tunnel_place refusal = refusal.at

abbrev pub tunnel_text : TunnelRefusal → List ℕ
tunnel_text refusal = tunnel_name refusal ++ codes " at " ++ decimal (tunnel_place refusal)

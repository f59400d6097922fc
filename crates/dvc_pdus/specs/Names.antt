-- The names and places of refusals, and how a refusal is said.
use Rattle.std.specs.Prelude.{ℕ, List, ◌++◌, codes, decimal}
use Rattle.dvc_pdus.specs.declared.pdu.DvcRefusal.{DvcRefusal}
use Rattle.dvc_pdus.specs.declared.pdu.DvcRefusal.TheVariants as refusal

-- a refusal has the name of its variant
abbrev pub dvc_name : DvcRefusal → List ℕ
dvc_name (refusal.Short short) = codes "Short"
dvc_name (refusal.TooLong at) = codes "TooLong"
dvc_name (refusal.UnknownCommand at) = codes "UnknownCommand"
dvc_name (refusal.BadCbId at) = codes "BadCbId"
dvc_name (refusal.BadLen at) = codes "BadLen"
dvc_name (refusal.NameNotEnded at) = codes "NameNotEnded"
dvc_name (refusal.BadName at) = codes "BadName"
dvc_name (refusal.LengthTooSmall at) = codes "LengthTooSmall"
dvc_name (refusal.SyncLength at) = codes "SyncLength"
dvc_name (refusal.BadTunnelType at) = codes "BadTunnelType"
dvc_name (refusal.Trailing at) = codes "Trailing"

-- a field that is cut short has its place where it begins
abbrev pub dvc_place : DvcRefusal → ℕ
dvc_place (refusal.Short short) = short.at
dvc_place (refusal.TooLong at) = at
dvc_place (refusal.UnknownCommand at) = at
dvc_place (refusal.BadCbId at) = at
dvc_place (refusal.BadLen at) = at
dvc_place (refusal.NameNotEnded at) = at
dvc_place (refusal.BadName at) = at
dvc_place (refusal.LengthTooSmall at) = at
dvc_place (refusal.SyncLength at) = at
dvc_place (refusal.BadTunnelType at) = at
dvc_place (refusal.Trailing at) = at

abbrev pub dvc_text : DvcRefusal → List ℕ
dvc_text r = dvc_name r ++ codes " at " ++ decimal (dvc_place r)

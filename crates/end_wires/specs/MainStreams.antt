-- The main streams between two ends, which lose nothing.
use Rattle.std.specs.Prelude.{List, ℕ, length, drop}
use Rattle.mt_base.specs.declared.kinds.Role.{Role}
use Rattle.mt_base.specs.Ends.{other}
use Rattle.mt_base.specs.Prefix.{IsPrefixOf}
use Rattle.mt_base.specs.Trace.{Trace, Start, ◌▷◌}
use Rattle.end_calls.specs.Calls.{Entry}
use Rattle.end_calls.specs.Law.{given_main, taken_main}
use Rattle.end_calls.specs.Net.{at, main_in, main_out}

-- at each place of the list each side took the front of the bytes that left the other by the main stream
abbrev pub MainInOrder : Trace (Role × Entry) → Type 0
MainInOrder Start = Unit {0}
MainInOrder (w ▷ call) =
    ((role : Role) → IsPrefixOf (main_in role (w ▷ call)) (main_out (other role) (w ▷ call))) × MainInOrder w

-- what left this side and was not taken by the other
abbrev pub under_way : Role → Trace (Role × Entry) → List ℕ
under_way side w = drop (length (taken_main (at (other side) w))) (given_main (at side w))

-- The rules of a capture that speak of the numbers of datagrams. Each is judged at an entry, from it
-- and the entries before it.
use Rattle.std.specs.Prelude.{◌≡◌, ℕ, ◌<◌, ◌&&◌, Bool, false, List, ◌∷◌, ◌++◌}
use Rattle.std.specs.List.{count_by}
use Rattle.mt_base.specs.declared.kinds.Role.{Role}
use Rattle.mt_base.specs.declared.kinds.Kind.{Kind}
use Rattle.mt_base.specs.Ends.{same_kind, same_role}
use Rattle.capture_check.specs.declared.entry.Entry.{Entry}
use Rattle.capture_check.specs.declared.entry.Entry.TheVariants.{Out, In}

-- an entry is an `out` of this kind, of either side
abbrev pub is_out : Kind → Entry → Bool
is_out kind (Out s k number datagram) = same_kind kind k
is_out kind other = false

-- an entry is an `out` of this side and kind
abbrev pub is_out_of : Role → Kind → Entry → Bool
is_out_of side kind (Out s k number datagram) = same_role side s && same_kind kind k
is_out_of side kind other = false

-- an `out` of this side, kind and number stands among entries: those before it, and those behind it
pub record HasOut (side : Role) (kind : Kind) (number : ℕ) (entries : List Entry) : Type 0 where
  pub front : List Entry
  pub datagram : List ℕ
  pub back : List Entry
  pub parts : entries ≡ front ++ Out side kind number datagram ∷ back

-- a datagram is late where so many others were given on its link, by both sides, after it and before
-- it arrived
abbrev pub late : ℕ
late = 1024

-- Rule 1: the numbers of a side's `out` entries of a kind are 0, 1, 2 and so on.
abbrev pub CountsUp : List Entry → Entry → Type 0
CountsUp before (Out side kind number datagram) = number ≡ count_by (is_out_of side kind) before
CountsUp before other = Unit {0}

-- Rule 2: an `in` names an earlier `out`.
abbrev pub NamesOut : List Entry → Entry → Type 0
NamesOut before (In side kind number) = HasOut side kind number before
NamesOut before other = Unit {0}

-- Rule 3: fewer `out` entries of its kind than make a datagram late stand between an `in` and the
-- `out` that it names.
abbrev pub IsTimely : List Entry → Entry → Type 0
IsTimely before (In side kind number) =
    (given : HasOut side kind number before) → count_by (is_out kind) given.back < late
IsTimely before other = Unit {0}

-- Parts that arrive in any order: which are accepted, and which of their bytes are in order.
use Rattle.std.specs.Prelude.{ℕ, zero, suc, ◌+◌, ◌-◌, List, [], ◌∷◌, ◌++◌, length, get_or, nat_lt, nat_le, if◌then◌else◌, Bool, false, Option, Some, None, is_some}
use Rattle.mt_windows.specs.declared.receive.Accept.{Accept}
use Rattle.mt_windows.specs.declared.receive.Accept.TheVariants.{New, Again, Beyond}

-- the parts so far by their place, the first part at 0; None where one is missing
abbrev pub Parts : Type 0
Parts = List (Option (List ℕ))

-- the part at a place
abbrev pub part_at : Parts → ℕ → Option (List ℕ)
part_at parts k = get_or parts k None

-- the parts with one more, at the place k
abbrev pub put : Parts → ℕ → List ℕ → Parts
put [] zero bytes = Some bytes ∷ []
put [] (suc k) bytes = None ∷ put [] k bytes
put (p ∷ parts) zero bytes = Some bytes ∷ parts
put (p ∷ parts) (suc k) bytes = p ∷ put parts k bytes

-- the bytes of the parts up to the least that is missing
abbrev pub passed : Parts → List ℕ
passed [] = []
passed (None ∷ parts) = []
passed (Some bytes ∷ parts) = bytes ++ passed parts

-- the least part that is missing, or not all of whose bytes are among the first n passed
abbrev pub drained : Parts → ℕ → ℕ
drained [] n = 0
drained (None ∷ parts) n = 0
drained (Some bytes ∷ parts) n = if nat_le (length bytes) n then suc (drained parts (n - length bytes)) else 0

-- the place behind the greatest part that there is
abbrev pub end_of : Parts → ℕ
end_of [] = 0
end_of (p ∷ parts) = if nat_lt 0 (end_of parts) then suc (end_of parts) else (if is_some p then 1 else 0)

-- the number of the greatest part that there is
abbrev pub greatest_part : ℕ → Parts → Option ℕ
greatest_part first parts = if nat_lt 0 (end_of parts) then Some (first + end_of parts - 1) else None

-- Whether the part with this number is among the parts, the first of which has the number `first`.
abbrev pub has_part : ℕ → Parts → ℕ → Bool
has_part first parts part = if nat_lt part first then false else is_some (part_at parts (part - first))

-- What is done with a part where the first n bytes were pulled: it is accepted once, from the least
-- part that is not drained on, and within the window.
abbrev pub verdict : ℕ → ℕ → Parts → ℕ → ℕ → Accept
verdict window first parts n part =
    if nat_lt part (first + drained parts n) then Again
    else (if nat_le (first + drained parts n + window) part then Beyond (first + drained parts n + window)
    else (if has_part first parts part then Again else New))

-- the parts after that verdict
abbrev pub with_part : Accept → Parts → ℕ → List ℕ → Parts
with_part New parts k bytes = put parts k bytes
with_part Again parts k bytes = parts
with_part (Beyond limit) parts k bytes = parts

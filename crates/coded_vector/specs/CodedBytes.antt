-- The bytes of a coded acknowledgement vector (MS-RDPEUDP2 section 2.2.1.2.6), and the flags that
-- they spell, one for each number, true where it was received.
use Rattle.std.specs.Prelude.{ℕ, zero, suc, ◌/◌, ◌%◌, ◌==◌, Bool, List, [], ◌∷◌, replicate, nat_lt, if◌then◌else◌, flat_map}

-- the lowest n bits of a number, the lowest first
abbrev pub bits : ℕ → ℕ → List Bool
bits zero c = []
bits (suc n) c = (c % 2 == 1) ∷ bits n (c / 2)

-- Where the highest bit is 0 a byte tells seven flags by its other bits. Else the next bit is the
-- flag of a run, and the lower six bits are its length.
abbrev pub flags_in : ℕ → List Bool
flags_in c = if nat_lt c 128 then bits 7 c else replicate (c % 64) (c / 64 == 3)

-- the flags of coded bytes, the lowest number first
abbrev pub flags_of : List ℕ → List Bool
flags_of cs = flat_map flags_in cs

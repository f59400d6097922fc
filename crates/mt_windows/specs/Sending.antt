-- What a sender gave, sent and was told. Parts and transmissions are counted from 0.
use Rattle.std.specs.Prelude.{◌≡◌, ◌⊎◌, ℕ, zero, suc, ◌+◌, ◌-◌, Bool, false, not, ◌==◌, ◌||◌, ◌&&◌, nat_lt, nat_le, min, max, if◌then◌else◌, List, [], ◌∷◌, ◌++◌, length, take, drop, get_or, Option, Some, None, unwrap_or}
use Rattle.mt_base.specs.Trace.{Trace, Start, ◌▷◌}
use Rattle.mt_base.specs.Writing.{joined}

-- one thing that a sender did or heard
pub data Act : Type 0 where
  -- these bytes were given
  Gave : (bytes : List ℕ) → Act
  -- the next part was cut from the bytes that waited, and sent
  Cut : Act
  -- this part was sent again
  Resent : (part : ℕ) → Act
  -- this part was told as received
  ToldPart : (part : ℕ) → Act
  -- this transmission was told as received
  ToldTransmission : (transmission : ℕ) → Act

-- how many parts may be unsettled from the lowest on; of how many of the last transmissions the part
-- is known; the bytes of a part, the bytes given and not settled; the number that none has
pub record Limits : Type 0 where
  pub window : ℕ
  pub span : ℕ
  pub part : ℕ
  pub queue : ℕ
  pub numbers : ℕ

-- all bytes given
abbrev pub given : Trace Act → List ℕ
given Start = []
given (t ▷ Gave bytes) = given t ++ bytes
given (t ▷ e) = given t

-- how many parts were cut
abbrev pub cuts : Trace Act → ℕ
cuts Start = 0
cuts (t ▷ Cut) = cuts t + 1
cuts (t ▷ e) = cuts t

-- the parts: consecutive pieces of the bytes given
abbrev pub pieces : Limits → Trace Act → List (List ℕ)
pieces limits Start = []
pieces limits (t ▷ Cut) = pieces limits t ++ take limits.part (drop (length (joined (pieces limits t))) (given t)) ∷ []
pieces limits (t ▷ e) = pieces limits t

-- the bytes given that were not cut yet
abbrev pub waiting : Limits → Trace Act → List ℕ
waiting limits t = drop (length (joined (pieces limits t))) (given t)

-- the bytes of a part
abbrev pub piece : Limits → Trace Act → ℕ → List ℕ
piece limits t p = get_or (pieces limits t) p []

-- how many transmissions were made
abbrev pub transmissions : Trace Act → ℕ
transmissions Start = 0
transmissions (t ▷ Cut) = transmissions t + 1
transmissions (t ▷ Resent p) = transmissions t + 1
transmissions (t ▷ e) = transmissions t

-- the part that a transmission carried
abbrev pub part_of : Trace Act → ℕ → ℕ
part_of Start j = 0
part_of (t ▷ Cut) j = if j == transmissions t then cuts t else part_of t j
part_of (t ▷ Resent p) j = if j == transmissions t then p else part_of t j
part_of (t ▷ e) j = part_of t j

-- the first transmission of a part
abbrev pub earliest : Trace Act → ℕ → ℕ
earliest Start p = 0
earliest (t ▷ Cut) p = if p == cuts t then transmissions t else earliest t p
earliest (t ▷ e) p = earliest t p

-- the latest transmission of a part
abbrev pub latest : Trace Act → ℕ → ℕ
latest Start p = 0
latest (t ▷ Cut) p = if p == cuts t then transmissions t else latest t p
latest (t ▷ Resent q) p = if p == q then transmissions t else latest t p
latest (t ▷ e) p = latest t p

-- whether a transmission was made, and is among the last `span` ones
abbrev pub is_recent : Limits → Trace Act → ℕ → Bool
is_recent limits t j = nat_lt j (transmissions t) && nat_le (transmissions t) (j + limits.span)

-- Whether a part is settled: it was told, or a transmission that carried it was told while it was
-- recent. What was not sent yet is not settled by a telling.
abbrev pub settled : Limits → Trace Act → ℕ → Bool
settled limits Start p = false
settled limits (t ▷ ToldPart q) p = settled limits t p || (p == q && nat_lt q (cuts t))
settled limits (t ▷ ToldTransmission j) p = settled limits t p || (is_recent limits t j && part_of t j == p)
settled limits (t ▷ e) p = settled limits t p

-- whether a part was cut and is not settled
abbrev pub is_open : Limits → Trace Act → ℕ → Bool
is_open limits t p = nat_lt p (cuts t) && not (settled limits t p)

-- Whether a transmission is known as told: it was told while it was recent, or it was the latest one
-- of a part that was told while it was unsettled.
abbrev pub told : Limits → Trace Act → ℕ → Bool
told limits Start j = false
told limits (t ▷ ToldPart q) j = told limits t j || (is_open limits t q && j == latest t q)
told limits (t ▷ ToldTransmission i) j = told limits t j || (is_recent limits t i && j == i)
told limits (t ▷ e) j = told limits t j

-- how many of the first n numbers pass a test
abbrev pub how_many : (ℕ → Bool) → ℕ → ℕ
how_many f zero = 0
how_many f (suc n) = how_many f n + (if f n then 1 else 0)

-- the sum of a function over the first n numbers
abbrev pub sum_of : (ℕ → ℕ) → ℕ → ℕ
sum_of f zero = 0
sum_of f (suc n) = sum_of f n + f n

-- the first of two that is there
abbrev pub or_else : Option ℕ → Option ℕ → Option ℕ
or_else None y = y
or_else (Some x) y = Some x

-- the least of the first n numbers that passes a test
abbrev pub least : (ℕ → Bool) → ℕ → Option ℕ
least f zero = None
least f (suc n) = or_else (least f n) (if f n then Some n else None)

-- the number behind the last of the first n numbers that passes a test, or 0
abbrev pub last_end : (ℕ → Bool) → ℕ → ℕ
last_end f zero = 0
last_end f (suc n) = if f n then suc n else last_end f n

-- how many transmissions were made past the greatest one known as told
abbrev pub reach : Limits → Trace Act → ℕ
reach limits t = transmissions t - last_end (told limits t) (transmissions t)

-- the lowest unsettled part
abbrev pub lowest : Limits → Trace Act → Option ℕ
lowest limits t = least (is_open limits t) (cuts t)

-- the lowest unsettled part, or the next part where none is unsettled
abbrev pub lowest_or_next : Limits → Trace Act → ℕ
lowest_or_next limits t = unwrap_or (lowest limits t) (cuts t)

-- whether three told transmissions are above the latest one of an unsettled part
abbrev pub is_passed_over : Limits → Trace Act → ℕ → Bool
is_passed_over limits t p =
    is_open limits t p && nat_le 3 (how_many (λ j. told limits t j && nat_lt (latest t p) j) (transmissions t))

-- the lowest part that is passed over
abbrev pub passed_over : Limits → Trace Act → Option ℕ
passed_over limits t = least (is_passed_over limits t) (cuts t)

-- how many bytes were given and are not in a settled part
abbrev pub queued : Limits → Trace Act → ℕ
queued limits t =
    length (waiting limits t) + sum_of (λ p. if is_open limits t p then length (piece limits t p) else 0) (cuts t)

-- Whether a part may be cut: bytes wait; the next part is below the lowest unsettled one plus the
-- lower of the own window and the one told by the peer; the reach is below the span; and there are
-- numbers left, from the first one on.
abbrev pub may_cut : Limits → ℕ → Trace Act → ℕ → Bool
may_cut limits first t window =
    nat_lt 0 (length (waiting limits t)) && nat_lt (cuts t) (lowest_or_next limits t + min limits.window window)
    && nat_lt (reach limits t) limits.span
    && nat_lt (first + cuts t) limits.numbers && nat_lt (first + transmissions t) limits.numbers

-- the bytes of the next part
abbrev pub next_piece : Limits → Trace Act → List ℕ
next_piece limits t = take limits.part (waiting limits t)

-- the transmission below which all are settled or too old to be told: the first one of the lowest
-- unsettled part, or the least recent one where that is greater; the next one where no part is
-- unsettled
abbrev pub floor_transmission : Limits → Trace Act → ℕ
floor_transmission limits t =
    if nat_lt (lowest_or_next limits t) (cuts t) then max (earliest t (lowest_or_next limits t)) (transmissions t - limits.span)
    else transmissions t

-- what is done and heard after a telling of the part, or of the transmission, with this number
abbrev pub tells_part : ℕ → ℕ → Trace Act → Trace Act
tells_part first number t = if nat_lt number first then t else t ▷ ToldPart (number - first)

abbrev pub tells_transmission : ℕ → ℕ → Trace Act → Trace Act
tells_transmission first number t = if nat_lt number first then t else t ▷ ToldTransmission (number - first)

-- whether a telling of the part, or of the transmission, with this number settles a part
abbrev pub settles_part : Limits → ℕ → Trace Act → ℕ → Bool
settles_part limits first t number = nat_le first number && is_open limits t (number - first)

abbrev pub settles_transmission : Limits → ℕ → Trace Act → ℕ → Bool
settles_transmission limits first t number =
    nat_le first number && (is_recent limits t (number - first) && is_open limits t (part_of t (number - first)))

-- this part was told as received, or a transmission that carried it was
abbrev pub WasTold : Trace Act → ℕ → Type 0
WasTold Start p = ⊥
WasTold (t ▷ ToldPart q) p = (p ≡ q) ⊎ WasTold t p
WasTold (t ▷ ToldTransmission j) p = (part_of t j ≡ p) ⊎ WasTold t p
WasTold (t ▷ e) p = WasTold t p

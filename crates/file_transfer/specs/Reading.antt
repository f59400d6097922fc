-- The reading of a piece of a file.
use Rattle.std.specs.Prelude.{◌≡◌, ℕ, ◌-◌, ◌<◌, ◌≤◌, List, [], ◌∷◌, length, take, drop, Option, Some, None}
use Rattle.file_messages.specs.Files.{Message, piece_message}

-- The room has from place `at` on so many bytes of the content from place `from` on; none only where it ends there.
pub record Reaches (content : List ℕ) (from at n : ℕ) (room : List ℕ) : Type 0 where
  pub bytes : take n (drop at room) ≡ take n (drop from content)
  pub within : n ≤ length content - from
  pub some : from < length content → 0 < n

-- the message of a piece, where it has a byte
abbrev pub drafted : List ℕ → Option Message
drafted [] = None
drafted (byte ∷ bytes) = Some (piece_message (byte ∷ bytes))

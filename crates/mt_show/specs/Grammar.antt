-- What a line of a show file asks for, and how it is spelled.
use Rattle.std.specs.Prelude.{◌≡◌, ◌≢◌, ◌≤◌, ℕ, List, [], ◌∷◌, length, codes}
use Rattle.std.specs.List.{join_with_byte}
use Rattle.mt_script.specs.Spelling.{IsBytes, hex_text, side_name}
use Rattle.mt_show.specs.declared.asked.Asked.{Asked}
use Rattle.mt_show.specs.declared.asked.Asked.TheVariants.{FirstLayout, SecondLayout, Tunnel, MainStream, Channel}

-- the word that a line begins with, and its answer too
abbrev pub first_word : Asked → List ℕ
first_word (FirstLayout bytes) = codes "v1"
first_word (SecondLayout bytes) = codes "v2"
first_word (Tunnel bytes) = codes "tunnel"
first_word (MainStream bytes) = codes "frame"
first_word (Channel from bytes) = codes "dvc"

-- the words of a line
abbrev pub words_of : Asked → List (List ℕ)
words_of (FirstLayout bytes) = codes "v1" ∷ hex_text bytes ∷ []
words_of (SecondLayout bytes) = codes "v2" ∷ hex_text bytes ∷ []
words_of (Tunnel bytes) = codes "tunnel" ∷ hex_text bytes ∷ []
words_of (MainStream bytes) = codes "frame" ∷ hex_text bytes ∷ []
words_of (Channel from bytes) = codes "dvc" ∷ side_name from ∷ hex_text bytes ∷ []

-- the line: its words, with one blank between each two
abbrev pub spelled : Asked → List ℕ
spelled asked = join_with_byte 32 (words_of asked)

-- What a line can ask for. A datagram of the second layout has at most 1,232 bytes: the layout says
-- nothing of a longer one.
abbrev pub IsAsked : Asked → Type 0
IsAsked (FirstLayout bytes) = IsBytes bytes
IsAsked (SecondLayout bytes) = IsBytes bytes × (length bytes ≤ 1232)
IsAsked (Tunnel bytes) = IsBytes bytes
IsAsked (MainStream bytes) = IsBytes bytes
IsAsked (Channel from bytes) = IsBytes bytes

-- a line keeps the grammar, or breaks it
abbrev pub Keeps : List ℕ → Type 0
Keeps line = (asked : Asked) × IsAsked asked × (line ≡ spelled asked)

abbrev pub Breaks : List ℕ → Type 0
Breaks line = (asked : Asked) → IsAsked asked → line ≢ spelled asked

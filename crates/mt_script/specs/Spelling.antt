-- How the line of an event is spelled.
use Rattle.std.specs.Prelude.{ℕ, ◌<◌, ◌^◌, ◌≡◌, ◌≢◌, List, [], ◌∷◌, length, codes, All, Option, Some, None}
use Rattle.std.specs.List.{join_with_byte}
use Rattle.std.specs.Fmt.{decimal}
use Rattle.mt_script.specs.Lines.{Lacks}
use Rattle.hex.specs.Hex.{encode_lower}
use Rattle.mt_base.specs.declared.kinds.Role.{Role}
use Rattle.mt_base.specs.declared.kinds.Role.TheVariants.{Server, Client}
use Rattle.mt_base.specs.declared.kinds.Kind.{Kind}
use Rattle.mt_base.specs.declared.kinds.Kind.TheVariants.{Reliable, Lossy}
use Rattle.mt_script.specs.declared.event.Event.{Event}
use Rattle.mt_script.specs.declared.event.Event.TheVariants.{Open, Send, Main}

-- an end
abbrev pub side_name : Role → List ℕ
side_name Server = codes "server"
side_name Client = codes "client"

-- a kind of link
abbrev pub kind_name : Kind → List ℕ
kind_name Reliable = codes "reliable"
kind_name Lossy = codes "lossy"

-- bytes as pairs of lower case digits; `-` for none
abbrev pub hex_text : List ℕ → List ℕ
hex_text [] = codes "-"
hex_text (byte ∷ rest) = encode_lower (byte ∷ rest)

-- the words of an event's line
abbrev pub words_of : Event → List (List ℕ)
words_of (Open name) = codes "open" ∷ name ∷ []
words_of (Send side id message) = codes "send" ∷ side_name side ∷ decimal id ∷ hex_text message ∷ []
words_of (Main side) = codes "main" ∷ side_name side ∷ codes "all" ∷ []

-- the line of an event: its words, with one blank between each two
abbrev pub spelled : Event → List ℕ
spelled event = join_with_byte 32 (words_of event)

-- bytes
abbrev pub IsBytes : List ℕ → Type 0
IsBytes bytes = All (λ byte. byte < 256) bytes

-- a security cookie (MS-RDPBCGR section 2.2.15.1): sixteen bytes
abbrev pub IsCookie : List ℕ → Type 0
IsCookie cookie = IsBytes cookie × (length cookie ≡ 16)

-- a word: bytes, at least one, and no blank
pub record IsWord (word : List ℕ) : Type 0 where
  pub bytes : IsBytes word
  pub not_empty : 0 < length word
  pub no_blank : Lacks 32 word

-- what the line of an event can hold
abbrev pub IsEvent : Event → Type 0
IsEvent (Open name) = IsWord name × Lacks 10 name
IsEvent (Send side id message) = (id < 2 ^ 32) × IsBytes message
IsEvent (Main side) = Unit {0}

-- a word spells these bytes, or none
abbrev pub SpellsBytes : List ℕ → Option (List ℕ) → Type 0
SpellsBytes word (Some bytes) = IsBytes bytes × (word ≡ hex_text bytes)
SpellsBytes word None = (bytes : List ℕ) → IsBytes bytes → word ≢ hex_text bytes

-- How the line of an entry is spelled.
use Rattle.std.specs.Prelude.{ℕ, ◌<◌, ◌^◌, List, [], ◌∷◌, codes}
use Rattle.std.specs.List.{join_with_byte}
use Rattle.std.specs.Fmt.{decimal}
use Rattle.mt_script.specs.Lines.{Lacks}
use Rattle.mt_script.specs.Spelling.{side_name, kind_name, hex_text, IsBytes, IsCookie, IsWord}
use Rattle.capture_check.specs.declared.entry.Entry.{Entry}
use Rattle.capture_check.specs.declared.entry.Entry.TheVariants.{Issue, Open, Sent, Got, Main, Word, Out, In}

-- the words of an entry's line
abbrev pub words_of : Entry → List (List ℕ)
words_of (Issue id kind cookie) = codes "issue" ∷ decimal id ∷ kind_name kind ∷ hex_text cookie ∷ []
words_of (Open id name) = codes "open" ∷ decimal id ∷ name ∷ []
words_of (Sent side id message) = codes "sent" ∷ side_name side ∷ decimal id ∷ hex_text message ∷ []
words_of (Got side id message) = codes "got" ∷ side_name side ∷ decimal id ∷ hex_text message ∷ []
words_of (Main side bytes) = codes "main" ∷ side_name side ∷ hex_text bytes ∷ []
words_of (Word side kind id) = codes "word" ∷ side_name side ∷ kind_name kind ∷ decimal id ∷ []
words_of (Out side kind number datagram) =
    codes "out" ∷ side_name side ∷ kind_name kind ∷ decimal number ∷ hex_text datagram ∷ []
words_of (In side kind number) = codes "in" ∷ side_name side ∷ kind_name kind ∷ decimal number ∷ []

-- the line of an entry: its words, with one blank between each two
abbrev pub spelled : Entry → List ℕ
spelled entry = join_with_byte 32 (words_of entry)

-- what the line of an entry can hold
abbrev pub IsEntry : Entry → Type 0
IsEntry (Issue id kind cookie) = (id < 2 ^ 32) × IsCookie cookie
IsEntry (Open id name) = (id < 2 ^ 32) × IsWord name × Lacks 10 name
IsEntry (Sent side id message) = (id < 2 ^ 32) × IsBytes message
IsEntry (Got side id message) = (id < 2 ^ 32) × IsBytes message
IsEntry (Main side bytes) = IsBytes bytes
IsEntry (Word side kind id) = id < 2 ^ 32
IsEntry (Out side kind number datagram) = (number < 2 ^ 64) × IsBytes datagram
IsEntry (In side kind number) = number < 2 ^ 64

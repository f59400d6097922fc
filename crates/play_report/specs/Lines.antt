-- The lines of a report: what each side sent on a channel and what was delivered of it at the other,
-- what a tunnel came to, and how many main stream bytes reached each side.
use Rattle.std.specs.Prelude.{ℕ, List, [], ◌∷◌, ◌++◌, length, codes}
use Rattle.std.specs.Fmt.{decimal}
use Rattle.sha2.specs.Sha256.{sha256}
use Rattle.hex.specs.Hex.{encode_lower}
use Rattle.mt_base.specs.declared.kinds.Role.{Role}
use Rattle.mt_base.specs.declared.kinds.Kind.{Kind}
use Rattle.mt_base.specs.Writing.{joined}
use Rattle.mt_script.specs.Spelling.{side_name, kind_name}
use Rattle.play_report.specs.Tallying.{told_count}

-- how many messages there are, and the SHA-256 of their bytes, joined, in lower case digits
unfoldable pub counted : List (List ℕ) → List ℕ
counted messages =
    decimal (told_count (length messages)) ++ codes " " ++ encode_lower (sha256 (joined messages))

-- the line of what one side sent on a channel
unfoldable pub channel_line : ℕ → List ℕ → Role → List (List ℕ) → List (List ℕ) → List ℕ
channel_line id name side sent_messages delivered_messages =
    codes "channel " ++ decimal id ++ codes " " ++ name ++ codes " " ++ side_name side
    ++ codes " sent " ++ counted sent_messages ++ codes " delivered " ++ counted delivered_messages ++ 10 ∷ []

-- the line of a tunnel: its kind, its state, and how many datagrams each side gave on its link
unfoldable pub tunnel_line : Kind → List ℕ → ℕ → ℕ → List ℕ
tunnel_line kind state server client =
    codes "tunnel " ++ kind_name kind ++ codes " " ++ state
    ++ codes " server " ++ decimal server ++ codes " client " ++ decimal client ++ 10 ∷ []

-- the line of the main stream: the bytes of each side that reached the other
unfoldable pub main_line : ℕ → ℕ → List ℕ
main_line server client =
    codes "main server " ++ decimal server ++ codes " client " ++ decimal client ++ 10 ∷ []

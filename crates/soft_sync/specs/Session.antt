-- A session by hand: the server asks for channel 1 on the reliable tunnel and for channel 2 on the
-- lossy one; the answer names the reliable tunnel alone; then the server asks for channel 3.
use Rattle.std.specs.Prelude.{List, [], ◌∷◌, true, false}
use Rattle.soft_sync.specs.declared.kinds.Kinds.{Kinds}
use Rattle.soft_sync.specs.Exchanges.{Request, exchanges}
use Rattle.soft_sync.specs.Words.{Words, silence, request_of}

-- the words of a server that made these requests and read these answers
abbrev pub server : List Request → List Kinds → Words
server requests answers = record silence { made = exchanges requests answers }

-- the words of a client that read these requests and gave these answers
abbrev pub client : List Request → List Kinds → Words
client requests answers = record silence { read = exchanges requests answers }

abbrev pub first : Request
first = request_of (1 ∷ []) (2 ∷ [])

abbrev pub second : Request
second = request_of (3 ∷ []) []

abbrev pub reliable_alone : Kinds
reliable_alone = record { reliable = true; lossy = false }

-- The words by which the front of a stream is shown: a tunnel PDU or a main frame and how many bytes
-- stand behind it, or the least length at which it can be whole, or its first fault.
use Rattle.std.specs.Prelude.{ℕ, zero, suc, List, [], ◌∷◌, ◌++◌, ◌-◌, codes, Result, Ok, Err}
use Rattle.std.specs.Fmt.{decimal}
use Rattle.mt_base.specs.declared.kinds.Kind.{Kind}
use Rattle.mt_base.specs.declared.kinds.Kind.TheVariants.{Reliable, Lossy}
use Rattle.tunnel_pdus.specs.declared.part.Part.{Part}
use Rattle.tunnel_pdus.specs.declared.part.Part.TheVariants.{Whole, More}
use Rattle.tunnel_pdus.specs.declared.part.TunnelRefusal.{TunnelRefusal}
use Rattle.tunnel_pdus.specs.Names.{tunnel_name, tunnel_place}
use Rattle.tunnel_pdus.specs.Value.{Pdu, CreateRequest, CreateResponse, Data, Frame, Request, Response, Channel}
use Rattle.mt_show.specs.Words.{number_field, wide_field, hex_field, fault_words}

-- a tunnel PDU
abbrev pub create_words : ℕ → List ℕ → List (List ℕ)
create_words id cookie =
    codes "create" ∷ number_field (codes "id=") id ∷ hex_field (codes "cookie=") cookie ∷ []

abbrev pub pdu_words : Pdu → List (List ℕ)
pdu_words (CreateRequest id cookie) = create_words id cookie
pdu_words (CreateResponse hr) = codes "answer" ∷ wide_field (codes "hr=") hr ∷ []
pdu_words (Data bytes) = codes "data" ∷ hex_field (codes "bytes=") bytes ∷ []

-- a kind of link
abbrev pub kind_word : Kind → List ℕ
kind_word Reliable = codes "kind=reliable"
kind_word Lossy = codes "kind=lossy"

-- a main frame
abbrev pub frame_words : Frame → List (List ℕ)
frame_words (Request id kind cookie) =
    codes "request" ∷ number_field (codes "id=") id ∷ kind_word kind ∷ hex_field (codes "cookie=") cookie ∷ []
frame_words (Response id hr) =
    codes "response" ∷ number_field (codes "id=") id ∷ wide_field (codes "hr=") hr ∷ []
frame_words (Channel bytes) = codes "channel" ∷ hex_field (codes "bytes=") bytes ∷ []

-- how many bytes stand behind a value, where any do
abbrev pub then_words : ℕ → List (List ℕ)
then_words zero = []
then_words (suc n) = codes "then" ∷ decimal (suc n) ∷ []

-- what so many bytes begin with
abbrev pub front_words : {V : Type 0} → (V → List (List ℕ)) → ℕ → Result (Part V) TunnelRefusal → List (List ℕ)
front_words words long (Ok (Whole value used)) = words value ++ then_words (long - used)
front_words words long (Ok (More need)) = codes "more" ∷ decimal need ∷ []
front_words words long (Err r) = fault_words (tunnel_name r) (tunnel_place r)

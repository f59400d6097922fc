-- The words by which a channel PDU is shown, or the fault that bytes have in place of one.
use Rattle.std.specs.Prelude.{ℕ, List, [], ◌∷◌, ◌++◌, map, codes}
use Rattle.std.specs.List.{join_with_byte}
use Rattle.std.specs.Fmt.{decimal}
use Rattle.mt_script.specs.Spelling.{kind_name}
use Rattle.dvc_pdus.specs.declared.pdu.DvcRefusal.{DvcRefusal}
use Rattle.dvc_pdus.specs.Names.{dvc_name, dvc_place}
use Rattle.dvc_pdus.specs.Value.{Pdu, Caps, CreateRequest, CreateResponse, DataFirst, Data, CompressedFirst, Compressed, Close, SyncRequest, SyncResponse, ChannelList}
use Rattle.mt_show.specs.Words.{number_field, digits_field, wide_field, hex_field, where_there, fault_words}

-- numbers behind one another, each but the first behind a comma; `-` where there is none
abbrev pub numbers_word : List ℕ → List ℕ
numbers_word [] = codes "-"
numbers_word (n ∷ ns) = join_with_byte 44 (map decimal (n ∷ ns))

-- the priority charges
abbrev pub charges_word : List ℕ → List ℕ
charges_word charges = codes "charges=" ++ join_with_byte 44 (map decimal charges)

-- the channels that move to a tunnel
abbrev pub list_word : ChannelList → List ℕ
list_word l = kind_name l.kind ++ (codes "=" ++ numbers_word l.ids)

-- bytes of a message, and the first of them
abbrev pub data_words : List ℕ → ℕ → List ℕ → List (List ℕ)
data_words word id bytes =
    word ∷ number_field (codes "id=") id ∷ hex_field (codes "bytes=") bytes ∷ []

abbrev pub first_words : List ℕ → ℕ → ℕ → List ℕ → List (List ℕ)
first_words word id total bytes =
    word ∷ number_field (codes "id=") id ∷ number_field (codes "length=") total ∷ hex_field (codes "bytes=") bytes ∷ []

-- a channel PDU
abbrev pub channel_words : Pdu → List (List ℕ)
channel_words (Caps version charges) =
    codes "caps" ∷ number_field (codes "version=") version ∷ where_there charges_word charges
channel_words (CreateRequest id priority name) =
    codes "create" ∷ number_field (codes "id=") id ∷ (codes "name=" ++ name) ∷ []
channel_words (CreateResponse id status) =
    codes "answer" ∷ number_field (codes "id=") id ∷ wide_field (codes "status=") status ∷ []
channel_words (DataFirst id total bytes) = first_words (codes "first") id total bytes
channel_words (Data id bytes) = data_words (codes "data") id bytes
channel_words (CompressedFirst id total bytes) = first_words (codes "zfirst") id total bytes
channel_words (Compressed id bytes) = data_words (codes "zdata") id bytes
channel_words (Close id) = codes "close" ∷ number_field (codes "id=") id ∷ []
channel_words (SyncRequest flags tunnels lists) =
    codes "sync" ∷ digits_field (codes "flags=") flags ∷ number_field (codes "tunnels=") tunnels
    ∷ map list_word lists
channel_words (SyncResponse types) = codes "syncanswer" ∷ map kind_name types

-- a fault
abbrev pub channel_refusal_words : DvcRefusal → List (List ℕ)
channel_refusal_words r = fault_words (dvc_name r) (dvc_place r)

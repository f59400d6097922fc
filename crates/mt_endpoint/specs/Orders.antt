-- In which order an end writes its frames.
use Rattle.std.specs.Prelude.{◌≡◌, ◌==◌, ℕ, ◌<◌, Bool, true, false, not, ◌||◌, List, [], ◌∷◌, ◌++◌, length, nat_lt, if◌then◌else◌}
use Rattle.mt_base.specs.declared.kinds.Kind.{Kind}
use Rattle.mt_base.specs.declared.kinds.Role.{Role}
use Rattle.mt_base.specs.declared.kinds.Role.TheVariants.{Server, Client}
use Rattle.dvc_pdus.specs.Value.{ChannelList}
use Rattle.soft_sync.specs.Exchanges.{Request}
use Rattle.mt_endpoint.specs.Acts.{Heard, TunnelAsked, TunnelAnswered, Spoken}
use Rattle.mt_endpoint.specs.Said.{Said, Capable, Creates, Created, Brings, Ends, Moves, Moved, said}
use Rattle.mt_base.specs.Ends.{same_kind}
use Rattle.mt_endpoint.specs.Moving.{channels_listed}
use Rattle.mt_endpoint.specs.Faults.{is_capable, is_answer_to}

-- each of these stands where it may, behind those before it
abbrev pub EachMay : {A : Type 0} → (List A → A → Type 0) → List A → List A → Type 0
EachMay may before [] = Unit {0}
EachMay may before (x ∷ xs) = may before x × EachMay may (before ++ x ∷ []) xs

-- a tunnel of this kind is asked for among these
abbrev pub asks : Kind → List Heard → Bool
asks kind [] = false
asks kind (TunnelAsked id made cookie ∷ frames) = same_kind kind made || asks kind frames
asks kind (TunnelAnswered id hr ∷ frames) = asks kind frames
asks kind (Spoken pdu ∷ frames) = asks kind frames

-- a server asks for a tunnel of each kind at most once, and a client answers
abbrev pub MayAsk : Role → List Heard → Heard → Type 0
MayAsk role before (TunnelAsked id kind cookie) = (role ≡ Server) × (asks kind before ≡ false)
MayAsk role before (TunnelAnswered id hr) = role ≡ Client
MayAsk role before (Spoken pdu) = Unit {0}

-- capabilities stand among these
abbrev pub capable : List Heard → Bool
capable [] = false
capable (TunnelAsked id kind cookie ∷ frames) = capable frames
capable (TunnelAnswered id hr ∷ frames) = capable frames
capable (Spoken pdu ∷ frames) = is_capable (said pdu) || capable frames

-- capabilities are told where they were not, and any other channel PDU where they were
abbrev pub MayTell : List Heard → Heard → Type 0
MayTell before (TunnelAsked id kind cookie) = Unit {0}
MayTell before (TunnelAnswered id hr) = Unit {0}
MayTell before (Spoken pdu) = capable before ≡ not (is_capable (said pdu))

-- ---- channels

abbrev pub is_among : ℕ → List ℕ → Bool
is_among id [] = false
is_among id (x ∷ xs) = (x == id) || is_among id xs

-- what channel PDUs tell, in order
abbrev pub told_by : {A : Type 0} → (Said → List A) → List Heard → List A
told_by what [] = []
told_by what (TunnelAsked id kind cookie ∷ frames) = told_by what frames
told_by what (TunnelAnswered id hr ∷ frames) = told_by what frames
told_by what (Spoken pdu ∷ frames) = what (said pdu) ++ told_by what frames

abbrev pub creation : Said → List ℕ
creation (Capable version) = []
creation (Creates id name) = id ∷ []
creation (Created id status) = []
creation (Brings id) = []
creation (Ends id) = []
creation (Moves lists) = []
creation (Moved kinds) = []

-- bit 31 of the status is clear where the client takes the channel (MS-RDPEDYC section 2.2.2.2)
abbrev pub acceptance : Said → List ℕ
acceptance (Capable version) = []
acceptance (Creates id name) = []
acceptance (Created id status) = if nat_lt status 2147483648 then id ∷ [] else []
acceptance (Brings id) = []
acceptance (Ends id) = []
acceptance (Moves lists) = []
acceptance (Moved kinds) = []

-- the channels that these frames of a server create, and those that these of a client accept
abbrev pub channels_of : Role → List Heard → List ℕ
channels_of Server frames = told_by creation frames
channels_of Client frames = told_by acceptance frames

abbrev pub AllAmong : List ℕ → List (ℕ × Kind) → Type 0
AllAmong ids [] = Unit {0}
AllAmong ids ((id, kind) ∷ channels) = (is_among id ids ≡ true) × AllAmong ids channels

-- A server creates a channel once, and fewer than 256 before; a client does not answer for one that it
-- accepted. Data, a close and a Soft-Sync request are for channels of which that was told before.
abbrev pub SaidMay : Role → List Heard → Said → Type 0
SaidMay role before (Capable version) = Unit {0}
SaidMay role before (Creates id name) =
    (role ≡ Server) × (is_among id (channels_of role before) ≡ false) × (length (channels_of role before) < 256)
SaidMay role before (Created id status) = (role ≡ Client) × (is_among id (channels_of role before) ≡ false)
SaidMay role before (Brings id) = is_among id (channels_of role before) ≡ true
SaidMay role before (Ends id) = is_among id (channels_of role before) ≡ true
SaidMay role before (Moves lists) = (role ≡ Server) × AllAmong (channels_of role before) (channels_listed lists)
SaidMay role before (Moved kinds) = role ≡ Client

abbrev pub MayCreate : Role → List Heard → Heard → Type 0
MayCreate role before (TunnelAsked id kind cookie) = Unit {0}
MayCreate role before (TunnelAnswered id hr) = Unit {0}
MayCreate role before (Spoken pdu) = SaidMay role before (said pdu)

-- ---- Soft-Sync

-- the kinds that answers name
abbrev pub answers_of : Said → List (List Kind)
answers_of (Capable version) = []
answers_of (Creates id name) = []
answers_of (Created id status) = []
answers_of (Brings id) = []
answers_of (Ends id) = []
answers_of (Moves lists) = []
answers_of (Moved kinds) = kinds ∷ []

-- the k-th answer is to the k-th request, and names only kinds that it names, each once
abbrev pub AnswersFit : List Request → List (List Kind) → Type 0
AnswersFit requests [] = Unit {0}
AnswersFit [] (kinds ∷ answers) = ⊥
AnswersFit (request ∷ requests) (kinds ∷ answers) = (is_answer_to request.named kinds ≡ true) × AnswersFit requests answers

-- the lists of requests, and all ids that they list
abbrev pub requests_told : Said → List (List ChannelList)
requests_told (Capable version) = []
requests_told (Creates id name) = []
requests_told (Created id status) = []
requests_told (Brings id) = []
requests_told (Ends id) = []
requests_told (Moves lists) = lists ∷ []
requests_told (Moved kinds) = []

abbrev pub ids_in : List (ℕ × Kind) → List ℕ
ids_in [] = []
ids_in ((id, kind) ∷ channels) = id ∷ ids_in channels

abbrev pub listings : Said → List ℕ
listings (Capable version) = []
listings (Creates id name) = []
listings (Created id status) = []
listings (Brings id) = []
listings (Ends id) = []
listings (Moves lists) = ids_in (channels_listed lists)
listings (Moved kinds) = []

-- each stands for the first time
abbrev pub EachNew : List ℕ → List ℕ → Type 0
EachNew seen [] = Unit {0}
EachNew seen (id ∷ ids) = (is_among id seen ≡ false) × EachNew (id ∷ seen) ids

-- a request lists channels that none before it listed, each once, and fewer than 256 stand before it
abbrev pub MovesMay : List Heard → Said → Type 0
MovesMay before (Capable version) = Unit {0}
MovesMay before (Creates id name) = Unit {0}
MovesMay before (Created id status) = Unit {0}
MovesMay before (Brings id) = Unit {0}
MovesMay before (Ends id) = Unit {0}
MovesMay before (Moves lists) =
    (length (told_by requests_told before) < 256) × EachNew (told_by listings before) (ids_in (channels_listed lists))
MovesMay before (Moved kinds) = Unit {0}

abbrev pub MayList : List Heard → Heard → Type 0
MayList before (TunnelAsked id kind cookie) = Unit {0}
MayList before (TunnelAnswered id hr) = Unit {0}
MayList before (Spoken pdu) = MovesMay before (said pdu)

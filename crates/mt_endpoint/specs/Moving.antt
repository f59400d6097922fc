-- The words by which channels move to tunnels (MS-RDPEDYC section 3.1.5.3), and their paths.
use Rattle.std.specs.Prelude.{ℕ, Bool, true, not, ◌&&◌, ◌||◌, List, [], ◌∷◌, ◌++◌, map, flat_map, if◌then◌else◌}
use Rattle.std.specs.Option.{option_or}
use Rattle.mt_base.specs.declared.kinds.Kind.{Kind}
use Rattle.mt_base.specs.declared.kinds.Kind.TheVariants.{Reliable, Lossy}
use Rattle.mt_base.specs.declared.kinds.Role.{Role}
use Rattle.mt_base.specs.Trace.{Trace, Start, ◌▷◌}
use Rattle.dvc_pdus.specs.Value.{ChannelList, SyncRequest, SyncResponse}
use Rattle.soft_sync.specs.declared.kinds.Kinds.{Kinds}
use Rattle.soft_sync.specs.declared.kinds.Path.{Path}
use Rattle.soft_sync.specs.Exchanges.{Request, Exchange, no_kinds, set_kind, exchanges, listed, moved}
use Rattle.soft_sync.specs.Words.{request_of, path_of}
use Rattle.mt_endpoint.specs.Acts.{Act, Syncs, Hears, Answers, Spoken}
use Rattle.mt_endpoint.specs.Tunnels.{is_settled, is_live}

-- this kind too
abbrev pub with_kind : Kind → Kinds → Kinds
with_kind kind kinds = set_kind kind true kinds

-- the kinds that lists name, with ids or without, and the channels that they list, in order
abbrev pub kinds_named : List ChannelList → Kinds
kinds_named [] = no_kinds
kinds_named (l ∷ lists) = with_kind l.kind (kinds_named lists)

abbrev pub channels_listed : List ChannelList → List (ℕ × Kind)
channels_listed lists = flat_map (λ (l : ChannelList). map (λ id. (id, l.kind)) l.ids) lists

abbrev pub request_read : List ChannelList → Request
request_read lists = record { named = kinds_named lists; channels = channels_listed lists }

abbrev pub kinds_of : List Kind → Kinds
kinds_of [] = no_kinds
kinds_of (kind ∷ kinds) = with_kind kind (kinds_of kinds)

-- the requests that this end made, and those that it read
abbrev pub made_by : Act → List Request
made_by (Syncs reliable lossy) = request_of reliable lossy ∷ []
made_by act = []

abbrev pub read_by : Act → List Request
read_by (Hears (Spoken (SyncRequest flags tunnels lists))) = request_read lists ∷ []
read_by act = []

-- the answers that it read, and those that it made
abbrev pub answer_read : Act → List Kinds
answer_read (Hears (Spoken (SyncResponse types))) = kinds_of types ∷ []
answer_read act = []

abbrev pub answer_made : Act → List Kinds
answer_made (Answers named) = named ∷ []
answer_made act = []

-- what acts tell, in order
abbrev pub all_told : {A : Type 0} → (Act → List A) → Trace Act → List A
all_told tells Start = []
all_told tells (t ▷ act) = all_told tells t ++ tells act

-- the requests that this end made, with the answers to them, and those that it read
abbrev pub made : Trace Act → List Exchange
made t = exchanges (all_told made_by t) (all_told answer_read t)

abbrev pub read : Trace Act → List Exchange
read t = exchanges (all_told read_by t) (all_told answer_made t)

-- The path of what this end writes for a channel: it moves at the request that the server makes, and at
-- the client's answer that names the kind under which the request lists the channel.
abbrev pub outward : ℕ → Trace Act → Path
outward id t = path_of (option_or (listed id (made t)) (moved id (read t)))

-- the path of what the other end writes, as far as its words are read
abbrev pub inward : ℕ → Trace Act → Path
inward id t = path_of (option_or (listed id (read t)) (moved id (made t)))

-- the requests without an answer, in order
abbrev pub unanswered_in : List Exchange → List Request
unanswered_in [] = []
unanswered_in (x ∷ xs) = if x.answer.is_given then unanswered_in xs else x.request ∷ unanswered_in xs

-- it is known what became of each kind that a request names
abbrev pub may_answer : Role → Trace Act → Kinds → Bool
may_answer role t named =
    (not named.reliable || is_settled role Reliable t) && (not named.lossy || is_settled role Lossy t)

-- the answer: the kinds named whose tunnels carry
abbrev pub answer_to : Role → Trace Act → Kinds → Kinds
answer_to role t named = record {
  reliable = named.reliable && is_live role Reliable t;
  lossy = named.lossy && is_live role Lossy t;
}

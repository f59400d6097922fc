-- The words of the channels that an act frees are read with it.
use Rattle.std.proofs.Common.{◌≡◌, ℕ, Bool, true, false, ◌||◌, cond, eqb, nat_eq, nat_le, List, [], ◌∷◌, ◌++◌, length, Option, Some, None, is_some, refl, sym, ap, ◌∙◌, append-nil, eq-eqb}
use Rattle.std.specs.Option.{option_or}
use Rattle.std.specs.List.{list_any}
use Rattle.std.specs.Map.{lookup}
use Rattle.mt_base.specs.declared.kinds.Kind.{Kind}
use Rattle.mt_base.specs.declared.kinds.Kind.TheVariants.{Reliable, Lossy}
use Rattle.mt_base.specs.declared.kinds.Role.{Role}
use Rattle.mt_base.specs.declared.kinds.Role.TheVariants.{Server, Client}
use Rattle.mt_base.specs.Trace.{Trace, ◌▷◌}
use Rattle.dvc_pdus.specs.Value.{Pdu, ChannelList, SyncRequest, SyncResponse}
use Rattle.soft_sync.specs.declared.kinds.Kinds.{Kinds}
use Rattle.soft_sync.specs.declared.kinds.Path.{Path}
use Rattle.soft_sync.specs.Exchanges.{Request, exchanges, has, kind_in, if_among, listed, moved}
use Rattle.soft_sync.specs.Words.{path_of}
use Rattle.mt_endpoint.specs.Acts.{Act, Hears, Draws, Spoken, Carried}
use Rattle.mt_endpoint.specs.Said.{Moves, Moved}
use Rattle.mt_endpoint.specs.Channels.{is_known}
use Rattle.mt_endpoint.specs.Moving.{all_told, made_by, made, read_by, read, answer_read, answer_made, inward, unanswered_in, channels_listed, request_read, kinds_of}
use Rattle.mt_endpoint.specs.Holding.{is_through, channel_of}
use Rattle.mt_endpoint.specs.Faults.{Why, Unexpected, SyncUnknown, ids_fault}
use Rattle.mt_endpoint.specs.Growing.{among, oldest_among, if_through, freed}
use Rattle.mt_endpoint.specs.Alone.{EndOfActs}
use Rattle.mt_endpoint.specs.Orders.{is_among, ids_in, EachNew}
use Rattle.mt_endpoint.proofs.Telling.{either}
use Rattle.mt_endpoint.proofs.Words.{listed-plain, or_none}
use Rattle.mt_endpoint.proofs.Reading.{none_read}
use Rattle.mt_endpoint.proofs.Paths.{no_requests}
use Rattle.mt_endpoint.proofs.Creating.{heard_fine}
use Rattle.mt_endpoint.proofs.Distinct.{ids_of, other_way, seen_after, new_first, new_second, before_after, listed_distinct}
use Rattle.mt_endpoint.proofs.Late.{fitting}
use Rattle.mt_endpoint.proofs.Ready.{EachIn, in_later}

-- ---- the inward word

pub inward_client : (t : Trace Act) (id : ℕ) → EndOfActs Client t → inward id t ≡ path_of (listed id (exchanges (all_told read_by t) []))
inward_client t id e =
    ap (λ l. path_of (option_or (listed id (read t)) (moved id (exchanges l (all_told answer_read t))))) (no_requests t (fitting Client t e))
    ∙ ap path_of (or_none (listed id (read t)) ∙ listed-plain id (all_told read_by t) (all_told answer_made t))

pub inward_server : (t : Trace Act) (id : ℕ) → EndOfActs Server t → inward id t ≡ path_of (moved id (made t))
inward_server t id e = ap (λ l. path_of (option_or (listed id (exchanges l (all_told answer_made t))) (moved id (made t)))) (none_read t (fitting Server t e))

no_more_told : {A : Type 0} (tells : Act → List A) (t : Trace Act) (act : Act) → tells act ≡ [] → all_told tells (t ▷ act) ≡ all_told tells t
no_more_told tells t act h = ap (λ l. all_told tells t ++ l) h ∙ append-nil (all_told tells t)

-- an act that tells no word leaves it
pub inward_same : (role : Role) (t : Trace Act) (act : Act) → EndOfActs role (t ▷ act) → read_by act ≡ [] → made_by act ≡ [] → answer_read act ≡ [] → (id : ℕ) → inward id (t ▷ act) ≡ inward id t
inward_same Client t act e r m a id =
    inward_client (t ▷ act) id e ∙ ap (λ l. path_of (listed id (exchanges l []))) (no_more_told read_by t act r) ∙ sym (inward_client t id e.2)
inward_same Server t act e r m a id =
    inward_server (t ▷ act) id e ∙ ap (λ l. path_of (moved id (exchanges l (all_told answer_read (t ▷ act))))) (no_more_told made_by t act m)
    ∙ ap (λ l. path_of (moved id (exchanges (all_told made_by t) l))) (no_more_told answer_read t act a) ∙ sym (inward_server t id e.2)

-- ---- a request that is read

abbrev pub IsFirst : Trace Act → List (ℕ × Kind) → List ℕ → ℕ → Kind → Type 0
IsFirst t pairs seen id kind = (list_any (nat_eq id) seen ≡ false) × (lookup (nat_eq id) pairs ≡ Some kind) × (listed id (read t) ≡ None)

first_later : (t : Trace Act) (made : ℕ) (under : Kind) (pairs : List (ℕ × Kind)) (seen : List ℕ) (id : ℕ) (kind : Kind) → IsFirst t pairs (made ∷ seen) id kind → IsFirst t ((made, under) ∷ pairs) seen id kind
first_later t made under pairs seen id kind h =
    let n = either (eqb id made) (list_any (nat_eq id) seen) h.0 in
    (n.1, ap (λ b. cond b (Some under) (lookup (nat_eq id) pairs)) n.0 ∙ h.1, h.2)

-- an id that is not at fault
passed_id : (b : Bool) (o : Option Kind) (k : Bool) (f g h : Option Why) → (f ≡ None → ⊥) → (h ≡ None → ⊥) → cond (b || is_some o) f (cond k g h) ≡ None → (b ≡ false) × (o ≡ None) × (g ≡ None)
passed_id true o k f g h seen_none lost_none e = absurd (seen_none e)
passed_id false (Some x) k f g h seen_none lost_none e = absurd (seen_none e)
passed_id false None true f g h seen_none lost_none e = (refl, refl, e)
passed_id false None false f g h seen_none lost_none e = absurd (lost_none e)

each_first : (t : Trace Act) (seen : List ℕ) (pairs : List (ℕ × Kind)) → ids_fault Client t seen pairs ≡ None → EachIn (IsFirst t pairs seen) pairs
each_first t seen [] h = tt
each_first t seen ((id, kind) ∷ pairs) h =
    let p = passed_id (list_any (nat_eq id) seen) (listed id (read t)) (is_known Client id t) (Some Unexpected) (ids_fault Client t (id ∷ seen) pairs) (Some (SyncUnknown id))
    (λ e. let no : Some Unexpected ≡ None = e in cc) (λ e. let no : Some (SyncUnknown id) ≡ None = e in cc) h in (
      (p.0, ap (λ b. cond b (Some kind) (lookup (nat_eq id) pairs)) (eq-eqb id id refl), p.1),
      in_later (IsFirst t pairs (id ∷ seen)) (IsFirst t ((id, kind) ∷ pairs) seen) (λ x under k. first_later t id kind pairs seen x under k) pairs (each_first t (id ∷ seen) pairs p.2),
    )

listed_last : (id : ℕ) (rs : List Request) (r : Request) (kind : Kind) → listed id (exchanges rs []) ≡ None → kind_in id r ≡ Some kind → listed id (exchanges (rs ++ r ∷ []) []) ≡ Some kind
listed_last id [] r kind h k = ap (λ o. option_or o None) k
listed_last id (x ∷ rs) r kind h k = by_first (kind_in id x) h (λ n. listed_last id rs r kind n k) where
  by_first : (o : Option Kind) → option_or o (listed id (exchanges rs [])) ≡ None → (listed id (exchanges rs []) ≡ None → listed id (exchanges (rs ++ r ∷ []) []) ≡ Some kind) → option_or o (listed id (exchanges (rs ++ r ∷ []) [])) ≡ Some kind
  by_first None n deeper = deeper n
  by_first (Some made) n deeper = absurd (let no : Some made ≡ None = n in cc)

-- this channel's word is read
abbrev pub IsRead : Trace Act → ℕ → Kind → Type 0
IsRead t id kind = is_through kind (inward id t) ≡ true

through_self : (kind : Kind) (path : Path) (made : Option Kind) → path ≡ path_of made → made ≡ Some kind → is_through kind path ≡ true
through_self Reliable path made h k = ap (is_through Reliable) (h ∙ ap path_of k)
through_self Lossy path made h k = ap (is_through Lossy) (h ∙ ap path_of k)

past_many : (b : Bool) (f : Option Why) → cond b (Some Unexpected) f ≡ None → f ≡ None
past_many true f h = absurd (let no : Some Unexpected ≡ None = h in cc)
past_many false f h = h

request_freed : (role : Role) (t : Trace Act) (flags : ℕ) (tunnels : ℕ) (lists : List ChannelList) → EndOfActs role (t ▷ Hears (Spoken (SyncRequest flags tunnels lists))) → EachIn (IsRead (t ▷ Hears (Spoken (SyncRequest flags tunnels lists)))) (channels_listed lists)
request_freed Server t flags tunnels lists e = absurd (let no : Some Unexpected ≡ None = heard_fine Server t (SyncRequest flags tunnels lists) (Moves lists) e.1 refl refl in cc)
request_freed Client t flags tunnels lists e =
    let act : Act = Hears (Spoken (SyncRequest flags tunnels lists)) in
    let fine = heard_fine Client t (SyncRequest flags tunnels lists) (Moves lists) e.1 refl refl in
    let ids = past_many (nat_le 256 (length (all_told read_by t))) (ids_fault Client t [] (channels_listed lists)) fine in
    in_later (IsFirst t (channels_listed lists) []) (IsRead (t ▷ act)) (λ id kind h.
    through_self kind (inward id (t ▷ act)) (listed id (exchanges (all_told read_by (t ▷ act)) [])) (inward_client (t ▷ act) id e)
    (listed_last id (all_told read_by t) (request_read lists) kind (sym (listed-plain id (all_told read_by t) (all_told answer_made t)) ∙ h.2) h.1)) (channels_listed lists) (each_first t [] (channels_listed lists) ids)

-- ---- an answer that is read

abbrev IsFound : List (ℕ × Kind) → List ℕ → ℕ → Kind → Type 0
IsFound pairs seen id kind = (is_among id seen ≡ false) × (lookup (nat_eq id) pairs ≡ Some kind)

found_later : (made : ℕ) (under : Kind) (pairs : List (ℕ × Kind)) (seen : List ℕ) (id : ℕ) (kind : Kind) → IsFound pairs (made ∷ seen) id kind → IsFound ((made, under) ∷ pairs) seen id kind
found_later made under pairs seen id kind h =
    let n = either (eqb made id) (is_among id seen) h.0 in
    (n.1, ap (λ b. cond b (Some under) (lookup (nat_eq id) pairs)) (other_way made id n.0) ∙ h.1)

each_found : (seen : List ℕ) (pairs : List (ℕ × Kind)) → EachNew seen (ids_in pairs) → EachIn (IsFound pairs seen) pairs
each_found seen [] h = tt
each_found seen ((id, kind) ∷ pairs) h = (
  (h.0, ap (λ b. cond b (Some kind) (lookup (nat_eq id) pairs)) (eq-eqb id id refl)),
  in_later (IsFound pairs (id ∷ seen)) (IsFound ((id, kind) ∷ pairs) seen) (λ x under k. found_later id kind pairs seen x under k) pairs (each_found (id ∷ seen) pairs h.1),
)

-- those of the kinds
among_has : (P Q : ℕ → Kind → Type 0) (kinds : Kinds) → ((id : ℕ) (kind : Kind) → has kind kinds ≡ true → P id kind → Q id kind) → (pairs : List (ℕ × Kind)) → EachIn P pairs → EachIn Q (among kinds pairs)
among_has P Q kinds later [] h = tt
among_has P Q kinds later ((id, kind) ∷ pairs) h = by_test (has kind kinds) refl (among_has P Q kinds later pairs h.1) where
  by_test : (b : Bool) → has kind kinds ≡ b → EachIn Q (among kinds pairs) → EachIn Q (cond b ((id, kind) ∷ among kinds pairs) (among kinds pairs))
  by_test true k rest = (later id kind k h.0, rest)
  by_test false k rest = rest

unlooked : (id : ℕ) (pairs : List (ℕ × Kind)) → is_among id (ids_in pairs) ≡ false → lookup (nat_eq id) pairs ≡ None
unlooked id [] h = refl
unlooked id ((x, kind) ∷ pairs) h =
    let n = either (eqb x id) (is_among id (ids_in pairs)) h in ap (λ b. cond b (Some kind) (lookup (nat_eq id) pairs)) (other_way x id n.0) ∙ unlooked id pairs n.1

abbrev IsMoved : List Request → List Kinds → List ℕ → ℕ → Kind → Type 0
IsMoved rs zs seen id kind = (is_among id seen ≡ false) × (moved id (exchanges rs zs) ≡ Some kind)

named_first : (id : ℕ) (kind : Kind) (r : Request) (rs : List Request) (z : Kinds) → kind_in id r ≡ Some kind → has kind z ≡ true → moved id (exchanges (r ∷ rs) (z ∷ [])) ≡ Some kind
named_first id kind r rs z h k =
    ap (λ o. option_or (if_among z o) (moved id (exchanges rs []))) h ∙ ap (λ b. option_or (cond b (Some kind) None) (moved id (exchanges rs []))) k

moved_later : (id : ℕ) (kind : Kind) (r : Request) (rs : List Request) (z : Kinds) (zs : List Kinds) (seen : List ℕ) → IsMoved rs zs (seen_after (ids_in r.channels) seen) id kind → IsMoved (r ∷ rs) (z ∷ zs) seen id kind
moved_later id kind r rs z zs seen h =
    let n = before_after id (ids_in r.channels) seen h.0 in
    (n.1, ap (λ o. option_or (if_among z o) (moved id (exchanges rs zs))) (unlooked id r.channels n.0) ∙ h.1)

oldest_moved : (rs : List Request) (zs : List Kinds) (z : Kinds) (seen : List ℕ) → EachNew seen (ids_of rs) → EachIn (IsMoved rs (zs ++ z ∷ []) seen) (oldest_among z (unanswered_in (exchanges rs zs)))
oldest_moved [] zs z seen h = tt
oldest_moved (r ∷ rs) [] z seen h =
    among_has (IsFound r.channels seen) (IsMoved (r ∷ rs) (z ∷ []) seen) z (λ id kind k f. (f.0, named_first id kind r rs z f.1 k)) r.channels (each_found seen r.channels (new_first seen (ids_in r.channels) (ids_of rs) h))
oldest_moved (r ∷ rs) (y ∷ zs) z seen h =
    in_later (IsMoved rs (zs ++ z ∷ []) (seen_after (ids_in r.channels) seen)) (IsMoved (r ∷ rs) (y ∷ (zs ++ z ∷ [])) seen) (λ id kind k. moved_later id kind r rs y (zs ++ z ∷ []) seen k)
    (oldest_among z (unanswered_in (exchanges rs zs))) (oldest_moved rs zs z (seen_after (ids_in r.channels) seen) (new_second seen (ids_in r.channels) (ids_of rs) h))

answer_freed : (role : Role) (t : Trace Act) (types : List Kind) → EndOfActs role (t ▷ Hears (Spoken (SyncResponse types))) → EachIn (IsRead (t ▷ Hears (Spoken (SyncResponse types)))) (oldest_among (kinds_of types) (unanswered_in (made t)))
answer_freed Client t types e = absurd (let no : Some Unexpected ≡ None = heard_fine Client t (SyncResponse types) (Moved types) e.1 refl refl in cc)
answer_freed Server t types e =
    let act : Act = Hears (Spoken (SyncResponse types)) in
    in_later (IsMoved (all_told made_by t) (all_told answer_read t ++ kinds_of types ∷ []) []) (IsRead (t ▷ act)) (λ id kind h.
    through_self kind (inward id (t ▷ act)) (moved id (made (t ▷ act))) (inward_server (t ▷ act) id e) (ap (λ l. moved id (exchanges l (all_told answer_read (t ▷ act)))) (append-nil (all_told made_by t)) ∙ h.1))
    (oldest_among (kinds_of types) (unanswered_in (made t))) (oldest_moved (all_told made_by t) (all_told answer_read t) (kinds_of types) [] (listed_distinct t e.2))

-- ---- a PDU that is pulled

draw_freed : (role : Role) (t : Trace Act) (kind : Kind) (at : ℕ) (bytes : List ℕ) (pdu : Pdu) → EndOfActs role (t ▷ Draws kind at (Carried bytes pdu)) → (channel : Option ℕ) → EachIn (IsRead (t ▷ Draws kind at (Carried bytes pdu))) (if_through kind t channel)
draw_freed role t kind at bytes pdu e None = tt
draw_freed role t kind at bytes pdu e (Some id) = by_test (is_through kind (inward id t)) refl where
  by_test : (b : Bool) → is_through kind (inward id t) ≡ b → EachIn (IsRead (t ▷ Draws kind at (Carried bytes pdu))) (cond b ((id, kind) ∷ []) [])
  by_test true h = (ap (is_through kind) (inward_same role t (Draws kind at (Carried bytes pdu)) e refl refl refl id) ∙ h, tt)
  by_test false h = tt

pub each_freed : (role : Role) (t : Trace Act) (act : Act) → EndOfActs role (t ▷ act) → EachIn (IsRead (t ▷ act)) (freed t act)
each_freed role t (Hears (Spoken (SyncRequest flags tunnels lists))) e = request_freed role t flags tunnels lists e
each_freed role t (Hears (Spoken (SyncResponse types))) e = answer_freed role t types e
each_freed role t (Draws kind at (Carried bytes pdu)) e = draw_freed role t kind at bytes pdu e (channel_of pdu)
each_freed role t act e = tt

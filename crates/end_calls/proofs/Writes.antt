-- What an end writes fits its layout, where what it read does and what it was given is of its types.
use Rattle.std.proofs.Common.{◌≡◌, ◌==◌, ℕ, ◌+◌, ◌*◌, ◌^◌, ◌<◌, ◌≤◌, Bool, true, false, cond, List, [], ◌∷◌, ◌++◌, map, length, Option, Some, None, refl, sym, ap, subst, ◌∙◌, arith, length-append}
use Rattle.std.specs.Int.{bytes_low_first}
use Rattle.std.specs.List.{All}
use Rattle.std.specs.Option.{option_or}
use Rattle.std.proofs.lemmas.List.Elements.{All-append, All-cons, All-nil, All-replicate}
use Rattle.mt_base.specs.declared.kinds.Kind.{Kind}
use Rattle.mt_base.specs.declared.kinds.Kind.TheVariants.{Reliable, Lossy}
use Rattle.mt_base.specs.declared.kinds.Role.{Role}
use Rattle.mt_base.specs.declared.kinds.Role.TheVariants.{Server, Client}
use Rattle.mt_base.specs.Ends.{other}
use Rattle.mt_base.specs.Trace.{Trace, Start, ◌▷◌}
use Rattle.dvc_pdus.specs.Moves.{channels_length}
use Rattle.dvc_pdus.specs.Value.{ChannelList, Pdu, Caps, CreateRequest, CreateResponse, DataFirst, Data, CompressedFirst, Compressed, Close, SyncRequest, SyncResponse, smallest, list_to, sync_request, IsList, IsName, IsPdu}
use Rattle.dvc_pdus.proofs.SyncMoves.{both_bytes}
use Rattle.dvc_channels.specs.Fragments.{fragments_of}
use Rattle.dvc_channels.proofs.Sending.{sizes, fragments_sent}
use Rattle.soft_sync.specs.declared.kinds.Path.{Path}
use Rattle.soft_sync.specs.declared.kinds.Path.TheVariants.{Main, Tunnel}
use Rattle.tunnel_cookies.specs.declared.entry.Verdict.{Verdict}
use Rattle.tunnel_cookies.specs.declared.entry.Verdict.TheVariants as verdict
use Rattle.mt_endpoint.specs.Acts.{Act, Began, Opens, Sends, Takes, Asks, Attaches, Repeats, Refuses, Syncs, Closes, Silences, Hears, Draws, Judges, Misses, Answers, Releases, Discards, TunnelAsked, TunnelAnswered, Spoken, CreateAsked, CreateAnswered, Nothing, Carried}
use Rattle.mt_endpoint.specs.Said.{Said, Capable, Creates, Created, Brings, Ends, Moves, Moved, said}
use Rattle.mt_endpoint.specs.Channels.{table, has_place, is_closed, is_known}
use Rattle.mt_endpoint.specs.Holding.{channel_in}
use Rattle.mt_endpoint.specs.Moving.{outward}
use Rattle.mt_endpoint.specs.Orders.{channels_of}
use Rattle.mt_endpoint.specs.Tunnels.{Request, asked, answer, is_silent, where_kind, request_in}
use Rattle.mt_base.specs.Ends.{same_kind}
use Rattle.mt_endpoint.specs.Writing.{Written, Into, on_path, closing, create_request, told_of, unless, DENIED, create_code, is_full_for, reply, told_first, adds, on_main, into, spoken, carried}
use Rattle.mt_endpoint.specs.World.{MayMove, IsMove, heard_in, drawn_in, hears, draws}
use Rattle.mt_endpoint.specs.Alone.{IsDue, EndOfActs}
use Rattle.mt_endpoint.proofs.Known.{known_open, OfKnown, due_known}
use Rattle.mt_endpoint.proofs.Creating.{told_known, ended_known, channels_are}
use Rattle.mt_endpoint.proofs.Distinct.{out_all, new_all, no_more, requested_among, most_channels}
use Rattle.end_calls.specs.Law.{IsGiven}
use Rattle.end_calls.proofs.Each.{Each, each-append, each_first, each_second, each_of_all, each-map}
use Rattle.end_calls.proofs.Fitting.{AreFields, FitsRequest, FitsHeard, FitsDrawn, FitsWritten, EachGiven, on_main_fit, into_fit, ids_small}

-- ---- each PDU

pub caps_fit : IsPdu Server (Caps 3 (Some (0 ∷ 0 ∷ 0 ∷ 0 ∷ [])))
caps_fit = ((omega arith, refl, All-replicate (λ c. c < 2 ^ 16) 4 0 (omega arith)), omega arith)

pub caps_again : IsPdu Client (Caps 3 None)
caps_again = (omega arith, omega arith)

pub creates_fit : (id : ℕ) (name : List ℕ) → id ≤ 256 → IsName name → IsPdu Server (CreateRequest id 0 name)
creates_fit id name few is =
    let long = is.1 in
    ((omega (arith, few), omega arith, is), omega (arith, length-append (smallest id) (name ++ (0 ∷ [])), length-append name (0 ∷ []), sizes id, long))

pub created_fits : (id status : ℕ) → id < 2 ^ 32 → status < 2 ^ 32 → IsPdu Client (CreateResponse id status)
created_fits id status small fits =
    ((small, fits), omega (arith, length-append (smallest id) (bytes_low_first 0 4 status ++ []), sizes id))

pub close_fits : (role : Role) (id : ℕ) → id < 2 ^ 32 → IsPdu role (Close id)
close_fits Server id small = (small, omega (arith, length-append (smallest id) [], sizes id))
close_fits Client id small = (small, omega (arith, length-append (smallest id) [], sizes id))

pub answer_fits : (role : Role) (b c : Bool) → IsPdu role (SyncResponse (cond b (Reliable ∷ []) [] ++ cond c (Lossy ∷ []) []))
answer_fits Server true true = (omega arith, omega arith)
answer_fits Server true false = (omega arith, omega arith)
answer_fits Server false true = (omega arith, omega arith)
answer_fits Server false false = (omega arith, omega arith)
answer_fits Client true true = (omega arith, omega arith)
answer_fits Client true false = (omega arith, omega arith)
answer_fits Client false true = (omega arith, omega arith)
answer_fits Client false false = (omega arith, omega arith)

-- ---- the request that moves channels

all_small : (ids : List ℕ) → Each (λ id. id < 2 ^ 32) ids → All (λ id. id < 2 ^ 32) ids
all_small [] h = All-nil (λ id. id < 2 ^ 32)
all_small (id ∷ ids) h = All-cons (λ id. id < 2 ^ 32) id ids h.0 (all_small ids h.1)

-- a list to each kind, where it has channels
pub record OneList (kind : Kind) (ids : List ℕ) : Type 0 where
  pub good : All IsList (list_to kind ids)
  pub few : length (list_to kind ids) ≤ 1
  pub short : channels_length ids ≤ 6 + 4 * length ids

one_list : (kind : Kind) (ids : List ℕ) → length ids ≤ 256 → Each (λ id. id < 2 ^ 32) ids → OneList kind ids
one_list kind ids few small = record { good = good (length ids == 0); few = less (length ids == 0); short = brief (length ids == 0) } where
  good : (b : Bool) → All IsList (cond b [] (record { kind = kind; ids = ids } ∷ []))
  good true = All-nil IsList
  good false = All-cons IsList (record { kind = kind; ids = ids }) [] (omega (arith, few), all_small ids small) (All-nil IsList)

  less : (b : Bool) → length {A = ChannelList} (cond b [] (record { kind = kind; ids = ids } ∷ [])) ≤ 1
  less true = omega arith
  less false = omega arith

  brief : (b : Bool) → cond b 0 (6 + 4 * length ids) ≤ 6 + 4 * length ids
  brief true = omega arith
  brief false = omega arith

pub sync_fits : (reliable lossy : List ℕ) → length (reliable ++ lossy) ≤ 256 → Each (λ id. id < 2 ^ 32) reliable → Each (λ id. id < 2 ^ 32) lossy → IsPdu Server (sync_request reliable lossy)
sync_fits reliable lossy few first second =
    let count = length-append reliable lossy in
    let r = one_list Reliable reliable (omega (arith, few, count)) first in
    let l = one_list Lossy lossy (omega (arith, few, count)) second in
    let rs = r.few in let ls = l.few in let rb = r.short in let lb = l.short in
    let lists = length-append (list_to Reliable reliable) (list_to Lossy lossy) in
    let bytes = both_bytes reliable lossy in (
      (omega arith, omega (arith, rs, ls, lists), refl, All-append IsList (list_to Reliable reliable) (list_to Lossy lossy) r.good l.good, omega (arith, few, count, rb, lb, bytes)),
      omega (arith, few, count, rb, lb, bytes),
    )

-- ---- channels that are known

pub known_small : (role : Role) (t : Trace Act) (id : ℕ) → EndOfActs role t → Each (FitsHeard role) (spoken role t) → is_known role id t ≡ true → id < 2 ^ 32
known_small role t id e h k = ids_small role (spoken role t) id h (told_known role t id e k)

may_small : (t : Trace Act) (ids : List ℕ) → EndOfActs Server t → Each (FitsHeard Server) (spoken Server t) → MayMove t ids → Each (λ id. id < 2 ^ 32) ids
may_small t [] e h m = tt
may_small t (id ∷ ids) e h m = (known_small Server t id e h (known_open Server id t m.0), may_small t ids e h m.3)

few_moved : (t : Trace Act) (ids : List ℕ) → EndOfActs Server t → MayMove t ids → length ids ≤ 256
few_moved t ids e m =
    let all = channels_of Server (spoken Server t) in
    let new = new_all t [] ids (out_all t [] ids (λ id k. refl) m) m in
    omega (arith, no_more [] ids all new (requested_among t ids e m), ap length (channels_are Server t e), most_channels t e)

moves_fit : (t : Trace Act) (reliable lossy : List ℕ) → EndOfActs Server t → Each (FitsHeard Server) (spoken Server t) → IsMove t reliable lossy → IsPdu Server (sync_request reliable lossy)
moves_fit t reliable lossy e h m =
    let small = may_small t (reliable ++ lossy) e h m.may_move in
    sync_fits reliable lossy (few_moved t (reliable ++ lossy) e m.may_move) (each_first (λ id. id < 2 ^ 32) reliable lossy small) (each_second (λ id. id < 2 ^ 32) reliable lossy small)

-- ---- what an act writes

unless_fits : (role : Role) (b : Bool) (written : List Written) → Each (FitsWritten role) written → Each (FitsWritten role) (unless b written)
unless_fits role true written h = tt
unless_fits role false written h = h

on_path_fits : (role : Role) (path : Path) (pdu : Pdu) → IsPdu role pdu → FitsWritten role (on_path path pdu)
on_path_fits role Main pdu h = h
on_path_fits role (Tunnel kind) pdu h = (refl, h)

closing_fits : (role : Role) (path : Path) (id : ℕ) → id < 2 ^ 32 → FitsWritten role (closing path id)
closing_fits role Main id small = close_fits role id small
closing_fits role (Tunnel Reliable) id small = (refl, close_fits role id small)
closing_fits role (Tunnel Lossy) id small = close_fits role id small

sends_fit : (role : Role) (path : Path) (id : ℕ) (message : List ℕ) → id < 2 ^ 32 → length message ≤ 1048576 → All (λ b. b < 2 ^ 8) message → Each (FitsWritten role) (map (on_path path) (fragments_of id message))
sends_fit role path id message small long bytes =
    each-map (IsPdu role) (FitsWritten role) (on_path path) (on_path_fits role path) (fragments_of id message)
    (each_of_all (IsPdu role) (fragments_of id message) (fragments_sent role id message small (omega (arith, long)) bytes))

request_fits : (role : Role) (kind : Kind) (o : Option Request) → ((request : Request) → o ≡ Some request → FitsRequest request) → Each (FitsWritten role) (create_request role kind o)
request_fits Server kind o h = tt
request_fits Client kind None h = tt
request_fits Client kind (Some request) h = (h request refl, tt)

told_fits : (role : Role) (o : Option Request) (hr : ℕ) → hr < 2 ^ 32 → ((request : Request) → o ≡ Some request → FitsRequest request) → Each (FitsWritten role) (told_of o hr)
told_fits role None hr small h = tt
told_fits role (Some request) hr small h = (((h request refl).0, small), tt)

first_fits : (role : Role) (kind : Kind) (t : Trace Act) (before : Option ℕ) (hr : ℕ) → hr < 2 ^ 32 → ((request : Request) → asked kind t ≡ Some request → FitsRequest request) → Each (FitsWritten role) (told_first role kind t before hr)
first_fits Server kind t before hr small h = tt
first_fits Client kind t None hr small h = told_fits Client (asked kind t) hr small h
first_fits Client kind t (Some before) hr small h = tt

code_small : (v : Verdict) → create_code v < 2 ^ 32
code_small verdict.Opened = omega arith
code_small verdict.Again = omega arith
code_small verdict.Unknown = omega arith
code_small verdict.WrongCookie = omega arith
code_small verdict.WrongKind = omega arith
code_small (verdict.Spent link) = omega arith

status_small : (b : Bool) → cond b 0 DENIED < 2 ^ 32
status_small true = omega arith
status_small false = omega arith

reply_fits : (role : Role) (t : Trace Act) (pdu : Pdu) (s : Said) → said pdu ≡ s → ((id : ℕ) → said pdu ≡ Ends id → id < 2 ^ 32)
    → (role ≡ Client → (id : ℕ) (name : List ℕ) → said pdu ≡ Creates id name → id < 2 ^ 32) → Each (FitsWritten role) (reply role t s ++ [])
reply_fits Server t pdu (Capable version) e ends creates = tt
reply_fits Client t pdu (Capable version) e ends creates = (caps_again, tt)
reply_fits Server t pdu (Creates id name) e ends creates = tt
reply_fits Client t pdu (Creates id name) e ends creates = (created_fits id (cond (has_place (table Client t)) 0 DENIED) (creates refl id name e) (status_small (has_place (table Client t))), tt)
reply_fits role t pdu (Created id status) e ends creates = tt
reply_fits role t pdu (Brings id) e ends creates = tt
reply_fits role t pdu (Ends id) e ends creates =
    each-append (FitsWritten role) (unless (is_closed role id t) (closing (outward id t) id ∷ [])) [] (unless_fits role (is_closed role id t) (closing (outward id t) id ∷ []) (closing_fits role (outward id t) id (ends id e), tt)) tt
reply_fits role t pdu (Moves lists) e ends creates = tt
reply_fits role t pdu (Moved kinds) e ends creates = tt

abbrev id_created : Said → ℕ
id_created (Creates id name) = id
id_created s = 0

creates_small : (pdu : Pdu) (id : ℕ) (name : List ℕ) → IsPdu Server pdu → said pdu ≡ Creates id name → id < 2 ^ 32
creates_small (CreateRequest made priority text) id name h e = subst (λ n. n < 2 ^ 32) (ap id_created e) h.0.0
creates_small (Caps version charges) id name h e = absurd (let no : Capable version ≡ Creates id name = e in cc)
creates_small (CreateResponse made status) id name h e = absurd (let no : Created made status ≡ Creates id name = e in cc)
creates_small (DataFirst made total bytes) id name h e = absurd (let no : Brings made ≡ Creates id name = e in cc)
creates_small (Data made bytes) id name h e = absurd (let no : Brings made ≡ Creates id name = e in cc)
creates_small (CompressedFirst made total bytes) id name h e = absurd (let no : Brings made ≡ Creates id name = e in cc)
creates_small (Compressed made bytes) id name h e = absurd (let no : Brings made ≡ Creates id name = e in cc)
creates_small (Close made) id name h e = absurd (let no : Ends made ≡ Creates id name = e in cc)
creates_small (SyncRequest flags tunnels lists) id name h e = absurd (let no : Moves lists ≡ Creates id name = e in cc)
creates_small (SyncResponse types) id name h e = absurd (let no : Moved types ≡ Creates id name = e in cc)

heard_creates_small : (role : Role) (pdu : Pdu) → IsPdu (other role) pdu → role ≡ Client → (id : ℕ) (name : List ℕ) → said pdu ≡ Creates id name → id < 2 ^ 32
heard_creates_small Server pdu h r id name e = absurd (let no : Server ≡ Client = r in cc)
heard_creates_small Client pdu h r id name e = creates_small pdu id name h e

due_creates : (role : Role) (kind : Kind) (t : Trace Act) (at : ℕ) (bytes : List ℕ) (pdu : Pdu) → IsDue role kind t at bytes pdu → role ≡ Client → (id : ℕ) (name : List ℕ) → said pdu ≡ Creates id name → id < 2 ^ 32
due_creates role kind t at bytes pdu d r id name e = absurd (let no : None ≡ Some d.id = sym (ap channel_in e) ∙ d.channel_is in cc)

due_ends : (role : Role) (kind : Kind) (t : Trace Act) (at : ℕ) (bytes : List ℕ) (pdu : Pdu) (id : ℕ) → EndOfActs role t → Each (FitsHeard role) (spoken role t) → IsDue role kind t at bytes pdu → said pdu ≡ Ends id → id < 2 ^ 32
due_ends role kind t at bytes pdu id e h d is = known_small role t id e h (subst (λ s. OfKnown role t (channel_in s)) is (due_known role kind t at bytes pdu d))

abbrev Asked : Trace Act → Type 0
Asked t = (kind : Kind) (request : Request) → asked kind t ≡ Some request → FitsRequest request

adds_fit : (role : Role) (t : Trace Act) (act : Act) → EndOfActs role (t ▷ act) → IsGiven act → Each (FitsHeard (other role)) (heard_in act)
    → ((kind : Kind) → Each (FitsDrawn (other role)) (drawn_in kind act)) → Each (FitsHeard role) (spoken role t) → Asked t → Each (FitsWritten role) (adds role t act)
adds_fit Server t Began e g hs ds h a = (caps_fit, tt)
adds_fit Client t Began e g hs ds h a = tt
adds_fit Server t (Opens id name) e g hs ds h a = (creates_fit id name e.1.0.3 e.1.0.4, tt)
adds_fit Client t (Opens id name) e g hs ds h a = absurd (let no : Client ≡ Server = e.1.0.0 in cc)
adds_fit role t (Sends id message) e g hs ds h a =
    sends_fit role (outward id t) id message (known_small role t id e.2 h (known_open role id t e.1.0.0.is_open_channel)) e.1.0.1 g
adds_fit role t (Takes id message) e g hs ds h a = tt
adds_fit role t (Asks kind id cookie) e g hs ds h a = ((g.0, (e.1.0.3, g.1)), tt)
adds_fit role t (Attaches kind) e g hs ds h a = request_fits role kind (asked kind t) (a kind)
adds_fit role t (Repeats is_full) e g hs ds h a = unless_fits role is_full (create_request role Lossy (asked Lossy t)) (request_fits role Lossy (asked Lossy t) (a Lossy))
adds_fit role t (Refuses kind hr) e g hs ds h a = told_fits role (asked kind t) hr g (a kind)
adds_fit Server t (Syncs reliable lossy) e g hs ds h a = (moves_fit t reliable lossy e.2 h e.1.0.1, tt)
adds_fit Client t (Syncs reliable lossy) e g hs ds h a = absurd (let no : Client ≡ Server = e.1.0.0 in cc)
adds_fit role t (Closes id) e g hs ds h a = (closing_fits role (outward id t) id (known_small role t id e.2 h (known_open role id t e.1.0.0)), tt)
adds_fit role t (Silences kind expiries) e g hs ds h a = tt
adds_fit role t (Hears (TunnelAsked id kind cookie)) e g hs ds h a = tt
adds_fit role t (Hears (TunnelAnswered id hr)) e g hs ds h a = tt
adds_fit role t (Hears (Spoken pdu)) e g hs ds h a =
    reply_fits role t pdu (said pdu) refl (λ id is. known_small role t id e.2 h (ended_known role t pdu id e.1 is)) (heard_creates_small role pdu hs.0)
adds_fit role t (Draws kind at (CreateAsked id cookie)) e g hs ds h a = tt
adds_fit role t (Draws kind at (CreateAnswered hr)) e g hs ds h a = first_fits role kind t (answer kind t) hr (drawn_here role kind hr (ds kind)) (a kind) where
  drawn_here : (role : Role) (kind : Kind) (hr : ℕ) → Each (FitsDrawn (other role)) (cond (same_kind kind kind) (CreateAnswered hr ∷ []) []) → hr < 2 ^ 32
  drawn_here role Reliable hr k = k.0
  drawn_here role Lossy hr k = k.0
adds_fit role t (Draws kind at Nothing) e g hs ds h a = tt
adds_fit role t (Draws kind at (Carried bytes pdu)) e g hs ds h a = tt
adds_fit role t (Judges kind at id cookie v is_full) e g hs ds h a = unless_fits role (is_full_for kind is_full) (Into kind (CreateAnswered (create_code v)) ∷ []) (code_small v, tt)
adds_fit role t Misses e g hs ds h a = tt
adds_fit role t (Answers named) e g hs ds h a = (answer_fits role named.reliable named.lossy, tt)
adds_fit role t (Releases kind at bytes pdu) e g hs ds h a =
    reply_fits role t pdu (said pdu) refl (λ id is. due_ends role kind t at bytes pdu id e.2 h e.1 is) (due_creates role kind t at bytes pdu e.1)
adds_fit role t (Discards at bytes pdu) e g hs ds h a = tt

-- ---- what is asked for

where_fits : (kind made : Kind) (id : ℕ) (cookie : List ℕ) (request : Request) → AreFields id cookie → where_kind kind made (record { id = id; cookie = cookie }) ≡ Some request → FitsRequest request
where_fits kind made id cookie request f e = by_kind (same_kind kind made) e where
  by_kind : (b : Bool) → cond b (Some (record { id = id; cookie = cookie })) None ≡ Some request → FitsRequest request
  by_kind true k = let same : record { id = id; cookie = cookie } ≡ request = cc in subst FitsRequest same f
  by_kind false k = absurd (let no : None ≡ Some request = k in cc)

act_asks : (role : Role) (t : Trace Act) (act : Act) → EndOfActs role (t ▷ act) → IsGiven act → Each (FitsHeard (other role)) (heard_in act)
    → (kind : Kind) (request : Request) → request_in kind act ≡ Some request → FitsRequest request
act_asks role t (Asks made id cookie) e g hs kind request is = where_fits kind made id cookie request (g.0, (e.1.0.3, g.1)) is
act_asks role t (Hears (TunnelAsked id made cookie)) e g hs kind request is = where_fits kind made id cookie request hs.0 is
act_asks role t act e g hs kind request is = absurd (let no : None ≡ Some request = is in cc)

or_asked : (o p : Option Request) (request : Request) → ((r : Request) → o ≡ Some r → FitsRequest r) → ((r : Request) → p ≡ Some r → FitsRequest r) → option_or o p ≡ Some request → FitsRequest request
or_asked None p request h k e = k request e
or_asked (Some r) p request h k e = h request e

-- ---- all that is written

pub record Fit (role : Role) (t : Trace Act) : Type 0 where
  pub spoken_fit : Each (FitsHeard role) (spoken role t)
  pub carried_fit : (kind : Kind) → Each (FitsDrawn role) (carried kind role t)
  pub asked_fits : Asked t

pub fit : (role : Role) (t : Trace Act) → EndOfActs role t → EachGiven t → Each (FitsHeard (other role)) (hears t) → ((kind : Kind) → Each (FitsDrawn (other role)) (draws kind t)) → Fit role t
fit role Start e g hs ds = record { spoken_fit = tt; carried_fit = λ kind. tt; asked_fits = λ kind request is. absurd (let no : None ≡ Some request = is in cc) }
fit role (t ▷ act) e g hs ds =
    let before = fit role t e.2 g.1 (each_first (FitsHeard (other role)) (hears t) (heard_in act) hs) (λ kind. each_first (FitsDrawn (other role)) (draws kind t) (drawn_in kind act) (ds kind)) in
    let heard_now = each_second (FitsHeard (other role)) (hears t) (heard_in act) hs in
    let now = adds_fit role t act e g.0 heard_now (λ kind. each_second (FitsDrawn (other role)) (draws kind t) (drawn_in kind act) (ds kind)) before.spoken_fit before.asked_fits in record {
      spoken_fit = each-append (FitsHeard role) (spoken role t) (on_main (adds role t act)) before.spoken_fit (on_main_fit role (adds role t act) now);
      carried_fit = λ kind. each-append (FitsDrawn role) (carried kind role t) (into kind (is_silent kind t) (adds role t act)) (before.carried_fit kind) (into_fit role kind (is_silent kind t) (adds role t act) now);
      asked_fits = λ kind request is. or_asked (asked kind t) (request_in kind act) request (before.asked_fits kind) (act_asks role t act e g.0 heard_now kind) is;
    }

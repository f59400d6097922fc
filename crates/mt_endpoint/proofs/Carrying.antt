-- No PDU that is pulled from the reliable tunnel is a fault.
use Rattle.std.proofs.Common.{◌≡◌, ℕ, ◌+◌, ◌≤◌, Bool, true, false, not, ◌||◌, cond, List, [], ◌∷◌, ◌++◌, length, Option, Some, None, is_some, refl, sym, ap, subst, ◌∙◌, append_assoc, arith, length-append, eq-eqb}
use Rattle.mt_base.specs.declared.kinds.Kind.TheVariants.{Reliable, Lossy}
use Rattle.mt_base.specs.declared.kinds.Role.{Role}
use Rattle.mt_base.specs.declared.kinds.Role.TheVariants.{Server, Client}
use Rattle.mt_base.specs.Ends.{other}
use Rattle.mt_base.specs.Trace.{Trace, Start, ◌▷◌}
use Rattle.dvc_pdus.specs.Value.{Pdu}
use Rattle.dvc_channels.specs.declared.answers.ChannelState.{ChannelState}
use Rattle.dvc_channels.specs.declared.answers.ChannelState.TheVariants as state
use Rattle.dvc_channels.specs.declared.answers.ChannelRefusal.TheVariants as refusal
use Rattle.soft_sync.specs.declared.kinds.Path.{Path}
use Rattle.soft_sync.specs.declared.kinds.Path.TheVariants.{Main, Tunnel}
use Rattle.mt_endpoint.specs.Acts.{Act, Drawn, CreateAsked, CreateAnswered, Nothing, Carried}
use Rattle.mt_endpoint.specs.Said.{Said, Capable, Creates, Created, Brings, Ends, Moves, Moved, said}
use Rattle.mt_endpoint.specs.Channels.{channel}
use Rattle.mt_endpoint.specs.Tunnels.{is_zero, is_open, is_silent, answer}
use Rattle.mt_endpoint.specs.Moving.{all_told, read_by, outward}
use Rattle.mt_endpoint.specs.Holding.{channel_in, is_of, is_through}
use Rattle.mt_endpoint.specs.Writing.{adds, into, carried}
use Rattle.mt_endpoint.specs.Faults.{Why, Channel, Unexpected, when, is_taken_in, unknown_fault, carried_fault, tunnel_fault}
use Rattle.mt_base.specs.Prefix.{IsPrefixOf}
use Rattle.mt_endpoint.specs.World.{hears, draws}
use Rattle.mt_endpoint.specs.Alone.{EndOfActs}
use Rattle.mt_endpoint.specs.Orders.{EachMay, MayCreate, is_among, told_by, creation}
use Rattle.mt_endpoint.specs.Meeting.{Meet}
use Rattle.mt_base.proofs.Prefixes.{nothing_second}
use Rattle.mt_endpoint.proofs.ChannelPdus.{carried_pdus, carried_pdus-append, keep-append, of, is_mine}
use Rattle.mt_endpoint.proofs.Each.{each-append, each_at}
use Rattle.mt_endpoint.proofs.Known.{among-append, or_front}
use Rattle.mt_endpoint.proofs.Creating.{told-append, created_first}
use Rattle.mt_endpoint.proofs.Hearing.{client_known}
use Rattle.mt_endpoint.proofs.Controls.{front_may}
use Rattle.mt_endpoint.proofs.Responding.{responses, responses_are, is_answered_in, was_read}
use Rattle.mt_endpoint.proofs.Paths.{none_other}
use Rattle.mt_endpoint.proofs.Late.{fitting, reads_front}
use Rattle.mt_endpoint.proofs.Taken.{client_taken}
use Rattle.mt_endpoint.proofs.Filling.{IsFor, AllFor, Fills, nothing, asks, answers, carries, fills_what}
use Rattle.mt_endpoint.proofs.Opening.{askings, askings-append, codes, codes-append, asked_once, few_codes, first_of, answer_first, zero_told, zero_more}
use Rattle.mt_endpoint.proofs.Ready.{EachOf, of_front, IsReady, ready, server_moved, client_moved}

-- ---- where tunnel PDUs stand

-- a server's data stand behind the answer 0
abbrev pub BehindZero : Role → List Drawn → Type 0
BehindZero Server before = is_among 0 (codes before) ≡ true
BehindZero Client before = Unit {0}

abbrev pub MayFill : Role → List Drawn → Drawn → Type 0
MayFill role before (CreateAsked id cookie) = role ≡ Client
MayFill role before (CreateAnswered hr) = role ≡ Server
MayFill role before Nothing = Unit {0}
MayFill role before (Carried bytes pdu) = ((id : ℕ) × IsFor id (said pdu)) × BehindZero role before

behind_more : (role : Role) (xs ys : List Drawn) → BehindZero role xs → BehindZero role (xs ++ ys)
behind_more Server xs ys h = zero_more xs ys h
behind_more Client xs ys h = tt

data_each : (role : Role) (id : ℕ) (xs before : List Drawn) → BehindZero role before → AllFor id xs → EachMay (MayFill role) before xs
data_each role id [] before z h = tt
data_each role id (CreateAsked made cookie ∷ xs) before z h = absurd h
data_each role id (CreateAnswered hr ∷ xs) before z h = absurd h
data_each role id (Nothing ∷ xs) before z h = absurd h
data_each role id (Carried bytes pdu ∷ xs) before z h = (((id, h.0), z), data_each role id xs (before ++ Carried bytes pdu ∷ []) (behind_more role before (Carried bytes pdu ∷ []) z) h.1)

behind : (role : Role) (t : Trace Act) (id : ℕ) → EndOfActs role t → outward id t ≡ Tunnel Reliable → is_silent Reliable t ≡ false → BehindZero role (carried Reliable role t)
behind Server t id e h q = zero_told t ((server_moved t id Reliable e h).1 refl) q
behind Client t id e h q = tt

fills_each : (role : Role) (t : Trace Act) (act : Act) (xs : List Drawn) → EndOfActs role (t ▷ act) → Fills role t act xs → EachMay (MayFill role) (carried Reliable role t) xs
fills_each role t act _ e (nothing _) = tt
fills_each role t _ _ e (asks id cookie r) = (r, tt)
fills_each role t _ _ e (answers at id cookie v is_full r) = (r, tt)
fills_each role t act xs e (carries _ id _ there q all) = data_each role id xs (carried Reliable role t) (behind role t id e.2 there q) all

pub each_filled : (role : Role) (t : Trace Act) → EndOfActs role t → EachMay (MayFill role) [] (carried Reliable role t)
each_filled role Start e = tt
each_filled role (t ▷ act) e =
    let new : List Drawn = into Reliable (is_silent Reliable t) (adds role t act) in
    each-append (MayFill role) [] (carried Reliable role t) new (each_filled role t e.2) (fills_each role t act new e (fills_what role t act e.1))

-- this PDU is the next that is pulled
abbrev pub Pulled : Role → Trace Act → Trace Act → Drawn → Type 0
Pulled role here there drawn = IsPrefixOf (draws Reliable here ++ drawn ∷ []) (carried Reliable (other role) there)

next_split : (role : Role) (here there : Trace Act) (drawn : Drawn) → (h : Pulled role here there drawn) → carried Reliable (other role) there ≡ draws Reliable here ++ drawn ∷ h.0
next_split role here there drawn h = h.1 ∙ append_assoc (draws Reliable here) (drawn ∷ []) h.0

next_filled : (role : Role) (here there : Trace Act) (drawn : Drawn) → EndOfActs (other role) there → Pulled role here there drawn → MayFill (other role) (draws Reliable here) drawn
next_filled role here there drawn e h =
    each_at (MayFill (other role)) [] (draws Reliable here) drawn h.0 (subst (EachMay (MayFill (other role)) []) (next_split role here there drawn h) (each_filled (other role) there e))

-- ---- the channel of what is pulled has moved to the tunnel

for_mine : (id : ℕ) (s : Said) → IsFor id s → is_of id (channel_in s) ≡ true
for_mine id (Capable version) h = absurd h
for_mine id (Creates made name) h = absurd h
for_mine id (Created made status) h = absurd h
for_mine id (Brings made) h = eq-eqb made id h
for_mine id (Ends made) h = eq-eqb made id h
for_mine id (Moves lists) h = absurd h
for_mine id (Moved kinds) h = absurd h

kept_one : {A : Type 0} (b : Bool) (x : A) (xs : List A) → cond b (x ∷ xs) xs ≡ [] → b ≡ true → ⊥
kept_one true x xs h k = let no : x ∷ xs ≡ [] = h in cc
kept_one false x xs h k = let no : false ≡ true = k in cc

through_reliable : (path : Path) → (is_through Reliable path ≡ false → ⊥) → path ≡ Tunnel Reliable
through_reliable Main h = absurd (h refl)
through_reliable (Tunnel Reliable) h = refl
through_reliable (Tunnel Lossy) h = absurd (h refl)

moved_there : (role : Role) (here there : Trace Act) (bytes : List ℕ) (pdu : Pdu) (id : ℕ) → EndOfActs (other role) there → Pulled role here there (Carried bytes pdu) → IsFor id (said pdu) → outward id there ≡ Tunnel Reliable
moved_there role here there bytes pdu id e h is = through_reliable (outward id there) (λ away.
    let none = none_other (other role) there id Reliable (fitting (other role) there e) away in
    let all : carried_pdus (carried Reliable (other role) there) ≡ carried_pdus (draws Reliable here) ++ pdu ∷ carried_pdus h.0 =
    ap carried_pdus (next_split role here there (Carried bytes pdu) h) ∙ carried_pdus-append (draws Reliable here) (Carried bytes pdu ∷ h.0) in
    let both : of id (carried_pdus (draws Reliable here)) ++ of id (pdu ∷ carried_pdus h.0) ≡ [] =
    sym (keep-append (is_mine id) (carried_pdus (draws Reliable here)) (pdu ∷ carried_pdus h.0)) ∙ ap (of id) (sym all) ∙ none in
    kept_one (is_mine id pdu) pdu (of id (carried_pdus h.0)) (nothing_second (of id (carried_pdus (draws Reliable here))) (of id (pdu ∷ carried_pdus h.0)) both) (for_mine id (said pdu) is))

-- ---- which takes data

taken_fine : (role : Role) (here : Trace Act) (id : ℕ) → is_taken_in (channel role id here) ≡ true → unknown_fault role here id ≡ None
taken_fine role here id h = ap (λ b. when (not b) (Channel (refusal.UnknownChannel id))) h

answered_taken : (s : ChannelState) → is_taken_in s ≡ true → is_answered_in s ≡ true
answered_taken state.Unknown h = h
answered_taken state.Asked h = h
answered_taken state.Open h = refl
answered_taken state.Refused h = refl
answered_taken state.Closed h = refl

-- the client took the channel, since the server read its answer
client_takes : (here there : Trace Act) (id : ℕ) → Meet Client here there → is_taken_in (channel Server id there) ≡ true → is_taken_in (channel Client id here) ≡ true
client_takes here there id m h =
    let read : is_among id (told_by responses (hears there)) ≡ true = was_read there m.there_acts id (answered_taken (channel Server id there) h) in
    let told : is_among id (told_by creation (hears here)) ≡ true =
    ap (is_among id) (sym (responses_are here m.here_acts) ∙ ap (told_by responses) m.to_there.1 ∙ told-append responses (hears there) m.to_there.0)
    ∙ among-append id (told_by responses (hears there)) (told_by responses m.to_there.0) ∙ or_front (is_among id (told_by responses (hears there))) (is_among id (told_by responses m.to_there.0)) read in
    client_taken here m.here_acts id (client_known here id m.here_acts (front_may (MayCreate Server) Client here there (created_first Server there m.there_acts) m.to_here) told)

-- ---- the first answer

few_drawn : (here there : Trace Act) (xs : List Drawn) → Meet Client here there → IsPrefixOf (draws Reliable there) (carried Reliable Client here) → IsPrefixOf xs (carried Reliable Server there) → length (codes xs) ≤ 1
few_drawn here there xs m back h =
    let written : length (codes (carried Reliable Server there)) ≡ length (codes xs) + length (codes h.0) = ap (λ l. length (codes l)) h.1 ∙ ap length (codes-append xs h.0) ∙ length-append (codes xs) (codes h.0) in
    let asked : length (askings (carried Reliable Client here)) ≡ length (askings (draws Reliable there)) + length (askings back.0) =
    ap (λ l. length (askings l)) back.1 ∙ ap length (askings-append (draws Reliable there) back.0) ∙ length-append (askings (draws Reliable there)) (askings back.0) in
    let most = few_codes there m.there_acts in
    let once = (asked_once here m.here_acts).1 in
    omega (arith, written, asked, most, once)

none_first : (xs : List ℕ) → length xs + 1 ≤ 1 → first_of xs ≡ None
none_first [] h = refl
none_first (x ∷ xs) h = absurd (omega (arith, h))

unanswered : (here there : Trace Act) (hr : ℕ) → Meet Client here there → IsPrefixOf (draws Reliable there) (carried Reliable Client here) → Pulled Client here there (CreateAnswered hr) → answer Reliable here ≡ None
unanswered here there hr m back h =
    let few = few_drawn here there (draws Reliable here ++ CreateAnswered hr ∷ []) m back h in
    let more : length (codes (draws Reliable here ++ CreateAnswered hr ∷ [])) ≡ length (codes (draws Reliable here)) + 1 =
    ap length (codes-append (draws Reliable here) (CreateAnswered hr ∷ [])) ∙ length-append (codes (draws Reliable here)) (hr ∷ []) in
    answer_first here ∙ none_first (codes (draws Reliable here)) (subst (λ n. n ≤ 1) more few)

or_nothing : (b : Bool) → b || false ≡ true → b ≡ true
or_nothing true h = refl
or_nothing false h = h

zero_alone : (xs : List ℕ) → length xs ≤ 1 → is_among 0 xs ≡ true → is_zero (first_of xs) ≡ true
zero_alone [] few h = absurd (let no : false ≡ true = h in cc)
zero_alone (x ∷ []) few h = or_nothing _ h
zero_alone (x ∷ y ∷ xs) few h = absurd (omega (arith, few))

-- ---- data

carried_fine : (role : Role) (here : Trace Act) (id : ℕ) (s : Said) → IsFor id s → unknown_fault role here id ≡ None → carried_fault role here s ≡ None
carried_fine role here id (Capable version) is h = absurd is
carried_fine role here id (Creates made name) is h = absurd is
carried_fine role here id (Created made status) is h = absurd is
carried_fine role here id (Brings made) is h = ap (unknown_fault role here) is ∙ h
carried_fine role here id (Ends made) is h = ap (unknown_fault role here) is ∙ h
carried_fine role here id (Moves lists) is h = absurd is
carried_fine role here id (Moved kinds) is h = absurd is

when_open : (b : Bool) (f : Option Why) → b ≡ true → f ≡ None → cond b f (Some Unexpected) ≡ None
when_open true f h k = k
when_open false f h k = absurd (let no : false ≡ true = h in cc)

data_pulled : (role : Role) (here there : Trace Act) (bytes : List ℕ) (pdu : Pdu) → Meet role here there → IsPrefixOf (draws Reliable there) (carried Reliable role here) → Pulled role here there (Carried bytes pdu) → tunnel_fault role here (Carried bytes pdu) ≡ None
data_pulled Server here there bytes pdu m back h =
    let may = next_filled Server here there (Carried bytes pdu) m.there_acts h in
    let id = may.0.0 in
    let front = reads_front here there m in
    let listed : EachOf (IsReady here) (all_told read_by there) = of_front (IsReady here) (all_told read_by there) front.0 (subst (EachOf (IsReady here)) front.1 (ready here m.here_acts)) in
    let is_ready : IsReady here id Reliable = client_moved (IsReady here) there id Reliable m.there_acts listed (moved_there Server here there bytes pdu id m.there_acts h may.0.1) in
    when_open (is_open Server Reliable here) (carried_fault Server here (said pdu)) (is_ready.1 refl) (carried_fine Server here id (said pdu) may.0.1 (taken_fine Server here id is_ready.0))
data_pulled Client here there bytes pdu m back h =
    let may = next_filled Client here there (Carried bytes pdu) m.there_acts h in
    let id = may.0.0 in
    let is_ready : IsReady there id Reliable = server_moved there id Reliable m.there_acts (moved_there Client here there bytes pdu id m.there_acts h may.0.1) in
    let few = few_drawn here there (draws Reliable here) m back (Carried bytes pdu ∷ h.0, next_split Client here there (Carried bytes pdu) h) in
    let answered : is_zero (answer Reliable here) ≡ true = ap is_zero (answer_first here) ∙ zero_alone (codes (draws Reliable here)) few may.1 in
    when_open (is_open Client Reliable here) (carried_fault Client here (said pdu)) answered (carried_fine Client here id (said pdu) may.0.1 (taken_fine Client here id (client_takes here there id m is_ready.0)))

-- ---- any tunnel PDU

pub tunnel_fine : (role : Role) (here there : Trace Act) (drawn : Drawn) → Meet role here there → IsPrefixOf (draws Reliable there) (carried Reliable role here) → Pulled role here there drawn → tunnel_fault role here drawn ≡ None
tunnel_fine Server here there (CreateAsked id cookie) m back h = refl
tunnel_fine Client here there (CreateAsked id cookie) m back h =
    absurd (let no : Server ≡ Client = next_filled Client here there (CreateAsked id cookie) m.there_acts h in cc)
tunnel_fine Server here there (CreateAnswered hr) m back h =
    absurd (let no : Client ≡ Server = next_filled Server here there (CreateAnswered hr) m.there_acts h in cc)
tunnel_fine Client here there (CreateAnswered hr) m back h = ap (λ o. when (is_some o) Unexpected) (unanswered here there hr m back h)
tunnel_fine Server here there Nothing m back h = refl
tunnel_fine Client here there Nothing m back h = refl
tunnel_fine Server here there (Carried bytes pdu) m back h = data_pulled Server here there bytes pdu m back h
tunnel_fine Client here there (Carried bytes pdu) m back h = data_pulled Client here there bytes pdu m back h

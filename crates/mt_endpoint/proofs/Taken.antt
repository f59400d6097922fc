-- What comes for a channel comes for one that takes data, so no close of the other end is a fault.
use Rattle.std.proofs.Common.{◌≡◌, ℕ, Bool, true, false, not, ◌||◌, cond, eqb, nat_lt, List, [], ◌∷◌, ◌++◌, Some, None, refl, sym, ap, subst, ◌∙◌, append-nil}
use Rattle.std.proofs.lemmas.Bool.{eqb-true}
use Rattle.std.specs.Option.{option_or}
use Rattle.mt_base.specs.declared.kinds.Kind.{Kind}
use Rattle.mt_base.specs.declared.kinds.Role.{Role}
use Rattle.mt_base.specs.declared.kinds.Role.TheVariants.{Server, Client}
use Rattle.mt_base.specs.Ends.{other}
use Rattle.mt_base.specs.Trace.{Trace, Start, ◌▷◌}
use Rattle.dvc_pdus.specs.Value.{Pdu}
use Rattle.dvc_channels.specs.declared.answers.ChannelState.{ChannelState}
use Rattle.dvc_channels.specs.declared.answers.ChannelState.TheVariants as state
use Rattle.dvc_channels.specs.declared.answers.ChannelRefusal.TheVariants as refusal
use Rattle.dvc_channels.specs.Acts.{Act as Change, Made, Answered, Came, Took, Ended}
use Rattle.dvc_channels.specs.Acts as channels
use Rattle.mt_endpoint.specs.Acts.{Act, Opens, Closes, Hears, Releases, Heard, Spoken}
use Rattle.mt_endpoint.specs.Said.{Said, Creates, Created, Brings, Ends, said}
use Rattle.mt_endpoint.specs.Channels.{table, has_place, with_said, channel, is_known_in, is_ready}
use Rattle.mt_endpoint.specs.Moving.{inward}
use Rattle.mt_endpoint.specs.Holding.{channel_in}
use Rattle.mt_endpoint.specs.Faults.{Channel, Unexpected, when, is_taken_in, is_capable, is_moved_whole, unknown_fault, late_fault, answer_fault, said_fault, main_fault}
use Rattle.mt_endpoint.specs.World.{hears, heard_in}
use Rattle.mt_endpoint.specs.Alone.{IsAct, EndOfActs, IsDue}
use Rattle.mt_endpoint.specs.Orders.{is_among, told_by, acceptance, channels_of, SaidMay, MayCreate}
use Rattle.mt_endpoint.specs.Meeting.{Meet, Comes}
use Rattle.mt_endpoint.proofs.Known.{among-append}
use Rattle.mt_endpoint.proofs.Creating.{told-append, created_first, heard_fine}
use Rattle.mt_endpoint.proofs.Hearing.{client_known, ready_is}
use Rattle.mt_endpoint.proofs.Responding.{new_id}
use Rattle.mt_endpoint.proofs.Controls.{next_may, front_may, ready_case, told_ready}
use Rattle.mt_endpoint.proofs.Late.{close_in_time, not_late}

-- ---- a client's channels take data

abbrev pub TakenIf : ChannelState → Type 0
TakenIf s = is_known_in s ≡ true → is_taken_in s ≡ true

taken_ended : (b : Bool) (s : ChannelState) → TakenIf s → TakenIf (cond b state.Closed s)
taken_ended true s h k = refl
taken_ended false s h k = h k

taken_made : (b : Bool) (s : ChannelState) → TakenIf s → TakenIf (cond b (channels.answered 0) (cond b state.Asked s))
taken_made true s h k = refl
taken_made false s h k = h k

client_hears : (t : Trace Act) (pdu : Pdu) (s : Said) → IsAct Client t (Hears (Spoken pdu)) → said pdu ≡ s → (id : ℕ) → TakenIf (channel Client id t) → TakenIf (channels.state (with_said Client pdu s (table Client t)) id)
client_hears t pdu (Creates made name) a e id h = by_place (has_place (table Client t)) where
  by_place : (b : Bool) → TakenIf (channels.state (cond b (table Client t ▷ Made made name ▷ Answered made 0) (table Client t)) id)
  by_place true = taken_made (eqb made id) (channel Client id t) h
  by_place false = h
client_hears t pdu (Created made status) a e id h = absurd (let no : Some Unexpected ≡ None = heard_fine Client t pdu (Created made status) a e refl in cc)
client_hears t pdu (Ends made) a e id h = taken_ended (eqb made id) (channel Client id t) h
client_hears t pdu s a e id h = h

client_due : (kind : Kind) (t : Trace Act) (at : ℕ) (bytes : List ℕ) (pdu : Pdu) (s : Said) → IsDue Client kind t at bytes pdu → said pdu ≡ s → (id : ℕ) → TakenIf (channel Client id t)
    → TakenIf (channels.state (with_said Client pdu s (table Client t)) id)
client_due kind t at bytes pdu (Creates made name) d e id h = absurd (let no : None ≡ Some d.id = sym (ap channel_in e) ∙ d.channel_is in cc)
client_due kind t at bytes pdu (Created made status) d e id h = absurd (let no : None ≡ Some d.id = sym (ap channel_in e) ∙ d.channel_is in cc)
client_due kind t at bytes pdu (Ends made) d e id h = taken_ended (eqb made id) (channel Client id t) h
client_due kind t at bytes pdu s d e id h = h

client_act : (t : Trace Act) (act : Act) → IsAct Client t act → (id : ℕ) → TakenIf (channel Client id t) → TakenIf (channel Client id (t ▷ act))
client_act t (Opens made name) a id h = absurd (let no : Client ≡ Server = a.0.0 in cc)
client_act t (Closes made) a id h = taken_ended (eqb made id) (channel Client id t) h
client_act t (Hears (Spoken pdu)) a id h = client_hears t pdu (said pdu) a refl id h
client_act t (Releases kind at bytes pdu) a id h = client_due kind t at bytes pdu (said pdu) a refl id h
client_act t act a id h = h

pub client_taken : (t : Trace Act) → EndOfActs Client t → (id : ℕ) → TakenIf (channel Client id t)
client_taken Start e id k = absurd (let no : false ≡ true = k in cc)
client_taken (t ▷ act) e id k = client_act t act e.1 id (client_taken t e.2 id) k

-- ---- so do a server's that the client accepted

abbrev pub Accepts : Trace Act → ℕ → Type 0
Accepts t id = is_among id (told_by acceptance (hears t)) ≡ true → is_taken_in (channel Server id t) ≡ true

-- what was read is the same, and the channel stays as it was or is closed
kept_accepts : (t : Trace Act) (ys : List Heard) (s : ChannelState) (id : ℕ) → told_by acceptance ys ≡ [] → Accepts t id → (is_taken_in (channel Server id t) ≡ true → is_taken_in s ≡ true)
    → is_among id (told_by acceptance (hears t ++ ys)) ≡ true → is_taken_in s ≡ true
kept_accepts t ys s id none old later h =
    later (old (sym (ap (is_among id) (told-append acceptance (hears t) ys ∙ ap (λ l. told_by acceptance (hears t) ++ l) none ∙ append-nil (told_by acceptance (hears t)))) ∙ h))

pub closed_taken : (b : Bool) (s : ChannelState) → is_taken_in s ≡ true → is_taken_in (cond b state.Closed s) ≡ true
closed_taken true s h = refl
closed_taken false s h = h

pub taken_known : (s : ChannelState) → is_taken_in s ≡ true → is_known_in s ≡ true
taken_known state.Unknown h = h
taken_known state.Asked h = refl
taken_known state.Open h = refl
taken_known state.Refused h = refl
taken_known state.Closed h = refl

pub new_taken : (b : Bool) (s : ChannelState) → (b ≡ true → ⊥) → is_taken_in s ≡ true → is_taken_in (cond b state.Asked s) ≡ true
new_taken true s new h = absurd (new refl)
new_taken false s new h = h

-- the channel of an answer without a fault takes no data yet
not_taken : (s : ChannelState) (id : ℕ) → answer_fault s id ≡ None → is_taken_in s ≡ true → ⊥
not_taken state.Unknown id h k = let no : false ≡ true = k in cc
not_taken state.Asked id h k = let no : false ≡ true = k in cc
not_taken state.Open id h k = let no : Some (Channel (refusal.KnownChannel id)) ≡ None = h in cc
not_taken state.Refused id h k = let no : false ≡ true = k in cc
not_taken state.Closed id h k = let no : Some (Channel (refusal.KnownChannel id)) ≡ None = h in cc

-- `l`: the status accepts the channel; `b`: it is the one that is asked about; `a`: that one was accepted before
accept_case : (l b a : Bool) (made id : ℕ) (s : ChannelState) → (b ≡ true → is_taken_in s ≡ true → ⊥) → (a ≡ true → is_taken_in s ≡ true) → (is_among id (cond l (made ∷ []) [] ++ []) ≡ true → b ≡ true)
    → a || is_among id (cond l (made ∷ []) [] ++ []) ≡ true → is_taken_in (cond b (cond l state.Open state.Refused) s) ≡ true
accept_case true true a made id s new old mine h = refl
accept_case false true true made id s new old mine h = absurd (new refl (old refl))
accept_case false true false made id s new old mine h = absurd (let no : false ≡ true = h in cc)
accept_case l false true made id s new old mine h = old refl
accept_case l false false made id s new old mine h = absurd (let no : false ≡ true = mine h in cc)

only_mine : (l : Bool) (made id : ℕ) → is_among id (cond l (made ∷ []) [] ++ []) ≡ true → eqb made id ≡ true
only_mine true made id h = by_test (eqb made id) h where
  by_test : (b : Bool) → b || false ≡ true → b ≡ true
  by_test true h = refl
  by_test false h = h
only_mine false made id h = absurd (let no : false ≡ true = h in cc)

server_hears : (t : Trace Act) (pdu : Pdu) (s : Said) → IsAct Server t (Hears (Spoken pdu)) → said pdu ≡ s → (id : ℕ) → Accepts t id → is_among id (told_by acceptance (hears t) ++ (acceptance s ++ [])) ≡ true
    → is_taken_in (channels.state (with_said Server pdu s (table Server t)) id) ≡ true
server_hears t pdu (Created made status) a e id old h =
    let fine = heard_fine Server t pdu (Created made status) a e refl in
    accept_case (nat_lt status 2147483648) (eqb made id) (is_among id (told_by acceptance (hears t))) made id (channel Server id t)
    (λ b k. not_taken (channel Server made t) made fine (ap (λ x. is_taken_in (channel Server x t)) (eqb-true made id b) ∙ k)) old (only_mine (nat_lt status 2147483648) made id)
    (sym (among-append id (told_by acceptance (hears t)) (cond (nat_lt status 2147483648) (made ∷ []) [] ++ [])) ∙ h)
server_hears t pdu (Ends made) a e id old h = closed_taken (eqb made id) (channel Server id t) (old (sym (ap (is_among id) (append-nil (told_by acceptance (hears t)))) ∙ h))
server_hears t pdu s a e id old h = old (sym (ap (is_among id) (append-nil (told_by acceptance (hears t)))) ∙ h)

server_due : (kind : Kind) (t : Trace Act) (at : ℕ) (bytes : List ℕ) (pdu : Pdu) (s : Said) → IsDue Server kind t at bytes pdu → said pdu ≡ s → (id : ℕ) → is_taken_in (channel Server id t) ≡ true
    → is_taken_in (channels.state (with_said Server pdu s (table Server t)) id) ≡ true
server_due kind t at bytes pdu (Created made status) d e id h = absurd (let no : None ≡ Some d.id = sym (ap channel_in e) ∙ d.channel_is in cc)
server_due kind t at bytes pdu (Ends made) d e id h = closed_taken (eqb made id) (channel Server id t) h
server_due kind t at bytes pdu s d e id h = h

server_act : (t : Trace Act) (act : Act) → EndOfActs Server (t ▷ act) → (id : ℕ) → Accepts t id → Accepts (t ▷ act) id
server_act t (Opens made name) e id old h =
    kept_accepts t [] (cond (eqb made id) state.Asked (channel Server id t)) id refl old (λ k. new_taken (eqb made id) (channel Server id t) (new_id t made id e.2 e.1.0.2 (taken_known (channel Server id t) k)) k) h
server_act t (Closes made) e id old h = kept_accepts t [] (cond (eqb made id) state.Closed (channel Server id t)) id refl old (closed_taken (eqb made id) (channel Server id t)) h
server_act t (Hears (Spoken pdu)) e id old h = server_hears t pdu (said pdu) e.1 refl id old (sym (ap (is_among id) (told-append acceptance (hears t) (Spoken pdu ∷ []))) ∙ h)
server_act t (Releases kind at bytes pdu) e id old h =
    kept_accepts t [] (channels.state (with_said Server pdu (said pdu) (table Server t)) id) id refl old (server_due kind t at bytes pdu (said pdu) e.1 refl id) h
server_act t act e id old h = kept_accepts t (heard_in act) (channel Server id t) id refl old (λ k. k) h

pub server_taken : (t : Trace Act) → EndOfActs Server t → (id : ℕ) → Accepts t id
server_taken Start e id h = absurd (let no : false ≡ true = h in cc)
server_taken (t ▷ act) e id h = server_act t act e id (server_taken t e.2 id) h

-- ---- at either end

pub comes_known : (role : Role) (here there : Trace Act) (pdu : Pdu) (id : ℕ) → Meet role here there → Comes role here there (Spoken pdu) → is_among id (channels_of (other role) (hears here)) ≡ true → unknown_fault role here id ≡ None
comes_known Client here there pdu id m h k =
    let created = created_first Server there m.there_acts in
    let known = client_known here id m.here_acts (front_may (MayCreate Server) Client here there created m.to_here) k in
    ap (λ b. when (not b) (Channel (refusal.UnknownChannel id))) (client_taken here m.here_acts id known)
comes_known Server here there pdu id m h k = ap (λ b. when (not b) (Channel (refusal.UnknownChannel id))) (server_taken here m.here_acts id k)

may_of : (role : Role) (here there : Trace Act) (pdu : Pdu) (s : Said) → Meet role here there → Comes role here there (Spoken pdu) → said pdu ≡ s → SaidMay (other role) (hears here) s
may_of role here there pdu s m h e = subst (SaidMay (other role) (hears here)) e (next_may (MayCreate (other role)) role here there (Spoken pdu) (created_first (other role) there m.there_acts) h)

pub data_known : (role : Role) (here there : Trace Act) (pdu : Pdu) (id : ℕ) → Meet role here there → Comes role here there (Spoken pdu) → said pdu ≡ Brings id → unknown_fault role here id ≡ None
data_known role here there pdu id m h e = comes_known role here there pdu id m h (may_of role here there pdu (Brings id) m h e)

close_said : (role : Role) (here there : Trace Act) (pdu : Pdu) (id : ℕ) → Meet role here there → Comes role here there (Spoken pdu) → said pdu ≡ Ends id → said_fault role here pdu (said pdu) ≡ None
close_said role here there pdu id m h e =
    let late = not_late role here id (is_moved_whole (inward id here)) (close_in_time role here there pdu id m h e) in
    let known = comes_known role here there pdu id m h (may_of role here there pdu (Ends id) m h e) in
    subst (λ s. said_fault role here pdu s ≡ None) (sym e) (ap (λ o. option_or o (late_fault role here id (is_moved_whole (inward id here)))) known ∙ late)

pub close_fine : (role : Role) (here there : Trace Act) (pdu : Pdu) (id : ℕ) → Meet role here there → Comes role here there (Spoken pdu) → said pdu ≡ Ends id → main_fault role here (Spoken pdu) ≡ None
close_fine Server here there pdu id m h e =
    ready_case (is_ready here) (is_capable (said pdu)) (said_fault Server here pdu (said pdu)) (ready_is Server here m.here_acts ∙ told_ready Server here there pdu m h) (λ c. close_said Server here there pdu id m h e)
close_fine Client here there pdu id m h e =
    ready_case (is_ready here) (is_capable (said pdu)) (said_fault Client here pdu (said pdu)) (ready_is Client here m.here_acts ∙ told_ready Client here there pdu m h) (λ c. close_said Client here there pdu id m h e)

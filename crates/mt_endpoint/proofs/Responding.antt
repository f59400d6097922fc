-- A client answers each creation that it reads, once, so no answer of a client is a fault.
use Rattle.std.proofs.Common.{◌≡◌, ℕ, ◌+◌, Bool, true, false, not, ◌||◌, cond, eqb, nat_lt, List, [], ◌∷◌, ◌++◌, map, length, Option, Some, None, refl, sym, ap, subst, ◌∙◌, append_assoc, append-nil, eq-eqb}
use Rattle.std.proofs.lemmas.Bool.{eqb-true}
use Rattle.mt_base.specs.declared.kinds.Kind.{Kind}
use Rattle.mt_base.specs.declared.kinds.Kind.TheVariants.{Reliable, Lossy}
use Rattle.mt_base.specs.declared.kinds.Role.{Role}
use Rattle.mt_base.specs.declared.kinds.Role.TheVariants.{Server, Client}
use Rattle.mt_base.specs.Trace.{Trace, Start, ◌▷◌}
use Rattle.dvc_pdus.specs.Value.{Pdu}
use Rattle.dvc_channels.specs.declared.answers.ChannelState.{ChannelState}
use Rattle.dvc_channels.specs.declared.answers.ChannelState.TheVariants as state
use Rattle.dvc_channels.specs.declared.answers.ChannelRefusal.TheVariants as refusal
use Rattle.dvc_channels.specs.Acts.{Act as Change, Made, Answered, Came, Took, Ended}
use Rattle.dvc_channels.specs.Acts as channels
use Rattle.soft_sync.specs.declared.kinds.Path.{Path}
use Rattle.soft_sync.specs.declared.kinds.Path.TheVariants.{Main, Tunnel}
use Rattle.soft_sync.specs.Exchanges.{Request, exchanges}
use Rattle.mt_endpoint.specs.Acts.{Act, Opens, Closes, Hears, Releases, Heard, Spoken}
use Rattle.mt_endpoint.specs.Said.{Said, Capable, Creates, Created, Brings, Ends, Moves, Moved, said}
use Rattle.mt_endpoint.specs.Channels.{came, table, with_said, channel, is_closed, is_open_in, is_known, is_known_in}
use Rattle.mt_endpoint.specs.Moving.{all_told, made, made_by, read_by, kinds_of, unanswered_in, outward, inward, request_read}
use Rattle.mt_endpoint.specs.Holding.{held, channel_in}
use Rattle.mt_endpoint.specs.Writing.{adds, closing, unless, reply, on_main, spoken}
use Rattle.mt_endpoint.specs.Faults.{Why, Channel, BadSyncAnswer, when, is_taken_in, unknown_fault, late_fault, is_moved_whole, answer_fault, answers_fault, response_fault}
use Rattle.mt_endpoint.specs.World.{hears, heard_in}
use Rattle.mt_endpoint.specs.Alone.{IsAct, EndOfActs, IsDue}
use Rattle.mt_endpoint.specs.Orders.{is_among, told_by, creation, answers_of, requests_told, AnswersFit}
use Rattle.mt_endpoint.specs.Meeting.{Meet, Comes}
use Rattle.mt_base.proofs.Prefixes.{Cut, first, second, cut_in_two}
use Rattle.mt_endpoint.proofs.Asking.{neither}
use Rattle.mt_endpoint.proofs.Known.{AllOf, OpenHas, all_after, all_later, due_of, among-append, or_last, or_front}
use Rattle.mt_endpoint.proofs.Creating.{told-append, data_tells, heard_fine, channels_are, known_told, counted, fresh, ids_said, told_known}
use Rattle.mt_endpoint.proofs.Answering.{fit_more, written_fit, map-append}
use Rattle.mt_endpoint.proofs.Listing.{lists_are}
use Rattle.mt_endpoint.proofs.Hearing.{reads_are, answers_heard}
use Rattle.mt_endpoint.proofs.Sources.{Source, begun, opens, asks_for, tells, syncs, closes, answers, heard_capable, heard_creates, heard_ends, released_ends, Adds, nothing, frame, sends, adds_what}

-- ---- Soft-Sync answers

fit_at : (rs : List Request) (zs : List (List Kind)) (kinds : List Kind) (more : List (List Kind)) → AnswersFit rs (zs ++ kinds ∷ more) → answers_fault (unanswered_in (exchanges rs (map kinds_of zs))) kinds ≡ None
fit_at [] [] kinds more h = absurd h
fit_at [] (z ∷ zs) kinds more h = absurd h
fit_at (r ∷ rs) [] kinds more h = ap (λ b. when (not b) BadSyncAnswer) h.0
fit_at (r ∷ rs) (z ∷ zs) kinds more h = fit_at rs zs kinds more h.1

pub response_fine : (here there : Trace Act) (pdu : Pdu) (kinds : List Kind) → Meet Server here there → Comes Server here there (Spoken pdu) → said pdu ≡ Moved kinds → response_fault Server here kinds ≡ None
response_fine here there pdu kinds m h e =
    let rest = told_by answers_of h.0 in
    let all : told_by answers_of (spoken Client there) ≡ told_by answers_of (hears here) ++ kinds ∷ rest =
    ap (told_by answers_of) (h.1 ∙ append_assoc (hears here) (Spoken pdu ∷ []) h.0) ∙ told-append answers_of (hears here) (Spoken pdu ∷ h.0) ∙ ap (λ s. told_by answers_of (hears here) ++ (answers_of s ++ rest)) e in
    let more = map request_read (told_by requests_told m.to_there.0) in
    let asked : all_told made_by here ≡ all_told read_by there ++ more =
    sym (lists_are Server here m.here_acts).requests_are ∙ ap (λ l. map request_read (told_by requests_told l)) m.to_there.1 ∙ ap (map request_read) (told-append requests_told (hears there) m.to_there.0)
    ∙ map-append request_read (told_by requests_told (hears there)) (told_by requests_told m.to_there.0) ∙ ap (λ l. l ++ more) (reads_are there).requests_are in
    let fit : AnswersFit (all_told made_by here) (told_by answers_of (hears here) ++ kinds ∷ rest) =
    subst (λ l. AnswersFit l (told_by answers_of (hears here) ++ kinds ∷ rest)) (sym asked) (fit_more (all_told read_by there) more (told_by answers_of (hears here) ++ kinds ∷ rest) (subst (AnswersFit (all_told read_by there)) all (written_fit Client there m.there_acts))) in
    ap (λ l. answers_fault (unanswered_in (exchanges (all_told made_by here) l)) kinds) (sym (answers_heard here)) ∙ fit_at (all_told made_by here) (told_by answers_of (hears here)) kinds rest fit

-- ---- a client answers the creations that it read, in order

abbrev pub responses : Said → List ℕ
responses (Capable version) = []
responses (Creates id name) = []
responses (Created id status) = id ∷ []
responses (Brings id) = []
responses (Ends id) = []
responses (Moves lists) = []
responses (Moved kinds) = []

closing_responds : (b : Bool) (path : Path) (id : ℕ) → told_by responses (on_main (unless b (closing path id ∷ []) ++ [])) ≡ []
closing_responds true path id = refl
closing_responds false Main id = refl
closing_responds false (Tunnel Reliable) id = refl
closing_responds false (Tunnel Lossy) id = refl

replied_said : (t : Trace Act) (s : Said) → told_by responses (on_main (reply Client t s ++ [])) ≡ creation s ++ []
replied_said t (Ends id) = closing_responds (is_closed Client id t) (outward id t) id
replied_said t s = refl

due_creates : (role : Role) (kind : Kind) (t : Trace Act) (at : ℕ) (bytes : List ℕ) (pdu : Pdu) (s : Said) → IsDue role kind t at bytes pdu → said pdu ≡ s → creation s ++ [] ≡ []
due_creates role kind t at bytes pdu (Creates id name) d e = absurd (let no : None ≡ Some d.id = sym (ap channel_in e) ∙ d.channel_is in cc)
due_creates role kind t at bytes pdu s d e = refl

frame_responds : (t : Trace Act) (act : Act) (x : Heard) → Source Client t act x → came act ≡ [] → told_by responses (x ∷ []) ≡ []
frame_responds t _ _ (begun r) h = refl
frame_responds t _ _ (opens id name) h = refl
frame_responds t _ _ (asks_for kind id cookie) h = refl
frame_responds t _ _ (tells act id hr r) h = refl
frame_responds t _ _ (syncs reliable lossy) h = refl
frame_responds t _ _ (closes id) h = refl
frame_responds t _ _ (answers named) h = refl
frame_responds t _ _ (heard_capable pdu version s r) h = refl
frame_responds t _ _ (heard_creates pdu id name s r) h = absurd (let no : pdu ∷ [] ≡ [] = h in cc)
frame_responds t _ _ (heard_ends pdu id s c) h = refl
frame_responds t _ _ (released_ends kind at bytes pdu id s c) h = refl

added_responds : (t : Trace Act) (act : Act) (xs : List Heard) → Adds Client t act xs → came act ≡ [] → told_by responses xs ≡ []
added_responds t act _ (nothing _) h = refl
added_responds t act _ (frame _ x s) h = frame_responds t act x s h
added_responds t _ xs (sends id message _ all) h = data_tells responses (λ x. refl) id xs all

responds_new : (t : Trace Act) (act : Act) → IsAct Client t act → told_by responses (on_main (adds Client t act)) ≡ told_by creation (heard_in act)
responds_new t (Hears (Spoken pdu)) a = replied_said t (said pdu)
responds_new t (Releases kind at bytes pdu) a = replied_said t (said pdu) ∙ due_creates Client kind t at bytes pdu (said pdu) a refl
responds_new t act a = added_responds t act _ (adds_what Client t act a) refl

pub responses_are : (t : Trace Act) → EndOfActs Client t → told_by responses (spoken Client t) ≡ told_by creation (hears t)
responses_are Start e = refl
responses_are (t ▷ act) e =
    told-append responses (spoken Client t) (on_main (adds Client t act)) ∙ ap (λ l. l ++ told_by responses (on_main (adds Client t act))) (responses_are t e.2)
    ∙ ap (λ l. told_by creation (hears t) ++ l) (responds_new t act e.1) ∙ sym (told-append creation (hears t) (heard_in act))

-- ---- a server's channel that was answered stays so

abbrev pub is_answered_in : ChannelState → Bool
is_answered_in state.Unknown = false
is_answered_in state.Asked = false
is_answered_in state.Open = true
is_answered_in state.Refused = true
is_answered_in state.Closed = true

abbrev pub is_answered : ℕ → Trace Act → Bool
is_answered id t = is_answered_in (channel Server id t)

answered_cond : (b : Bool) (s r : ChannelState) → is_answered_in s ≡ true → is_answered_in r ≡ true → is_answered_in (cond b s r) ≡ true
answered_cond true s r h k = h
answered_cond false s r h k = k

answered_known : (s : ChannelState) → is_answered_in s ≡ true → is_known_in s ≡ true
answered_known state.Unknown h = h
answered_known state.Asked h = refl
answered_known state.Open h = refl
answered_known state.Refused h = refl
answered_known state.Closed h = refl

answered_status : (status : ℕ) → is_answered_in (channels.answered status) ≡ true
answered_status status = answered_cond (nat_lt status 2147483648) state.Open state.Refused refl refl

stays_said : (pdu : Pdu) (s : Said) (c : Trace Change) (id : ℕ) → is_answered_in (channels.state c id) ≡ true → is_answered_in (channels.state (with_said Server pdu s c) id) ≡ true
stays_said pdu (Created made status) c id h = answered_cond (eqb made id) (channels.answered status) (channels.state c id) (answered_status status) h
stays_said pdu (Ends made) c id h = answered_cond (eqb made id) state.Closed (channels.state c id) refl h
stays_said pdu s c id h = h

-- a new channel has another id
not_again : (b : Bool) (s : ChannelState) → (b ≡ true → ⊥) → is_answered_in s ≡ true → is_answered_in (cond b state.Asked s) ≡ true
not_again true s new h = absurd (new refl)
not_again false s new h = h

pub new_id : (t : Trace Act) (made id : ℕ) → EndOfActs Server t → made ≡ length (channels.ids (table Server t)) + 1 → is_known Server id t ≡ true → eqb made id ≡ true → ⊥
new_id t made id e next k same =
    let among : is_among id (channels.ids (table Server t)) ≡ true = sym (ap (is_among id) (channels_are Server t e)) ∙ told_known Server t id e k in
    let away : is_among made (channels.ids (table Server t)) ≡ false = fresh (channels.ids (table Server t)) made next (counted t e) in
    let no : true ≡ false = sym among ∙ ap (λ x. is_among x (channels.ids (table Server t))) (sym (eqb-true made id same)) ∙ away in cc

stays : (t : Trace Act) (act : Act) (id : ℕ) → EndOfActs Server (t ▷ act) → is_answered id t ≡ true → is_answered id (t ▷ act) ≡ true
stays t (Opens made name) id e h = not_again (eqb made id) (channel Server id t) (new_id t made id e.2 e.1.0.2 (answered_known (channel Server id t) h)) h
stays t (Closes made) id e h = answered_cond (eqb made id) state.Closed (channel Server id t) refl h
stays t (Hears (Spoken pdu)) id e h = stays_said pdu (said pdu) (table Server t) id h
stays t (Releases kind at bytes pdu) id e h = stays_said pdu (said pdu) (table Server t) id h
stays t act id e h = h

abbrev pub OfAnswered : Trace Act → Option ℕ → Type 0
OfAnswered t None = Unit {0}
OfAnswered t (Some id) = is_answered id t ≡ true

of_stays : (t : Trace Act) (act : Act) → EndOfActs Server (t ▷ act) → (id : Option ℕ) → OfAnswered t id → OfAnswered (t ▷ act) id
of_stays t act e None h = tt
of_stays t act e (Some id) h = stays t act id e h

answered_open : (s : ChannelState) → is_open_in s ≡ true → is_answered_in s ≡ true
answered_open state.Unknown h = h
answered_open state.Asked h = h
answered_open state.Open h = refl
answered_open state.Refused h = refl
answered_open state.Closed h = refl

open_has : (t : Trace Act) → OpenHas Server t (OfAnswered t)
open_has t None h = tt
open_has t (Some id) h = answered_open (channel Server id t) h

held_answered : (kind : Kind) (t : Trace Act) → EndOfActs Server t → AllOf (OfAnswered t) (held Server kind t)
held_answered kind Start e = tt
held_answered kind (t ▷ act) e =
    all_later (OfAnswered t) (OfAnswered (t ▷ act)) (of_stays t act e) (held Server kind (t ▷ act)) (all_after Server kind t act (OfAnswered t) (open_has t) (held Server kind t) (held_answered kind t e.2))

-- ---- and its answer was read

abbrev pub WasRead : Trace Act → Type 0
WasRead t = (id : ℕ) → is_answered id t ≡ true → is_among id (told_by responses (hears t)) ≡ true

read_more : (id : ℕ) (xs ys : List Heard) → is_among id (told_by responses xs) ≡ true → is_among id (told_by responses (xs ++ ys)) ≡ true
read_more id xs ys h = ap (is_among id) (told-append responses xs ys) ∙ among-append id (told_by responses xs) (told_by responses ys) ∙ or_front (is_among id (told_by responses xs)) (is_among id (told_by responses ys)) h

answered_at : (b : Bool) (s r : ChannelState) (a : Bool) → (b ≡ true → is_answered_in s ≡ true → a ≡ true) → (is_answered_in r ≡ true → a ≡ true) → is_answered_in (cond b s r) ≡ true → a ≡ true
answered_at true s r a h k e = h refl e
answered_at false s r a h k e = k e

-- a channel that ends was answered before
ends_read : (t : Trace Act) (ys : List Heard) (made id : ℕ) → WasRead t → is_answered made t ≡ true → is_answered_in (cond (eqb made id) state.Closed (channel Server id t)) ≡ true → is_among id (told_by responses (hears t ++ ys)) ≡ true
ends_read t ys made id w was h =
    read_more id (hears t) ys
    (answered_at (eqb made id) state.Closed (channel Server id t) (is_among id (told_by responses (hears t))) (λ b k. ap (λ x. is_among x (told_by responses (hears t))) (sym (eqb-true made id b)) ∙ w made was) (w id) h)

taken_answered : (s : ChannelState) (why : Why) → when (not (is_taken_in s)) why ≡ None → is_answered_in s ≡ true
taken_answered state.Unknown why h = absurd (let no : Some why ≡ None = h in cc)
taken_answered state.Asked why h = absurd (let no : Some why ≡ None = h in cc)
taken_answered state.Open why h = refl
taken_answered state.Refused why h = refl
taken_answered state.Closed why h = refl

-- the same state
same_read : (t : Trace Act) (ys : List Heard) → WasRead t → (id : ℕ) → is_answered id t ≡ true → is_among id (told_by responses (hears t ++ ys)) ≡ true
same_read t ys w id h = read_more id (hears t) ys (w id h)

said_read : (t : Trace Act) (pdu : Pdu) (s : Said) → IsAct Server t (Hears (Spoken pdu)) → said pdu ≡ s → WasRead t → (id : ℕ) → is_answered_in (channels.state (with_said Server pdu s (table Server t)) id) ≡ true
    → is_among id (told_by responses (hears t ++ Spoken pdu ∷ [])) ≡ true
said_read t pdu (Created made status) a e w id h =
    let all : told_by responses (hears t ++ Spoken pdu ∷ []) ≡ told_by responses (hears t) ++ made ∷ [] = told-append responses (hears t) (Spoken pdu ∷ []) ∙ ap (λ s. told_by responses (hears t) ++ (responses s ++ [])) e in
    ap (is_among id) all ∙ among-append id (told_by responses (hears t)) (made ∷ [])
    ∙ answered_at (eqb made id) (channels.answered status) (channel Server id t) (is_among id (told_by responses (hears t)) || (eqb made id || false))
    (λ b k. or_last (is_among id (told_by responses (hears t))) (eqb made id) b) (λ k. or_front (is_among id (told_by responses (hears t))) (eqb made id || false) (w id k)) h
said_read t pdu (Ends made) a e w id h =
    let fine = heard_fine Server t pdu (Ends made) a e refl in
    let was = taken_answered (channel Server made t) (Channel (refusal.UnknownChannel made)) (neither (unknown_fault Server t made) (late_fault Server t made (is_moved_whole (inward made t))) fine).0 in
    ends_read t (Spoken pdu ∷ []) made id w was h
said_read t pdu s a e w id h = same_read t (Spoken pdu ∷ []) w id h

due_read : (kind : Kind) (t : Trace Act) (at : ℕ) (bytes : List ℕ) (pdu : Pdu) (s : Said) → EndOfActs Server t → IsDue Server kind t at bytes pdu → said pdu ≡ s → WasRead t → (id : ℕ)
    → is_answered_in (channels.state (with_said Server pdu s (table Server t)) id) ≡ true → is_among id (told_by responses (hears t ++ [])) ≡ true
due_read kind t at bytes pdu (Created made status) e d q w id h = absurd (let no : None ≡ Some d.id = sym (ap channel_in q) ∙ d.channel_is in cc)
due_read kind t at bytes pdu (Ends made) e d q w id h =
    let was : is_answered made t ≡ true = subst (λ s. OfAnswered t (channel_in s)) q (due_of Server kind t at bytes pdu (OfAnswered t) (held_answered kind t e) d) in
    ends_read t [] made id w was h
due_read kind t at bytes pdu s e d q w id h = same_read t [] w id h

read_act : (t : Trace Act) (act : Act) → EndOfActs Server (t ▷ act) → WasRead t → WasRead (t ▷ act)
read_act t (Opens made name) e w id h =
    read_more id (hears t) [] (answered_at (eqb made id) state.Asked (channel Server id t) (is_among id (told_by responses (hears t))) (λ b k. absurd (let no : false ≡ true = k in cc)) (w id) h)
read_act t (Closes made) e w id h = ends_read t [] made id w (answered_open (channel Server made t) e.1.0.0) h
read_act t (Hears (Spoken pdu)) e w id h = said_read t pdu (said pdu) e.1 refl w id h
read_act t (Releases kind at bytes pdu) e w id h = due_read kind t at bytes pdu (said pdu) e.2 e.1 refl w id h
read_act t act e w id h = same_read t (heard_in act) w id h

pub was_read : (t : Trace Act) → EndOfActs Server t → WasRead t
was_read Start e = λ id h. absurd (let no : false ≡ true = h in cc)
was_read (t ▷ act) e = read_act t act e (was_read t e.2)

-- ---- ids are distinct

abbrev pub Distinct : List ℕ → Type 0
Distinct ids = (xs : List ℕ) (id : ℕ) (ys : List ℕ) → ids ≡ xs ++ id ∷ ys → is_among id xs ≡ false

no_element : (xs : List ℕ) (x : ℕ) (ys : List ℕ) → [] ≡ xs ++ x ∷ ys → ⊥
no_element [] x ys h = let no : [] ≡ x ∷ ys = h in cc
no_element (y ∷ xs) x ys h = let no : [] ≡ y ∷ (xs ++ x ∷ ys) = h in cc

distinct_push : (ids : List ℕ) (new : ℕ) → is_among new ids ≡ false → Distinct ids → Distinct (ids ++ new ∷ [])
distinct_push ids new away d xs id ys h = by_cut (cut_in_two xs (id ∷ ys) ids (new ∷ []) h) where
  by_cut : Cut xs (id ∷ ys) ids (new ∷ []) → is_among id xs ≡ false
  by_cut (first [] a b) =
      let same : ids ≡ xs = a ∙ append-nil xs in
      let it : id ≡ new = cc in rw (sym same, it) away
  by_cut (first (m ∷ ms) a b) = let it : id ≡ m = cc in d xs id ms (a ∙ ap (λ x. xs ++ x ∷ ms) (sym it))
  by_cut (second [] a b) = let it : id ≡ new = cc in rw (a ∙ append-nil ids, it) away
  by_cut (second (m ∷ ms) a b) = absurd (no_element ms id ys (let e : [] ≡ ms ++ id ∷ ys = cc in e))

distinct_act : (t : Trace Act) (act : Act) → EndOfActs Server (t ▷ act) → Distinct (channels.ids (table Server t)) → Distinct (channels.ids (table Server (t ▷ act)))
distinct_act t (Opens id name) e d = distinct_push (channels.ids (table Server t)) id (fresh (channels.ids (table Server t)) id e.1.0.2 (counted t e.2)) d
distinct_act t (Hears (Spoken pdu)) e d = subst Distinct (sym (ids_said pdu (said pdu) (table Server t))) d
distinct_act t (Releases kind at bytes pdu) e d = subst Distinct (sym (ids_said pdu (said pdu) (table Server t))) d
distinct_act t act e d = d

distinct : (t : Trace Act) → EndOfActs Server t → Distinct (channels.ids (table Server t))
distinct Start e = λ xs id ys h. absurd (no_element xs id ys h)
distinct (t ▷ act) e = distinct_act t act e (distinct t e.2)

-- ---- so an answer for a channel is the first

among_middle : (id : ℕ) (xs ys : List ℕ) → is_among id (xs ++ id ∷ ys) ≡ true
among_middle id [] ys = ap (λ b. b || is_among id ys) (eq-eqb id id refl)
among_middle id (x ∷ xs) ys = or_then (eqb x id) (is_among id (xs ++ id ∷ ys)) (among_middle id xs ys) where
  or_then : (a b : Bool) → b ≡ true → a || b ≡ true
  or_then true b h = refl
  or_then false b h = h

still_asked : (s : ChannelState) (id : ℕ) → is_known_in s ≡ true → is_answered_in s ≡ false → answer_fault s id ≡ None
still_asked state.Unknown id h k = absurd (let no : false ≡ true = h in cc)
still_asked state.Asked id h k = refl
still_asked state.Open id h k = absurd (let no : true ≡ false = k in cc)
still_asked state.Refused id h k = absurd (let no : true ≡ false = k in cc)
still_asked state.Closed id h k = absurd (let no : true ≡ false = k in cc)

unanswered_if : (t : Trace Act) (id : ℕ) → EndOfActs Server t → is_among id (told_by responses (hears t)) ≡ false → is_answered id t ≡ false
unanswered_if t id e h = by_test (is_answered id t) refl where
  by_test : (b : Bool) → is_answered id t ≡ b → b ≡ false
  by_test true k = absurd (let no : true ≡ false = sym (was_read t e id k) ∙ h in cc)
  by_test false k = refl

pub created_fine : (here there : Trace Act) (pdu : Pdu) (id status : ℕ) → Meet Server here there → Comes Server here there (Spoken pdu) → said pdu ≡ Created id status → answer_fault (channel Server id here) id ≡ None
created_fine here there pdu id status m h e =
    let rest = told_by responses h.0 in
    let more = told_by creation m.to_there.0 in
    let written : told_by responses (spoken Client there) ≡ told_by responses (hears here) ++ id ∷ rest =
    ap (told_by responses) (h.1 ∙ append_assoc (hears here) (Spoken pdu ∷ []) h.0) ∙ told-append responses (hears here) (Spoken pdu ∷ h.0) ∙ ap (λ s. told_by responses (hears here) ++ (responses s ++ rest)) e in
    let all : channels.ids (table Server here) ≡ told_by responses (hears here) ++ id ∷ (rest ++ more) =
    sym (channels_are Server here m.here_acts) ∙ ap (told_by creation) m.to_there.1 ∙ told-append creation (hears there) m.to_there.0
    ∙ ap (λ l. l ++ more) (sym (responses_are there m.there_acts) ∙ written) ∙ append_assoc (told_by responses (hears here)) (id ∷ rest) more in
    let known : is_known Server id here ≡ true = known_told Server here id m.here_acts (ap (is_among id) (channels_are Server here m.here_acts ∙ all) ∙ among_middle id (told_by responses (hears here)) (rest ++ more)) in
    still_asked (channel Server id here) id known (unanswered_if here id m.here_acts (distinct here m.here_acts (told_by responses (hears here)) id (rest ++ more) all))

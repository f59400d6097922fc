-- Channels are created before anything else is written for them.
use Rattle.std.proofs.Common.{◌≡◌, ◌==◌, ◌⊎◌, inl, inr, ℕ, ◌+◌, ◌<◌, ◌≤◌, Bool, true, false, not, ◌||◌, cond, eqb, List, [], ◌∷◌, ◌++◌, map, length, Option, Some, None, refl, sym, ap, subst, ◌∙◌, append_assoc, append-nil, arith, length-append}
use Rattle.std.proofs.lemmas.Bool.{eqb-true}
use Rattle.mt_base.specs.declared.kinds.Kind.{Kind}
use Rattle.mt_base.specs.declared.kinds.Kind.TheVariants.{Reliable, Lossy}
use Rattle.mt_base.specs.declared.kinds.Role.{Role}
use Rattle.mt_base.specs.declared.kinds.Role.TheVariants.{Server, Client}
use Rattle.mt_base.specs.Trace.{Trace, Start, ◌▷◌}
use Rattle.dvc_pdus.specs.Value.{Pdu, ChannelList, list_to, lists_of}
use Rattle.dvc_channels.specs.declared.answers.ChannelState.{ChannelState}
use Rattle.dvc_channels.specs.declared.answers.ChannelState.TheVariants as state
use Rattle.dvc_channels.specs.declared.answers.ChannelRefusal.TheVariants as refusal
use Rattle.dvc_channels.specs.Acts.{Act as Change, Made, Answered, Came, Took, Ended}
use Rattle.dvc_channels.specs.Acts as channels
use Rattle.soft_sync.specs.declared.kinds.Path.{Path}
use Rattle.soft_sync.specs.declared.kinds.Path.TheVariants.{Main, Tunnel}
use Rattle.mt_endpoint.specs.Acts.{Act, Opens, Sends, Takes, Closes, Hears, Releases, Heard, TunnelAsked, TunnelAnswered, Spoken}
use Rattle.mt_endpoint.specs.Said.{Said, Capable, Creates, Created, Brings, Ends, Moves, Moved, said}
use Rattle.mt_endpoint.specs.Channels.{came, table, has_place, with_said, channel, is_open, is_closed, is_known, is_known_in, is_ready}
use Rattle.mt_endpoint.specs.Moving.{outward, inward, channels_listed}
use Rattle.mt_endpoint.specs.Holding.{channel_in}
use Rattle.mt_endpoint.specs.Writing.{adds, closing, unless, reply, DENIED, on_main, spoken}
use Rattle.mt_endpoint.specs.Faults.{Why, Channel, Unexpected, when, is_capable, said_fault, unknown_fault, late_fault, is_moved_whole, is_taken_in, answer_fault}
use Rattle.mt_base.specs.Prefix.{IsPrefixOf}
use Rattle.mt_endpoint.specs.World.{MayMove}
use Rattle.mt_endpoint.specs.Alone.{IsAct, EndOfActs, IsDue}
use Rattle.mt_endpoint.specs.Orders.{EachMay, is_among, told_by, creation, acceptance, channels_of, AllAmong, SaidMay, MayCreate}
use Rattle.mt_endpoint.proofs.Asking.{neither}
use Rattle.mt_endpoint.proofs.Known.{known_open, OfKnown, due_known, among-append, or_front, Rooted, Touches, rooted_made, rooted_ended, rooted_same, rooted_said}
use Rattle.mt_endpoint.proofs.Sources.{Source, begun, opens, asks_for, tells, syncs, closes, answers, heard_capable, heard_creates, heard_ends, released_ends, AllBring, Adds, nothing, frame, sends, adds_what, each_written}

-- ---- what is read has no fault

past_caps : (b c : Bool) (f : Option Why) → cond b (cond c (Some Unexpected) f) (when (not c) Unexpected) ≡ None → c ≡ false → f ≡ None
past_caps true true f h e = absurd (let no : true ≡ false = e in cc)
past_caps true false f h e = h
past_caps false true f h e = absurd (let no : true ≡ false = e in cc)
past_caps false false f h e = absurd (let no : Some Unexpected ≡ None = h in cc)

abbrev pub FineAs : Role → Trace Act → Pdu → Said → Type 0
FineAs role t pdu s = cond (is_ready t) (cond (is_capable s) (Some Unexpected) (said_fault role t pdu s)) (when (not (is_capable s)) Unexpected) ≡ None

pub heard_fine : (role : Role) (t : Trace Act) (pdu : Pdu) (s : Said) → IsAct role t (Hears (Spoken pdu)) → said pdu ≡ s → is_capable s ≡ false → said_fault role t pdu s ≡ None
heard_fine Server t pdu s a e c = past_caps (is_ready t) (is_capable s) (said_fault Server t pdu s) (subst (FineAs Server t pdu) e a.1) c
heard_fine Client t pdu s a e c = past_caps (is_ready t) (is_capable s) (said_fault Client t pdu s) (subst (FineAs Client t pdu) e a.1) c

taken_known : (s : ChannelState) (why : Why) → when (not (is_taken_in s)) why ≡ None → is_known_in s ≡ true
taken_known state.Unknown why h = absurd (let no : Some why ≡ None = h in cc)
taken_known state.Asked why h = refl
taken_known state.Open why h = refl
taken_known state.Refused why h = refl
taken_known state.Closed why h = refl

answer_known : (s : ChannelState) (id : ℕ) → answer_fault s id ≡ None → is_known_in s ≡ true
answer_known state.Unknown id h = absurd (let no : Some (Channel (refusal.UnknownChannel id)) ≡ None = h in cc)
answer_known state.Asked id h = refl
answer_known state.Open id h = refl
answer_known state.Refused id h = refl
answer_known state.Closed id h = refl

pub ended_known : (role : Role) (t : Trace Act) (pdu : Pdu) (id : ℕ) → IsAct role t (Hears (Spoken pdu)) → said pdu ≡ Ends id → is_known role id t ≡ true
ended_known role t pdu id a e =
    let fine = heard_fine role t pdu (Ends id) a e refl in
    taken_known (channel role id t) (Channel (refusal.UnknownChannel id)) (neither (unknown_fault role t id) (late_fault role t id (is_moved_whole (inward id t))) fine).0

touches_heard : (role : Role) (t : Trace Act) (pdu : Pdu) (s : Said) → IsAct role t (Hears (Spoken pdu)) → said pdu ≡ s → Touches s (table role t)
touches_heard role t pdu (Capable version) a e = tt
touches_heard role t pdu (Creates id name) a e = tt
touches_heard Server t pdu (Created id status) a e = answer_known (channel Server id t) id (heard_fine Server t pdu (Created id status) a e refl)
touches_heard Client t pdu (Created id status) a e = absurd (let no : Some Unexpected ≡ None = heard_fine Client t pdu (Created id status) a e refl in cc)
touches_heard role t pdu (Brings id) a e = tt
touches_heard role t pdu (Ends id) a e = ended_known role t pdu id a e
touches_heard role t pdu (Moves lists) a e = tt
touches_heard role t pdu (Moved kinds) a e = tt

released_known : (role : Role) (kind : Kind) (t : Trace Act) (at : ℕ) (bytes : List ℕ) (pdu : Pdu) (id : ℕ) → IsDue role kind t at bytes pdu → said pdu ≡ Ends id → is_known role id t ≡ true
released_known role kind t at bytes pdu id d e = subst (λ s. OfKnown role t (channel_in s)) e (due_known role kind t at bytes pdu d)

touches_due : (role : Role) (kind : Kind) (t : Trace Act) (at : ℕ) (bytes : List ℕ) (pdu : Pdu) (s : Said) → IsDue role kind t at bytes pdu → said pdu ≡ s → Touches s (table role t)
touches_due role kind t at bytes pdu (Capable version) d e = tt
touches_due role kind t at bytes pdu (Creates id name) d e = tt
touches_due role kind t at bytes pdu (Created id status) d e = absurd (let no : None ≡ Some d.id = sym (ap channel_in e) ∙ d.channel_is in cc)
touches_due role kind t at bytes pdu (Brings id) d e = tt
touches_due role kind t at bytes pdu (Ends id) d e = released_known role kind t at bytes pdu id d e
touches_due role kind t at bytes pdu (Moves lists) d e = tt
touches_due role kind t at bytes pdu (Moved kinds) d e = tt

-- ---- known channels are those that were made

rooted_act : (role : Role) (t : Trace Act) (act : Act) → IsAct role t act → Rooted (table role t) → Rooted (table role (t ▷ act))
rooted_act role t (Opens id name) a r = rooted_made (table role t) id name r
rooted_act role t (Takes id message) a r = rooted_same (table role t) (table role t ▷ Took id message) (λ x. refl) refl r
rooted_act role t (Closes id) a r = rooted_ended (table role t) id (known_open role id t a.0.0) r
rooted_act role t (Hears (Spoken pdu)) a r = rooted_said role pdu (said pdu) (table role t) (touches_heard role t pdu (said pdu) a refl) r
rooted_act role t (Releases kind at bytes pdu) a r = rooted_said role pdu (said pdu) (table role t) (touches_due role kind t at bytes pdu (said pdu) a refl) r
rooted_act role t act a r = r

pub rooted : (role : Role) (t : Trace Act) → EndOfActs role t → Rooted (table role t)
rooted role Start e = record { listed = λ id h. absurd (let no : false ≡ true = h in cc); known = λ id h. absurd (let no : false ≡ true = h in cc) }
rooted role (t ▷ act) e = rooted_act role t act e.1 (rooted role t e.2)

-- ---- and those that were told of

pub told-append : {A : Type 0} (what : Said → List A) (xs ys : List Heard) → told_by what (xs ++ ys) ≡ told_by what xs ++ told_by what ys
told-append what [] ys = refl
told-append what (TunnelAsked id kind cookie ∷ xs) ys = told-append what xs ys
told-append what (TunnelAnswered id hr ∷ xs) ys = told-append what xs ys
told-append what (Spoken pdu ∷ xs) ys = ap (λ l. what (said pdu) ++ l) (told-append what xs ys) ∙ sym (append_assoc (what (said pdu)) (told_by what xs) (told_by what ys))

pub data_tells : {A : Type 0} (what : Said → List A) → ((id : ℕ) → what (Brings id) ≡ []) → (id : ℕ) (xs : List Heard) → AllBring id xs → told_by what xs ≡ []
data_tells what none id [] h = refl
data_tells what none id (TunnelAsked made kind cookie ∷ xs) h = absurd h
data_tells what none id (TunnelAnswered made hr ∷ xs) h = absurd h
data_tells what none id (Spoken pdu ∷ xs) h = ap (λ s. what s ++ told_by what xs) h.0 ∙ ap (λ l. l ++ told_by what xs) (none id) ∙ data_tells what none id xs h.1

abbrev pub makes : Act → List ℕ
makes (Opens id name) = id ∷ []
makes act = []

frame_creates : (t : Trace Act) (act : Act) (x : Heard) → Source Server t act x → makes act ≡ [] → told_by creation (x ∷ []) ≡ []
frame_creates t _ _ (begun r) h = refl
frame_creates t _ _ (opens id name) h = absurd (let no : id ∷ [] ≡ [] = h in cc)
frame_creates t _ _ (asks_for kind id cookie) h = refl
frame_creates t _ _ (tells act id hr r) h = refl
frame_creates t _ _ (syncs reliable lossy) h = refl
frame_creates t _ _ (closes id) h = refl
frame_creates t _ _ (answers named) h = refl
frame_creates t _ _ (heard_capable pdu version s r) h = refl
frame_creates t _ _ (heard_creates pdu id name s r) h = refl
frame_creates t _ _ (heard_ends pdu id s c) h = refl
frame_creates t _ _ (released_ends kind at bytes pdu id s c) h = refl

added_creates : (t : Trace Act) (act : Act) (xs : List Heard) → Adds Server t act xs → makes act ≡ [] → told_by creation xs ≡ []
added_creates t act _ (nothing _) h = refl
added_creates t act _ (frame _ x s) h = frame_creates t act x s h
added_creates t _ xs (sends id message _ all) h = data_tells creation (λ x. refl) id xs all

abbrev pub MadeBy : Trace Act → Act → Type 0
MadeBy t act = channels.ids (table Server (t ▷ act)) ≡ channels.ids (table Server t) ++ told_by creation (on_main (adds Server t act))

unmade : (t : Trace Act) (act : Act) → IsAct Server t act → makes act ≡ [] → channels.ids (table Server (t ▷ act)) ≡ channels.ids (table Server t) → MadeBy t act
unmade t act a m h = h ∙ sym (append-nil (channels.ids (table Server t))) ∙ ap (λ l. channels.ids (table Server t) ++ l) (sym (added_creates t act _ (adds_what Server t act a) m))

pub ids_said : (pdu : Pdu) (s : Said) (c : Trace Change) → channels.ids (with_said Server pdu s c) ≡ channels.ids c
ids_said pdu (Capable version) c = refl
ids_said pdu (Creates id name) c = refl
ids_said pdu (Created id status) c = refl
ids_said pdu (Brings id) c = refl
ids_said pdu (Ends id) c = refl
ids_said pdu (Moves lists) c = refl
ids_said pdu (Moved kinds) c = refl

made_new : (t : Trace Act) (act : Act) → IsAct Server t act → MadeBy t act
made_new t (Opens id name) a = refl
made_new t (Hears (Spoken pdu)) a = unmade t (Hears (Spoken pdu)) a refl (ids_said pdu (said pdu) (table Server t))
made_new t (Releases kind at bytes pdu) a = unmade t (Releases kind at bytes pdu) a refl (ids_said pdu (said pdu) (table Server t))
made_new t act a = unmade t act a refl refl

frame_accepts : (t : Trace Act) (act : Act) (x : Heard) → Source Client t act x → came act ≡ [] → told_by acceptance (x ∷ []) ≡ []
frame_accepts t _ _ (begun r) h = refl
frame_accepts t _ _ (opens id name) h = refl
frame_accepts t _ _ (asks_for kind id cookie) h = refl
frame_accepts t _ _ (tells act id hr r) h = refl
frame_accepts t _ _ (syncs reliable lossy) h = refl
frame_accepts t _ _ (closes id) h = refl
frame_accepts t _ _ (answers named) h = refl
frame_accepts t _ _ (heard_capable pdu version s r) h = refl
frame_accepts t _ _ (heard_creates pdu id name s r) h = absurd (let no : pdu ∷ [] ≡ [] = h in cc)
frame_accepts t _ _ (heard_ends pdu id s c) h = refl
frame_accepts t _ _ (released_ends kind at bytes pdu id s c) h = refl

added_accepts : (t : Trace Act) (act : Act) (xs : List Heard) → Adds Client t act xs → came act ≡ [] → told_by acceptance xs ≡ []
added_accepts t act _ (nothing _) h = refl
added_accepts t act _ (frame _ x s) h = frame_accepts t act x s h
added_accepts t _ xs (sends id message _ all) h = data_tells acceptance (λ x. refl) id xs all

closing_accepts : (b : Bool) (path : Path) (id : ℕ) → told_by acceptance (on_main (unless b (closing path id ∷ []) ++ [])) ≡ []
closing_accepts true path id = refl
closing_accepts false Main id = refl
closing_accepts false (Tunnel Reliable) id = refl
closing_accepts false (Tunnel Lossy) id = refl

accepted_said : (t : Trace Act) (pdu : Pdu) (s : Said) → channels.ids (with_said Client pdu s (table Client t)) ≡ channels.ids (table Client t) ++ told_by acceptance (on_main (reply Client t s ++ []))
accepted_said t pdu (Creates id name) = by_place (has_place (table Client t)) where
  by_place : (b : Bool) → channels.ids (cond b (table Client t ▷ Made id name ▷ Answered id 0) (table Client t)) ≡ channels.ids (table Client t) ++ (acceptance (Created id (cond b 0 DENIED)) ++ [])
  by_place true = refl
  by_place false = sym (append-nil (channels.ids (table Client t)))
accepted_said t pdu (Ends id) = sym (ap (λ l. channels.ids (table Client t) ++ l) (closing_accepts (is_closed Client id t) (outward id t) id) ∙ append-nil (channels.ids (table Client t)))
accepted_said t pdu s = sym (append-nil (channels.ids (table Client t)))

abbrev pub AcceptedBy : Trace Act → Act → Type 0
AcceptedBy t act = channels.ids (table Client (t ▷ act)) ≡ channels.ids (table Client t) ++ told_by acceptance (on_main (adds Client t act))

unaccepted : (t : Trace Act) (act : Act) → IsAct Client t act → came act ≡ [] → channels.ids (table Client (t ▷ act)) ≡ channels.ids (table Client t) → AcceptedBy t act
unaccepted t act a m h = h ∙ sym (append-nil (channels.ids (table Client t))) ∙ ap (λ l. channels.ids (table Client t) ++ l) (sym (added_accepts t act _ (adds_what Client t act a) m))

accepted_new : (t : Trace Act) (act : Act) → IsAct Client t act → AcceptedBy t act
accepted_new t (Opens id name) a = absurd (let no : Client ≡ Server = a.0.0 in cc)
accepted_new t (Hears (Spoken pdu)) a = accepted_said t pdu (said pdu)
accepted_new t (Releases kind at bytes pdu) a = accepted_said t pdu (said pdu)
accepted_new t act a = unaccepted t act a refl refl

-- the channels that an end told of are those of its table
pub channels_are : (role : Role) (t : Trace Act) → EndOfActs role t → channels_of role (spoken role t) ≡ channels.ids (table role t)
channels_are Server Start e = refl
channels_are Client Start e = refl
channels_are Server (t ▷ act) e =
    told-append creation (spoken Server t) (on_main (adds Server t act)) ∙ ap (λ l. l ++ told_by creation (on_main (adds Server t act))) (channels_are Server t e.2) ∙ sym (made_new t act e.1)
channels_are Client (t ▷ act) e =
    told-append acceptance (spoken Client t) (on_main (adds Client t act)) ∙ ap (λ l. l ++ told_by acceptance (on_main (adds Client t act))) (channels_are Client t e.2) ∙ sym (accepted_new t act e.1)

pub told_known : (role : Role) (t : Trace Act) (id : ℕ) → EndOfActs role t → is_known role id t ≡ true → is_among id (channels_of role (spoken role t)) ≡ true
told_known role t id e k = ap (is_among id) (channels_are role t e) ∙ (rooted role t e).listed id k

pub known_told : (role : Role) (t : Trace Act) (id : ℕ) → EndOfActs role t → is_among id (channels_of role (spoken role t)) ≡ true → is_known role id t ≡ true
known_told role t id e k = (rooted role t e).known id (sym (ap (is_among id) (channels_are role t e)) ∙ k)

pub channels-append : (role : Role) (xs ys : List Heard) → channels_of role (xs ++ ys) ≡ channels_of role xs ++ channels_of role ys
channels-append Server xs ys = told-append creation xs ys
channels-append Client xs ys = told-append acceptance xs ys

pub among_more : (role : Role) (id : ℕ) (xs before : List Heard) → IsPrefixOf xs before → is_among id (channels_of role xs) ≡ true → is_among id (channels_of role before) ≡ true
among_more role id xs before p h =
    ap (λ l. is_among id (channels_of role l)) p.1 ∙ ap (is_among id) (channels-append role xs p.0) ∙ among-append id (channels_of role xs) (channels_of role p.0)
    ∙ or_front (is_among id (channels_of role xs)) (is_among id (channels_of role p.0)) h

-- ---- a server counts its channels

abbrev pub Counted : List ℕ → Type 0
Counted ids = (id : ℕ) → is_among id ids ≡ true → id ≤ length ids

pub or_cases : (a b : Bool) → a || (b || false) ≡ true → (a ≡ true) ⊎ (b ≡ true)
or_cases true b h = inl refl
or_cases false true h = inr refl
or_cases false false h = absurd (let no : false ≡ true = h in cc)

counted_push : (ids : List ℕ) (id : ℕ) → id ≡ length ids + 1 → Counted ids → Counted (ids ++ id ∷ [])
counted_push ids id next c x h = by_case (or_cases (is_among x ids) (eqb id x) (sym (among-append x ids (id ∷ [])) ∙ h)) where
  by_case : (is_among x ids ≡ true) ⊎ (eqb id x ≡ true) → x ≤ length (ids ++ id ∷ [])
  by_case (inl a) = omega (arith, c x a, length-append ids (id ∷ []))
  by_case (inr b) = omega (arith, eqb-true id x b, next, length-append ids (id ∷ []))

counted_act : (t : Trace Act) (act : Act) → IsAct Server t act → Counted (channels.ids (table Server t)) → Counted (channels.ids (table Server (t ▷ act)))
counted_act t (Opens id name) a c = counted_push (channels.ids (table Server t)) id a.0.2 c
counted_act t (Hears (Spoken pdu)) a c = subst Counted (sym (ids_said pdu (said pdu) (table Server t))) c
counted_act t (Releases kind at bytes pdu) a c = subst Counted (sym (ids_said pdu (said pdu) (table Server t))) c
counted_act t act a c = c

pub counted : (t : Trace Act) → EndOfActs Server t → Counted (channels.ids (table Server t))
counted Start e = λ id h. absurd (let no : false ≡ true = h in cc)
counted (t ▷ act) e = counted_act t act e.1 (counted t e.2)

pub fresh : (ids : List ℕ) (id : ℕ) → id ≡ length ids + 1 → Counted ids → is_among id ids ≡ false
fresh ids id next c = by_test (is_among id ids) refl where
  by_test : (b : Bool) → is_among id ids ≡ b → b ≡ false
  by_test true h = absurd (omega (arith, c id h, next))
  by_test false h = refl

few : (ids : List ℕ) (id : ℕ) → id ≡ length ids + 1 → id ≤ 256 → length ids < 256
few ids id next most = omega (arith, next, most)

-- ---- what a request lists is open

abbrev pub EachAmong : List ℕ → List ℕ → Type 0
EachAmong all [] = Unit {0}
EachAmong all (id ∷ ids) = (is_among id all ≡ true) × EachAmong all ids

pub may_among : (t : Trace Act) (all ids : List ℕ) → ((id : ℕ) → is_open Server id t ≡ true → is_among id all ≡ true) → MayMove t ids → EachAmong all ids
may_among t all [] h m = tt
may_among t all (id ∷ ids) h m = (h id m.0, may_among t all ids h m.3)

each_first : (all xs ys : List ℕ) → EachAmong all (xs ++ ys) → EachAmong all xs
each_first all [] ys h = tt
each_first all (x ∷ xs) ys h = (h.0, each_first all xs ys h.1)

each_second : (all xs ys : List ℕ) → EachAmong all (xs ++ ys) → EachAmong all ys
each_second all [] ys h = h
each_second all (x ∷ xs) ys h = each_second all xs ys h.1

all-append : (all : List ℕ) (xs ys : List (ℕ × Kind)) → AllAmong all xs → AllAmong all ys → AllAmong all (xs ++ ys)
all-append all [] ys h k = k
all-append all ((id, kind) ∷ xs) ys h k = (h.0, all-append all xs ys h.1 k)

all_under : (all : List ℕ) (kind : Kind) (ids : List ℕ) → EachAmong all ids → AllAmong all (map (λ id. (id, kind)) ids)
all_under all kind [] h = tt
all_under all kind (id ∷ ids) h = (h.0, all_under all kind ids h.1)

listed_under : (all : List ℕ) (kind : Kind) (ids : List ℕ) → EachAmong all ids → AllAmong all (channels_listed (list_to kind ids))
listed_under all kind ids h = by_test (length ids == 0) where
  by_test : (b : Bool) → AllAmong all (channels_listed (cond b [] (record { kind = kind; ids = ids } ∷ [])))
  by_test true = tt
  by_test false = all-append all (map (λ id. (id, kind)) ids) [] (all_under all kind ids h) tt

pub listed-append : (xs ys : List ChannelList) → channels_listed (xs ++ ys) ≡ channels_listed xs ++ channels_listed ys
listed-append [] ys = refl
listed-append (x ∷ xs) ys = ap (λ l. map (λ id. (id, x.kind)) x.ids ++ l) (listed-append xs ys) ∙ sym (append_assoc (map (λ id. (id, x.kind)) x.ids) (channels_listed xs) (channels_listed ys))

listed_among : (all reliable lossy : List ℕ) → EachAmong all reliable → EachAmong all lossy → AllAmong all (channels_listed (lists_of reliable lossy))
listed_among all reliable lossy h k =
    subst (AllAmong all) (sym (listed-append (list_to Reliable reliable) (list_to Lossy lossy)))
    (all-append all (channels_listed (list_to Reliable reliable)) (channels_listed (list_to Lossy lossy)) (listed_under all Reliable reliable h) (listed_under all Lossy lossy k))

-- ---- each frame

refused_known : (b : Bool) (why : Why) → when b why ≡ None → b ≡ false
refused_known true why h = absurd (let no : Some why ≡ None = h in cc)
refused_known false why h = refl

untold_new : (t : Trace Act) (id : ℕ) → EndOfActs Client t → is_known Client id t ≡ false → is_among id (channels_of Client (spoken Client t)) ≡ false
untold_new t id e h = by_test (is_among id (channels_of Client (spoken Client t))) refl where
  by_test : (b : Bool) → is_among id (channels_of Client (spoken Client t)) ≡ b → b ≡ false
  by_test true k = absurd (let no : false ≡ true = sym h ∙ known_told Client t id e k in cc)
  by_test false k = refl

frame_may : (role : Role) (t : Trace Act) (act : Act) (x : Heard) → EndOfActs role (t ▷ act) → Source role t act x → MayCreate role (spoken role t) x
frame_may role t _ _ e (begun r) = tt
frame_may Server t _ _ e (opens id name) =
    let all = channels_are Server t e.2 in (
      refl,
      ap (is_among id) all ∙ fresh (channels.ids (table Server t)) id e.1.0.2 (counted t e.2),
      subst (λ l. length l < 256) (sym all) (few (channels.ids (table Server t)) id e.1.0.2 e.1.0.3),
    )
frame_may Client t _ _ e (opens id name) = absurd (let no : Client ≡ Server = e.1.0.0 in cc)
frame_may role t _ _ e (asks_for kind id cookie) = tt
frame_may role t _ _ e (tells act id hr r) = tt
frame_may Server t _ _ e (syncs reliable lossy) =
    let each = may_among t (channels_of Server (spoken Server t)) (reliable ++ lossy) (λ id h. told_known Server t id e.2 (known_open Server id t h)) e.1.0.1.may_move in
    (refl, listed_among (channels_of Server (spoken Server t)) reliable lossy (each_first _ reliable lossy each) (each_second _ reliable lossy each))
frame_may Client t _ _ e (syncs reliable lossy) = absurd (let no : Client ≡ Server = e.1.0.0 in cc)
frame_may role t _ _ e (closes id) = told_known role t id e.2 (known_open role id t e.1.0.0)
frame_may role t _ _ e (answers named) = e.1.is_client
frame_may role t _ _ e (heard_capable pdu version s r) = tt
frame_may Server t _ _ e (heard_creates pdu id name s r) = absurd (let no : Server ≡ Client = r in cc)
frame_may Client t _ _ e (heard_creates pdu id name s r) =
    (refl, untold_new t id e.2 (refused_known (is_known Client id t) (Channel (refusal.KnownChannel id)) (heard_fine Client t pdu (Creates id name) e.1 s refl)))
frame_may role t _ _ e (heard_ends pdu id s c) = told_known role t id e.2 (ended_known role t pdu id e.1 s)
frame_may role t _ _ e (released_ends kind at bytes pdu id s c) = told_known role t id e.2 (released_known role kind t at bytes pdu id e.1 s)

data_may : (role : Role) (t : Trace Act) (id : ℕ) (message : List ℕ) (pdu : Pdu) (before : List Heard) → EndOfActs role (t ▷ Sends id message) → said pdu ≡ Brings id → IsPrefixOf (spoken role t) before
    → MayCreate role before (Spoken pdu)
data_may role t id message pdu before e s p =
    subst (SaidMay role before) (sym s) (among_more role id (spoken role t) before p (told_known role t id e.2 (known_open role id t e.1.0.0.is_open_channel)))

pub created_first : (role : Role) (t : Trace Act) → EndOfActs role t → EachMay (MayCreate role) [] (spoken role t)
created_first role t e = each_written role (MayCreate role) (frame_may role) (data_may role) t e

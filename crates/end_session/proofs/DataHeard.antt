-- An end that hears data, or the close of a channel, stands for one act more.
use Rattle.std.proofs.Common.{◌≡◌, ℕ, Bool, true, false, cond, not, ◌&&◌, eqb, List, [], ◌∷◌, ◌++◌, Option, Some, None, is_some, Result, Ok, Err, OnOk, OnErr, refl, sym, ap, subst, ◌∙◌, append-nil}
use Rattle.std.specs.Option.{option_or}
use Rattle.mt_base.specs.declared.kinds.Kind.{Kind}
use Rattle.mt_base.specs.declared.kinds.Kind.TheVariants.{Reliable, Lossy}
use Rattle.mt_base.specs.declared.kinds.Role.{Role}
use Rattle.mt_base.specs.declared.kinds.Role.TheVariants.{Server, Client}
use Rattle.mt_base.specs.Trace.{Trace, ◌▷◌}
use Rattle.dvc_pdus.specs.Value.{Pdu, Caps, CreateRequest, CreateResponse, DataFirst, Data, CompressedFirst, Compressed, Close, SyncRequest, SyncResponse, spelled}
use Rattle.dvc_channels.specs.Acts.{Act as Change, Came, Ended, IsAnswer, TakesData, WhyNotClosed, ids}
use Rattle.dvc_channels.specs.Acts as change
use Rattle.dvc_channels.specs.Table as channels
use Rattle.dvc_channels.specs.declared.answers.Accepted.{Accepted}
use Rattle.dvc_channels.specs.declared.answers.ChannelRefusal.{ChannelRefusal}
use Rattle.dvc_channels.specs.declared.answers.ChannelRefusal.TheVariants as refusal
use Rattle.dvc_channels.specs.declared.answers.ChannelState.{ChannelState}
use Rattle.dvc_channels.specs.declared.answers.ChannelState.TheVariants as state
use Rattle.hold_queue.specs.Held as hold
use Rattle.soft_sync.specs.declared.kinds.Path.{Path}
use Rattle.soft_sync.specs.declared.kinds.Path.TheVariants.{Main, Tunnel}
use Rattle.soft_sync.specs.Exchanges.{listed, moved}
use Rattle.soft_sync.specs.Words.{HasPlace, Words, path_of, told}
use Rattle.soft_sync.specs.Words as words
use Rattle.mt_endpoint.specs.Acts.{Act, Carried, Hears, Spoken}
use Rattle.mt_endpoint.specs.Alone.{EndOfActs}
use Rattle.mt_endpoint.specs.Channels.{channel, is_closed, is_closed_in, is_open_in, table, with_said}
use Rattle.mt_endpoint.specs.Faults.{Why, TooLateOnMain, because, data_fault, is_capable, is_moved, is_moved_whole, is_taken_in, late_fault, main_fault, said_fault, unknown_fault, when}
use Rattle.mt_endpoint.specs.Faults as faults
use Rattle.mt_endpoint.specs.Holding.{held, unless_ended, without}
use Rattle.mt_endpoint.specs.Moving.{inward, made, outward, read}
use Rattle.mt_endpoint.specs.Said.{Brings, Ends, said}
use Rattle.mt_endpoint.specs.Tunnels.{is_silent}
use Rattle.mt_endpoint.specs.Writing.{adds, closing, reply, unless}
use Rattle.mt_endpoint.specs.Orders.{is_among}
use Rattle.mt_endpoint.proofs.Asking.{neither}
use Rattle.mt_endpoint.proofs.Creating.{ended_known, heard_fine, rooted}
use Rattle.end_session.specs.declared.cause.Cause.{Cause}
use Rattle.end_session.specs.Causes.{why_in}
use Rattle.end_session.specs.Known.{Known}
use Rattle.end_session.specs.Outgoing.{Outgoing}
use Rattle.end_session.specs.Standing.{AreKept, Gone, IsLawful, Stands, Waits}
use Rattle.end_session.specs.Store.{Store}
use Rattle.end_session.specs.Writes.{writes}
use Rattle.end_session.proofs.Heard.{behind, heard_lawful, spoken_still}
use Rattle.end_session.proofs.Putting.{drew, dropped, quiet, spoke}
use Rattle.end_session.proofs.Still.{IsStill, SaysNothing, knows_still}
use Rattle.end_session.proofs.ChannelsClosed.{kept_without}
use Rattle.end_session.proofs.ToldOf.{Says, has_place, told_again}

-- ---- what there is against a PDU of a channel

-- nothing, where it was closed
pub closed_fine : (s : Store) (t : Trace Act) (gone : Gone) (id : ℕ) (is_late : Bool) (r : ChannelState) → ((u : Trace Change) → channels.Stands s.channels u → r ≡ change.state u id) → r ≡ state.Closed → Stands s t gone
    → option_or (unknown_fault s.role t id) (late_fault s.role t id is_late) ≡ None
closed_fine s t gone id is_late r is closed st =
    ap (λ x. option_or (when (not (is_taken_in x)) (faults.Channel (refusal.UnknownChannel id))) (when (is_late && not (is_closed_in x)) (TooLateOnMain id))) (sym (is (table s.role t) (st.knows).channels_stand) ∙ closed)
    ∙ by_test is_late
  where
    by_test : (b : Bool) → when (b && false) (TooLateOnMain id) ≡ None
    by_test true = refl
    by_test false = refl

-- the words are those of the acts
pub inward_is : (s : Store) (t : Trace Act) (gone : Gone) (id : ℕ) → Stands s t gone → words.inward id s.paths ≡ inward id t
inward_is s t gone id st =
    let w = (st.knows).words_are in
    ap (λ x. path_of (option_or (listed id x) (moved id (s.paths).made))) w.read_are ∙ ap (λ x. path_of (option_or (listed id (read t)) (moved id x))) w.made_are

pub outward_is : (s : Store) (t : Trace Act) (gone : Gone) (id : ℕ) → Stands s t gone → words.outward id s.paths ≡ outward id t
outward_is s t gone id st =
    let w = (st.knows).words_are in
    ap (λ x. path_of (option_or (listed id x) (moved id (s.paths).read))) w.made_are ∙ ap (λ x. path_of (option_or (listed id (made t)) (moved id x))) w.read_are

ready_as : (s : Store) (t : Trace Act) (gone : Gone) (pdu : Pdu) → s.is_ready ≡ true → is_capable (said pdu) ≡ false → Stands s t gone → main_fault s.role t (Spoken pdu) ≡ said_fault s.role t pdu (said pdu)
ready_as s t gone pdu ready e st = behind s.role t pdu (sym (st.knows).ready_is ∙ ready) e

three : {A : Type 0} (a b c : Option A) → option_or a (option_or b c) ≡ option_or (option_or a b) c
three None b c = refl
three (Some x) b c = refl

pub data_found : (s : Store) (t : Trace Act) (gone : Gone) (id : ℕ) (pdu : Pdu) (path : Path) (is_late : Bool) (found : Option Cause) → s.is_ready ≡ true → path ≡ words.inward id s.paths → is_late ≡ is_moved path
    → option_or (unknown_fault s.role t id) (late_fault s.role t id is_late) ≡ why_in found → said pdu ≡ Brings id → Stands s t gone
    → main_fault s.role t (Spoken pdu) ≡ option_or (why_in found) (data_fault s.role t id pdu)
data_found s t gone id pdu path is_late found ready path_is late_is are brings st =
    let late : is_late ≡ is_moved (inward id t) = late_is ∙ ap is_moved (path_is ∙ inward_is s t gone id st) in
    ready_as s t gone pdu ready (ap is_capable brings) st ∙ ap (said_fault s.role t pdu) brings
    ∙ three (unknown_fault s.role t id) (late_fault s.role t id (is_moved (inward id t))) (data_fault s.role t id pdu)
    ∙ ap (λ b. option_or (option_or (unknown_fault s.role t id) (late_fault s.role t id b)) (data_fault s.role t id pdu)) (sym late)
    ∙ ap (λ o. option_or o (data_fault s.role t id pdu)) are

pub close_found : (s : Store) (t : Trace Act) (gone : Gone) (id : ℕ) (path : Path) (is_late : Bool) (found : Option Cause) → s.is_ready ≡ true → path ≡ words.inward id s.paths → is_late ≡ is_moved_whole path
    → option_or (unknown_fault s.role t id) (late_fault s.role t id is_late) ≡ why_in found → Stands s t gone → main_fault s.role t (Spoken (Close id)) ≡ why_in found
close_found s t gone id path is_late found ready path_is late_is are st =
    let late : is_late ≡ is_moved_whole (inward id t) = late_is ∙ ap is_moved_whole (path_is ∙ inward_is s t gone id st) in
    ready_as s t gone (Close id) ready refl st ∙ ap (λ b. option_or (unknown_fault s.role t id) (late_fault s.role t id b)) (sym late) ∙ are

-- ---- data

says_data : (pdu : Pdu) (id : ℕ) → said pdu ≡ Brings id → SaysNothing (Hears (Spoken pdu))
says_data (Caps version charges) id e = absurd (let never : true ≡ false = ap is_capable e in cc)
says_data (CreateRequest made priority name) id e = record { none_made = refl; none_read = refl; no_answer_read = refl; no_answer_made = refl; no_version = refl; no_capabilities = refl }
says_data (CreateResponse made status) id e = record { none_made = refl; none_read = refl; no_answer_read = refl; no_answer_made = refl; no_version = refl; no_capabilities = refl }
says_data (DataFirst made total bytes) id e = record { none_made = refl; none_read = refl; no_answer_read = refl; no_answer_made = refl; no_version = refl; no_capabilities = refl }
says_data (Data made bytes) id e = record { none_made = refl; none_read = refl; no_answer_read = refl; no_answer_made = refl; no_version = refl; no_capabilities = refl }
says_data (CompressedFirst made total bytes) id e = record { none_made = refl; none_read = refl; no_answer_read = refl; no_answer_made = refl; no_version = refl; no_capabilities = refl }
says_data (Compressed made bytes) id e = record { none_made = refl; none_read = refl; no_answer_read = refl; no_answer_made = refl; no_version = refl; no_capabilities = refl }
says_data (Close made) id e = record { none_made = refl; none_read = refl; no_answer_read = refl; no_answer_made = refl; no_version = refl; no_capabilities = refl }
says_data (SyncRequest flags tunnels lists) id e = cc
says_data (SyncResponse types) id e = cc

no_reply : (role : Role) (t : Trace Act) (pdu : Pdu) (id : ℕ) → said pdu ≡ Brings id → adds role t (Hears (Spoken pdu)) ≡ []
no_reply Server t pdu id e = ap (λ x. reply Server t x ++ []) e
no_reply Client t pdu id e = ap (λ x. reply Client t x ++ []) e

data_heard : (s : Store) (t : Trace Act) (gone : Gone) (id : ℕ) (pdu : Pdu) (c : channels.Table) → said pdu ≡ Brings id → main_fault s.role t (Spoken pdu) ≡ None → channels.Stands c (table s.role t ▷ Came id pdu)
    → Stands s t gone → Stands (record s { channels = c }) (t ▷ Hears (Spoken pdu)) gone
data_heard s t gone id pdu c e none stands st =
    let k = st.knows in
    let told = (k.words_are).channels_are in
    let same : table s.role (t ▷ Hears (Spoken pdu)) ≡ table s.role t ▷ Came id pdu = ap (λ x. with_said s.role pdu x (table s.role t)) e in record {
      knows =
          knows_still s.role s t (Hears (Spoken pdu)) c (s.paths).channels s.held_reliable s.held_lossy s.outgoing k (spoken_still s.role t pdu (says_data pdu id e)) (heard_lawful s.role s t (Spoken pdu) k none)
          (subst (channels.Stands c) (sym same) stands)
          (record { ids_are = told.ids_are ∙ sym (ap ids same); open_are = λ x. told.open_are x ∙ sym (ap (λ c. is_open_in (change.state c x)) same) })
          (subst (λ x. AreKept (unless_ended x (held s.role Reliable t)) s.held_reliable) (sym e) k.reliable_held)
          (subst (λ x. AreKept (unless_ended x (held s.role Lossy t)) s.held_lossy) (sym e) k.lossy_held);
      waits = quiet s.role s.outgoing t gone (Hears (Spoken pdu)) (no_reply s.role t pdu id e) st.waits;
    }

-- by what the channel made of it
abbrev pub CameBy : Store → channels.Table → ℕ → Pdu → Result Accepted ChannelRefusal → Type 0
CameBy s c id pdu r = (u : Trace Change) → channels.Stands s.channels u → OnOk r (channels.Stands c (u ▷ Came id pdu))

abbrev pub AnsweredBy : Store → ℕ → Pdu → Result Accepted ChannelRefusal → Type 0
AnsweredBy s id pdu r = (u : Trace Change) → channels.Stands s.channels u → IsAnswer u id pdu r

-- what was found against it, apart from what the channel refuses
abbrev pub FoundData : Store → ℕ → Option Cause → Type 0
FoundData s id found = (t : Trace Act) (gone : Gone) (pdu : Pdu) → Stands s t gone → said pdu ≡ Brings id → main_fault s.role t (Spoken pdu) ≡ option_or (why_in found) (data_fault s.role t id pdu)

-- the channel takes it, so that there is nothing against it
pub data_fine : (s : Store) (t : Trace Act) (gone : Gone) (id : ℕ) (pdu : Pdu) (found : Option Cause) (r : Result Accepted ChannelRefusal) (x : Accepted) → said pdu ≡ Brings id → FoundData s id found → found ≡ None → r ≡ Ok x
    → AnsweredBy s id pdu r → Stands s t gone → main_fault s.role t (Spoken pdu) ≡ None
data_fine s t gone id pdu found r x e against none ok answer st =
    let u = table s.role t in
    let taken : IsAnswer u id pdu (Ok x) = subst (IsAnswer u id pdu) ok (answer u (st.knows).channels_stand) in
    against t gone pdu st e ∙ ap (λ o. option_or (why_in o) (data_fault s.role t id pdu)) none ∙ ap because taken.0

pub data_taken : (s : Store) (t : Trace Act) (gone : Gone) (id : ℕ) (pdu : Pdu) (c : channels.Table) (found : Option Cause) (r : Result Accepted ChannelRefusal) (x : Accepted) → said pdu ≡ Brings id → FoundData s id found
    → found ≡ None → r ≡ Ok x → AnsweredBy s id pdu r → CameBy s c id pdu r → Stands s t gone → Stands (record s { channels = c }) (t ▷ Hears (Spoken pdu)) gone
data_taken s t gone id pdu c found r x e against none ok answer came st =
    data_heard s t gone id pdu c e (data_fine s t gone id pdu found r x e against none ok answer st)
    (subst (λ r. OnOk r (channels.Stands c (table s.role t ▷ Came id pdu))) ok (came (table s.role t) (st.knows).channels_stand)) st

pub data_lawful : (s : Store) (id : ℕ) (pdu : Pdu) (c : channels.Table) (found : Option Cause) (r : Result Accepted ChannelRefusal) → said pdu ≡ Brings id → FoundData s id found → found ≡ None → AnsweredBy s id pdu r → CameBy s c id pdu r
    → OnErr r (c ≡ s.channels) → IsLawful s → IsLawful (record s { channels = c })
data_lawful s id pdu c found (Ok x) e against none answer came same h =
    ((h.0.0 ▷ Hears (Spoken pdu), h.0.1, data_taken s h.0.0 h.0.1 id pdu c found (Ok x) x e against none refl answer came h.0.2), h.1)
data_lawful s id pdu c found (Err why) e against none answer came same h = subst (λ c. IsLawful (record s { channels = c })) (sym same) h

pub ok_on : {A E P : Type 0} (r : Result A E) (x : A) → r ≡ Ok x → P → OnOk r P
ok_on {P = P} r x e p = subst (λ r. OnOk r P) (sym e) p

pub err_on : {A E : Type 0} (P : Type 0) (r : Result A E) (x : E) → r ≡ Err x → OnOk r P
err_on P r x e = subst (λ r. OnOk r P) (sym e) tt

-- ---- a close

says_nothing : (id : ℕ) → SaysNothing (Hears (Spoken (Close id)))
says_nothing id = record { none_made = refl; none_read = refl; no_answer_read = refl; no_answer_made = refl; no_version = refl; no_capabilities = refl }

close_says : (role : Role) (t : Trace Act) (act : Act) (id : ℕ) → table role (t ▷ act) ≡ table role t ▷ Ended id → Says role t act id false
close_says role t act id same x = ap (λ u. is_open_in (change.state u x)) same ∙ by_test (eqb id x) where
  by_test : (b : Bool) → is_open_in (cond b state.Closed (change.state (table role t) x)) ≡ cond b false (is_open_in (change.state (table role t) x))
  by_test true = refl
  by_test false = refl

-- the channel takes data
pub taking : (s : ChannelState) (why : Why) → when (not (is_taken_in s)) why ≡ None → TakesData s
taking state.Unknown why h = absurd (let never : Some why ≡ None = h in cc)
taking state.Asked why h = absurd (let never : Some why ≡ None = h in cc)
taking state.Open why h = tt
taking state.Refused why h = absurd (let never : Some why ≡ None = h in cc)
taking state.Closed why h = tt

pub takes : (role : Role) (t : Trace Act) (id : ℕ) → main_fault role t (Spoken (Close id)) ≡ None → TakesData (channel role id t)
takes role t id none =
    let fine = heard_fine role t (Close id) (Ends id) (tt, none) refl refl in
    taking (channel role id t) (faults.Channel (refusal.UnknownChannel id)) (neither (unknown_fault role t id) (late_fault role t id (is_moved_whole (inward id t))) fine).0

pub no_why : (u : Trace Change) (id : ℕ) (why : ChannelRefusal) → TakesData (change.state u id) → WhyNotClosed u id why → ⊥
no_why u id (refusal.UnknownChannel other) takes h = h.1 takes
no_why u id (refusal.KnownChannel other) takes h = h
no_why u id (refusal.FirstInside other) takes h = h
no_why u id (refusal.MoreThanLength other) takes h = h
no_why u id (refusal.MessageTooLong other total) takes h = h
no_why u id refusal.NoMemory takes h = h

listed_one : (role : Role) (t : Trace Act) (id : ℕ) → EndOfActs role t → main_fault role t (Spoken (Close id)) ≡ None → is_among id (ids (table role t)) ≡ true
listed_one role t id e none = (rooted role t e).listed id (ended_known role t (Close id) id (tt, none) refl)

-- it has its place among those that are told of
pub close_place : (s : Store) (t : Trace Act) (gone : Gone) (id : ℕ) → main_fault s.role t (Spoken (Close id)) ≡ None → Stands s t gone → HasPlace id (s.paths).channels
close_place s t gone id none st =
    let k = st.knows in
    has_place s.role t id (s.paths).channels (k.words_are).channels_are (listed_one s.role t id k.lawful none)

-- what is left of the channel, and what is written
pub record IsClosedBy (s : Store) (id : ℕ) (c : channels.Table) (w : Words) (reliable lossy : List hold.Pdu) : Type 0 where
  pub ended : (u : Trace Change) → channels.Stands s.channels u → channels.Stands c (u ▷ Ended id)
  pub told_is : w ≡ record s.paths { channels = told id false (s.paths).channels }
  pub reliable_is : reliable ≡ hold.without id s.held_reliable
  pub lossy_is : lossy ≡ hold.without id s.held_lossy

-- an act that closes a channel
pub ends : (s : Store) (t : Trace Act) (gone : Gone) (act : Act) (id : ℕ) (c : channels.Table) (w : Words) (reliable lossy : List hold.Pdu) (o : Outgoing) → IsStill s.role t act → EndOfActs s.role (t ▷ act)
    → table s.role (t ▷ act) ≡ table s.role t ▷ Ended id → ((k : Kind) → held s.role k (t ▷ act) ≡ without id (held s.role k t)) → is_among id (ids (table s.role t)) ≡ true
    → IsClosedBy s id c w reliable lossy → Waits s.role o (t ▷ act) gone → Stands s t gone
    → Stands (record s { channels = c; paths = w; held_reliable = reliable; held_lossy = lossy; outgoing = o }) (t ▷ act) gone
ends s t gone act id c w reliable lossy o still lawful same held_are among by waits st =
    let k = st.knows in
    let told_as = told_again s.role t act id false (s.paths).channels (k.words_are).channels_are among (ap ids same) (close_says s.role t act id same) in
    let left_reliable = subst (AreKept (without id (held s.role Reliable t))) (sym by.reliable_is) (kept_without id (held s.role Reliable t) s.held_reliable k.reliable_held) in
    let left_lossy = subst (AreKept (without id (held s.role Lossy t))) (sym by.lossy_is) (kept_without id (held s.role Lossy t) s.held_lossy k.lossy_held) in
    subst (λ w. Stands (record s { channels = c; paths = w; held_reliable = reliable; held_lossy = lossy; outgoing = o }) (t ▷ act) gone) (sym by.told_is)
    (record {
      knows =
          knows_still s.role s t act c (told id false (s.paths).channels) reliable lossy o k still lawful
          (subst (channels.Stands c) (sym same) (by.ended (table s.role t) k.channels_stand)) told_as
          (subst (λ q. AreKept q reliable) (sym (held_are Reliable)) left_reliable) (subst (λ q. AreKept q lossy) (sym (held_are Lossy)) left_lossy);
      waits = waits;
    })

close_heard : (s : Store) (t : Trace Act) (gone : Gone) (id : ℕ) (c : channels.Table) (w : Words) (reliable lossy : List hold.Pdu) (o : Outgoing) → main_fault s.role t (Spoken (Close id)) ≡ None
    → IsClosedBy s id c w reliable lossy → Waits s.role o (t ▷ Hears (Spoken (Close id))) gone → Stands s t gone
    → Stands (record s { channels = c; paths = w; held_reliable = reliable; held_lossy = lossy; outgoing = o }) (t ▷ Hears (Spoken (Close id))) gone
close_heard s t gone id c w reliable lossy o none by waits st =
    let k = st.knows in
    ends s t gone (Hears (Spoken (Close id))) id c w reliable lossy o (spoken_still s.role t (Close id) (says_nothing id)) (heard_lawful s.role s t (Spoken (Close id)) k none) refl (λ k. refl) (listed_one s.role t id k.lawful none) by waits st

-- ---- the answer to it

close_adds : (role : Role) (t : Trace Act) (id : ℕ) → adds role t (Hears (Spoken (Close id))) ≡ unless (is_closed role id t) (closing (outward id t) id ∷ [])
close_adds Server t id = append-nil (unless (is_closed Server id t) (closing (outward id t) id ∷ []))
close_adds Client t id = append-nil (unless (is_closed Client id t) (closing (outward id t) id ∷ []))

pub wrote : (role : Role) (o : Outgoing) (t : Trace Act) (gone : Gone) (act : Act) (id : ℕ) (path : Path) (silent : Bool) → adds role t act ≡ closing path id ∷ [] → is_silent Reliable t ≡ silent → Waits role o t gone
    → Waits role (writes silent (closing path id) o) (t ▷ act) gone
wrote role o t gone act id Main silent e is w = spoke role o t gone act (Spoken (Close id)) e w
wrote role o t gone act id (Tunnel Lossy) silent e is w = spoke role o t gone act (Spoken (Close id)) e w
wrote role o t gone act id (Tunnel Reliable) true e is w = dropped role o t gone act Reliable (Carried (spelled (Close id)) (Close id)) e is w
wrote role o t gone act id (Tunnel Reliable) false e is w = drew role o t gone act Reliable (Carried (spelled (Close id)) (Close id)) e is w

-- whether it was closed here, by what the table says
pub closed_as : (s : Store) (t : Trace Act) (gone : Gone) (id : ℕ) (r : ChannelState) (told b : Bool) → ((u : Trace Change) → channels.Stands s.channels u → r ≡ change.state u id) → told ≡ is_closed_in r → told ≡ b → Stands s t gone
    → is_closed s.role id t ≡ b
closed_as s t gone id r told b is told_is told_as st = sym (ap is_closed_in (is (table s.role t) (st.knows).channels_stand)) ∙ sym told_is ∙ told_as

-- a channel that was closed here
pub closed_again : (s : Store) (t : Trace Act) (gone : Gone) (id : ℕ) (c : channels.Table) (w : Words) (reliable lossy : List hold.Pdu) (r : ChannelState) (told : Bool) → main_fault s.role t (Spoken (Close id)) ≡ None
    → IsClosedBy s id c w reliable lossy → ((u : Trace Change) → channels.Stands s.channels u → r ≡ change.state u id) → told ≡ is_closed_in r → told ≡ true → Stands s t gone
    → Stands (record s { channels = c; paths = w; held_reliable = reliable; held_lossy = lossy }) (t ▷ Hears (Spoken (Close id))) gone
closed_again s t gone id c w reliable lossy r told none by is told_is told_as st =
    let act = Hears (Spoken (Close id)) in
    let nothing = close_adds s.role t id ∙ ap (λ b. unless b (closing (outward id t) id ∷ [])) (closed_as s t gone id r told true is told_is told_as st) in
    close_heard s t gone id c w reliable lossy s.outgoing none by (quiet s.role s.outgoing t gone act nothing st.waits) st

-- and one that wasn't
pub closed_now : (s : Store) (t : Trace Act) (gone : Gone) (id : ℕ) (c : channels.Table) (w : Words) (reliable lossy : List hold.Pdu) (o : Outgoing) (r : ChannelState) (told : Bool) (path : Path) (silent : Bool)
    → main_fault s.role t (Spoken (Close id)) ≡ None → IsClosedBy s id c w reliable lossy → ((u : Trace Change) → channels.Stands s.channels u → r ≡ change.state u id) → told ≡ is_closed_in r → told ≡ false
    → path ≡ words.outward id s.paths → silent ≡ is_some (s.reliable).silence → o ≡ writes silent (closing path id) s.outgoing → Stands s t gone
    → Stands (record s { channels = c; paths = w; held_reliable = reliable; held_lossy = lossy; outgoing = o }) (t ▷ Hears (Spoken (Close id))) gone
closed_now s t gone id c w reliable lossy o r told path silent none by is told_is told_as path_is silent_is o_is st =
    let act = Hears (Spoken (Close id)) in
    let one = close_adds s.role t id ∙ ap (λ b. unless b (closing (outward id t) id ∷ [])) (closed_as s t gone id r told false is told_is told_as st)
    ∙ ap (λ p. closing p id ∷ []) (sym (path_is ∙ outward_is s t gone id st)) in
    let quiet_is = sym (silent_is ∙ ap (λ (k : Known). is_some k.silence) (st.knows).reliable_is) in
    close_heard s t gone id c w reliable lossy o none by
    (subst (λ o. Waits s.role o (t ▷ act) gone) (sym o_is) (wrote s.role s.outgoing t gone act id path silent one quiet_is st.waits)) st

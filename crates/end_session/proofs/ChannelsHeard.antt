-- An end that hears capabilities, the creation of a channel, or the answer to it stands for one act more.
use Rattle.std.proofs.Common.{◌≡◌, ℕ, ◌<◌, ◌≤◌, Bool, true, false, cond, ◌||◌, eqb, nat_lt, List, [], ◌∷◌, ◌++◌, length, Option, Some, None, Result, Ok, Err, OnOk, IfErr, refl, sym, ap, subst, ◌∙◌, eq-eqb}
use Rattle.std.specs.Option.{option_or}
use Rattle.std.proofs.lemmas.Bool.{lt-ltb, le-ltb}
use Rattle.mt_base.specs.declared.kinds.Kind.TheVariants.{Reliable, Lossy}
use Rattle.mt_base.specs.declared.kinds.Role.{Role}
use Rattle.mt_base.specs.declared.kinds.Role.TheVariants.{Server, Client}
use Rattle.mt_base.specs.Trace.{Trace, Start, ◌▷◌}
use Rattle.mt_base.specs.Writing.{joined}
use Rattle.dvc_pdus.specs.Value.{Caps, CreateRequest, CreateResponse, spelled}
use Rattle.dvc_channels.specs.Acts.{Act as Change, Made, Answered, WhyNotAnswered, ids}
use Rattle.dvc_channels.specs.Acts as change
use Rattle.dvc_channels.specs.Table as channels
use Rattle.dvc_channels.specs.declared.answers.ChannelRefusal.{ChannelRefusal}
use Rattle.dvc_channels.specs.declared.answers.ChannelRefusal.TheVariants as refusal
use Rattle.dvc_channels.specs.declared.answers.ChannelState.{ChannelState}
use Rattle.dvc_channels.specs.declared.answers.ChannelState.TheVariants as state
use Rattle.soft_sync.specs.Words.{HasPlace, Words, told}
use Rattle.tunnel_pdus.specs.Value.{Channel, frame_fields}
use Rattle.mt_endpoint.specs.Acts.{Act, Hears, Spoken}
use Rattle.mt_endpoint.specs.Alone.{EndOfActs}
use Rattle.mt_endpoint.specs.Channels.{came, has_place, is_known_in, is_open_in, is_ready, table, tells_capabilities}
use Rattle.mt_endpoint.specs.Faults.{answer_fault, main_fault, said_fault}
use Rattle.mt_endpoint.specs.Faults as faults
use Rattle.mt_endpoint.specs.Said.{Created, Creates}
use Rattle.mt_endpoint.specs.Moving.{unanswered_in}
use Rattle.mt_endpoint.specs.Orders.{is_among}
use Rattle.mt_endpoint.specs.Tunnels.{first_told}
use Rattle.mt_endpoint.specs.Writing.{DENIED, OnMain, adds}
use Rattle.mt_endpoint.proofs.Creating.{heard_fine, rooted}
use Rattle.end_calls.specs.Refusing.{or_zero, version_in}
use Rattle.end_session.specs.Outgoing.{Outgoing}
use Rattle.end_session.specs.Standing.{AreTold, Gone, Knows, Stands, Waits}
use Rattle.end_session.specs.Store.{Store}
use Rattle.end_session.proofs.Heard.{answered_by, capable_first, heard_lawful, spoken_still, tells}
use Rattle.end_session.proofs.Naming.{or_first, or_second}
use Rattle.end_session.proofs.Putting.{quiet}
use Rattle.end_session.proofs.Still.{SaysNothing, known_still, knows_still, live_still, made_same, read_same}
use Rattle.end_session.proofs.ToldOf.{Says, has_place as has_place_among, told_again, told_new}

-- ---- capabilities

no_version_in : (act : Act) → tells_capabilities (came act) ≡ false → version_in act ≡ None
no_version_in (Hears (Spoken (Caps version charges))) h = absurd (let never : true ≡ false = h in cc)
no_version_in act h = refl

-- no version was told before capabilities were read
no_version : (t : Trace Act) → is_ready t ≡ false → first_told version_in t ≡ None
no_version Start h = refl
no_version (t ▷ act) h =
    ap (λ o. option_or o (version_in act)) (no_version t (or_first (is_ready t) (tells_capabilities (came act)) h))
    ∙ no_version_in act (or_second (is_ready t) (tells_capabilities (came act)) h)

or_true : (b : Bool) → b || true ≡ true
or_true true = refl
or_true false = refl

capable_by : (role : Role) (s : Store) (t : Trace Act) (version : ℕ) (charges : Option (List ℕ)) (o : Outgoing) → Knows role s t → is_ready t ≡ false
    → Knows role (record s { paths = record s.paths { version = version }; is_ready = true; outgoing = o }) (t ▷ Hears (Spoken (Caps version charges)))
capable_by role s t version charges o k unready =
    let pdu = Caps version charges in
    let act = Hears (Spoken pdu) in
    let told = (k.words_are).channels_are in record {
      begun = refl;
      lawful = heard_lawful role s t (Spoken pdu) k (capable_first role t version charges unready);
      channels_stand = k.channels_stand;
      words_are = record {
        version_is = sym (ap (λ o. or_zero (option_or o (Some version))) (no_version t unready));
        reliable_is = (k.words_are).reliable_is ∙ sym (live_still role Reliable t act (tells role Reliable t pdu));
        lossy_is = (k.words_are).lossy_is ∙ sym (live_still role Lossy t act (tells role Lossy t pdu));
        channels_are = record { ids_are = told.ids_are; open_are = told.open_are };
        made_are = (k.words_are).made_are ∙ sym (made_same t act refl refl);
        read_are = (k.words_are).read_are ∙ sym (read_same t act refl refl);
      };
      issued_are = k.issued_are;
      reliable_is = k.reliable_is ∙ sym (known_still role Reliable t act (tells role Reliable t pdu));
      lossy_is = k.lossy_is ∙ sym (known_still role Lossy t act (tells role Lossy t pdu));
      reliable_held = k.reliable_held;
      lossy_held = k.lossy_held;
      ready_is = sym (or_true (is_ready t));
      owed_is = k.owed_is ∙ ap (λ x. length (unanswered_in x)) (sym (read_same t act refl refl));
    }

pub capable_fine : (s : Store) (t : Trace Act) (gone : Gone) (version : ℕ) (charges : Option (List ℕ)) → s.is_ready ≡ false → Stands s t gone → main_fault s.role t (Spoken (Caps version charges)) ≡ None
capable_fine s t gone version charges unready st = capable_first s.role t version charges (sym (st.knows).ready_is ∙ unready)

capable_then : (s : Store) (t : Trace Act) (gone : Gone) (version : ℕ) (charges : Option (List ℕ)) (w : Words) (o : Outgoing) → s.is_ready ≡ false → w ≡ record s.paths { version = version }
    → Stands s t gone → Waits s.role o (t ▷ Hears (Spoken (Caps version charges))) gone
    → Stands (record s { paths = w; is_ready = true; outgoing = o }) (t ▷ Hears (Spoken (Caps version charges))) gone
capable_then s t gone version charges w o unready is st waits =
    subst (λ w. Stands (record s { paths = w; is_ready = true; outgoing = o }) (t ▷ Hears (Spoken (Caps version charges))) gone) (sym is)
    (record { knows = capable_by s.role s t version charges o st.knows (sym (st.knows).ready_is ∙ unready); waits = waits })

-- a server answers nothing, and a client with its own
pub capable_server : (s : Store) (t : Trace Act) (gone : Gone) (version : ℕ) (charges : Option (List ℕ)) (w : Words) → s.role ≡ Server → s.is_ready ≡ false → w ≡ record s.paths { version = version }
    → Stands s t gone → Stands (record s { paths = w; is_ready = true }) (t ▷ Hears (Spoken (Caps version charges))) gone
capable_server s t gone version charges w role unready is st =
    let act = Hears (Spoken (Caps version charges)) in
    capable_then s t gone version charges w s.outgoing unready is st (quiet s.role s.outgoing t gone act (ap (λ r. adds r t act) role) st.waits)

pub capable_client : (s : Store) (t : Trace Act) (gone : Gone) (version : ℕ) (charges : Option (List ℕ)) (w : Words) (o : Outgoing) (bytes : List ℕ) → s.role ≡ Client → s.is_ready ≡ false
    → w ≡ record s.paths { version = version } → bytes ≡ spelled (Caps 3 None) → o ≡ record s.outgoing { main = (s.outgoing).main ++ joined (frame_fields (Channel bytes)) }
    → Stands s t gone → Stands (record s { paths = w; is_ready = true; outgoing = o }) (t ▷ Hears (Spoken (Caps version charges))) gone
capable_client s t gone version charges w o bytes role unready is are says st =
    let act = Hears (Spoken (Caps version charges)) in
    capable_then s t gone version charges w o unready is st (answered_by s.role s.outgoing o t gone act (Caps 3 None) bytes (ap (λ r. adds r t act) role) are says st.waits)

-- ---- a channel is created

creates_nothing : (id priority : ℕ) (name : List ℕ) → SaysNothing (Hears (Spoken (CreateRequest id priority name)))
creates_nothing id priority name = record { none_made = refl; none_read = refl; no_answer_read = refl; no_answer_made = refl; no_version = refl; no_capabilities = refl }

-- a channel is among those that were created exactly where it is known
not_among : (role : Role) (t : Trace Act) (id : ℕ) → EndOfActs role t → change.state (table role t) id ≡ state.Unknown → is_among id (ids (table role t)) ≡ false
not_among role t id e unknown = by_test (is_among id (ids (table role t))) refl where
  by_test : (b : Bool) → is_among id (ids (table role t)) ≡ b → b ≡ false
  by_test true h = absurd (let never : true ≡ false = sym ((rooted role t e).known id h) ∙ ap is_known_in unknown in cc)
  by_test false h = refl

pub among : (role : Role) (t : Trace Act) (id : ℕ) (s : ChannelState) → EndOfActs role t → change.state (table role t) id ≡ s → is_known_in s ≡ true → is_among id (ids (table role t)) ≡ true
among role t id s e is known = (rooted role t e).listed id (ap is_known_in is ∙ known)

-- the table behind a creation
made_table : (t : Trace Act) (id priority : ℕ) (name : List ℕ) (b : Bool) → has_place (table Client t) ≡ b
    → table Client (t ▷ Hears (Spoken (CreateRequest id priority name))) ≡ cond b (table Client t ▷ Made id name ▷ Answered id 0) (table Client t)
made_table t id priority name b h = ap (λ b. cond b (table Client t ▷ Made id name ▷ Answered id 0) (table Client t)) h

created_answer : (t : Trace Act) (id priority : ℕ) (name : List ℕ) (b : Bool) → has_place (table Client t) ≡ b
    → adds Client t (Hears (Spoken (CreateRequest id priority name))) ≡ OnMain (Spoken (CreateResponse id (cond b 0 DENIED))) ∷ []
created_answer t id priority name b h = ap (λ b. OnMain (Spoken (CreateResponse id (cond b 0 DENIED))) ∷ []) h

opened_says : (t : Trace Act) (id priority : ℕ) (name : List ℕ) → has_place (table Client t) ≡ true → Says Client t (Hears (Spoken (CreateRequest id priority name))) id true
opened_says t id priority name h x = ap (λ c. is_open_in (change.state c x)) (made_table t id priority name true h) ∙ by_test (eqb id x) where
  by_test : (c : Bool) → is_open_in (cond c state.Open (cond c state.Asked (change.state (table Client t) x))) ≡ cond c true (is_open_in (change.state (table Client t) x))
  by_test true = refl
  by_test false = refl

-- a server hears no such thing
client_by : (role : Role) (t : Trace Act) (id priority : ℕ) (name : List ℕ) → said_fault role t (CreateRequest id priority name) (Creates id name) ≡ None → role ≡ Client
client_by Server t id priority name h = absurd (let never : Some faults.Unexpected ≡ None = h in cc)
client_by Client t id priority name h = refl

pub is_client : (role : Role) (t : Trace Act) (id priority : ℕ) (name : List ℕ) → main_fault role t (Spoken (CreateRequest id priority name)) ≡ None → role ≡ Client
is_client role t id priority name none = client_by role t id priority name (heard_fine role t (CreateRequest id priority name) (Creates id name) (tt, none) refl refl)

-- a client has a channel more, and answers 0
pub created : (s : Store) (t : Trace Act) (gone : Gone) (id priority : ℕ) (name bytes : List ℕ) (c : channels.Table) (w : Words) (o : Outgoing) → s.role ≡ Client
    → main_fault s.role t (Spoken (CreateRequest id priority name)) ≡ None → change.state (table s.role t) id ≡ state.Unknown → length (ids (table s.role t)) < 256
    → channels.Stands c (table s.role t ▷ Made id name ▷ Answered id 0) → w ≡ record s.paths { channels = told id true (s.paths).channels }
    → bytes ≡ spelled (CreateResponse id 0) → o ≡ record s.outgoing { main = (s.outgoing).main ++ joined (frame_fields (Channel bytes)) } → Stands s t gone
    → Stands (record s { channels = c; paths = w; outgoing = o }) (t ▷ Hears (Spoken (CreateRequest id priority name))) gone
created s t gone id priority name bytes c w o role none unknown few stands is are says st = by_role s.role refl role none unknown few stands st.knows st.waits where
  act : Act
  act = Hears (Spoken (CreateRequest id priority name))

  by_role : (r : Role) → s.role ≡ r → r ≡ Client → main_fault r t (Spoken (CreateRequest id priority name)) ≡ None → change.state (table r t) id ≡ state.Unknown → length (ids (table r t)) < 256
      → channels.Stands c (table r t ▷ Made id name ▷ Answered id 0) → Knows r s t → Waits r s.outgoing t gone → Stands (record s { channels = c; paths = w; outgoing = o }) (t ▷ act) gone
  by_role Server e never none unknown few stands k waits = absurd (let wrong : Server ≡ Client = never in cc)
  by_role Client e client none unknown few stands k waits =
      let place : has_place (table Client t) ≡ true = lt-ltb (length (ids (table Client t))) 256 few in
      let same = made_table t id priority name true place in
      let opened = told_new Client t act id true (s.paths).channels (k.words_are).channels_are (not_among Client t id k.lawful unknown) (ap ids same) (opened_says t id priority name place) in
      let knows = knows_still Client s t act c (told id true (s.paths).channels) s.held_reliable s.held_lossy o k (spoken_still Client t (CreateRequest id priority name) (creates_nothing id priority name))
      (heard_lawful Client s t (Spoken (CreateRequest id priority name)) k none) (subst (channels.Stands c) (sym same) stands) opened k.reliable_held k.lossy_held in
      let wrote = answered_by Client s.outgoing o t gone act (CreateResponse id 0) bytes (created_answer t id priority name true place) are says waits in
      subst (λ w. Stands (record s { channels = c; paths = w; outgoing = o }) (t ▷ act) gone) (sym is)
      (record {
        knows = subst (λ r. Knows r (record s { channels = c; paths = record s.paths { channels = told id true (s.paths).channels }; outgoing = o }) (t ▷ act)) (sym e) knows;
        waits = subst (λ r. Waits r o (t ▷ act) gone) (sym e) wrote;
      })

-- a client that has 256 has none more, and denies it
pub denied : (s : Store) (t : Trace Act) (gone : Gone) (id priority : ℕ) (name bytes : List ℕ) (o : Outgoing) → s.role ≡ Client
    → main_fault s.role t (Spoken (CreateRequest id priority name)) ≡ None → 256 ≤ length (ids (table s.role t))
    → bytes ≡ spelled (CreateResponse id 2147942405) → o ≡ record s.outgoing { main = (s.outgoing).main ++ joined (frame_fields (Channel bytes)) } → Stands s t gone
    → Stands (record s { outgoing = o }) (t ▷ Hears (Spoken (CreateRequest id priority name))) gone
denied s t gone id priority name bytes o role none full are says st = by_role s.role refl role none full st.knows st.waits where
  act : Act
  act = Hears (Spoken (CreateRequest id priority name))

  by_role : (r : Role) → s.role ≡ r → r ≡ Client → main_fault r t (Spoken (CreateRequest id priority name)) ≡ None → 256 ≤ length (ids (table r t))
      → Knows r s t → Waits r s.outgoing t gone → Stands (record s { outgoing = o }) (t ▷ act) gone
  by_role Server e never none full k waits = absurd (let wrong : Server ≡ Client = never in cc)
  by_role Client e client none full k waits =
      let place : has_place (table Client t) ≡ false = le-ltb (length (ids (table Client t))) 256 full in
      let same = made_table t id priority name false place in
      let told = (k.words_are).channels_are in
      let are_told : AreTold Client (t ▷ act) (s.paths).channels = record { ids_are = told.ids_are ∙ sym (ap ids same); open_are = λ x. told.open_are x ∙ sym (ap (λ c. is_open_in (change.state c x)) same) } in
      let knows = knows_still Client s t act s.channels (s.paths).channels s.held_reliable s.held_lossy o k (spoken_still Client t (CreateRequest id priority name) (creates_nothing id priority name))
      (heard_lawful Client s t (Spoken (CreateRequest id priority name)) k none) (subst (channels.Stands s.channels) (sym same) k.channels_stand) are_told k.reliable_held k.lossy_held in
      let wrote = answered_by Client s.outgoing o t gone act (CreateResponse id DENIED) bytes (created_answer t id priority name false place) are says waits in
      record {
        knows = subst (λ r. Knows r (record s { outgoing = o }) (t ▷ act)) (sym e) knows;
        waits = subst (λ r. Waits r o (t ▷ act) gone) (sym e) wrote;
      }

-- ---- a server hears the answer

answers_nothing : (id status : ℕ) → SaysNothing (Hears (Spoken (CreateResponse id status)))
answers_nothing id status = record { none_made = refl; none_read = refl; no_answer_read = refl; no_answer_made = refl; no_version = refl; no_capabilities = refl }

answer_says : (role : Role) (t : Trace Act) (id status : ℕ) → Says role t (Hears (Spoken (CreateResponse id status))) id (nat_lt status 2147483648)
answer_says role t id status x = by_test (eqb id x) (nat_lt status 2147483648) where
  by_test : (c b : Bool) → is_open_in (cond c (cond b state.Open state.Refused) (change.state (table role t) x)) ≡ cond c b (is_open_in (change.state (table role t) x))
  by_test true true = refl
  by_test true false = refl
  by_test false b = refl

no_reply : (role : Role) (t : Trace Act) (id status : ℕ) → adds role t (Hears (Spoken (CreateResponse id status))) ≡ []
no_reply Server t id status = refl
no_reply Client t id status = refl

pub answered : (s : Store) (t : Trace Act) (gone : Gone) (id status : ℕ) (c : channels.Table) (w : Words) → main_fault s.role t (Spoken (CreateResponse id status)) ≡ None
    → change.state (table s.role t) id ≡ state.Asked → channels.Stands c (table s.role t ▷ Answered id status) → w ≡ record s.paths { channels = told id (nat_lt status 2147483648) (s.paths).channels }
    → Stands s t gone → Stands (record s { channels = c; paths = w }) (t ▷ Hears (Spoken (CreateResponse id status))) gone
answered s t gone id status c w none asked stands is st =
    let k = st.knows in
    let act = Hears (Spoken (CreateResponse id status)) in
    let told_is = told_again s.role t act id (nat_lt status 2147483648) (s.paths).channels (k.words_are).channels_are (among s.role t id state.Asked k.lawful asked refl) refl (answer_says s.role t id status) in
    subst (λ w. Stands (record s { channels = c; paths = w }) (t ▷ act) gone) (sym is)
    (record {
      knows =
          knows_still s.role s t act c (told id (nat_lt status 2147483648) (s.paths).channels) s.held_reliable s.held_lossy s.outgoing k
          (spoken_still s.role t (CreateResponse id status) (answers_nothing id status)) (heard_lawful s.role s t (Spoken (CreateResponse id status)) k none) stands told_is k.reliable_held k.lossy_held;
      waits = quiet s.role s.outgoing t gone act (no_reply s.role t id status) st.waits;
    })

-- it was asked for
asked_of : (s : ChannelState) (id : ℕ) → answer_fault s id ≡ None → s ≡ state.Asked
asked_of state.Unknown id h = absurd (let never : Some (faults.Channel (refusal.UnknownChannel id)) ≡ None = h in cc)
asked_of state.Asked id h = refl
asked_of state.Open id h = absurd (let never : Some (faults.Channel (refusal.KnownChannel id)) ≡ None = h in cc)
asked_of state.Refused id h = absurd (let never : Some (faults.Channel (refusal.KnownChannel id)) ≡ None = h in cc)
asked_of state.Closed id h = absurd (let never : Some (faults.Channel (refusal.KnownChannel id)) ≡ None = h in cc)

asked_by : (role : Role) (t : Trace Act) (id status : ℕ) → said_fault role t (CreateResponse id status) (Created id status) ≡ None → change.state (table role t) id ≡ state.Asked
asked_by Server t id status h = asked_of (change.state (table Server t) id) id h
asked_by Client t id status h = absurd (let never : Some faults.Unexpected ≡ None = h in cc)

pub asked : (s : Store) (t : Trace Act) (id status : ℕ) → main_fault s.role t (Spoken (CreateResponse id status)) ≡ None → change.state (table s.role t) id ≡ state.Asked
asked s t id status none = asked_by s.role t id status (heard_fine s.role t (CreateResponse id status) (Created id status) (tt, none) refl refl)

no_why : (u : Trace Change) (id : ℕ) (why : ChannelRefusal) → change.state u id ≡ state.Asked → WhyNotAnswered u id why → ⊥
no_why u id (refusal.UnknownChannel other) is h = let never : state.Asked ≡ state.Unknown = sym is ∙ h.1 in cc
no_why u id (refusal.KnownChannel other) is h = h.2 is
no_why u id (refusal.FirstInside other) is h = h
no_why u id (refusal.MoreThanLength other) is h = h
no_why u id (refusal.MessageTooLong other total) is h = h
no_why u id refusal.NoMemory is h = h

-- so it is taken
pub never_refused : (u : Trace Change) (id : ℕ) (r : Result (Unit {0}) ChannelRefusal) (why : ChannelRefusal) → change.state u id ≡ state.Asked → IfErr r (λ why. WhyNotAnswered u id why) → r ≡ Err why → ⊥
never_refused u id r why is h e = no_why u id why is (subst (λ r. IfErr r (λ why. WhyNotAnswered u id why)) e h)

-- a channel that was just made waits for its answer
pub made_asked : (u : Trace Change) (id : ℕ) (name : List ℕ) → change.state (u ▷ Made id name) id ≡ state.Asked
made_asked u id name = ap (λ b. cond b state.Asked (change.state u id)) (eq-eqb id id refl)

pub ok_then : {A E : Type 0} {P : Type 0} (r : Result A E) (x : A) → r ≡ Ok x → OnOk r P → P
ok_then {P = P} r x e h = subst (λ r. OnOk r P) e h

-- the channel has its place among those that are told of
pub asked_place : (s : Store) (t : Trace Act) (gone : Gone) (id status : ℕ) → main_fault s.role t (Spoken (CreateResponse id status)) ≡ None → Stands s t gone → HasPlace id (s.paths).channels
asked_place s t gone id status none st =
    let k = st.knows in
    has_place_among s.role t id (s.paths).channels (k.words_are).channels_are (among s.role t id state.Asked k.lawful (asked s t id status none) refl)

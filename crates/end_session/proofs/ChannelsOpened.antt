-- A server that creates a channel stands for one act more.
use Rattle.std.proofs.Common.{◌≡◌, ℕ, ◌+◌, ◌≤◌, Bool, true, false, cond, not, nat_lt, List, [], ◌++◌, length, length-append, Option, Some, None, Result, Ok, Err, OnOk, is_err, refl, sym, ap, subst, ◌∙◌, arith, eqb}
use Rattle.std.specs.Option.{option_or}
use Rattle.std.proofs.lemmas.Bool.{ltb-false}
use Rattle.mt_base.specs.declared.kinds.Kind.{Kind}
use Rattle.mt_base.specs.declared.kinds.Role.{Role}
use Rattle.mt_base.specs.declared.kinds.Role.TheVariants.{Server, Client}
use Rattle.mt_base.specs.Writing.{joined}
use Rattle.mt_base.specs.Trace.{Trace, ◌▷◌}
use Rattle.dvc_pdus.specs.Value.{CreateRequest, IsName, spelled}
use Rattle.dvc_channels.specs.Acts.{Act as Change, Made}
use Rattle.dvc_channels.specs.Acts as change
use Rattle.dvc_channels.specs.Table as channels
use Rattle.dvc_channels.specs.declared.answers.ChannelState.{ChannelState}
use Rattle.dvc_channels.specs.declared.answers.ChannelState.TheVariants as state
use Rattle.tunnel_pdus.specs.Value.{Channel, frame_fields}
use Rattle.soft_sync.specs.Words.{Words, told}
use Rattle.mt_endpoint.specs.Acts.{Act, Opens, Spoken}
use Rattle.mt_endpoint.specs.Alone.{EndOfActs}
use Rattle.mt_endpoint.specs.Channels.{is_known_in, is_open_in, is_ready, table}
use Rattle.mt_endpoint.specs.Orders.{is_among}
use Rattle.mt_endpoint.proofs.Creating.{counted, fresh, rooted}
use Rattle.mt_endpoint.proofs.Distinct.{most_channels}
use Rattle.end_calls.specs.declared.fault.Fault.{Fault}
use Rattle.end_calls.specs.declared.refusal.OpenRefusal.TheVariants as opening
use Rattle.end_calls.specs.declared.refusal.OpenRefusal.{OpenRefusal}
use Rattle.end_calls.specs.Refusing.{because, frame_size, main_limit, name_fault, next_id, passes, when, why_not_opened}
use Rattle.end_calls.specs.declared.limits.TheConstants.{MAIN_QUEUE}
use Rattle.end_session.specs.Causes.{IsOpenCause, before_room}
use Rattle.end_session.specs.Outgoing.{Outgoing, says}
use Rattle.end_session.specs.Standing.{AreTold, Gone, IsLawful, Knows, Stands}
use Rattle.end_session.specs.Store.{Store}
use Rattle.end_session.proofs.Naming.{named, none_first, none_later, not_when}
use Rattle.end_session.proofs.Putting.{spoke}
use Rattle.end_session.proofs.Still.{IsStill, TellsNothing, knows_still}
use Rattle.end_session.proofs.ToldOf.{Says, told_new}

-- ---- what it says of tunnels and words

tells : (kind : Kind) (t : Trace Act) (id : ℕ) (name : List ℕ) → TellsNothing Server kind t (Opens id name)
tells kind t id name = record { no_request = refl; no_link = refl; no_verdict = refl; no_answer = refl; no_refusal = refl; no_silence = refl }

still : (t : Trace Act) (id : ℕ) (name : List ℕ) → IsStill Server t (Opens id name)
still t id name = record {
  reliable = tells _ t id name;
  lossy = tells _ t id name;
  says = record { none_made = refl; none_read = refl; no_answer_read = refl; no_answer_made = refl; no_version = refl; no_capabilities = refl };
  none_issued = refl;
}

-- ---- the channels that are told of

created_says : (t : Trace Act) (id : ℕ) (name : List ℕ) → Says Server t (Opens id name) id false
created_says t id name x = by_test (eqb id x) where
  by_test : (b : Bool) → is_open_in (cond b state.Asked (change.state (table Server t) x)) ≡ cond b false (is_open_in (change.state (table Server t) x))
  by_test true = refl
  by_test false = refl

opened_told : (t : Trace Act) (id : ℕ) (name : List ℕ) (es : List (ℕ × Bool)) → AreTold Server t es → is_among id (change.ids (table Server t)) ≡ false → AreTold Server (t ▷ Opens id name) (told id false es)
opened_told t id name es a new = told_new Server t (Opens id name) id false es a new refl (created_says t id name)

-- ---- a channel may be created

pub record MayOpen (t : Trace Act) (name : List ℕ) : Type 0 where
  pub ready : is_ready t ≡ true
  pub name_is : IsName name
  pub few : next_id t ≤ 256

not_not : (b : Bool) → not b ≡ false → b ≡ true
not_not true h = refl
not_not false h = cc

no_fault : (o : Option ℕ) → because opening.BadName o ≡ None → o ≡ None
no_fault None h = refl
no_fault (Some at) h = cc

pub may_open : (broken : Option Fault) (t : Trace Act) (name : List ℕ) → before_room broken t name ≡ None → MayOpen t name
may_open broken t name h =
    let a = because opening.Broken broken in
    let b = when (not (is_ready t)) opening.NotReady in
    let c = because opening.BadName (name_fault name) in
    let d = when (nat_lt 256 (next_id t)) (opening.TooMany 256) in
    let front = none_first (option_or (option_or a b) c) d h in
    let ready = none_later a b (none_first (option_or a b) c front) in
    let fine = none_later (option_or a b) c front in
    let few = not_when (nat_lt 256 (next_id t)) (opening.TooMany 256) (none_later (option_or (option_or a b) c) d h) in record {
      ready = not_not (is_ready t) (not_when (not (is_ready t)) opening.NotReady ready);
      name_is = named name (no_fault (name_fault name) fine);
      few = ltb-false 256 (next_id t) few;
    }

-- no channel has the next id
pub is_new : (t : Trace Act) → EndOfActs Server t → is_among (next_id t) (change.ids (table Server t)) ≡ false
is_new t e = fresh (change.ids (table Server t)) (next_id t) refl (counted t e)

is_unknown : (s : ChannelState) → is_known_in s ≡ false → s ≡ state.Unknown
is_unknown state.Unknown h = refl
is_unknown state.Asked h = cc
is_unknown state.Open h = cc
is_unknown state.Refused h = cc
is_unknown state.Closed h = cc

pub unknown : (t : Trace Act) → EndOfActs Server t → change.state (table Server t) (next_id t) ≡ state.Unknown
unknown t e = is_unknown (change.state (table Server t) (next_id t)) (by_test (is_known_in (change.state (table Server t) (next_id t))) refl) where
  by_test : (b : Bool) → is_known_in (change.state (table Server t) (next_id t)) ≡ b → b ≡ false
  by_test true h = sym ((rooted Server t e).listed (next_id t) h) ∙ is_new t e
  by_test false h = refl

opened_by : (role : Role) (s : Store) (t : Trace Act) (gone : Gone) (id : ℕ) (name : List ℕ) (c : channels.Table) → role ≡ Server → s.role ≡ role → id ≡ next_id t → Stands s t gone
    → MayOpen t name → channels.Stands c (table Server t ▷ Made id name)
    → Stands (record s { channels = c; paths = record s.paths { channels = told id false (s.paths).channels }; outgoing = says (Spoken (CreateRequest id 0 name)) s.outgoing }) (t ▷ Opens id name) gone
opened_by Client s t gone id name c e is next st m stands = absurd (let never : Client ≡ Server = e in cc)
opened_by Server s t gone id name c e is next st m stands =
    let k : Knows Server s t = subst (λ r. Knows r s t) is st.knows in
    let act = Opens id name in
    let few = m.few in
    let o = says (Spoken (CreateRequest id 0 name)) s.outgoing in record {
      knows =
          subst (λ r. Knows r (record s { channels = c; paths = record s.paths { channels = told id false (s.paths).channels }; outgoing = o }) (t ▷ act)) (sym is)
          (knows_still Server s t act c (told id false (s.paths).channels) s.held_reliable s.held_lossy o k (still t id name)
          (sym (ap not k.begun), ((refl, m.ready, next, omega (arith, next, few), m.name_is), tt), k.lawful) stands
          (opened_told t id name (s.paths).channels (k.words_are).channels_are (subst (λ x. is_among x (change.ids (table Server t)) ≡ false) (sym next) (is_new t k.lawful))) k.reliable_held k.lossy_held);
      waits = spoke s.role s.outgoing t gone act (Spoken (CreateRequest id 0 name)) refl st.waits;
    }

-- ---- what the call found, and what it left

-- there was no cause, in what was looked at before the queue
pub fine : (s : Store) (t : Trace Act) (name : List ℕ) (r : Option OpenRefusal) → r ≡ before_room s.broken t name → r ≡ None → MayOpen t name
fine s t name r is none = may_open s.broken t name (sym is ∙ none)

pub opened : (s : Store) (t : Trace Act) (gone : Gone) (id : ℕ) (name bytes : List ℕ) (c : channels.Table) (w : Words) (o : Outgoing) → s.role ≡ Server → id ≡ next_id t → Stands s t gone
    → MayOpen t name → ((u : Trace Change) → channels.Stands s.channels u → channels.Stands c (u ▷ Made id name))
    → w ≡ record s.paths { channels = told id false (s.paths).channels }
    → bytes ≡ spelled (CreateRequest id 0 name) → o ≡ record s.outgoing { main = (s.outgoing).main ++ joined (frame_fields (Channel bytes)) }
    → Stands (record s { channels = c; paths = w; outgoing = o }) (t ▷ Opens id name) gone
opened s t gone id name bytes c w o is next st m made w_is bytes_are o_is =
    let k : Knows Server s t = subst (λ r. Knows r s t) is st.knows in
    let base = opened_by Server s t gone id name c refl is next st m (made (table Server t) k.channels_stand) in
    let says_is = o_is ∙ ap (λ b. record s.outgoing { main = (s.outgoing).main ++ joined (frame_fields (Channel b)) }) bytes_are in
    subst (λ x. Stands (record s { channels = c; paths = w; outgoing = x }) (t ▷ Opens id name) gone) (sym says_is)
    (subst (λ x. Stands (record s { channels = c; paths = x; outgoing = says (Spoken (CreateRequest id 0 name)) s.outgoing }) (t ▷ Opens id name) gone) (sym w_is) base)

-- ---- why it is refused

never_memory : (a : Option Fault) (b : Bool) (c : Option ℕ) (d : Bool)
    → option_or (option_or (option_or (because opening.Broken a) (when b opening.NotReady)) (because opening.BadName c)) (when d (opening.TooMany 256)) ≡ Some opening.NoMemory → ⊥
never_memory (Some f) b c d h = cc
never_memory None true c d h = cc
never_memory None false (Some at) d h = cc
never_memory None false None true h = cc
never_memory None false None false h = cc

is_cause : (why : OpenRefusal) (cause : Option OpenRefusal) → cause ≡ Some why → (why ≡ opening.NoMemory → ⊥) → IsOpenCause cause why
is_cause (opening.Broken f) cause h no_memory = h
is_cause opening.NotReady cause h no_memory = h
is_cause (opening.BadName at) cause h no_memory = h
is_cause (opening.TooMany limit) cause h no_memory = h
is_cause (opening.QueueFull queued limit) cause h no_memory = h
is_cause opening.NoMemory cause h no_memory = absurd (no_memory refl)

some_same : (a b : ℕ) → Some a ≡ Some b → a ≡ b
some_same a b h = cc

pub first_is : {A : Type 0} (a b : Option A) (x : A) → a ≡ Some x → option_or a b ≡ Some x
first_is a b x h = ap (λ o. option_or o b) h

pub refused_before : (broken : Option Fault) (t : Trace Act) (queued : ℕ) (name : List ℕ) (r : Option OpenRefusal) (why : OpenRefusal) → r ≡ before_room broken t name → r ≡ Some why → IsOpenCause (why_not_opened broken t queued name) why
refused_before broken t queued name r why is some =
    let before = sym is ∙ some in
    is_cause why (why_not_opened broken t queued name) (first_is (before_room broken t name) _ why before)
    (λ e. never_memory broken (not (is_ready t)) (name_fault name) (nat_lt 256 (next_id t)) (before ∙ ap Some e))

-- the room of the frame, by the count of its bytes
pub frame_size_is : (bytes : List ℕ) → length (joined (frame_fields (Channel bytes))) ≡ length bytes + 3
frame_size_is bytes = omega (arith, length-append bytes [])

pub why_by_room : (broken : Option Fault) (t : Trace Act) (queued id : ℕ) (name bytes : List ℕ) (r : Option OpenRefusal) → r ≡ before_room broken t name → r ≡ None → id ≡ next_id t
    → bytes ≡ spelled (CreateRequest id 0 name)
    → why_not_opened broken t queued name ≡ when (passes queued (length bytes + 3) (main_limit t)) (opening.QueueFull queued (main_limit t))
why_by_room broken t queued id name bytes r is none next are =
    let size : frame_size (Spoken (CreateRequest (next_id t) 0 name)) ≡ length bytes + 3 =
    ap (λ n. length (joined (frame_fields (Channel (spelled (CreateRequest n 0 name)))))) (sym next) ∙ ap (λ b. length (joined (frame_fields (Channel b)))) (sym are) ∙ frame_size_is bytes in
    ap (λ a. option_or a (when (passes queued (frame_size (Spoken (CreateRequest (next_id t) 0 name))) (main_limit t)) (opening.QueueFull queued (main_limit t)))) (sym is ∙ none)
    ∙ ap (λ n. when (passes queued n (main_limit t)) (opening.QueueFull queued (main_limit t))) size

-- by what was found of the queue
pub full_cause : {A : Type 0} (wrap : ℕ → A) (b : Bool) (limit told : ℕ) → Some told ≡ when b limit → when b (wrap limit) ≡ Some (wrap told)
full_cause wrap true limit told h = let same : Some told ≡ Some limit = h in ap Some (ap wrap (sym (some_same told limit same)))
full_cause wrap false limit told h = absurd (let never : Some told ≡ None = h in cc)

pub fits_cause : {A : Type 0} (why : A) (b : Bool) (limit : ℕ) → None ≡ when b limit → when b why ≡ None
fits_cause why true limit h = absurd (let never : None ≡ Some limit = h in cc)
fits_cause why false limit h = refl

pub room_for : (queued size limit : ℕ) → None ≡ when (passes queued size limit) limit → queued + size ≤ limit
room_for queued size limit h = ltb-false limit (queued + size) (not_when (passes queued size limit) limit (sym h))

-- what is known of a server
pub of_server : (s : Store) (t : Trace Act) (gone : Gone) → s.role ≡ Server → Stands s t gone → Knows Server s t
of_server s t gone is st = subst (λ r. Knows r s t) is st.knows

-- a server has 256 channels at most
pub few_made : (s : Store) (n : ℕ) → s.role ≡ Server → IsLawful s → ((u : Trace Change) → channels.Stands s.channels u → n ≡ length (change.ids u)) → n ≤ 256
few_made s n is w made =
    let k = of_server s w.0.0 w.0.1 is w.0.2 in
    omega (arith, made (table Server w.0.0) k.channels_stand, most_channels w.0.0 k.lawful)

-- what control may fill is within the queue
pub limit_within : (t : Trace Act) → main_limit t ≤ MAIN_QUEUE
limit_within t = omega arith

pub on_ok : {E P : Type 0} (r : Result (Unit {0}) E) → is_err r ≡ false → OnOk r P → P
on_ok (Ok x) h p = p
on_ok (Err e) h p = cc

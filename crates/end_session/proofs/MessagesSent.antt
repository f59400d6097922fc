-- An end that sends a message stands for one act more.
use Rattle.std.proofs.Common.{◌≡◌, ℕ, ◌+◌, ◌*◌, ◌^◌, ◌<◌, ◌≤◌, Bool, true, false, not, nat_lt, List, [], ◌∷◌, ◌++◌, map, length, length-append, append-nil, append_assoc, Option, Some, None, is_some, All, Fits, w8, slice_get, slice_index_or, take, refl, sym, ap, subst, ◌∙◌, arith}
use Rattle.std.specs.List.{flat_map}
use Rattle.std.specs.Option.{option_or}
use Rattle.std.proofs.lemmas.Bool.{ltb-false}
use Rattle.std.proofs.lemmas.Grind.{flat_map-append}
use Rattle.std.proofs.lemmas.List.Elements.{All-from_get_or, All-head, All-tail}
use Rattle.mt_base.specs.declared.kinds.Kind.{Kind}
use Rattle.mt_base.specs.declared.kinds.Kind.TheVariants.{Reliable, Lossy}
use Rattle.mt_base.specs.declared.kinds.Role.{Role}
use Rattle.mt_base.specs.declared.kinds.Role.TheVariants.{Server, Client}
use Rattle.mt_base.specs.Trace.{Trace, ◌▷◌}
use Rattle.dvc_pdus.specs.Value.{AreBytes, IsPdu, Pdu, spelled}
use Rattle.dvc_channels.specs.declared.answers.ChannelState.{ChannelState}
use Rattle.dvc_channels.specs.declared.answers.ChannelState.TheVariants as state
use Rattle.dvc_channels.specs.Acts.{Act as Change}
use Rattle.dvc_channels.specs.Acts as change
use Rattle.dvc_channels.specs.Table as channels
use Rattle.dvc_channels.specs.Fragments.{fragments_of}
use Rattle.dvc_channels.proofs.Sending.{IsByte, fragments_sent}
use Rattle.soft_sync.specs.declared.kinds.Path.{Path}
use Rattle.soft_sync.specs.declared.kinds.Path.TheVariants.{Main, Tunnel}
use Rattle.soft_sync.specs.Words.{path_of}
use Rattle.soft_sync.specs.Words as words
use Rattle.soft_sync.proofs.Answering.{take_more}
use Rattle.tunnel_pdus.specs.Value.{Channel, Data, frame_fields, pdu_fields}
use Rattle.mt_base.specs.Writing.{joined}
use Rattle.mt_endpoint.specs.Acts.{Act, Drawn, Sends, Spoken}
use Rattle.mt_endpoint.specs.Channels.{channel, is_open_in, table}
use Rattle.mt_endpoint.specs.Moving.{outward}
use Rattle.mt_endpoint.specs.Tunnels.{is_silent, refusal_in}
use Rattle.mt_endpoint.specs.World.{IsLoud, IsWritable, ShortOn}
use Rattle.mt_endpoint.specs.Writing.{adds, carried, framed, into, main_bytes, on_main, on_path, spoken, tunneled}
use Rattle.end_calls.specs.declared.fault.Fault.{Fault}
use Rattle.end_calls.specs.declared.refusal.SendRefusal.{SendRefusal}
use Rattle.end_calls.specs.declared.refusal.SendRefusal.TheVariants as send
use Rattle.end_calls.specs.declared.limits.TheConstants.{LOSSY_MESSAGE, MAIN_QUEUE, MESSAGE}
use Rattle.end_calls.specs.Refusing.{Loads, because, frames_size, full_for, main_message_limit, passes, silence_on, too_long_for, tunnel_size, when, why_not_in, why_not_sent}
use Rattle.end_session.specs.MessageGiven.{carrying, frames_of, with_message}
use Rattle.end_session.specs.Outgoing.{Outgoing, waiting_for}
use Rattle.end_session.specs.Standing.{Gone, IsLeft, Knows, Stands, Waits}
use Rattle.end_session.specs.Store.{Store}
use Rattle.end_session.proofs.ChannelsOpened.{frame_size_is}
use Rattle.end_session.proofs.Naming.{none_first, none_later, not_when}
use Rattle.end_session.proofs.Putting.{same_left}
use Rattle.end_session.proofs.Readings.{outward_is}
use Rattle.end_session.proofs.Still.{IsStill, TellsNothing, knows_still}

-- ---- the bytes of a message's PDUs

pub byte_each : (message : List ℕ) → ((i : ℕ) → Fits w8 (slice_index_or message i 0)) → AreBytes message
byte_each message h = All-from_get_or IsByte message 0 (λ i inside. let fits : Fits w8 (slice_index_or message i 0) = h i in omega arith)

bytes_most : (pdus : List Pdu) → All (IsPdu Server) pdus → length (flat_map spelled pdus) ≤ 1600 * length pdus
bytes_most [] all = omega arith
bytes_most (pdu ∷ pdus) all =
    omega (arith, (All-head (IsPdu Server) pdu pdus all).1, bytes_most pdus (All-tail (IsPdu Server) pdu pdus all), length-append (spelled pdu) (flat_map spelled pdus))

-- each has at most 1,600
pub message_most : (id : ℕ) (message : List ℕ) → id < 2 ^ 32 → length message ≤ 1048576 → AreBytes message → length (flat_map spelled (fragments_of id message)) ≤ 1600 * length (fragments_of id message)
message_most id message small short bytes = bytes_most (fragments_of id message) (fragments_sent Server id message small (omega (arith, short)) bytes)

-- a frame has 3 more, and a tunnel PDU 4
pub frames_count : (pdus : List Pdu) → frames_size pdus ≡ length (flat_map spelled pdus) + 3 * length pdus
frames_count [] = omega arith
frames_count (pdu ∷ pdus) =
    omega (arith, frames_count pdus, frame_size_is (spelled pdu), length-append (framed (Spoken pdu)) (frames_of pdus), length-append (spelled pdu) (flat_map spelled pdus))

data_size : (bytes : List ℕ) → length (joined (pdu_fields (Data bytes))) ≡ length bytes + 4
data_size bytes = omega (arith, length-append bytes [])

pub tunnel_count : (pdus : List Pdu) → tunnel_size pdus ≡ length (flat_map spelled pdus) + 4 * length pdus
tunnel_count [] = omega arith
tunnel_count (pdu ∷ pdus) =
    omega (arith, tunnel_count pdus, data_size (spelled pdu), length-append (tunneled (carrying pdu)) (flat_map (λ p. tunneled (carrying p)) pdus), length-append (spelled pdu) (flat_map spelled pdus))

-- ---- what waits behind them

spoken_on : (pdus : List Pdu) → on_main (map (on_path Main) pdus) ≡ map Spoken pdus
spoken_on [] = refl
spoken_on (pdu ∷ pdus) = ap (λ xs. Spoken pdu ∷ xs) (spoken_on pdus)

frames_joined : (pdus : List Pdu) → flat_map framed (map Spoken pdus) ≡ frames_of pdus
frames_joined [] = refl
frames_joined (pdu ∷ pdus) = ap (λ xs. framed (Spoken pdu) ++ xs) (frames_joined pdus)

none_into : (kind : Kind) (silent : Bool) (pdus : List Pdu) → into kind silent (map (on_path Main) pdus) ≡ []
none_into kind silent [] = refl
none_into kind silent (pdu ∷ pdus) = none_into kind silent pdus

none_spoken : (kind : Kind) (pdus : List Pdu) → on_main (map (on_path (Tunnel kind)) pdus) ≡ []
none_spoken kind [] = refl
none_spoken kind (pdu ∷ pdus) = none_spoken kind pdus

all_into : (kind : Kind) (pdus : List Pdu) → into kind false (map (on_path (Tunnel kind)) pdus) ≡ map carrying pdus
all_into Reliable [] = refl
all_into Reliable (pdu ∷ pdus) = ap (λ xs. carrying pdu ∷ xs) (all_into Reliable pdus)
all_into Lossy [] = refl
all_into Lossy (pdu ∷ pdus) = ap (λ xs. carrying pdu ∷ xs) (all_into Lossy pdus)

none_lossy : (silent : Bool) (pdus : List Pdu) → into Lossy silent (map (on_path (Tunnel Reliable)) pdus) ≡ []
none_lossy silent [] = refl
none_lossy silent (pdu ∷ pdus) = none_lossy silent pdus

none_reliable : (silent : Bool) (pdus : List Pdu) → into Reliable silent (map (on_path (Tunnel Lossy)) pdus) ≡ []
none_reliable silent [] = refl
none_reliable silent (pdu ∷ pdus) = none_reliable silent pdus

-- by what an act adds for a link
left_by : (kind : Kind) (role : Role) (t : Trace Act) (act : Act) (new gone : List Drawn) (bytes : List ℕ) → into kind (is_silent kind t) (adds role t act) ≡ new → IsLeft (carried kind role t ++ new) gone bytes → IsLeft (carried kind role (t ▷ act)) gone bytes
left_by kind role t act new gone bytes is l = subst (λ x. IsLeft (carried kind role t ++ x) gone bytes) (sym is) l

none_rest : (rest : List Drawn) → [] ≡ flat_map tunneled rest → rest ≡ []
none_rest [] h = refl
none_rest (drawn ∷ rest) h = absurd (omega (arith, ap length h))

-- what nothing waited for, and what is given at once
given_away : (written gone new : List Drawn) (bytes : List ℕ) → bytes ≡ [] → IsLeft written gone bytes → IsLeft (written ++ new) (gone ++ new) bytes
given_away written gone new bytes none l =
    let empty = none_rest l.rest (sym none ∙ l.bytes_are) in record {
      rest = [];
      rest_is = ap (λ w. w ++ new) (l.rest_is ∙ ap (λ r. gone ++ r) empty ∙ append-nil gone) ∙ sym (append-nil (gone ++ new));
      bytes_are = none;
    }

said_all : (role : Role) (o : Outgoing) (t : Trace Act) (gone : Gone) (act : Act) (pdus : List Pdu) → adds role t act ≡ map (on_path Main) pdus → Waits role o t gone → Waits role (record o { main = o.main ++ frames_of pdus }) (t ▷ act) gone
said_all role o t gone act pdus e w = record {
  main_waits =
      ap (λ x. flat_map framed (spoken role t ++ on_main x)) e ∙ flat_map-append framed (spoken role t) (on_main (map (on_path Main) pdus))
      ∙ ap (λ x. main_bytes role t ++ x) (ap (flat_map framed) (spoken_on pdus) ∙ frames_joined pdus) ∙ ap (λ x. x ++ frames_of pdus) w.main_waits ∙ append_assoc gone.main o.main (frames_of pdus);
  reliable_waits =
      left_by Reliable role t act [] gone.reliable o.reliable (ap (into Reliable (is_silent Reliable t)) e ∙ none_into Reliable (is_silent Reliable t) pdus)
      (same_left (carried Reliable role t) gone.reliable o.reliable w.reliable_waits);
  lossy_waits =
      left_by Lossy role t act [] gone.lossy o.lossy (ap (into Lossy (is_silent Lossy t)) e ∙ none_into Lossy (is_silent Lossy t) pdus)
      (same_left (carried Lossy role t) gone.lossy o.lossy w.lossy_waits);
}

same_main : (role : Role) (o : Outgoing) (t : Trace Act) (gone : Gone) (act : Act) (kind : Kind) (pdus : List Pdu) → adds role t act ≡ map (on_path (Tunnel kind)) pdus → Waits role o t gone → main_bytes role (t ▷ act) ≡ gone.main ++ o.main
same_main role o t gone act kind pdus e w =
    ap (λ x. flat_map framed (spoken role t ++ on_main x)) e ∙ ap (λ x. flat_map framed (spoken role t ++ x)) (none_spoken kind pdus) ∙ ap (flat_map framed) (append-nil (spoken role t)) ∙ w.main_waits

given_all : (role : Role) (o : Outgoing) (t : Trace Act) (gone : Gone) (act : Act) (kind : Kind) (pdus : List Pdu) → adds role t act ≡ map (on_path (Tunnel kind)) pdus → is_silent kind t ≡ false → waiting_for kind o ≡ []
    → Waits role o t gone → Waits role o (t ▷ act) (with_message (Tunnel kind) pdus gone)
given_all role o t gone act Reliable pdus e loud none w = record {
  main_waits = same_main role o t gone act Reliable pdus e w;
  reliable_waits =
      left_by Reliable role t act (map carrying pdus) (gone.reliable ++ map carrying pdus) o.reliable
      (ap (into Reliable (is_silent Reliable t)) e ∙ ap (λ b. into Reliable b (map (on_path (Tunnel Reliable)) pdus)) loud ∙ all_into Reliable pdus)
      (given_away (carried Reliable role t) gone.reliable (map carrying pdus) o.reliable none w.reliable_waits);
  lossy_waits =
      left_by Lossy role t act [] gone.lossy o.lossy (ap (into Lossy (is_silent Lossy t)) e ∙ none_lossy (is_silent Lossy t) pdus)
      (same_left (carried Lossy role t) gone.lossy o.lossy w.lossy_waits);
}
given_all role o t gone act Lossy pdus e loud none w = record {
  main_waits = same_main role o t gone act Lossy pdus e w;
  reliable_waits =
      left_by Reliable role t act [] gone.reliable o.reliable (ap (into Reliable (is_silent Reliable t)) e ∙ none_reliable (is_silent Reliable t) pdus)
      (same_left (carried Reliable role t) gone.reliable o.reliable w.reliable_waits);
  lossy_waits =
      left_by Lossy role t act (map carrying pdus) (gone.lossy ++ map carrying pdus) o.lossy
      (ap (into Lossy (is_silent Lossy t)) e ∙ ap (λ b. into Lossy b (map (on_path (Tunnel Lossy)) pdus)) loud ∙ all_into Lossy pdus)
      (given_away (carried Lossy role t) gone.lossy (map carrying pdus) o.lossy none w.lossy_waits);
}

-- ---- a message may be sent

-- the causes, one after the other
abbrev pub first_of_six : Option SendRefusal → Option SendRefusal → Option SendRefusal → Option SendRefusal → Option SendRefusal → Option SendRefusal → Option SendRefusal
first_of_six a b c d e f = option_or (option_or (option_or (option_or (option_or a b) c) d) e) f

-- by what was found of each
pub by_causes : (broken : Option Fault) (role : Role) (t : Trace Act) (loads : Loads) (id : ℕ) (message : List ℕ) (silent : Option ℕ) (long too_long : Bool) → broken ≡ None
    → why_not_in send.UnknownChannel send.NotOpen send.ChannelClosed (channel role id t) ≡ None → silence_on t (outward id t) ≡ silent → nat_lt MESSAGE (length message) ≡ long
    → too_long_for (outward id t) (length message) ≡ too_long
    → why_not_sent broken role t loads id message
    ≡ first_of_six None None (because send.TunnelSilent silent) (when long (send.MessageTooLong MESSAGE)) (when too_long (send.TooLongForLossy LOSSY_MESSAGE)) (full_for loads (outward id t) (fragments_of id message))
by_causes broken role t loads id message silent long too_long whole open_one silence_is long_is too_long_is =
    let path = outward id t in
    let b = why_not_in send.UnknownChannel send.NotOpen send.ChannelClosed (channel role id t) in
    let c = because send.TunnelSilent (silence_on t path) in
    let d = when (nat_lt MESSAGE (length message)) (send.MessageTooLong MESSAGE) in
    let e = when (too_long_for path (length message)) (send.TooLongForLossy LOSSY_MESSAGE) in
    let f = full_for loads path (fragments_of id message) in
    ap (λ x. first_of_six (because send.Broken x) b c d e f) whole ∙ ap (λ x. first_of_six None x c d e f) open_one ∙ ap (λ x. first_of_six None None (because send.TunnelSilent x) d e f) silence_is
    ∙ ap (λ x. first_of_six None None (because send.TunnelSilent silent) (when x (send.MessageTooLong MESSAGE)) e f) long_is
    ∙ ap (λ x. first_of_six None None (because send.TunnelSilent silent) (when long (send.MessageTooLong MESSAGE)) (when x (send.TooLongForLossy LOSSY_MESSAGE)) f) too_long_is

open_in : (s : ChannelState) → why_not_in send.UnknownChannel send.NotOpen send.ChannelClosed s ≡ None → is_open_in s ≡ true
open_in state.Unknown h = absurd (let no : Some send.UnknownChannel ≡ None = h in cc)
open_in state.Asked h = absurd (let no : Some send.NotOpen ≡ None = h in cc)
open_in state.Open h = refl
open_in state.Refused h = absurd (let no : Some send.NotOpen ≡ None = h in cc)
open_in state.Closed h = absurd (let no : Some send.ChannelClosed ≡ None = h in cc)

no_silence : (o : Option ℕ) → because send.TunnelSilent o ≡ None → is_some o ≡ false
no_silence None h = refl
no_silence (Some expiries) h = absurd (let no : Some (send.TunnelSilent expiries) ≡ None = h in cc)

loud_on : (t : Trace Act) (path : Path) → because send.TunnelSilent (silence_on t path) ≡ None → IsLoud t path
loud_on t Main h = tt
loud_on t (Tunnel kind) h = no_silence (silence_on t (Tunnel kind)) h

short_on : (path : Path) (message : List ℕ) → too_long_for path (length message) ≡ false → ShortOn path message
short_on Main message h = tt
short_on (Tunnel Reliable) message h = tt
short_on (Tunnel Lossy) message h = ltb-false LOSSY_MESSAGE (length message) h

pub record MaySend (role : Role) (t : Trace Act) (loads : Loads) (id : ℕ) (message : List ℕ) : Type 0 where
  pub writable : IsWritable role t id
  pub short : length message ≤ 1048576
  pub short_on_path : ShortOn (outward id t) message
  pub room : full_for loads (outward id t) (fragments_of id message) ≡ None

pub may_send : (broken : Option Fault) (role : Role) (t : Trace Act) (loads : Loads) (id : ℕ) (message : List ℕ) → why_not_sent broken role t loads id message ≡ None → MaySend role t loads id message
may_send broken role t loads id message h =
    let path = outward id t in
    let a = because send.Broken broken in
    let b = why_not_in send.UnknownChannel send.NotOpen send.ChannelClosed (channel role id t) in
    let c = because send.TunnelSilent (silence_on t path) in
    let d = when (nat_lt MESSAGE (length message)) (send.MessageTooLong MESSAGE) in
    let e = when (too_long_for path (length message)) (send.TooLongForLossy LOSSY_MESSAGE) in
    let f = full_for loads path (fragments_of id message) in
    let five = none_first (option_or (option_or (option_or (option_or a b) c) d) e) f h in
    let four = none_first (option_or (option_or (option_or a b) c) d) e five in
    let three = none_first (option_or (option_or a b) c) d four in
    let two = none_first (option_or a b) c three in record {
      writable = record { is_open_channel = open_in (channel role id t) (none_later a b two); loud = loud_on t path (none_later (option_or a b) c three) };
      short = ltb-false MESSAGE (length message) (not_when (nat_lt MESSAGE (length message)) (send.MessageTooLong MESSAGE) (none_later (option_or (option_or a b) c) d four));
      short_on_path = short_on path message (not_when (too_long_for path (length message)) (send.TooLongForLossy LOSSY_MESSAGE) (none_later (option_or (option_or (option_or a b) c) d) e five));
      room = none_later (option_or (option_or (option_or (option_or a b) c) d) e) f h;
    }

-- ---- one act more

no_refusal : (role : Role) (kind : Kind) (t : Trace Act) (id : ℕ) (message : List ℕ) → refusal_in role kind t (Sends id message) ≡ None
no_refusal Server kind t id message = refl
no_refusal Client kind t id message = refl

tells : (role : Role) (kind : Kind) (t : Trace Act) (id : ℕ) (message : List ℕ) → TellsNothing role kind t (Sends id message)
tells role kind t id message = record {
  no_request = refl;
  no_link = refl;
  no_verdict = refl;
  no_answer = refl;
  no_refusal = no_refusal role kind t id message;
  no_silence = refl;
}

still : (role : Role) (t : Trace Act) (id : ℕ) (message : List ℕ) → IsStill role t (Sends id message)
still role t id message = record {
  reliable = tells role _ t id message;
  lossy = tells role _ t id message;
  says = record { none_made = refl; none_read = refl; no_answer_read = refl; no_answer_made = refl; no_version = refl; no_capabilities = refl };
  none_issued = refl;
}

knows_sent : (s : Store) (t : Trace Act) (loads : Loads) (id : ℕ) (message : List ℕ) (o : Outgoing) → Knows s.role s t → MaySend s.role t loads id message → Knows s.role (record s { outgoing = o }) (t ▷ Sends id message)
knows_sent s t loads id message o k m =
    let told = (k.words_are).channels_are in
    knows_still s.role s t (Sends id message) s.channels (s.paths).channels s.held_reliable s.held_lossy o k (still s.role t id message)
    (sym (ap not k.begun), ((m.writable, m.short, m.short_on_path), tt), k.lawful) k.channels_stand (record { ids_are = told.ids_are; open_are = told.open_are }) k.reliable_held k.lossy_held

pub said : (s : Store) (t : Trace Act) (gone : Gone) (loads : Loads) (id : ℕ) (message : List ℕ) (o : Outgoing) → Stands s t gone → MaySend s.role t loads id message → outward id t ≡ Main
    → o ≡ record s.outgoing { main = (s.outgoing).main ++ frames_of (fragments_of id message) } → Stands (record s { outgoing = o }) (t ▷ Sends id message) gone
said s t gone loads id message o st m path is = record {
  knows = knows_sent s t loads id message o st.knows m;
  waits =
      subst (λ x. Waits s.role x (t ▷ Sends id message) gone) (sym is)
      (said_all s.role s.outgoing t gone (Sends id message) (fragments_of id message) (ap (λ p. map (on_path p) (fragments_of id message)) path) st.waits);
}

pub given : (s : Store) (t : Trace Act) (gone : Gone) (loads : Loads) (id : ℕ) (message : List ℕ) (kind : Kind) → Stands s t gone → MaySend s.role t loads id message → outward id t ≡ Tunnel kind
    → waiting_for kind s.outgoing ≡ [] → Stands s (t ▷ Sends id message) (with_message (Tunnel kind) (fragments_of id message) gone)
given s t gone loads id message kind st m path none = record {
  knows = knows_sent s t loads id message s.outgoing st.knows m;
  waits =
      given_all s.role s.outgoing t gone (Sends id message) kind (fragments_of id message) (ap (λ p. map (on_path p) (fragments_of id message)) path)
      (subst (IsLoud t) path (m.writable).loud) none st.waits;
}

-- there is room for its frames
pub room_said : (unsent load parts : ℕ) (path : Path) (pdus : List Pdu) → path ≡ Main → full_for (record { unsent = unsent; reliable = load; lossy = parts }) path pdus ≡ None → unsent + frames_size pdus ≤ MAIN_QUEUE
room_said unsent load parts path pdus is h =
    let here : full_for (record { unsent = unsent; reliable = load; lossy = parts }) Main pdus ≡ None = subst (λ p. full_for (record { unsent = unsent; reliable = load; lossy = parts }) p pdus ≡ None) is h in
    let fits = ltb-false main_message_limit (unsent + frames_size pdus) (not_when (passes unsent (frames_size pdus) main_message_limit) (send.QueueFull unsent main_message_limit) here) in
    omega (arith, fits)

-- ---- what the call found

pub state_none : (s : Store) (t : Trace Act) (gone : Gone) (id : ℕ) (c : channels.Table) (found : ChannelState) (r : Option SendRefusal) → Stands s t gone → c ≡ s.channels
    → ((u : Trace Change) → channels.Stands c u → found ≡ change.state u id) → r ≡ why_not_in send.UnknownChannel send.NotOpen send.ChannelClosed found → r ≡ None
    → why_not_in send.UnknownChannel send.NotOpen send.ChannelClosed (channel s.role id t) ≡ None
state_none s t gone id c found r st c_is by r_is none =
    let stands = subst (λ x. channels.Stands x (table s.role t)) (sym c_is) (st.knows).channels_stand in
    ap (why_not_in send.UnknownChannel send.NotOpen send.ChannelClosed) (sym (by (table s.role t) stands)) ∙ sym r_is ∙ none

pub path_found : (s : Store) (t : Trace Act) (gone : Gone) (id : ℕ) (w : words.Words) (p : Path) → Stands s t gone → w ≡ s.paths → p ≡ words.outward id w → outward id t ≡ p
path_found s t gone id w p st w_is p_is = sym (p_is ∙ ap (words.outward id) w_is ∙ outward_is s.role t s.paths id (st.knows).words_are)

pub none_waits : (kind : Kind) (o : Outgoing) → (waiting_for Reliable o ≡ []) × (waiting_for Lossy o ≡ []) → waiting_for kind o ≡ []
none_waits Reliable o h = h.0
none_waits Lossy o h = h.1

-- one frame more of a message
pub said_more : (o p q : Outgoing) (pdus : List Pdu) (k : ℕ) (pdu : Pdu) (bytes : List ℕ) → p ≡ record o { main = o.main ++ frames_of (take k pdus) } → q ≡ record p { main = p.main ++ joined (frame_fields (Channel bytes)) }
    → bytes ≡ spelled pdu → slice_get pdus k ≡ Some pdu → q ≡ record o { main = o.main ++ frames_of (take (k + 1) pdus) }
said_more o p q pdus k pdu bytes p_is q_is are at =
    let done = frames_of (take k pdus) in
    let more : frames_of (take (k + 1) pdus) ≡ done ++ framed (Spoken pdu) =
    ap frames_of (take_more k pdus pdu at) ∙ flat_map-append (λ x. framed (Spoken x)) (take k pdus) (pdu ∷ []) ∙ ap (λ x. done ++ x) (append-nil (framed (Spoken pdu))) in
    q_is ∙ ap (λ (x : Outgoing). record x { main = x.main ++ joined (frame_fields (Channel bytes)) }) p_is
    ∙ ap (λ l. record o { main = l }) (ap (λ b. (o.main ++ done) ++ joined (frame_fields (Channel b))) are ∙ append_assoc o.main done (framed (Spoken pdu)) ∙ ap (λ x. o.main ++ x) (sym more))

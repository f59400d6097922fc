-- Play's lists are two ends and the stream between them.
use Rattle.std.proofs.Common.{◌≡◌, ℕ, ◌+◌, ◌<◌, ◌≤◌, ◌^◌, Bool, true, false, ltb, cond, not, ◌&&◌, List, [], ◌∷◌, ◌++◌, length, take, drop, Option, None, Some, Result, Ok, Err, refl, sym, ap, ◌∙◌, subst, arith, length-append, append-nil, lt-ltb}
use Rattle.std.specs.Prelude.{slice_get}
use Rattle.std.specs.List.{AllByRecursion}
use Rattle.std.proofs.lemmas.List.{take_all, drop-drop, length_push}
use Rattle.std.proofs.lemmas.List.Elements.{All-from_recursion, All-drop}
use Rattle.std.proofs.lemmas.Bool.{not-false, ltb-false, leb-false, leb-true}
use Rattle.byteorder.specs.Endian.{little_bytes}
use Rattle.mt_base.specs.declared.kinds.Role.{Role}
use Rattle.mt_base.specs.declared.kinds.Role.TheVariants.{Server, Client}
use Rattle.mt_base.specs.Ends.{other}
use Rattle.mt_base.specs.Trace.{Trace, Start, ◌▷◌}
use Rattle.mt_script.specs.declared.event.Event.{Event}
use Rattle.mt_script.specs.declared.event.Event.TheVariants as event
use Rattle.mt_script.specs.declared.event.Line.{Line}
use Rattle.mt_script.specs.Lines.{lines_of}
use Rattle.mt_script.specs.Meaning.{Do, numbered, ReadsAs}
use Rattle.mt_script.specs.Spelling.{IsEvent}
use Rattle.dvc_pdus.specs.Value.{Data, spelled, smallest}
use Rattle.mt_world.specs.declared.channel.ChannelState.{ChannelState}
use Rattle.mt_world.specs.declared.channel.ChannelState.TheVariants as state
use Rattle.mt_world.specs.declared.refusal.StepRefusal.{StepRefusal}
use Rattle.mt_world.specs.declared.refusal.StepRefusal.TheVariants as step
use Rattle.mt_world.specs.declared.refusal.SendRefusal.{SendRefusal}
use Rattle.mt_world.specs.declared.refusal.OpenRefusal.{OpenRefusal}
use Rattle.mt_world.specs.Acts.{Entry, Made, Opened, Sent, MainIn, MainOut, Took, past, names, is_ready, channel, written, unsent, given, taken, took, waiting, delivered}
use Rattle.mt_world.specs.Ends.{EndTrace, IsBytes, channel_limit}
use Rattle.mt_world.specs.Net.{Net, at, acts_of}
use Rattle.mt_world.specs.Play.{Ending, RefusedAt, ◌or_else◌, when, name_fault, bad_name, open_refusal_of, state_refusal, send_refusal_of, message_limit, is_made, refused_open, refused_send, unless, calls, handed_out, all_taken, then_taken, played, start, play}
use Rattle.mt_world.proofs.Names.{no_cause, when_not, name_from_no_fault}
use Rattle.mt_world.proofs.ReadBytes.{names-reads}
use Rattle.mt_world.proofs.Outgoing.{PduLaws, end_sound}
use Rattle.mt_world.proofs.SpelledBytes.{frames_bytes}
use Rattle.mt_world.proofs.HandingOut.{given-handed_out, taken-handed_out}
use Rattle.mt_world.proofs.Sides.{server-all_taken, client-all_taken}

-- Both sides are ends, and all that left one came to the other.
pub record IsGood (w : Trace (Role × Entry)) : Type 0 where
  pub server : EndTrace Server (at Server w)
  pub client : EndTrace Client (at Client w)
  pub to_server : taken (at Server w) ≡ given (at Client w)
  pub to_client : taken (at Client w) ≡ given (at Server w)

pub net_from_good : (w : Trace (Role × Entry)) → IsGood w → Net w
net_from_good w g = record {
  server = g.server;
  client = g.client;
  to_server = ([], sym (append-nil (taken (at Server w)) ∙ g.to_server));
  to_client = ([], sym (append-nil (taken (at Client w)) ∙ g.to_client));
}

pub start_good : IsGood start
start_good = record { server = (refl, tt); client = (refl, tt); to_server = refl; to_client = refl }

-- the bytes that wait for the main stream are bytes
unsent_bytes : (laws : PduLaws) → (role : Role) (t : Trace Entry) → EndTrace role t → IsBytes (unsent role t)
unfolding written
unsent_bytes laws role t h =
    All-drop (λ b. b < 2 ^ 8) (length (given t)) (written role (past role t).acts)
    (All-from_recursion (λ b. b < 2 ^ 8) (written role (past role t).acts) (frames_bytes role _ (end_sound laws role t h).out))

-- what moves from one end to the other
moves_out : (role : Role) (t : Trace Entry) → EndTrace role t → EndTrace role (t ▷ MainOut (length (unsent role t)) (unsent role t))
moves_out role t h = (sym (take_all (length (unsent role t)) (unsent role t) (omega arith)), h)

moves_in : (role : Role) (t : Trace Entry) (bytes : List ℕ) → IsBytes bytes → EndTrace role t → EndTrace role (t ▷ MainIn bytes (length bytes))
moves_in role t bytes all h = (all, refl, h)

pub arrives : (here there bytes : List ℕ) → here ≡ there → here ++ take (length bytes) bytes ≡ there ++ bytes
arrives here there bytes same = ap (λ x. here ++ x) (take_all (length bytes) bytes (omega arith)) ∙ ap (λ x. x ++ bytes) same

pub main_good : (laws : PduLaws) → (side : Role) (w : Trace (Role × Entry)) → IsGood w → IsGood (w ▷ (side, MainOut (length (unsent side (at side w))) (unsent side (at side w))) ▷ (other side, MainIn (unsent side (at side w)) (length (unsent side (at side w)))))
main_good laws Server w g = record {
  server = moves_out Server (at Server w) g.server;
  client = moves_in Client (at Client w) (unsent Server (at Server w)) (unsent_bytes laws Server (at Server w) g.server) g.client;
  to_server = g.to_server;
  to_client = arrives (taken (at Client w)) (given (at Server w)) (unsent Server (at Server w)) g.to_client;
}
main_good laws Client w g = record {
  server = moves_in Server (at Server w) (unsent Client (at Client w)) (unsent_bytes laws Client (at Client w) g.client) g.server;
  client = moves_out Client (at Client w) g.client;
  to_server = arrives (taken (at Server w)) (given (at Client w)) (unsent Client (at Client w)) g.to_server;
  to_client = g.to_client;
}

-- a session has few channels
names_few : (role : Role) (t : Trace Entry) → EndTrace role t → length (names (past role t).acts) ≤ channel_limit
names_few role Start h = omega arith
names_few role (t ▷ Made) h = names_few role t h.1
names_few role (t ▷ Opened id name) h = omega (arith, h.1, h.2, length_push (names (past role t).acts) name)
names_few role (t ▷ Sent id message) h = names_few role t h.2
names_few role (t ▷ MainIn offered count) h =
    omega (arith, names_few role t h.2, ap length (names-reads role (past role t) (take count offered)))
names_few role (t ▷ MainOut room bytes) h = names_few role t h.1
names_few role (t ▷ Took id message) h = names_few role t h.1

no_fault : (fault : Option ℕ) → bad_name fault ≡ None → fault ≡ None
no_fault None h = refl
no_fault (Some place) h = cc

not_refused_open : (cause : Option OpenRefusal) → refused_open cause ≡ None → cause ≡ None
not_refused_open None h = refl
not_refused_open (Some cause) h = cc

not_refused_send : (cause : Option SendRefusal) → refused_send cause ≡ None → cause ≡ None
not_refused_send None h = refl
not_refused_send (Some cause) h = cc

open_good : (w : Trace (Role × Entry)) (name : List ℕ) → IsGood w → open_refusal_of (acts_of Server w) name ≡ None → IsGood (w ▷ (Server, Opened (length (names (acts_of Server w)) + 1) name))
open_good w name g none =
    let outer = no_cause _ _ none in
    let inner = no_cause _ _ outer.0 in
    let named = name_from_no_fault name (no_fault (name_fault name) inner.1) in
    let first : length (names (acts_of Server w)) < 1 = leb-false 1 (length (names (acts_of Server w))) (when_not _ _ outer.1) in
    record {
      server = (refl, refl, omega (arith, first), named, not-false (is_ready (acts_of Server w)) (when_not _ _ inner.0), g.server);
      client = g.client;
      to_server = g.to_server;
      to_client = g.to_client;
    }

open_state : (s : ChannelState) → state_refusal s ≡ None → s ≡ state.Open
open_state state.Unknown h = cc
open_state state.Asked h = cc
open_state state.Open h = refl
open_state state.Refused h = cc

second_true : (a b : Bool) → a && b ≡ true → b ≡ true
second_true true b h = h
second_true false b h = cc

-- a message of the first channel fits one data PDU
data_short : (id : ℕ) (message : List ℕ) → id ≤ 1 → length message ≤ 1598 → length (spelled (Data id message)) ≤ 1600
data_short id message first short =
    let one : smallest id ≡ little_bytes 1 id =
    ap (λ b. cond b (little_bytes 1 id) (cond (ltb id (2 ^ 16)) (little_bytes 2 id) (little_bytes 4 id))) (lt-ltb id (2 ^ 8) (omega (arith, first))) in
    omega (arith, short, ap length one, length-append (smallest id) (message ++ []), length-append message [])

-- why a message that no cause stands against may be sent
pub record MaySend (side : Role) (t server : Trace Entry) (id : ℕ) (message : List ℕ) : Type 0 where
  pub open_is : channel id (past side t).acts ≡ state.Open
  pub short : length (spelled (Data id message)) ≤ 1600

may_send : (side : Role) (t server : Trace Entry) (id : ℕ) (message : List ℕ) → EndTrace Server server
    → when (not (is_made id (past Server server).acts)) step.UnknownChannel or_else refused_send (send_refusal_of (past side t).acts id message) ≡ None → MaySend side t server id message
may_send side t server id message h none =
    let outer = no_cause _ _ none in
    let made = second_true _ _ (not-false _ (when_not _ _ outer.0)) in
    let inner = no_cause _ _ (not_refused_send (send_refusal_of (past side t).acts id message) outer.1) in
    let within : id ≤ length (names (past Server server).acts) = leb-true id (length (names (past Server server).acts)) made in
    record {
      open_is = open_state (channel id (past side t).acts) inner.0;
      short = data_short id message (omega (arith, within, names_few Server server h)) (ltb-false message_limit (length message) (when_not _ _ inner.1));
    }

send_good : (side : Role) (w : Trace (Role × Entry)) (id : ℕ) (message : List ℕ) → IsGood w → IsEvent (event.Send side id message)
    → when (not (is_made id (acts_of Server w))) step.UnknownChannel or_else refused_send (send_refusal_of (acts_of side w) id message) ≡ None → IsGood (w ▷ (side, Sent id message))
send_good Server w id message g is none =
    let m = may_send Server (at Server w) (at Server w) id message g.server none in
    record { server = (m.open_is, (is, m.short), g.server); client = g.client; to_server = g.to_server; to_client = g.to_client }
send_good Client w id message g is none =
    let m = may_send Client (at Client w) (at Server w) id message g.server none in
    record { server = g.server; client = (m.open_is, (is, m.short), g.client); to_server = g.to_server; to_client = g.to_client }

-- handing out all that waits
handed_law : (role : Role) (t : Trace Entry) (messages : List (List ℕ)) → waiting 1 role t ≡ messages → EndTrace role t → EndTrace role (handed_out 1 t messages)
handed_law role t [] is h = h
handed_law role t (m ∷ ms) is h =
    let first : slice_get (waiting 1 role t) 0 ≡ Some m = ap (λ xs. slice_get xs 0) is in
    let came = delivered 1 (past role t).acts in
    let rest : waiting 1 role (t ▷ Took 1 m) ≡ ms =
    ap (λ n. drop n came) (length_push (took 1 t) m) ∙ sym (drop-drop 1 (length (took 1 t)) came) ∙ ap (drop 1) is in
    handed_law role (t ▷ Took 1 m) ms rest (first, h)

taken_good : (w : Trace (Role × Entry)) → IsGood w → IsGood (all_taken Client (all_taken Server w))
taken_good w g =
    let v = all_taken Client (all_taken Server w) in
    let s = waiting 1 Server (at Server w) in
    let c = waiting 1 Client (at Client w) in
    record {
      server = subst (EndTrace Server) (sym (server-all_taken w)) (handed_law Server (at Server w) s refl g.server);
      client = subst (EndTrace Client) (sym (client-all_taken w)) (handed_law Client (at Client w) c refl g.client);
      to_server = ap taken (server-all_taken w) ∙ taken-handed_out 1 (at Server w) s ∙ g.to_server ∙ sym (ap given (client-all_taken w) ∙ given-handed_out 1 (at Client w) c);
      to_client = ap taken (client-all_taken w) ∙ taken-handed_out 1 (at Client w) c ∙ g.to_client ∙ sym (ap given (server-all_taken w) ∙ given-handed_out 1 (at Server w) s);
    }

unless_ok : (cause : Option StepRefusal) (x v : Trace (Role × Entry)) → unless cause x ≡ Ok v → (cause ≡ None) × (x ≡ v)
unless_ok None x v h = (refl, cc)
unless_ok (Some cause) x v h = cc

calls_good : (laws : PduLaws) → (w v : Trace (Role × Entry)) (e : Event) → IsGood w → IsEvent e → calls w e ≡ Ok v → IsGood v
calls_good laws w v (event.Open name) g is h =
    let u = unless_ok _ _ v h in
    subst IsGood u.1 (open_good w name g (not_refused_open (open_refusal_of (acts_of Server w) name) u.0))
calls_good laws w v (event.Send side id message) g is h =
    let u = unless_ok _ _ v h in
    subst IsGood u.1 (send_good side w id message g is u.0)
calls_good laws w v (event.Main side) g is h =
    let bytes = unsent side (at side w) in
    let same : w ▷ (side, MainOut (length bytes) bytes) ▷ (other side, MainIn bytes (length bytes)) ≡ v = cc in
    subst IsGood same (main_good laws side w g)

then_good : (laws : PduLaws) → (w v : Trace (Role × Entry)) (e : Event) (answer : Result (Trace (Role × Entry)) StepRefusal) → IsGood w → IsEvent e → calls w e ≡ answer → then_taken answer ≡ Ok v → IsGood v
then_good laws w v e (Ok u) g is called h =
    let same : all_taken Client (all_taken Server u) ≡ v = cc in
    subst IsGood same (taken_good u (calls_good laws w u e g is called))
then_good laws w v e (Err cause) g is called h = cc

after_line : (w : Trace (Role × Entry)) (lines : List Line) (number : ℕ) (answer : Result (Trace (Role × Entry)) StepRefusal)
    → ((v : Trace (Role × Entry)) → answer ≡ Ok v → IsGood (play v lines).0) → IsGood w
    → IsGood (elim answer as (λ _. Trace (Role × Entry) × Ending) [ Ok v ↦ play v lines | Err cause ↦ (w, RefusedAt number cause) ]).0
after_line w lines number (Ok v) goes g = goes v refl
after_line w lines number (Err cause) goes g = g

pub play_good : (laws : PduLaws) → (lines : List Line) (w : Trace (Role × Entry)) → IsGood w → AllByRecursion (λ l. IsEvent l.event) lines → IsGood (play w lines).0
play_good laws [] w g all = g
play_good laws (next ∷ lines) w g all =
    after_line w lines next.number (played w next.event)
    (λ v is. play_good laws lines v (then_good laws w v next.event (calls w next.event) g all.0 refl is) all.1) g

-- the lines of a script are events
events_of : (number : ℕ) (lines : List (List ℕ)) (does : List (Option Event)) → Do lines does → AllByRecursion (λ (l : Line). IsEvent l.event) (numbered number does)
events_of number [] [] h = tt
events_of number [] (d ∷ does) h = absurd h
events_of number (l ∷ lines) [] h = absurd h
events_of number (l ∷ lines) (None ∷ does) h = events_of (number + 1) lines does h.1
events_of number (l ∷ lines) (Some e ∷ does) h = (h.0.0, events_of (number + 1) lines does h.1)

pub script_events : (text : List ℕ) (lines : List Line) → ReadsAs text (Ok lines) → AllByRecursion (λ (l : Line). IsEvent l.event) lines
script_events text lines h = subst (AllByRecursion (λ (l : Line). IsEvent l.event)) (sym h.3) (events_of 1 (lines_of text) h.1 h.2)

pub plays_net : (laws : PduLaws) → (text : List ℕ) (lines : List Line) → ReadsAs text (Ok lines) → Net (play start lines).0
plays_net laws text lines h = net_from_good (play start lines).0 (play_good laws lines start start_good (script_events text lines h))

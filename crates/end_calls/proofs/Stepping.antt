-- Steps of an end's own, and polls of its links.
use Rattle.std.proofs.Common.{◌≡◌, ℕ, ◌==◌, Bool, true, false, not, ◌&&◌, cond, List, [], ◌++◌, Option, Some, None, is_some, refl, sym, ap, subst, ◌∙◌, append-nil}
use Rattle.std.specs.List.{flat_map}
use Rattle.mt_base.specs.declared.kinds.Kind.{Kind}
use Rattle.mt_base.specs.declared.kinds.Kind.TheVariants.{Reliable, Lossy}
use Rattle.mt_base.specs.declared.kinds.Role.{Role}
use Rattle.mt_base.specs.declared.kinds.Role.TheVariants.{Server, Client}
use Rattle.mt_base.specs.Ends.{other}
use Rattle.mt_base.specs.Trace.{Trace, Start, ◌▷◌}
use Rattle.mt_base.proofs.Prefixes.{front-at, pick-at}
use Rattle.carrier.specs.declared.state.LinkState.{LinkState}
use Rattle.carrier.specs.declared.state.LinkState.TheVariants.{Opening, Open, Closed}
use Rattle.mt_endpoint.specs.Acts.{Act, Began, Opens, Sends, Takes, Asks, Attaches, Repeats, Refuses, Syncs, Closes, Silences, Hears, Draws, Judges, Misses, Answers, Releases, Discards}
use Rattle.mt_endpoint.specs.Tunnels.{answer, is_silent, is_attached}
use Rattle.mt_endpoint.specs.Writing.{spoken, carried, framed, tunneled}
use Rattle.mt_endpoint.specs.World.{IsStep, HasCome, begins, is_begun, heard_in, drawn_in, hears, draws}
use Rattle.mt_endpoint.specs.Alone.{IsAct}
use Rattle.mt_endpoint.proofs.Together.{Place, left_more}
use Rattle.end_calls.specs.declared.fault.Fault.{Fault}
use Rattle.end_calls.specs.declared.fault.Fault.TheVariants as fault
use Rattle.end_calls.specs.Streams.{Past, is_broken, grows}
use Rattle.end_calls.specs.Calls.{Entry, Own, MainIn, MainOut, WireIn, WireOut, Postings, no_postings, story, past, acts, is_over, is_due, posts_again, before_poll, closed_act, bare, steps, if_steps, polled, polled_at}
use Rattle.end_calls.specs.Law.{IsOwn, IsGiven}
use Rattle.end_calls.proofs.Fitting.{EachGiven}
use Rattle.end_calls.proofs.Fronts.{attached_more, attached_grown}
use Rattle.end_calls.proofs.Standing.{At, On, grown_on, none_more}
use Rattle.end_calls.proofs.Running.{State, reads_on, stopped}

-- an act that reads nothing
pub record Quiet (act : Act) : Type 0 where
  pub unheard : heard_in act ≡ []
  pub undrawn : (kind : Kind) → drawn_in kind act ≡ []

pub own_quiet : (act : Act) → IsOwn act → Quiet act
own_quiet Began o = record { unheard = refl; undrawn = λ kind. refl }
own_quiet (Opens id name) o = record { unheard = refl; undrawn = λ kind. refl }
own_quiet (Sends id message) o = record { unheard = refl; undrawn = λ kind. refl }
own_quiet (Takes id message) o = record { unheard = refl; undrawn = λ kind. refl }
own_quiet (Asks kind id cookie) o = record { unheard = refl; undrawn = λ k. refl }
own_quiet (Attaches kind) o = record { unheard = refl; undrawn = λ k. refl }
own_quiet (Repeats is_full) o = absurd o
own_quiet (Refuses kind hr) o = record { unheard = refl; undrawn = λ k. refl }
own_quiet (Syncs reliable lossy) o = record { unheard = refl; undrawn = λ kind. refl }
own_quiet (Closes id) o = record { unheard = refl; undrawn = λ kind. refl }
own_quiet (Silences kind expiries) o = absurd o
own_quiet (Hears heard) o = absurd o
own_quiet (Draws kind at drawn) o = absurd o
own_quiet (Judges kind at id cookie verdict is_full) o = absurd o
own_quiet Misses o = absurd o
own_quiet (Answers named) o = absurd o
own_quiet (Releases kind at bytes pdu) o = absurd o
own_quiet (Discards at bytes pdu) o = absurd o

quiet_come : (role : Role) (here there : Trace Act) (act : Act) → Quiet act → Place role here there → HasCome role here there act
quiet_come role here there act q p = (
  front-at (hears here) (hears here ++ heard_in act) (spoken (other role) there) (spoken (other role) there) (sym (ap (λ l. hears here ++ l) q.unheard ∙ append-nil (hears here))) refl p.came.main,
  front-at (draws Reliable here) (draws Reliable here ++ drawn_in Reliable act) (carried Reliable (other role) there) (carried Reliable (other role) there) (sym (ap (λ l. draws Reliable here ++ l) (q.undrawn Reliable) ∙ append-nil (draws Reliable here))) refl p.came.reliable,
  pick-at (draws Lossy here) (draws Lossy here ++ drawn_in Lossy act) (carried Lossy (other role) there) (carried Lossy (other role) there) (sym (ap (λ l. draws Lossy here ++ l) (q.undrawn Lossy) ∙ append-nil (draws Lossy here))) refl p.came.lossy,
)

quiet_on : (role : Role) (there : Trace Act) (p : Past) (act : Act) (taken pulled : List ℕ) (handed : List (List ℕ)) → Quiet act → begins act ≡ not (is_begun p.acts) → IsStep role p.acts act → IsGiven act
    → At role there p taken pulled handed → On role there (grows role act p) taken pulled handed
quiet_on role there p act taken pulled handed q b step g a =
    grown_on role there p act p.main p.tunnel taken pulled handed a.place a.given b step (quiet_come role p.acts there act q a.place) g (record {
      main_is = none_more framed (hears p.acts) p.main.bytes taken a.main_is ∙ ap (λ l. flat_map framed (hears p.acts ++ l) ++ p.main.bytes) (sym q.unheard);
      main_part = a.main_part;
      tunnel_is = none_more tunneled (draws Reliable p.acts) p.tunnel.bytes pulled a.tunnel_is ∙ ap (λ l. flat_map tunneled (draws Reliable p.acts ++ l) ++ p.tunnel.bytes) (sym (q.undrawn Reliable));
      tunnel_part = a.tunnel_part;
      lossy_is = ap (λ l. draws Lossy p.acts ++ l) (q.undrawn Lossy) ∙ append-nil (draws Lossy p.acts) ∙ a.lossy_is;
    })

-- ---- a step of a broken end

place_more : (role : Role) (here there : Trace Act) (act : Act) → Quiet act → begins act ≡ not (is_begun here) → IsAct role here act → Place role here there → Place role (here ▷ act) there
place_more role here there act q b a p =
    let c = quiet_come role here there act q p in
    record { here_acts = (b, a, p.here_acts); there_acts = p.there_acts; came = record { main = c.0; reliable = c.1; lossy = c.2 }; left = left_more role here there act p.left }

bare_state : (role : Role) (there : Trace Act) (p : Past) (act : Act) (taken pulled : List ℕ) (handed : List (List ℕ)) → begins act ≡ not (is_begun p.acts) → IsStep role p.acts act
    → Place role p.acts there → EachGiven p.acts → p.broken ≡ Some fault.NoMemory → State role there (bare act p) taken pulled handed
bare_state role there p (Takes id message) taken pulled handed b step place given broken =
    stopped (place_more role p.acts there (Takes id message) (record { unheard = refl; undrawn = λ kind. refl }) b (step, tt) place) (tt, given) broken
bare_state role there p (Silences kind expiries) taken pulled handed b step place given broken =
    stopped (place_more role p.acts there (Silences kind expiries) (record { unheard = refl; undrawn = λ k. refl }) b (step, tt) place) (tt, given) broken
bare_state role there p act taken pulled handed b step place given broken = stopped place given broken

steps_fine : (role : Role) (act : Act) (p : Past) → p.broken ≡ None → steps role act p ≡ grows role act p
steps_fine role act p e = ap (λ o. cond (is_some o) (bare act p) (grows role act p)) e

steps_broken : (role : Role) (act : Act) (p : Past) (why : Fault) → p.broken ≡ Some why → steps role act p ≡ bare act p
steps_broken role act p why e = ap (λ o. cond (is_some o) (bare act p) (grows role act p)) e

pub own_step : (role : Role) (there : Trace Act) (p : Past) (act : Act) (taken pulled : List ℕ) (handed : List (List ℕ)) → Quiet act → begins act ≡ not (is_begun p.acts) → IsStep role p.acts act → IsGiven act
    → State role there p taken pulled handed → State role there (steps role act p) taken pulled handed
own_step role there p act taken pulled handed q b step g (reads_on a) =
    subst (λ v. State role there v taken pulled handed) (sym (steps_fine role act p a.fine)) (reads_on (quiet_on role there p act taken pulled handed q b step g a).at_end)
own_step role there p act taken pulled handed q b step g (stopped place given broken) =
    subst (λ v. State role there v taken pulled handed) (sym (steps_broken role act p fault.NoMemory broken)) (bare_state role there p act taken pulled handed b step place given broken)

-- ---- polls

bare_attached : (kind : Kind) (act : Act) (p : Past) → is_attached kind p.acts ≡ true → is_attached kind (bare act p).acts ≡ true
bare_attached kind (Takes id message) p h = attached_more kind p.acts (Takes id message) h
bare_attached kind (Silences made expiries) p h = attached_more kind p.acts (Silences made expiries) h
bare_attached kind act p h = h

steps_attached : (kind : Kind) (role : Role) (act : Act) (p : Past) → is_attached kind p.acts ≡ true → is_attached kind (steps role act p).acts ≡ true
steps_attached kind role act p h = by_broken (is_broken p) where
  by_broken : (b : Bool) → is_attached kind (cond b (bare act p) (grows role act p)).acts ≡ true
  by_broken true = bare_attached kind act p h
  by_broken false = attached_grown kind role p.acts act h

pub attached_begun : (kind : Kind) (t : Trace Act) → is_attached kind t ≡ true → is_begun t ≡ true
attached_begun kind Start h = h
attached_begun kind (t ▷ act) h = refl

later_begun : (kind : Kind) (t : Trace Act) (act : Act) → begins act ≡ false → is_attached kind t ≡ true → begins act ≡ not (is_begun t)
later_begun kind Start act e h = absurd (let no : false ≡ true = h in cc)
later_begun kind (t ▷ last) act e h = e

-- an act of a poll
record OfPoll (role : Role) (kind : Kind) (t : Trace Act) (act : Act) : Type 0 where
  quiet : Quiet act
  later : begins act ≡ false
  step : IsStep role t act
  given : IsGiven act

silences_poll : (role : Role) (kind : Kind) (t : Trace Act) (expiries : ℕ) → is_attached kind t ≡ true → OfPoll role kind t (Silences kind expiries)
silences_poll role kind t expiries h = record { quiet = record { unheard = refl; undrawn = λ k. refl }; later = refl; step = h; given = tt }

-- where an act is due by a poll
abbrev IsOfPoll : Role → Kind → Trace Act → Option Act → Type 0
IsOfPoll role kind t None = Unit {0}
IsOfPoll role kind t (Some act) = OfPoll role kind t act

closed_poll : (role : Role) (kind : Kind) (t : Trace Act) (silent : Bool) (state : LinkState) → is_attached kind t ≡ true → IsOfPoll role kind t (closed_act kind silent state)
closed_poll role kind t silent Opening h = tt
closed_poll role kind t silent Open h = tt
closed_poll role kind t true (Closed expiries) h = tt
closed_poll role kind t false (Closed expiries) h = silences_poll role kind t expiries h

-- a server posts nothing
pub server_posts : (t : Trace Entry) → (story Server t).postings ≡ no_postings
server_posts Start = refl
server_posts (t ▷ Own act) = server_posts t
server_posts (t ▷ MainIn offered count load lack) = server_posts t
server_posts (t ▷ MainOut room bytes) = server_posts t
server_posts (t ▷ WireIn kind now datagram took load came pulls parts lack) = server_posts t
server_posts (t ▷ WireOut Reliable now is_full out state) = server_posts t
server_posts (t ▷ WireOut Lossy now is_full out state) = ap (polled_at (acts Server t) now) (server_posts t)

both_true : (a b : Bool) → a && b ≡ true → (a ≡ true) × (b ≡ true)
both_true true b h = (refl, h)
both_true false b h = absurd (let no : false ≡ true = h in cc)

not_some : (o : Option ℕ) → not (is_some o) ≡ true → o ≡ None
not_some None h = refl
not_some (Some n) h = absurd (let no : false ≡ true = h in cc)

-- it is the client that posts again
due_client : (role : Role) (t : Trace Entry) (now : ℕ) → is_over ((story role t).postings).last now ≡ true → role ≡ Client
due_client Client t now h = refl
due_client Server t now h = absurd (let no : false ≡ true = ap (λ (q : Postings). is_over q.last now) (sym (server_posts t)) ∙ h in cc)

again_poll : (role : Role) (t : Trace Entry) (now : ℕ) (is_full : Bool) → is_attached Lossy (acts role t) ≡ true → is_due (acts role t) (story role t).postings now ≡ true
    → OfPoll role Lossy (acts role t) (posts_again (story role t).postings is_full)
again_poll role t now is_full h due =
    let over = both_true (is_over ((story role t).postings).last now) (not (is_some (answer Lossy (acts role t))) && not (is_silent Lossy (acts role t))) due in
    let unanswered = (both_true (not (is_some (answer Lossy (acts role t)))) (not (is_silent Lossy (acts role t))) over.1).0 in
    by_count (((story role t).postings).count == 17) (due_client role t now over.0) (not_some (answer Lossy (acts role t)) unanswered) where
      by_count : (b : Bool) → role ≡ Client → answer Lossy (acts role t) ≡ None → OfPoll role Lossy (acts role t) (cond b (Silences Lossy 17) (Repeats is_full))
      by_count true c n = silences_poll role Lossy (acts role t) 17 h
      by_count false c n = record { quiet = record { unheard = refl; undrawn = λ k. refl }; later = refl; step = (c, h, n); given = tt }

before_of : (role : Role) (kind : Kind) (t : Trace Entry) (now : ℕ) (is_full : Bool) → is_attached kind (acts role t) ≡ true → IsOfPoll role kind (acts role t) (before_poll kind (acts role t) (story role t).postings now is_full)
before_of role Reliable t now is_full h = tt
before_of role Lossy t now is_full h = by_due (is_due (acts role t) (story role t).postings now) refl where
  by_due : (b : Bool) → is_due (acts role t) (story role t).postings now ≡ b → IsOfPoll role Lossy (acts role t) (cond b (Some (posts_again (story role t).postings is_full)) None)
  by_due true e = again_poll role t now is_full h e
  by_due false e = tt

poll_step : (role : Role) (there : Trace Act) (kind : Kind) (p : Past) (o : Option Act) (taken pulled : List ℕ) (handed : List (List ℕ)) → is_attached kind p.acts ≡ true → IsOfPoll role kind p.acts o
    → State role there p taken pulled handed → State role there (if_steps role o p) taken pulled handed
poll_step role there kind p None taken pulled handed h w s = s
poll_step role there kind p (Some act) taken pulled handed h w s = own_step role there p act taken pulled handed w.quiet (later_begun kind p.acts act w.later h) w.step w.given s

if_attached : (kind : Kind) (role : Role) (o : Option Act) (p : Past) → is_attached kind p.acts ≡ true → is_attached kind (if_steps role o p).acts ≡ true
if_attached kind role None p h = h
if_attached kind role (Some act) p h = steps_attached kind role act p h

pub poll_state : (role : Role) (there : Trace Act) (kind : Kind) (t : Trace Entry) (now : ℕ) (is_full : Bool) (state : LinkState) (taken pulled : List ℕ) (handed : List (List ℕ)) → is_attached kind (acts role t) ≡ true
    → State role there (past role t) taken pulled handed → State role there (polled role kind (story role t).postings now is_full state (past role t)) taken pulled handed
poll_state role there kind t now is_full state taken pulled handed h s =
    let o = before_poll kind (acts role t) (story role t).postings now is_full in
    let q = if_steps role o (past role t) in
    let attached = if_attached kind role o (past role t) h in
    poll_step role there kind q (closed_act kind (is_silent kind q.acts) state) taken pulled handed attached (closed_poll role kind q.acts (is_silent kind q.acts) state attached)
    (poll_step role there kind (past role t) o taken pulled handed h (before_of role kind t now is_full h) s)

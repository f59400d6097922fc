-- The session of an end between the acts of a poll.
use Rattle.std.proofs.Common.{◌≡◌, ℕ, ◌+◌, ◌*◌, ◌≤◌, Bool, true, false, not, cond, List, [], ◌++◌, length, length-append, append-nil, Option, Some, None, is_some, refl, sym, ap, subst, ◌∙◌, arith}
use Rattle.mt_base.specs.declared.kinds.Kind.{Kind}
use Rattle.mt_base.specs.declared.kinds.Kind.TheVariants.{Reliable, Lossy}
use Rattle.mt_base.specs.declared.kinds.Role.{Role}
use Rattle.mt_base.specs.Trace.{Trace, ◌▷◌}
use Rattle.mt_endpoint.specs.Acts.{Act, Silences}
use Rattle.mt_endpoint.specs.Alone.{EndOfActs}
use Rattle.mt_endpoint.specs.Growing.{answered}
use Rattle.mt_endpoint.specs.Holding.{Held, weight}
use Rattle.mt_endpoint.specs.Tunnels.{is_attached, is_silent, tunnel, or_silent, or_refused, begun, is_open, refusal, silence}
use Rattle.mt_endpoint.specs.Tunnels as tunnels
use Rattle.mt_endpoint.specs.Writing.{carried, main_bytes}
use Rattle.end_calls.specs.declared.fault.Fault.{Fault}
use Rattle.end_calls.specs.declared.limits.TheConstants.{HOLD, MAIN_QUEUE}
use Rattle.carrier.specs.declared.state.LinkState.{LinkState}
use Rattle.carrier.specs.declared.state.LinkState.TheVariants.{Closed}
use Rattle.end_calls.specs.Calls.{bare, closed_act, if_steps, steps}
use Rattle.end_calls.specs.Streams.{Past, grows}
use Rattle.end_reader.proofs.Quiet.{IsCalm, grown_calm}
use Rattle.end_session.specs.Known.{Known, state_of}
use Rattle.end_session.specs.OfKind.{tunnel_of}
use Rattle.end_session.specs.Outgoing.{waiting_for}
use Rattle.end_session.specs.Standing.{Gone, Stands}
use Rattle.end_session.specs.Store.{Store}
use Rattle.end_session.specs.declared.tunnel.TunnelState.{TunnelState}
use Rattle.end_session.specs.declared.tunnel.TunnelState.TheVariants as state
use Rattle.endpoint.specs.Answering.{answered_by}
use Rattle.endpoint.specs.Idle.{IsIdle, IsPaused}
use Rattle.endpoint.proofs.Answered.{Stays, stays_by, stays_on, stays_silence, unwritten_by, unwritten_silence}
use Rattle.endpoint.proofs.Added.{waits_by}
use Rattle.endpoint.proofs.Left.{none_waits}

-- ---- whether a tunnel is silent

abbrev pub tells_silent : TunnelState → Bool
tells_silent state.None = false
tells_silent state.Asked = false
tells_silent state.Attached = false
tells_silent state.Open = false
tells_silent (state.Refused hr) = false
tells_silent (state.Silent expiries) = true

none_begun : (kind : Kind) (t : Trace Act) (attached asked : Bool) → tells_silent (state_of (cond attached tunnels.Attached (cond asked tunnels.Asked tunnels.Absent))) ≡ false
none_begun kind t true asked = refl
none_begun kind t false true = refl
none_begun kind t false false = refl

none_refused : (kind : Kind) (t : Trace Act) (refused : Option ℕ) → tells_silent (state_of (or_refused refused (begun kind t))) ≡ false
none_refused kind t None = none_begun kind t (is_attached kind t) (is_some (tunnels.asked kind t))
none_refused kind t (Some hr) = refl

none_open : (role : Role) (kind : Kind) (t : Trace Act) (open_now : Bool) → tells_silent (state_of (cond open_now tunnels.Open (or_refused (refusal role kind t) (begun kind t)))) ≡ false
none_open role kind t true = refl
none_open role kind t false = none_refused kind t (refusal role kind t)

by_silence : (role : Role) (kind : Kind) (t : Trace Act) (told : Option ℕ) → tells_silent (state_of (or_silent told (cond (is_open role kind t) tunnels.Open (or_refused (refusal role kind t) (begun kind t))))) ≡ is_some told
by_silence role kind t None = none_open role kind t (is_open role kind t)
by_silence role kind t (Some expiries) = refl

pub silent_by : (role : Role) (kind : Kind) (t : Trace Act) (state : TunnelState) → state ≡ state_of (tunnel role kind t) → tells_silent state ≡ is_silent kind t
silent_by role kind t state is = ap tells_silent is ∙ by_silence role kind t (silence kind t)

-- ---- the session stands for acts more

lengths : (gone before now : List ℕ) (t u : List ℕ) → t ≡ gone ++ before → u ≡ gone ++ now → length u + length before ≡ length t + length now
lengths gone before now t u a b = omega (arith, ap length a, ap length b, length-append gone before, length-append gone now)

pub idle_with : (role : Role) (p : Past) (gone after : Gone) (s now : Store) (u : Trace Act) → IsIdle role p gone s → Stays role p.acts u → after.main ≡ gone.main → (p.broken ≡ None → IsCalm role u) → Stands now u after → now.role ≡ s.role → now.broken ≡ s.broken
    → waiting_for Reliable now.outgoing ≡ [] → waiting_for Lossy now.outgoing ≡ [] → IsIdle role (record p { acts = u }) after now
idle_with role p gone after s now u i stays same calm st role_is broken_is reliable_waits lossy_waits =
    let is : now.role ≡ role = role_is ∙ i.role_is in
    let before = waits_by s role p.acts gone i.role_is i.stands in
    let behind = waits_by now role u after is st in
    let main : main_bytes role u ≡ gone.main ++ (now.outgoing).main = behind.main_waits ∙ ap (λ (m : List ℕ). m ++ (now.outgoing).main) same in record {
      stands = st;
      role_is = is;
      broken_is = broken_is ∙ i.broken_is;
      room = omega (arith, i.room, stays.main, stays.refusals, lengths gone.main (s.outgoing).main (now.outgoing).main (main_bytes role p.acts) (main_bytes role u) before.main_waits main);
      held_fits = λ kind. subst (λ (queue : List Held). weight queue ≤ HOLD) (sym (stays.held_are kind)) (i.held_fits kind);
      reliable_waits = reliable_waits;
      lossy_waits = lossy_waits;
      rests = λ b. (calm b).rests;
      quiet = λ b. (calm b).quiet;
    }

pub idle_on : (role : Role) (p : Past) (gone : Gone) (s now : Store) (u : Trace Act) → IsIdle role p gone s → Stays role p.acts u → ((kind : Kind) → carried kind role u ≡ carried kind role p.acts) → (p.broken ≡ None → IsCalm role u) → Stands now u gone → now.role ≡ s.role → now.broken ≡ s.broken
    → IsIdle role (record p { acts = u }) gone now
idle_on role p gone s now u i stays unwritten calm st role_is broken_is =
    let before = waits_by s role p.acts gone i.role_is i.stands in
    let behind = waits_by now role u gone (role_is ∙ i.role_is) st in
    idle_with role p gone gone s now u i stays refl calm st role_is broken_is
    (none_waits (carried Reliable role p.acts) (carried Reliable role u) gone.reliable [] (s.outgoing).reliable (now.outgoing).reliable (unwritten Reliable ∙ sym (append-nil (carried Reliable role p.acts))) refl i.reliable_waits before.reliable_waits
    behind.reliable_waits)
    (none_waits (carried Lossy role p.acts) (carried Lossy role u) gone.lossy [] (s.outgoing).lossy (now.outgoing).lossy (unwritten Lossy ∙ sym (append-nil (carried Lossy role p.acts))) refl i.lossy_waits before.lossy_waits behind.lossy_waits)

pub steps_silence : (role : Role) (kind : Kind) (expiries : ℕ) (p : Past) → steps role (Silences kind expiries) p ≡ record p { acts = answered_by role p.broken (p.acts ▷ Silences kind expiries) }
steps_silence role kind expiries p = by_case p.broken refl where
  by_case : (b : Option Fault) → p.broken ≡ b → steps role (Silences kind expiries) p ≡ record p { acts = answered_by role p.broken (p.acts ▷ Silences kind expiries) }
  by_case None whole =
      let act = Silences kind expiries in
      ap (λ (b : Option Fault). cond (is_some b) (bare act p) (grows role act p)) whole
      ∙ ap (λ (b : Option Fault). record p { acts = answered role (p.acts ▷ act); broken = b }) (sym whole)
      ∙ ap (λ (b : Option Fault). record p { acts = answered_by role b (p.acts ▷ act) }) (sym whole)
  by_case (Some fault) broken =
      let act = Silences kind expiries in
      ap (λ (b : Option Fault). cond (is_some b) (bare act p) (grows role act p)) broken ∙ ap (λ (b : Option Fault). record p { acts = answered_by role b (p.acts ▷ act) }) (sym broken)

calm_silence : (role : Role) (kind : Kind) (expiries : ℕ) (p : Past) (gone : Gone) (s : Store) → IsIdle role p gone s → is_attached kind p.acts ≡ true → p.broken ≡ None → IsCalm role (answered_by role p.broken (p.acts ▷ Silences kind expiries))
calm_silence role kind expiries p gone s i attached whole =
    let act = Silences kind expiries in
    let knows = (i.stands).knows in
    subst (λ (b : Option Fault). IsCalm role (answered_by role b (p.acts ▷ act))) (sym whole)
    (grown_calm role p.acts act (subst (λ (r : Role). EndOfActs r p.acts) i.role_is knows.lawful) (ap not (sym knows.begun), attached, tt) (i.rests whole) refl)

pub attached_of : (kind : Kind) (s : Store) (t : Trace Act) (gone : Gone) → Stands s t gone → (tunnel_of kind s).is_attached ≡ is_attached kind t
attached_of Reliable s t gone st = ap (λ (k : Known). k.is_attached) (st.knows).reliable_is
attached_of Lossy s t gone st = ap (λ (k : Known). k.is_attached) (st.knows).lossy_is

pub silenced : (role : Role) (kind : Kind) (expiries : ℕ) (p : Past) (gone : Gone) (s now : Store) → IsIdle role p gone s → (tunnel_of kind s).is_attached ≡ true → Stands now (answered_by s.role s.broken (p.acts ▷ Silences kind expiries)) gone → now.role ≡ s.role → now.broken ≡ s.broken
    → IsIdle role (steps role (Silences kind expiries) p) gone now
silenced role kind expiries p gone s now i attached st role_is broken_is =
    let act = Silences kind expiries in
    let u = answered_by role p.broken (p.acts ▷ act) in
    let standing : Stands now u gone = subst (λ (r : Role). Stands now (answered_by r p.broken (p.acts ▷ act)) gone) i.role_is (subst (λ (b : Option Fault). Stands now (answered_by s.role b (p.acts ▷ act)) gone) i.broken_is st) in
    subst (λ (q : Past). IsIdle role q gone now) (sym (steps_silence role kind expiries p))
    (idle_on role p gone s now u i (stays_on role p.acts (p.acts ▷ act) u (stays_silence role p.acts kind expiries) (stays_by role p.broken (p.acts ▷ act))) (λ made. unwritten_by made role p.broken (p.acts ▷ act) ∙ unwritten_silence role p.acts made kind expiries) (calm_silence role kind expiries p gone s i (sym (attached_of kind s p.acts gone i.stands) ∙ attached)) standing role_is broken_is)

-- the room for the answers is there
pub room_silenced : (s now : Store) (kind : Kind) (expiries : ℕ) → IsPaused s → ((t : Trace Act) (gone : Gone) → Stands s t gone → Stands now (t ▷ Silences kind expiries) gone) → now.role ≡ s.role → length (now.outgoing).main + 17 * now.owed ≤ MAIN_QUEUE
room_silenced s now kind expiries (role, p, gone, i) stands role_is =
    let act = Silences kind expiries in
    let before = waits_by s role p.acts gone i.role_is i.stands in
    let behind = stands p.acts gone i.stands in
    let after = waits_by now role (p.acts ▷ act) gone (role_is ∙ i.role_is) behind in
    omega (
      arith,
      i.room,
      (stays_silence role p.acts kind expiries).main,
      lengths gone.main (s.outgoing).main (now.outgoing).main (main_bytes role p.acts) (main_bytes role (p.acts ▷ act)) before.main_waits after.main_waits,
      ap (λ n. 17 * n) (behind.knows).owed_is,
    )

-- ---- in each case

pub where_silent : (role : Role) (kind : Kind) (expiries : ℕ) (p : Past) (gone : Gone) (s : Store) → true ≡ is_silent kind p.acts → IsIdle role p gone s → IsIdle role (cond (is_silent kind p.acts) p (steps role (Silences kind expiries) p)) gone s
where_silent role kind expiries p gone s is i = subst (λ (b : Bool). IsIdle role (cond b p (steps role (Silences kind expiries) p)) gone s) is i

pub where_loud : (role : Role) (kind : Kind) (expiries : ℕ) (p : Past) (gone : Gone) (s : Store) → false ≡ is_silent kind p.acts → IsIdle role (steps role (Silences kind expiries) p) gone s → IsIdle role (cond (is_silent kind p.acts) p (steps role (Silences kind expiries) p)) gone s
where_loud role kind expiries p gone s is i = subst (λ (b : Bool). IsIdle role (cond b p (steps role (Silences kind expiries) p)) gone s) is i

if_closed : (role : Role) (kind : Kind) (expiries : ℕ) (p : Past) (gone : Gone) (s : Store) (silent : Bool) → IsIdle role (cond silent p (steps role (Silences kind expiries) p)) gone s → IsIdle role (if_steps role (cond silent None (Some (Silences kind expiries))) p) gone s
if_closed role kind expiries p gone s true i = i
if_closed role kind expiries p gone s false i = i

pub where_closed : (role : Role) (kind : Kind) (expiries : ℕ) (state : LinkState) (p : Past) (gone : Gone) (s : Store) → state ≡ Closed expiries → IsIdle role (cond (is_silent kind p.acts) p (steps role (Silences kind expiries) p)) gone s → IsIdle role (if_steps role (closed_act kind (is_silent kind p.acts) state) p) gone s
where_closed role kind expiries state p gone s is i =
    subst (λ (l : LinkState). IsIdle role (if_steps role (closed_act kind (is_silent kind p.acts) l) p) gone s) (sym is) (if_closed role kind expiries p gone s (is_silent kind p.acts) i)

-- An end that closes a channel stands for one act more.
use Rattle.std.proofs.Common.{◌≡◌, ◌==◌, ℕ, ◌+◌, ◌≤◌, Bool, true, false, cond, not, nat_eq, List, [], ◌∷◌, ◌++◌, length, length-append, Option, Some, None, is_some, refl, sym, ap, subst, ◌∙◌, arith, eqb}
use Rattle.std.specs.Cmp.{nat_eq_equiv}
use Rattle.std.specs.Map.{keys_of, lookup, set_value}
use Rattle.std.specs.Option.{option_or, unwrap_or}
use Rattle.std.proofs.lemmas.Bool.{ltb-false}
use Rattle.std.proofs.lemmas.Map.{keys-set_value, lookup-set_value}
use Rattle.mt_base.specs.declared.kinds.Kind.{Kind}
use Rattle.mt_base.specs.declared.kinds.Kind.TheVariants.{Reliable, Lossy}
use Rattle.mt_base.specs.declared.kinds.Role.{Role}
use Rattle.mt_base.specs.declared.kinds.Role.TheVariants.{Server, Client}
use Rattle.mt_base.specs.Trace.{Trace, ◌▷◌}
use Rattle.dvc_pdus.specs.Value.{Close, spelled}
use Rattle.dvc_channels.specs.Acts.{Ended}
use Rattle.dvc_channels.specs.Acts as change
use Rattle.dvc_channels.specs.Table as channels
use Rattle.dvc_channels.specs.declared.answers.ChannelState.{ChannelState}
use Rattle.dvc_channels.specs.declared.answers.ChannelState.TheVariants as state
use Rattle.hold_queue.specs.Held as hold
use Rattle.soft_sync.specs.Words.{Words, told}
use Rattle.soft_sync.specs.declared.kinds.Path.{Path}
use Rattle.soft_sync.specs.declared.kinds.Path.TheVariants.{Main, Tunnel}
use Rattle.mt_endpoint.specs.Acts.{Act, Closes, Carried, Spoken}
use Rattle.mt_endpoint.specs.Channels.{channel, is_open, is_open_in, table}
use Rattle.mt_endpoint.specs.Holding.{Held, held, is_of, without}
use Rattle.mt_endpoint.specs.Moving.{outward}
use Rattle.mt_endpoint.specs.Tunnels.{refusal_in, silence}
use Rattle.mt_endpoint.specs.World.{IsLoudForClose}
use Rattle.mt_endpoint.specs.Writing.{closing}
use Rattle.end_calls.specs.declared.fault.Fault.{Fault}
use Rattle.end_calls.specs.declared.refusal.CloseRefusal.{CloseRefusal}
use Rattle.end_calls.specs.declared.refusal.CloseRefusal.TheVariants as close
use Rattle.end_calls.specs.Refusing.{Loads, because, frame_size, full_for_close, link_limit, main_limit, passes, silence_for_close, tunnel_size, when, why_not_closed, why_not_in}
use Rattle.end_session.specs.Closing.{HasRoom, before_closing, closing_path, full_for_size, written_on}
use Rattle.end_session.specs.Outgoing.{Outgoing, waiting_for}
use Rattle.end_session.specs.Standing.{AreKept, AreTold, Gone, IsKeptAs, Stands, Waits}
use Rattle.end_session.specs.Store.{Store}
use Rattle.end_session.proofs.ChannelsOpened.{limit_within}
use Rattle.end_session.proofs.Naming.{none_first, none_later, not_when}
use Rattle.end_session.proofs.Putting.{drew, spoke}
use Rattle.end_session.proofs.Still.{IsStill, TellsNothing, knows_still}

-- ---- what it says of tunnels and words

no_refusal : (role : Role) (kind : Kind) (t : Trace Act) (id : ℕ) → refusal_in role kind t (Closes id) ≡ None
no_refusal Server kind t id = refl
no_refusal Client kind t id = refl

tells : (role : Role) (kind : Kind) (t : Trace Act) (id : ℕ) → TellsNothing role kind t (Closes id)
tells role kind t id = record { no_request = refl; no_link = refl; no_verdict = refl; no_answer = refl; no_refusal = no_refusal role kind t id; no_silence = refl }

still : (role : Role) (t : Trace Act) (id : ℕ) → IsStill role t (Closes id)
still role t id = record {
  reliable = tells role _ t id;
  lossy = tells role _ t id;
  says = record { none_made = refl; none_read = refl; no_answer_read = refl; no_answer_made = refl; no_version = refl; no_capabilities = refl };
  none_issued = refl;
}

-- ---- what is held of other channels

pub kept_without : (id : ℕ) (held : List Held) (pdus : List hold.Pdu) → AreKept held pdus → AreKept (without id held) (hold.without id pdus)
kept_without id [] [] k = tt
kept_without id [] (p ∷ pdus) k = absurd k
kept_without id (h ∷ held) [] k = absurd k
kept_without id (h ∷ held) (p ∷ pdus) k =
    subst (λ o. AreKept (cond (is_of id o) (without id held) (h ∷ without id held)) (cond (p.id == id) (hold.without id pdus) (p ∷ hold.without id pdus))) (sym k.0.0)
    (by_test (p.id == id) k.0 (kept_without id held pdus k.1)) where
      by_test : (b : Bool) → IsKeptAs h p → AreKept (without id held) (hold.without id pdus) → AreKept (cond b (without id held) (h ∷ without id held)) (cond b (hold.without id pdus) (p ∷ hold.without id pdus))
      by_test true is deeper = deeper
      by_test false is deeper = (is, deeper)

-- ---- the channels that are told of

there : (o : Option Bool) → unwrap_or o false ≡ true → is_some o ≡ true
there None h = absurd (let never : false ≡ true = h in cc)
there (Some b) h = refl

-- an open channel was told of
pub is_told : (role : Role) (t : Trace Act) (id : ℕ) (es : List (ℕ × Bool)) → AreTold role t es → is_open role id t ≡ true → is_some (lookup (nat_eq id) es) ≡ true
is_told role t id es a open_is = there (lookup (nat_eq id) es) (a.open_are id ∙ open_is)

closed_told : (role : Role) (t : Trace Act) (id : ℕ) (es : List (ℕ × Bool)) → AreTold role t es → is_open role id t ≡ true → AreTold role (t ▷ Closes id) (told id false es)
closed_told role t id es a open_is =
    let some = is_told role t id es a open_is in
    let is : told id false es ≡ set_value (nat_eq id) es false = ap (λ b. cond b (set_value (nat_eq id) es false) (es ++ (id, false) ∷ [])) some in record {
      ids_are = ap keys_of is ∙ keys-set_value (nat_eq id) es false ∙ a.ids_are;
      open_are = λ x.
          ap (λ l. unwrap_or (lookup (nat_eq x) l) false) is ∙ ap (λ o. unwrap_or o false) (lookup-set_value nat_eq_equiv (nat_eq id) (nat_eq_equiv.congr id) x false es some)
          ∙ by_test x (eqb id x);
    }
  where
    by_test : (x : ℕ) (b : Bool) → unwrap_or (cond b (Some false) (lookup (nat_eq x) es)) false ≡ is_open_in (cond b state.Closed (change.state (table role t) x))
    by_test x true = refl
    by_test x false = a.open_are x

-- ---- a channel may be closed

pub record MayClose (role : Role) (t : Trace Act) (id : ℕ) : Type 0 where
  pub open_is : channel role id t ≡ state.Open
  pub loud : IsLoudForClose t (outward id t)

open_one : (s : ChannelState) → why_not_in close.UnknownChannel close.NotOpen close.ChannelClosed s ≡ None → s ≡ state.Open
open_one state.Unknown h = absurd (let never : Some close.UnknownChannel ≡ None = h in cc)
open_one state.Asked h = absurd (let never : Some close.NotOpen ≡ None = h in cc)
open_one state.Open h = refl
open_one state.Refused h = absurd (let never : Some close.NotOpen ≡ None = h in cc)
open_one state.Closed h = absurd (let never : Some close.ChannelClosed ≡ None = h in cc)

not_silent : (o : Option ℕ) → because close.TunnelSilent o ≡ None → is_some o ≡ false
not_silent None h = refl
not_silent (Some n) h = absurd (let never : Some (close.TunnelSilent n) ≡ None = h in cc)

loud_on : (t : Trace Act) (path : Path) → because close.TunnelSilent (silence_for_close t path) ≡ None → IsLoudForClose t path
loud_on t Main h = tt
loud_on t (Tunnel Reliable) h = not_silent (silence Reliable t) h
loud_on t (Tunnel Lossy) h = tt

pub may_close : (broken : Option Fault) (role : Role) (t : Trace Act) (id : ℕ) → before_closing broken role t id ≡ None → MayClose role t id
may_close broken role t id h =
    let a = because close.Broken broken in
    let b = why_not_in close.UnknownChannel close.NotOpen close.ChannelClosed (channel role id t) in
    let c = because close.TunnelSilent (silence_for_close t (outward id t)) in record {
      open_is = open_one (channel role id t) (none_later a b (none_first (option_or a b) c h));
      loud = loud_on t (outward id t) (none_later (option_or a b) c h);
    }

-- ---- the act

closed_waits : (role : Role) (o : Outgoing) (t : Trace Act) (gone : Gone) (id : ℕ) (path : Path) → outward id t ≡ path → IsLoudForClose t path → Waits role o t gone
    → Waits role (written_on (closing_path path) (spelled (Close id)) o) (t ▷ Closes id) gone
closed_waits role o t gone id Main is loud w = spoke role o t gone (Closes id) (Spoken (Close id)) (ap (λ p. closing p id ∷ []) is) w
closed_waits role o t gone id (Tunnel Reliable) is loud w = drew role o t gone (Closes id) Reliable (Carried (spelled (Close id)) (Close id)) (ap (λ p. closing p id ∷ []) is) loud w
closed_waits role o t gone id (Tunnel Lossy) is loud w = spoke role o t gone (Closes id) (Spoken (Close id)) (ap (λ p. closing p id ∷ []) is) w

pub closes : (s : Store) (t : Trace Act) (gone : Gone) (id : ℕ) (c : channels.Table) (w : Words) (reliable lossy : List hold.Pdu) (o : Outgoing) → Stands s t gone → MayClose s.role t id
    → channels.Stands c (table s.role t ▷ Ended id) → w ≡ record s.paths { channels = told id false (s.paths).channels } → reliable ≡ hold.without id s.held_reliable → lossy ≡ hold.without id s.held_lossy
    → o ≡ written_on (closing_path (outward id t)) (spelled (Close id)) s.outgoing
    → Stands (record s { channels = c; paths = w; held_reliable = reliable; held_lossy = lossy; outgoing = o }) (t ▷ Closes id) gone
closes s t gone id c w reliable lossy o st m stands w_is r l written =
    let k = st.knows in
    let open_is : is_open s.role id t ≡ true = ap is_open_in m.open_is in
    let base : Stands (record s { channels = c; paths = record s.paths { channels = told id false (s.paths).channels }; held_reliable = reliable; held_lossy = lossy; outgoing = o }) (t ▷ Closes id) gone = record {
      knows =
          knows_still s.role s t (Closes id) c (told id false (s.paths).channels) reliable lossy o k (still s.role t id)
          (sym (ap not k.begun), ((open_is, m.loud), tt), k.lawful) stands (closed_told s.role t id (s.paths).channels (k.words_are).channels_are open_is)
          (subst (λ x. AreKept (without id (held s.role Reliable t)) x) (sym r) (kept_without id (held s.role Reliable t) s.held_reliable k.reliable_held))
          (subst (λ x. AreKept (without id (held s.role Lossy t)) x) (sym l) (kept_without id (held s.role Lossy t) s.held_lossy k.lossy_held));
      waits = subst (λ x. Waits s.role x (t ▷ Closes id) gone) (sym written) (closed_waits s.role s.outgoing t gone id (outward id t) refl m.loud st.waits);
    } in
    subst (λ x. Stands (record s { channels = c; paths = x; held_reliable = reliable; held_lossy = lossy; outgoing = o }) (t ▷ Closes id) gone) (sym w_is) base

-- ---- why it is refused

abbrev steps : Option Fault → Option CloseRefusal → Option ℕ → Option CloseRefusal
steps broken state silent = option_or (option_or (because close.Broken broken) state) (because close.TunnelSilent silent)

pub by_state : (broken : Option Fault) (role : Role) (t : Trace Act) (id : ℕ) (why : CloseRefusal) → broken ≡ None → why_not_in close.UnknownChannel close.NotOpen close.ChannelClosed (channel role id t) ≡ Some why
    → Some why ≡ before_closing broken role t id
by_state broken role t id why whole is =
    let silent = silence_for_close t (outward id t) in
    sym (ap (λ b. steps b (why_not_in close.UnknownChannel close.NotOpen close.ChannelClosed (channel role id t)) silent) whole ∙ ap (λ w. steps None w silent) is)

pub by_silence : (broken : Option Fault) (role : Role) (t : Trace Act) (id : ℕ) (o : Option ℕ) → broken ≡ None → why_not_in close.UnknownChannel close.NotOpen close.ChannelClosed (channel role id t) ≡ None
    → o ≡ silence_for_close t (outward id t) → because close.TunnelSilent o ≡ before_closing broken role t id
by_silence broken role t id o whole is silent_is =
    let silent = silence_for_close t (outward id t) in
    ap (because close.TunnelSilent) silent_is ∙ sym (ap (λ b. steps b (why_not_in close.UnknownChannel close.NotOpen close.ChannelClosed (channel role id t)) silent) whole ∙ ap (λ w. steps None w silent) is)

-- the tunnel that a close goes through is the reliable one
pub silent_main : (t : Trace Act) (path : Path) → Main ≡ closing_path path → None ≡ silence_for_close t path
silent_main t Main e = refl
silent_main t (Tunnel Reliable) e = absurd (let never : Main ≡ Tunnel Reliable = e in cc)
silent_main t (Tunnel Lossy) e = refl

pub silent_tunnel : (t : Trace Act) (path : Path) (kind : Kind) → Tunnel kind ≡ closing_path path → silence Reliable t ≡ silence_for_close t path
silent_tunnel t Main kind e = absurd (let never : Tunnel kind ≡ Main = e in cc)
silent_tunnel t (Tunnel Reliable) kind e = refl
silent_tunnel t (Tunnel Lossy) kind e = absurd (let never : Tunnel kind ≡ Main = e in cc)

-- the room of the close, by the count of its bytes
main_size : (id : ℕ) → frame_size (Spoken (Close id)) ≡ length (spelled (Close id)) + 3
main_size id = omega (arith, length-append (spelled (Close id)) [])

link_size : (id : ℕ) → tunnel_size (Close id ∷ []) ≡ length (spelled (Close id)) + 4
link_size id = omega (arith, length-append (spelled (Close id) ++ []) [], length-append (spelled (Close id)) [])

room_is : (t : Trace Act) (loads : Loads) (path : Path) (id : ℕ) → full_for_close t loads path id ≡ full_for_size t loads (closing_path path) (length (spelled (Close id)))
room_is t loads Main id = ap (λ n. when (passes loads.unsent n (main_limit t)) (close.QueueFull loads.unsent (main_limit t))) (main_size id)
room_is t loads (Tunnel Reliable) id = ap (λ n. when (passes loads.reliable n link_limit) (close.QueueFull loads.reliable link_limit)) (link_size id)
room_is t loads (Tunnel Lossy) id = ap (λ n. when (passes loads.unsent n (main_limit t)) (close.QueueFull loads.unsent (main_limit t))) (main_size id)

pub close_by_room : (broken : Option Fault) (role : Role) (t : Trace Act) (loads : Loads) (id : ℕ) (path : Path) (size : ℕ) → before_closing broken role t id ≡ None → path ≡ closing_path (outward id t) → size ≡ length (spelled (Close id))
    → why_not_closed broken role t loads id ≡ full_for_size t loads path size
close_by_room broken role t loads id path size none path_is size_is =
    ap (λ a. option_or a (full_for_close t loads (outward id t) id)) none ∙ room_is t loads (outward id t) id
    ∙ ap (λ p. full_for_size t loads p (length (spelled (Close id)))) (sym path_is) ∙ ap (λ n. full_for_size t loads path n) (sym size_is)

-- the path of a close is no lossy tunnel
never_lossy : (path : Path) → Tunnel Lossy ≡ closing_path path → ⊥
never_lossy Main e = let never : Tunnel Lossy ≡ Main = e in cc
never_lossy (Tunnel Reliable) e = let never : Tunnel Lossy ≡ Tunnel Reliable = e in cc
never_lossy (Tunnel Lossy) e = let never : Tunnel Lossy ≡ Main = e in cc

pub has_room : (t : Trace Act) (loads : Loads) (path out : Path) (o : Outgoing) (size count : ℕ) → full_for_size t loads path size ≡ None → path ≡ closing_path out → size ≡ count → count ≤ 1600
    → loads.unsent ≡ length o.main → waiting_for Reliable o ≡ [] → HasRoom path count o
has_room t loads Main out o size count none is same few unsent waits =
    let fits = ltb-false (main_limit t) (loads.unsent + (size + 3)) (not_when (passes loads.unsent (size + 3) (main_limit t)) (close.QueueFull loads.unsent (main_limit t)) none) in
    omega (arith, fits, same, unsent, limit_within t)
has_room t loads (Tunnel Reliable) out o size count none is same few unsent waits = omega (arith, few, ap (λ (b : List ℕ). length b) waits)
has_room t loads (Tunnel Lossy) out o size count none is same few unsent waits = absurd (never_lossy out is)

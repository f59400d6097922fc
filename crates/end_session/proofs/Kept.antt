-- Channel PDUs that are pulled from the links are held.
use Rattle.std.proofs.Common.{◌≡◌, ℕ, ◌+◌, ◌<◌, ◌≤◌, All, Bool, true, false, cond, not, ◌&&◌, ◌||◌, nat_le, List, [], ◌∷◌, ◌++◌, length, Option, Some, None, IfSome, IfNone, Ok, refl, sym, ap, subst, ◌∙◌, arith}
use Rattle.std.proofs.lemmas.Bool.{le-leb, lt-leb}
use Rattle.mt_base.specs.Ends.{other}
use Rattle.mt_base.specs.declared.kinds.Kind.{Kind}
use Rattle.mt_base.specs.declared.kinds.Kind.TheVariants.{Reliable, Lossy}
use Rattle.mt_base.specs.declared.kinds.Role.{Role}
use Rattle.mt_base.specs.declared.kinds.Role.TheVariants.{Server, Client}
use Rattle.mt_base.specs.Trace.{Trace, ◌▷◌}
use Rattle.dvc_channels.specs.Acts as change
use Rattle.dvc_channels.specs.Table as channels
use Rattle.dvc_channels.specs.declared.answers.ChannelRefusal.TheVariants as refusal
use Rattle.dvc_channels.specs.declared.answers.ChannelState.{ChannelState}
use Rattle.dvc_pdus.specs.Reading.{reading}
use Rattle.dvc_pdus.specs.Value.{Pdu}
use Rattle.hold_queue.specs.Held as hold
use Rattle.soft_sync.specs.Words as words
use Rattle.mt_endpoint.specs.Acts.{Act, Draws, Carried}
use Rattle.mt_endpoint.specs.Alone.{EndOfActs}
use Rattle.mt_endpoint.specs.Channels.{table}
use Rattle.mt_endpoint.specs.Faults.{Why, Channel, Unexpected, carried_fault, is_taken_in, tunnel_fault, unknown_fault, when}
use Rattle.mt_endpoint.specs.Holding.{Held, channel_in, channel_of, fits, held, is_for_open, is_held, is_through, may_hold, weight}
use Rattle.mt_endpoint.specs.Moving.{inward, read}
use Rattle.mt_endpoint.specs.Said.{Said, Capable, Creates, Created, Brings, Ends, Moves, Moved, lone, said}
use Rattle.mt_endpoint.specs.Tunnels.{is_open}
use Rattle.mt_endpoint.specs.World.{IsJudged, is_begun}
use Rattle.end_calls.specs.Streams.{told_place}
use Rattle.end_session.specs.Behind.{IsAhead}
use Rattle.end_session.specs.Drawing.{IsHeldBeside, drawn_fault, held_of}
use Rattle.end_session.specs.Known.{is_open_in}
use Rattle.end_session.specs.Standing.{AreKept, Gone, IsKeptAs, Stands}
use Rattle.end_session.specs.Store.{Store}
use Rattle.end_session.proofs.DataHeard.{inward_is}
use Rattle.end_session.proofs.Drawn.{no_fault, still, unmoved}
use Rattle.end_session.proofs.KnownOf.{open_is}
use Rattle.end_session.proofs.OneTunnel.{told_same}
use Rattle.end_session.proofs.Putting.{quiet}
use Rattle.end_session.proofs.Reread.{read_alike}
use Rattle.end_session.proofs.Still.{knows_still}

-- ---- what is held

-- what is held weighs the same
pub weights_same : (queue : List Held) (pdus : List hold.Pdu) → AreKept queue pdus → weight queue ≡ hold.weight pdus
weights_same [] [] k = refl
weights_same [] (p ∷ pdus) k = absurd k
weights_same (h ∷ queue) [] k = absurd k
weights_same (h ∷ queue) (p ∷ pdus) k =
    ap (λ (bytes : List ℕ). 16 + length bytes + weight queue) (sym k.0.2) ∙ ap (λ n. 16 + length p.bytes + n) (weights_same queue pdus k.1)

kept_more : (queue : List Held) (pdus : List hold.Pdu) (h : Held) (p : hold.Pdu) → AreKept queue pdus → IsKeptAs h p → AreKept (queue ++ h ∷ []) (pdus ++ p ∷ [])
kept_more [] [] h p k new = (new, tt)
kept_more [] (q ∷ pdus) h p k new = absurd k
kept_more (g ∷ queue) [] h p k new = absurd k
kept_more (g ∷ queue) (q ∷ pdus) h p k new = (k.0, kept_more queue pdus h p k.1 new)

judged : (role : Role) (bytes : List ℕ) (pdu : Pdu) → IsJudged role (Carried bytes pdu)
judged Server bytes pdu = tt
judged Client bytes pdu = tt

stands_where : (role : Role) (kind : Kind) (t : Trace Act) (place : ℕ) (bytes : List ℕ) (pdu : Pdu) → is_begun t ≡ true → EndOfActs role t → drawn_fault role kind t (Carried bytes pdu) ≡ None
    → EndOfActs role (t ▷ Draws kind place (Carried bytes pdu))
stands_where role kind t place bytes pdu begun lawful fine = (sym (ap not begun), (judged role bytes pdu, no_fault role kind t place (Carried bytes pdu) fine), lawful)

-- a PDU that is not held changes nothing
pub same_held : (role : Role) (k kind : Kind) (t : Trace Act) (place : ℕ) (bytes : List ℕ) (pdu : Pdu) → is_held role kind t bytes pdu (held role kind t) ≡ false → held role k (t ▷ Draws kind place (Carried bytes pdu)) ≡ held role k t
same_held role Reliable Reliable t place bytes pdu e = ap (λ b. cond b (held role Reliable t ++ record { at = place; bytes = bytes; pdu = pdu } ∷ []) (held role Reliable t)) e
same_held role Reliable Lossy t place bytes pdu e = refl
same_held role Lossy Reliable t place bytes pdu e = refl
same_held role Lossy Lossy t place bytes pdu e = ap (λ b. cond b (held role Lossy t ++ record { at = place; bytes = bytes; pdu = pdu } ∷ []) (held role Lossy t)) e

pub not_kept : (s : Store) (t : Trace Act) (gone : Gone) (kind : Kind) (place : ℕ) (bytes : List ℕ) (pdu : Pdu) → drawn_fault s.role kind t (Carried bytes pdu) ≡ None
    → is_held s.role kind t bytes pdu (held s.role kind t) ≡ false → Stands s t gone → Stands s (t ▷ Draws kind place (Carried bytes pdu)) gone
not_kept s t gone kind place bytes pdu fine none st =
    let k = st.knows in
    unmoved s t gone (Draws kind place (Carried bytes pdu)) st (stands_where s.role kind t place bytes pdu k.begun k.lawful fine) (still s.role kind t place (Carried bytes pdu) (λ k. refl)) refl refl
    (λ k. same_held s.role k kind t place bytes pdu none)

-- one that is held stands behind the others
pub kept_reliable : (s : Store) (t : Trace Act) (gone : Gone) (kind : Kind) (place at id : ℕ) (bytes : List ℕ) (pdu : Pdu) (queue : List hold.Pdu) → kind ≡ Reliable → drawn_fault s.role kind t (Carried bytes pdu) ≡ None
    → is_held s.role kind t bytes pdu (held s.role kind t) ≡ true → channel_of pdu ≡ Some id → at ≡ told_place place → queue ≡ s.held_reliable ++ hold.pdu_of id at bytes ∷ []
    → All (λ b. b < 256) bytes → reading (other s.role) bytes ≡ Ok pdu → Stands s t gone → Stands (record s { held_reliable = queue }) (t ▷ Draws kind place (Carried bytes pdu)) gone
kept_reliable s t gone Lossy place at id bytes pdu queue e fine is_kept of where_at new good read_is st = absurd (let never : Lossy ≡ Reliable = e in cc)
kept_reliable s t gone Reliable place at id bytes pdu queue e fine is_kept of where_at new good read_is st =
    let k = st.knows in
    let act = Draws Reliable place (Carried bytes pdu) in
    let h : Held = record { at = place; bytes = bytes; pdu = pdu } in
    let more = ap (λ b. cond b (held s.role Reliable t ++ h ∷ []) (held s.role Reliable t)) is_kept in record {
      knows =
          knows_still s.role s t act s.channels (s.paths).channels queue s.held_lossy s.outgoing k (still s.role Reliable t place (Carried bytes pdu) (λ k. refl))
          (stands_where s.role Reliable t place bytes pdu k.begun k.lawful fine) k.channels_stand (told_same s.role t (t ▷ act) (s.paths).channels refl (k.words_are).channels_are)
          (subst (λ x. AreKept x queue) (sym more)
          (subst (λ q. AreKept (held s.role Reliable t ++ h ∷ []) q) (sym new) (kept_more (held s.role Reliable t) s.held_reliable h (hold.pdu_of id at bytes) k.reliable_held (of, where_at, refl, λ from. read_alike (other s.role) from bytes pdu id good read_is of))))
          k.lossy_held;
      waits = quiet s.role s.outgoing t gone act refl st.waits;
    }

pub kept_lossy : (s : Store) (t : Trace Act) (gone : Gone) (kind : Kind) (place at id : ℕ) (bytes : List ℕ) (pdu : Pdu) (queue : List hold.Pdu) → kind ≡ Lossy → drawn_fault s.role kind t (Carried bytes pdu) ≡ None
    → is_held s.role kind t bytes pdu (held s.role kind t) ≡ true → channel_of pdu ≡ Some id → at ≡ told_place place → queue ≡ s.held_lossy ++ hold.pdu_of id at bytes ∷ []
    → All (λ b. b < 256) bytes → reading (other s.role) bytes ≡ Ok pdu → Stands s t gone → Stands (record s { held_lossy = queue }) (t ▷ Draws kind place (Carried bytes pdu)) gone
kept_lossy s t gone Reliable place at id bytes pdu queue e fine is_kept of where_at new good read_is st = absurd (let never : Reliable ≡ Lossy = e in cc)
kept_lossy s t gone Lossy place at id bytes pdu queue e fine is_kept of where_at new good read_is st =
    let k = st.knows in
    let act = Draws Lossy place (Carried bytes pdu) in
    let h : Held = record { at = place; bytes = bytes; pdu = pdu } in
    let more = ap (λ b. cond b (held s.role Lossy t ++ h ∷ []) (held s.role Lossy t)) is_kept in record {
      knows =
          knows_still s.role s t act s.channels (s.paths).channels s.held_reliable queue s.outgoing k (still s.role Lossy t place (Carried bytes pdu) (λ k. refl))
          (stands_where s.role Lossy t place bytes pdu k.begun k.lawful fine) k.channels_stand (told_same s.role t (t ▷ act) (s.paths).channels refl (k.words_are).channels_are)
          k.reliable_held
          (subst (λ x. AreKept x queue) (sym more)
          (subst (λ q. AreKept (held s.role Lossy t ++ h ∷ []) q) (sym new) (kept_more (held s.role Lossy t) s.held_lossy h (hold.pdu_of id at bytes) k.lossy_held (of, where_at, refl, λ from. read_alike (other s.role) from bytes pdu id good read_is of))));
      waits = quiet s.role s.outgoing t gone act refl st.waits;
    }

-- ---- why it doesn't come there

abbrev by_channel : Role → Trace Act → Option ℕ → Option Why
by_channel role t None = Some Unexpected
by_channel role t (Some id) = unknown_fault role t id

carried_is : (role : Role) (t : Trace Act) (x : Said) → carried_fault role t x ≡ by_channel role t (channel_in x)
carried_is role t (Capable version) = refl
carried_is role t (Creates id name) = refl
carried_is role t (Created id status) = refl
carried_is role t (Brings id) = refl
carried_is role t (Ends id) = refl
carried_is role t (Moves lists) = refl
carried_is role t (Moved kinds) = refl

fault_is : (role : Role) (t : Trace Act) (bytes : List ℕ) (pdu : Pdu) → tunnel_fault role t (Carried bytes pdu) ≡ cond (is_open role Reliable t) (by_channel role t (channel_of pdu)) (Some Unexpected)
fault_is Server t bytes pdu = ap (λ x. cond (is_open Server Reliable t) x (Some Unexpected)) (carried_is Server t (said pdu))
fault_is Client t bytes pdu = ap (λ x. cond (is_open Client Reliable t) x (Some Unexpected)) (carried_is Client t (said pdu))

open_same : (s : Store) (t : Trace Act) (gone : Gone) → Stands s t gone → is_open s.role Reliable t ≡ is_open_in s.role s.reliable
open_same s t gone st = sym (open_is s.role Reliable t) ∙ ap (is_open_in s.role) (sym (st.knows).reliable_is)

-- the tunnel isn't open
pub unopened : (s : Store) (t : Trace Act) (gone : Gone) (kind : Kind) (bytes : List ℕ) (pdu : Pdu) → kind ≡ Reliable → is_open_in s.role s.reliable ≡ false → Stands s t gone
    → drawn_fault s.role kind t (Carried bytes pdu) ≡ Some Unexpected
unopened s t gone Lossy bytes pdu e closed st = absurd (let never : Lossy ≡ Reliable = e in cc)
unopened s t gone Reliable bytes pdu e closed st =
    fault_is s.role t bytes pdu ∙ ap (λ b. cond b (by_channel s.role t (channel_of pdu)) (Some Unexpected)) (open_same s t gone st ∙ closed)

-- it is neither data nor a close
pub of_none : (s : Store) (t : Trace Act) (gone : Gone) (kind : Kind) (bytes : List ℕ) (pdu : Pdu) → kind ≡ Reliable → is_open_in s.role s.reliable ≡ true → channel_of pdu ≡ None → Stands s t gone
    → drawn_fault s.role kind t (Carried bytes pdu) ≡ Some Unexpected
of_none s t gone Lossy bytes pdu e opened none st = absurd (let never : Lossy ≡ Reliable = e in cc)
of_none s t gone Reliable bytes pdu e opened none st =
    fault_is s.role t bytes pdu ∙ ap (λ b. cond b (by_channel s.role t (channel_of pdu)) (Some Unexpected)) (open_same s t gone st ∙ opened) ∙ ap (by_channel s.role t) none

-- its channel takes data, or doesn't
pub of_channel : (s : Store) (t : Trace Act) (gone : Gone) (kind : Kind) (bytes : List ℕ) (pdu : Pdu) (id : ℕ) (state : ChannelState) (taken : Bool) → kind ≡ Reliable → is_open_in s.role s.reliable ≡ true → channel_of pdu ≡ Some id
    → ((u : Trace change.Act) → channels.Stands s.channels u → state ≡ change.state u id) → is_taken_in state ≡ taken → Stands s t gone
    → drawn_fault s.role kind t (Carried bytes pdu) ≡ when (not taken) (Channel (refusal.UnknownChannel id))
of_channel s t gone Lossy bytes pdu id state taken e opened of is takes st = absurd (let never : Lossy ≡ Reliable = e in cc)
of_channel s t gone Reliable bytes pdu id state taken e opened of is takes st =
    fault_is s.role t bytes pdu ∙ ap (λ b. cond b (by_channel s.role t (channel_of pdu)) (Some Unexpected)) (open_same s t gone st ∙ opened) ∙ ap (by_channel s.role t) of
    ∙ ap (λ x. when (not (is_taken_in x)) (Channel (refusal.UnknownChannel id))) (sym (is (table s.role t) (st.knows).channels_stand)) ∙ ap (λ b. when (not b) (Channel (refusal.UnknownChannel id))) takes

-- ---- whether it is held

pub held_where_open : (role : Role) (t : Trace Act) (kind : Kind) (bytes : List ℕ) (pdu : Pdu) (queue : List Held) (of : Option ℕ) (b : Bool) → kind ≡ Reliable → of ≡ channel_of pdu → is_for_open role t of ≡ b → is_held role kind t bytes pdu queue ≡ b
held_where_open role t Lossy bytes pdu queue of b e is opened = absurd (let never : Lossy ≡ Reliable = e in cc)
held_where_open role t Reliable bytes pdu queue of b e is opened = ap (is_for_open role t) (sym is) ∙ opened

by_lone : (role : Role) (t : Trace Act) (bytes : List ℕ) (queue : List Held) (of : Option ℕ) (ids : List ℕ) → IfSome of (λ id. ids ≡ id ∷ []) → IfNone of (ids ≡ []) → is_for_open role t of ≡ false → may_hold role t ids bytes queue ≡ false
by_lone role t bytes queue None ids some none closed = ap (λ ids. may_hold role t ids bytes queue) none
by_lone role t bytes queue (Some id) ids some none closed =
    ap (λ ids. may_hold role t ids bytes queue) some ∙ ap (λ b. b && (is_through Lossy (inward id t) || fits bytes queue)) closed

pub not_lone : (role : Role) (t : Trace Act) (kind : Kind) (bytes : List ℕ) (pdu : Pdu) (queue : List Held) (of : Option ℕ) → kind ≡ Lossy → IfSome of (λ id. lone pdu ≡ id ∷ []) → IfNone of (lone pdu ≡ []) → is_for_open role t of ≡ false
    → is_held role kind t bytes pdu queue ≡ false
not_lone role t Reliable bytes pdu queue of e some none closed = absurd (let never : Reliable ≡ Lossy = e in cc)
not_lone role t Lossy bytes pdu queue of e some none closed = by_lone role t bytes queue of (lone pdu) some none closed

held_lone : (s : Store) (t : Trace Act) (gone : Gone) (kind : Kind) (size id : ℕ) (bytes : List ℕ) (pdu : Pdu) → kind ≡ Lossy → lone pdu ≡ id ∷ [] → is_for_open s.role t (Some id) ≡ true → is_through kind (words.inward id s.paths) ≡ false → length bytes ≡ size
    → Stands s t gone → is_held s.role kind t bytes pdu (held s.role kind t) ≡ nat_le (16 + size + hold.weight s.held_lossy) 1048576
held_lone s t gone Reliable size id bytes pdu e of opened ahead len st = absurd (let never : Reliable ≡ Lossy = e in cc)
held_lone s t gone Lossy size id bytes pdu e of opened ahead len st =
    ap (λ ids. may_hold s.role t ids bytes (held s.role Lossy t)) of ∙ ap (λ b. b && (is_through Lossy (inward id t) || fits bytes (held s.role Lossy t))) opened
    ∙ ap (λ path. is_through Lossy path || fits bytes (held s.role Lossy t)) (sym (inward_is s t gone id st))
    ∙ ap (λ b. b || fits bytes (held s.role Lossy t)) ahead
    ∙ ap (λ n. nat_le (16 + n + weight (held s.role Lossy t)) 1048576) len
    ∙ ap (λ n. nat_le (16 + size + n) 1048576) (weights_same (held s.role Lossy t) s.held_lossy (st.knows).lossy_held)

-- by what the call looked at
pub if_room : (s : Store) (t : Trace Act) (gone : Gone) (kind : Kind) (size id : ℕ) (bytes : List ℕ) (pdu : Pdu) (of : Option ℕ) → kind ≡ Lossy → of ≡ Some id → IfSome of (λ id. lone pdu ≡ id ∷ []) → IfSome of (λ id. channel_of pdu ≡ Some id)
    → is_for_open s.role t of ≡ true → IsAhead kind pdu s → length bytes ≡ size → Stands s t gone → is_held s.role kind t bytes pdu (held s.role kind t) ≡ nat_le (16 + size + hold.weight s.held_lossy) 1048576
if_room s t gone kind size id bytes pdu of e found alone channel opened ahead len st =
    let at_one : lone pdu ≡ id ∷ [] = subst (λ o. IfSome o (λ id. lone pdu ≡ id ∷ [])) found alone in
    let of_one : channel_of pdu ≡ Some id = subst (λ o. IfSome o (λ id. channel_of pdu ≡ Some id)) found channel in
    held_lone s t gone kind size id bytes pdu e at_one (ap (is_for_open s.role t) (sym found) ∙ opened) (ahead id of_one) len st

-- the room that is left is enough for it, or isn't
pub fits_in : (u s : Store) (size room : ℕ) → u ≡ s → 16 + size ≤ room → room + hold.weight u.held_lossy ≡ 1048576 → nat_le (16 + size + hold.weight s.held_lossy) 1048576 ≡ true
fits_in u s size room is h all = le-leb (16 + size + hold.weight s.held_lossy) 1048576 (omega (arith, h, all, ap (λ (x : Store). hold.weight x.held_lossy) is))

pub fits_not : (u s : Store) (size room : ℕ) → u ≡ s → room < 16 + size → room + hold.weight u.held_lossy ≡ 1048576 → nat_le (16 + size + hold.weight s.held_lossy) 1048576 ≡ false
fits_not u s size room is h all = lt-leb (16 + size + hold.weight s.held_lossy) 1048576 (omega (arith, h, all, ap (λ (x : Store). hold.weight x.held_lossy) is))

-- ---- what the call left

pub held_inside : (s u : Store) (kind : Kind) (t : Trace Act) (bytes : List ℕ) (pdu : Pdu) → u ≡ s → is_held s.role kind t bytes pdu (held s.role kind t) ≡ true → is_held u.role kind t bytes pdu (held u.role kind t) ≡ true
held_inside s u kind t bytes pdu is kept = ap (λ (x : Store). is_held x.role kind t bytes pdu (held x.role kind t)) is ∙ kept

pub read_inside : (s u : Store) (bytes : List ℕ) (pdu : Pdu) → u ≡ s → reading (other s.role) bytes ≡ Ok pdu → reading (other u.role) bytes ≡ Ok pdu
read_inside s u bytes pdu is read = ap (λ (x : Store). reading (other x.role) bytes) is ∙ read

-- there is room for it
pub beside_reliable : (s u : Store) (kind : Kind) (size : ℕ) → u ≡ s → kind ≡ Reliable → IsHeldBeside size (held_of kind s) → IsHeldBeside size u.held_reliable
beside_reliable s u kind size is e room = subst (λ (x : Store). IsHeldBeside size x.held_reliable) (sym is) (subst (λ k. IsHeldBeside size (held_of k s)) e room)

pub beside_lossy : (s u : Store) (kind : Kind) (size : ℕ) → u ≡ s → kind ≡ Lossy → IsHeldBeside size (held_of kind s) → IsHeldBeside size u.held_lossy
beside_lossy s u kind size is e room = subst (λ (x : Store). IsHeldBeside size x.held_lossy) (sym is) (subst (λ k. IsHeldBeside size (held_of k s)) e room)

-- a place within a u64 is told as it is
pub told : (at : ℕ) → at ≤ 18446744073709551615 → at ≡ told_place at
told at h = omega (arith, h)

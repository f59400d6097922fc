-- A channel PDU that is pulled behind the word of its channel is released at once.
use Rattle.std.proofs.Common.{◌≡◌, ℕ, Bool, true, false, cond, not, ◌&&◌, ◌||◌, eqb, List, [], ◌∷◌, ◌++◌, Option, Some, None, is_some, IfSome, IfNone, Result, Ok, Err, OnOk, refl, sym, ap, subst, ◌∙◌, eq-eqb}
use Rattle.mt_base.specs.Ends.{same_kind}
use Rattle.mt_base.specs.declared.kinds.Kind.{Kind}
use Rattle.mt_base.specs.declared.kinds.Kind.TheVariants.{Reliable, Lossy}
use Rattle.mt_base.specs.declared.kinds.Role.{Role}
use Rattle.mt_base.specs.declared.kinds.Role.TheVariants.{Server, Client}
use Rattle.mt_base.specs.Trace.{Trace, ◌▷◌}
use Rattle.dvc_channels.specs.Acts.{Act as Change, Came as Brought, IsAnswer, refusal_of}
use Rattle.dvc_channels.specs.Table as channels
use Rattle.dvc_channels.specs.declared.answers.Accepted.{Accepted}
use Rattle.dvc_channels.specs.declared.answers.ChannelRefusal.{ChannelRefusal}
use Rattle.dvc_channels.specs.declared.answers.ChannelState.{ChannelState}
use Rattle.dvc_channels.specs.declared.answers.ChannelState.TheVariants as state
use Rattle.dvc_pdus.specs.Value.{Pdu}
use Rattle.hold_queue.specs.Held as hold
use Rattle.soft_sync.specs.Words as words
use Rattle.mt_endpoint.specs.Acts.{Act, Draws, Releases, Discards, Carried}
use Rattle.mt_endpoint.specs.Channels.{channel, is_closed, is_closed_in, is_open, is_open_in, table}
use Rattle.mt_endpoint.specs.Faults.{Why, because, release_fault, release_fault_of}
use Rattle.mt_endpoint.specs.Growing.{Grown, answered, fine, grown, release_all, released}
use Rattle.mt_endpoint.specs.Holding.{Held, channel_of, fits, held, is_for_open, is_held, is_of, is_through, may_hold, only}
use Rattle.mt_endpoint.specs.Moving.{inward}
use Rattle.mt_endpoint.specs.Said.{Brings, lone, said}
use Rattle.mt_endpoint.proofs.Closing.{held_open}
use Rattle.mt_endpoint.proofs.HeldPdus.{only-append}
use Rattle.end_calls.specs.Law.{IsFront, is_for_memory, shorter, whole}
use Rattle.end_calls.specs.Streams.{told_place}
use Rattle.end_session.specs.declared.cause.Cause.{Cause}
use Rattle.end_session.specs.declared.untaken.Untaken.{Untaken}
use Rattle.end_session.specs.AnswerDue.{due}
use Rattle.end_session.specs.Behind.{IsBehind, IsPassing}
use Rattle.end_session.specs.Causes.{cause_of, why_of}
use Rattle.end_session.specs.Coming.{Came, Ended, Lacked, Met}
use Rattle.end_session.specs.Drawing.{held_of}
use Rattle.end_session.specs.Releasing.{Released, dropped, released_from, taken}
use Rattle.end_session.specs.Standing.{AreKept, Gone, Stands}
use Rattle.end_session.specs.Store.{Store}
use Rattle.end_session.proofs.AllAnswered.{done}
use Rattle.end_session.proofs.DataHeard.{inward_is}
use Rattle.end_session.proofs.DueKept.{due_drawn}
use Rattle.end_session.proofs.Freed.{data_dropped, data_taken, found_by, kept_of}
use Rattle.end_session.proofs.Kept.{kept_lossy, kept_reliable, same_held}

-- ---- what stands behind its word

-- nothing is held of its channel, and no answer is due before it
pub record IsAtOnce (role : Role) (kind : Kind) (t : Trace Act) (place : ℕ) (bytes : List ℕ) (pdu : Pdu) (id : ℕ) : Type 0 where
  pub channel_is : channel_of pdu ≡ Some id
  pub through : is_through kind (inward id t) ≡ true
  pub rests : only id (held role kind t) ≡ []
  pub quiet : answered role (t ▷ Draws kind place (Carried bytes pdu)) ≡ t ▷ Draws kind place (Carried bytes pdu)

none_kept : (id : ℕ) (queue : List Held) (pdus : List hold.Pdu) → AreKept queue pdus → hold.oldest id pdus ≡ None → only id queue ≡ []
none_kept id [] [] k e = refl
none_kept id [] (p ∷ pdus) k e = absurd k
none_kept id (h ∷ queue) [] k e = absurd k
none_kept id (h ∷ queue) (p ∷ pdus) k e = ap (λ o. cond (is_of id o) (h ∷ only id queue) (only id queue)) k.0.0 ∙ by_test (eqb p.id id) e (none_kept id queue pdus k.1) where
  by_test : (b : Bool) → cond b (Some p) (hold.oldest id pdus) ≡ None → (hold.oldest id pdus ≡ None → only id queue ≡ []) → cond b (h ∷ only id queue) (only id queue) ≡ []
  by_test true e deeper = absurd (let never : Some p ≡ None = e in cc)
  by_test false e deeper = deeper e

pub quiet_by : (role : Role) (t : Trace Act) → (role ≡ Client → due t ≡ None) → answered role t ≡ t
quiet_by Server t h = refl
quiet_by Client t h = done t (h refl)

pub at_once : (s : Store) (t : Trace Act) (gone : Gone) (kind : Kind) (place : ℕ) (bytes : List ℕ) (pdu : Pdu) (p : IsPassing kind bytes pdu s) → Stands s t gone → IsAtOnce s.role kind t place bytes pdu (p.behind).id
at_once s t gone kind place bytes pdu p st =
    let b = p.behind in record {
      channel_is = b.channel_is;
      through = ap (is_through kind) (sym (inward_is s t gone b.id st)) ∙ b.through;
      rests = none_kept b.id (held s.role kind t) (held_of kind s) (kept_of s t gone kind st) (p.rests b.id b.channel_is);
      quiet = quiet_by s.role (t ▷ Draws kind place (Carried bytes pdu)) (λ is. due_drawn s t gone kind place bytes pdu is st ∙ p.quiet is);
    }

-- ---- what it becomes

-- the oldest of its channel is released, where there is one, and that is all
abbrev then_done : Role → Grown → Grown
then_done role g = elim g.fault as (λ w. Grown) [ Some fault ↦ g | None ↦ release_all role [] g.acts ]

becomes : (role : Role) (kind : Kind) (t : Trace Act) (place : ℕ) (bytes : List ℕ) (pdu : Pdu) (id : ℕ) (queue : List Held) → IsAtOnce role kind t place bytes pdu id → only id (held role kind (t ▷ Draws kind place (Carried bytes pdu))) ≡ queue
    → grown role t (Draws kind place (Carried bytes pdu)) ≡ then_done role (released role kind id queue (t ▷ Draws kind place (Carried bytes pdu)))
becomes role kind t place bytes pdu id queue a is =
    let u = t ▷ Draws kind place (Carried bytes pdu) in
    ap (λ v. release_all role (elim (channel_of pdu) as (λ w. List (ℕ × Kind)) [ None ↦ [] | Some x ↦ cond (is_through kind (inward x t)) ((x, kind) ∷ []) [] ]) v) a.quiet
    ∙ ap (λ o. release_all role (elim o as (λ w. List (ℕ × Kind)) [ None ↦ [] | Some x ↦ cond (is_through kind (inward x t)) ((x, kind) ∷ []) [] ]) u) a.channel_is
    ∙ ap (λ b. release_all role (cond b ((id, kind) ∷ []) []) u) a.through
    ∙ ap (λ q. then_done role (released role kind id q u)) is

-- where it is not held, it has no effect
pub unheld : (role : Role) (kind : Kind) (t : Trace Act) (place : ℕ) (bytes : List ℕ) (pdu : Pdu) (id : ℕ) → IsAtOnce role kind t place bytes pdu id → is_held role kind t bytes pdu (held role kind t) ≡ false
    → grown role t (Draws kind place (Carried bytes pdu)) ≡ fine (t ▷ Draws kind place (Carried bytes pdu))
unheld role kind t place bytes pdu id a none = becomes role kind t place bytes pdu id [] a (ap (only id) (same_held role kind kind t place bytes pdu none) ∙ a.rests)

held_more : (role : Role) (kind : Kind) (t : Trace Act) (place : ℕ) (bytes : List ℕ) (pdu : Pdu) → is_held role kind t bytes pdu (held role kind t) ≡ true
    → held role kind (t ▷ Draws kind place (Carried bytes pdu)) ≡ held role kind t ++ record { at = place; bytes = bytes; pdu = pdu } ∷ []
held_more role Reliable t place bytes pdu e = ap (λ b. cond b (held role Reliable t ++ record { at = place; bytes = bytes; pdu = pdu } ∷ []) (held role Reliable t)) e
held_more role Lossy t place bytes pdu e = ap (λ b. cond b (held role Lossy t ++ record { at = place; bytes = bytes; pdu = pdu } ∷ []) (held role Lossy t)) e

-- where it is, it is all that is held of its channel
pub alone : (role : Role) (kind : Kind) (t : Trace Act) (place : ℕ) (bytes : List ℕ) (pdu : Pdu) (id : ℕ) → IsAtOnce role kind t place bytes pdu id → is_held role kind t bytes pdu (held role kind t) ≡ true
    → only id (held role kind (t ▷ Draws kind place (Carried bytes pdu))) ≡ record { at = place; bytes = bytes; pdu = pdu } ∷ []
alone role kind t place bytes pdu id a kept =
    let h : Held = record { at = place; bytes = bytes; pdu = pdu } in
    ap (only id) (held_more role kind t place bytes pdu kept) ∙ only-append id (held role kind t) (h ∷ []) ∙ ap (λ l. l ++ only id (h ∷ [])) a.rests
    ∙ ap (λ o. cond (is_of id o) (h ∷ []) []) a.channel_is ∙ ap (λ b. cond b (h ∷ []) []) (eq-eqb id id refl)

-- so its channel takes it or doesn't
abbrev one_released : Role → Kind → Trace Act → ℕ → List ℕ → Pdu → ℕ → Bool → Option Why → Grown
one_released role kind u place bytes pdu id is_closed why =
    cond is_closed (fine u)
    (elim why as (λ w. Grown) [
      | None ↦ released role kind id [] (u ▷ Releases kind place bytes pdu)
      | Some why ↦ elim kind as (λ w. Grown) [
        | Reliable ↦ record { acts = u; fault = Some (place, why) }
        | Lossy ↦ released role Lossy id [] (u ▷ Discards place bytes pdu)
      ]
    ])

by_channel : (role : Role) (kind : Kind) (t : Trace Act) (place : ℕ) (bytes : List ℕ) (pdu : Pdu) (id : ℕ) (why : Option Why) → IsAtOnce role kind t place bytes pdu id → is_held role kind t bytes pdu (held role kind t) ≡ true → is_closed role id t ≡ false
    → release_fault role (t ▷ Draws kind place (Carried bytes pdu)) pdu ≡ why
    → grown role t (Draws kind place (Carried bytes pdu)) ≡ then_done role (one_released role kind (t ▷ Draws kind place (Carried bytes pdu)) place bytes pdu id false why)
by_channel role kind t place bytes pdu id why a kept fresh is =
    let u = t ▷ Draws kind place (Carried bytes pdu) in
    becomes role kind t place bytes pdu id (record { at = place; bytes = bytes; pdu = pdu } ∷ []) a (alone role kind t place bytes pdu id a kept)
    ∙ ap (λ b. then_done role (one_released role kind u place bytes pdu id b (release_fault role u pdu))) fresh
    ∙ ap (λ o. then_done role (one_released role kind u place bytes pdu id false o)) is

pub taken_by : (role : Role) (kind : Kind) (t : Trace Act) (place : ℕ) (bytes : List ℕ) (pdu : Pdu) (id : ℕ) → IsAtOnce role kind t place bytes pdu id → is_held role kind t bytes pdu (held role kind t) ≡ true → is_closed role id t ≡ false
    → release_fault role (t ▷ Draws kind place (Carried bytes pdu)) pdu ≡ None
    → grown role t (Draws kind place (Carried bytes pdu)) ≡ fine (t ▷ Draws kind place (Carried bytes pdu) ▷ Releases kind place bytes pdu)
taken_by role kind t place bytes pdu id a kept fresh is = by_channel role kind t place bytes pdu id None a kept fresh is

pub dropped_by : (role : Role) (t : Trace Act) (place : ℕ) (bytes : List ℕ) (pdu : Pdu) (id : ℕ) (why : Why) → IsAtOnce role Lossy t place bytes pdu id → is_held role Lossy t bytes pdu (held role Lossy t) ≡ true → is_closed role id t ≡ false
    → release_fault role (t ▷ Draws Lossy place (Carried bytes pdu)) pdu ≡ Some why
    → grown role t (Draws Lossy place (Carried bytes pdu)) ≡ fine (t ▷ Draws Lossy place (Carried bytes pdu) ▷ Discards place bytes pdu)
dropped_by role t place bytes pdu id why a kept fresh is = by_channel role Lossy t place bytes pdu id (Some why) a kept fresh is

pub refused_by : (role : Role) (t : Trace Act) (place : ℕ) (bytes : List ℕ) (pdu : Pdu) (id : ℕ) (why : Why) → IsAtOnce role Reliable t place bytes pdu id → is_held role Reliable t bytes pdu (held role Reliable t) ≡ true → is_closed role id t ≡ false
    → release_fault role (t ▷ Draws Reliable place (Carried bytes pdu)) pdu ≡ Some why
    → grown role t (Draws Reliable place (Carried bytes pdu)) ≡ record { acts = t ▷ Draws Reliable place (Carried bytes pdu); fault = Some (place, why) }
refused_by role t place bytes pdu id why a kept fresh is = by_channel role Reliable t place bytes pdu id (Some why) a kept fresh is

-- ---- the end that it leaves

-- so long as it is held, it stands behind the others
abbrev pub added : Kind → Kind → hold.Pdu → List hold.Pdu → List hold.Pdu
added k kind p pdus = cond (same_kind k kind) (pdus ++ p ∷ []) pdus

abbrev pub holding : Kind → hold.Pdu → Store → Store
holding kind p s = record s { held_reliable = added Reliable kind p s.held_reliable; held_lossy = added Lossy kind p s.held_lossy }

-- what the call was given
pub record IsGiven (s : Store) (kind : Kind) (place at id : ℕ) (bytes : List ℕ) (pdu : Pdu) : Type 0 where
  pub passing : IsPassing kind bytes pdu s
  pub kept : (t : Trace Act) (gone : Gone) → Stands s t gone → is_held s.role kind t bytes pdu (held s.role kind t) ≡ true
  pub channel_is : channel_of pdu ≡ Some id
  pub where_at : at ≡ told_place place

-- it is of the channel that it is behind
pub same_channel : (a : Option ℕ) (x y : ℕ) → a ≡ Some x → a ≡ Some y → x ≡ y
same_channel a x y e f = let same : Some x ≡ Some y = sym e ∙ f in cc

pub given_at_once : (s : Store) (t : Trace Act) (gone : Gone) (kind : Kind) (place at id : ℕ) (bytes : List ℕ) (pdu : Pdu) → IsGiven s kind place at id bytes pdu → Stands s t gone → IsAtOnce s.role kind t place bytes pdu id
given_at_once s t gone kind place at id bytes pdu g st =
    let b = (g.passing).behind in
    subst (IsAtOnce s.role kind t place bytes pdu) (same_channel (channel_of pdu) b.id id b.channel_is g.channel_is) (at_once s t gone kind place bytes pdu g.passing st)

pub holds : (s : Store) (t : Trace Act) (gone : Gone) (kind : Kind) (place at id : ℕ) (bytes : List ℕ) (pdu : Pdu) → IsGiven s kind place at id bytes pdu → Stands s t gone
    → Stands (holding kind (hold.pdu_of id at bytes) s) (t ▷ Draws kind place (Carried bytes pdu)) gone
holds s t gone Reliable place at id bytes pdu g st =
    kept_reliable s t gone Reliable place at id bytes pdu (s.held_reliable ++ hold.pdu_of id at bytes ∷ []) refl ((g.passing).allowed t gone st) (g.kept t gone st) g.channel_is g.where_at refl (g.passing).are_bytes (g.passing).read_is st
holds s t gone Lossy place at id bytes pdu g st =
    kept_lossy s t gone Lossy place at id bytes pdu (s.held_lossy ++ hold.pdu_of id at bytes ∷ []) refl ((g.passing).allowed t gone st) (g.kept t gone st) g.channel_is g.where_at refl (g.passing).are_bytes (g.passing).read_is st

oldest_last : (id : ℕ) (pdus : List hold.Pdu) (p : hold.Pdu) → eqb p.id id ≡ true → hold.oldest id pdus ≡ None → hold.oldest id (pdus ++ p ∷ []) ≡ Some p
oldest_last id [] p is none = ap (λ b. cond b (Some p) None) is
oldest_last id (x ∷ pdus) p is none = by_test (eqb x.id id) none (oldest_last id pdus p is) where
  by_test : (b : Bool) → cond b (Some x) (hold.oldest id pdus) ≡ None → (hold.oldest id pdus ≡ None → hold.oldest id (pdus ++ p ∷ []) ≡ Some p) → cond b (Some x) (hold.oldest id (pdus ++ p ∷ [])) ≡ Some p
  by_test true e deeper = absurd (let never : Some x ≡ None = e in cc)
  by_test false e deeper = deeper e

without_last : (id : ℕ) (pdus : List hold.Pdu) (p : hold.Pdu) → eqb p.id id ≡ true → hold.oldest id pdus ≡ None → hold.without_oldest id (pdus ++ p ∷ []) ≡ pdus
without_last id [] p is none = ap (λ b. cond b [] (p ∷ [])) is
without_last id (x ∷ pdus) p is none = by_test (eqb x.id id) none (without_last id pdus p is) where
  by_test : (b : Bool) → cond b (Some x) (hold.oldest id pdus) ≡ None → (hold.oldest id pdus ≡ None → hold.without_oldest id (pdus ++ p ∷ []) ≡ pdus) → cond b (pdus ++ p ∷ []) (x ∷ hold.without_oldest id (pdus ++ p ∷ [])) ≡ x ∷ pdus
  by_test true e deeper = absurd (let never : Some x ≡ None = e in cc)
  by_test false e deeper = ap (λ l. x ∷ l) (deeper e)

-- it is the oldest of its channel, and without it the others are left
pub record IsLast (s : Store) (kind : Kind) (id : ℕ) (p : hold.Pdu) : Type 0 where
  pub oldest_is : hold.oldest id (held_of kind (holding kind p s)) ≡ Some p
  pub reliable_is : s.held_reliable ≡ released_from Reliable kind id (holding kind p s).held_reliable
  pub lossy_is : s.held_lossy ≡ released_from Lossy kind id (holding kind p s).held_lossy

is_last : (s : Store) (kind : Kind) (id : ℕ) (p : hold.Pdu) → eqb p.id id ≡ true → hold.oldest id (held_of kind s) ≡ None → IsLast s kind id p
is_last s Reliable id p is none = record { oldest_is = oldest_last id s.held_reliable p is none; reliable_is = sym (without_last id s.held_reliable p is none); lossy_is = refl }
is_last s Lossy id p is none = record { oldest_is = oldest_last id s.held_lossy p is none; reliable_is = refl; lossy_is = sym (without_last id s.held_lossy p is none) }

pub last_of : (s : Store) (kind : Kind) (place at id : ℕ) (bytes : List ℕ) (pdu : Pdu) → IsGiven s kind place at id bytes pdu → IsLast s kind id (hold.pdu_of id at bytes)
last_of s kind place at id bytes pdu g = is_last s kind id (hold.pdu_of id at bytes) (eq-eqb id id refl) ((g.passing).rests id g.channel_is)

-- an open channel is not closed
pub open_fresh : (c : ChannelState) → is_open_in c ≡ true → is_closed_in c ≡ false
open_fresh state.Unknown h = refl
open_fresh state.Asked h = refl
open_fresh state.Open h = refl
open_fresh state.Refused h = refl
open_fresh state.Closed h = absurd (let never : false ≡ true = h in cc)

pub fresh_for : (role : Role) (kind : Kind) (t : Trace Act) (id : ℕ) (bytes : List ℕ) (pdu : Pdu) → channel_of pdu ≡ Some id → is_held role kind t bytes pdu (held role kind t) ≡ true → is_closed role id t ≡ false
fresh_for role kind t id bytes pdu of kept =
    open_fresh (channel role id t) (held_open role kind t id bytes pdu (held role kind t) kept (ap (is_of id) of ∙ eq-eqb id id refl))

-- what came of the release, of the one PDU that it was
pub taken_one : (kind : Kind) (id : ℕ) (pdu : Pdu) (u : Trace Act) (gone : Gone) (s : Store) (g : Held) → only id (held s.role kind u) ≡ g ∷ [] → Released kind id pdu u gone s true → Stands s (u ▷ Releases kind g.at g.bytes pdu) gone
taken_one kind id pdu u gone s g only_is (taken h rest first_is pdu_is none st) =
    let both : h ∷ rest ≡ g ∷ [] = sym first_is ∙ only_is in
    let same : h ≡ g = cc in
    subst (λ (h : Held). Stands s (u ▷ Releases kind h.at h.bytes pdu) gone) same st

dropped_one : (kind : Kind) (id : ℕ) (pdu : Pdu) (u : Trace Act) (gone : Gone) (s : Store) (g : Held) → only id (held s.role kind u) ≡ g ∷ [] → Released kind id pdu u gone s false → Stands s (u ▷ Discards g.at g.bytes pdu) gone
dropped_one kind id pdu u gone s g only_is (dropped h rest why kind_is first_is pdu_is fault st) =
    let both : h ∷ rest ≡ g ∷ [] = sym first_is ∙ only_is in
    let same : h ≡ g = cc in
    subst (λ (h : Held). Stands s (u ▷ Discards h.at h.bytes pdu) gone) same st

pub word_is : (s : Store) (kind : Kind) (place at id : ℕ) (bytes : List ℕ) (pdu : Pdu) → IsGiven s kind place at id bytes pdu → is_through kind (words.inward id s.paths) ≡ true
word_is s kind place at id bytes pdu g =
    let b = (g.passing).behind in subst (λ x. is_through kind (words.inward x s.paths) ≡ true) (same_channel (channel_of pdu) b.id id b.channel_is g.channel_is) b.through

-- the act itself changes nothing of the channels
fault_drawn : (role : Role) (kind : Kind) (t : Trace Act) (place id : ℕ) (bytes : List ℕ) (pdu : Pdu) (why : Option Why) → said pdu ≡ Brings id → release_fault role t pdu ≡ why → release_fault role (t ▷ Draws kind place (Carried bytes pdu)) pdu ≡ why
fault_drawn role kind t place id bytes pdu why e is = ap (release_fault_of role (t ▷ Draws kind place (Carried bytes pdu)) pdu) e ∙ sym (ap (release_fault_of role t pdu) e) ∙ is

-- its channel took it
pub took : (s : Store) (t : Trace Act) (gone : Gone) (kind : Kind) (place at id : ℕ) (bytes : List ℕ) (pdu : Pdu) (c : channels.Table) → IsGiven s kind place at id bytes pdu → said pdu ≡ Brings id → refusal_of (table s.role t) id pdu ≡ None
    → channels.Stands c (table s.role t ▷ Brought id pdu) → Stands s t gone → Came (grown s.role t (Draws kind place (Carried bytes pdu))) gone (record s { channels = c })
took s t gone kind place at id bytes pdu c g e none stands st =
    let u = t ▷ Draws kind place (Carried bytes pdu) in
    let p = hold.pdu_of id at bytes in
    let last = last_of s kind place at id bytes pdu g in
    let a = given_at_once s t gone kind place at id bytes pdu g st in
    let kept = g.kept t gone st in
    let fresh = fresh_for s.role kind t id bytes pdu g.channel_is kept in
    let out = data_taken (holding kind p s) u gone kind id pdu c s.held_reliable s.held_lossy (word_is s kind place at id bytes pdu g) fresh
    (record { kept = p; oldest_is = last.oldest_is; read_is = (g.passing).read_is }) e none stands last.reliable_is last.lossy_is (holds s t gone kind place at id bytes pdu g st) in
    subst (λ x. Came x gone (record s { channels = c })) (sym (taken_by s.role kind t place bytes pdu id a kept fresh (ap (release_fault_of s.role u pdu) e ∙ ap because none)))
    (refl, taken_one kind id pdu u gone (record s { channels = c }) (record { at = place; bytes = bytes; pdu = pdu }) (alone s.role kind t place bytes pdu id a kept) out)

-- the lossy tunnel dropped it
pub let_go : (s : Store) (t : Trace Act) (gone : Gone) (place at id : ℕ) (bytes : List ℕ) (pdu : Pdu) (why : Why) → IsGiven s Lossy place at id bytes pdu → said pdu ≡ Brings id → release_fault s.role t pdu ≡ Some why
    → Stands s t gone → Came (grown s.role t (Draws Lossy place (Carried bytes pdu))) gone s
let_go s t gone place at id bytes pdu why g e fault st =
    let u = t ▷ Draws Lossy place (Carried bytes pdu) in
    let p = hold.pdu_of id at bytes in
    let last = last_of s Lossy place at id bytes pdu g in
    let a = given_at_once s t gone Lossy place at id bytes pdu g st in
    let kept = g.kept t gone st in
    let fresh = fresh_for s.role Lossy t id bytes pdu g.channel_is kept in
    let fault_is = fault_drawn s.role Lossy t place id bytes pdu (Some why) e fault in
    let out = data_dropped (holding Lossy p s) u gone Lossy id pdu why s.held_reliable s.held_lossy refl (word_is s Lossy place at id bytes pdu g) fresh
    (record { kept = p; oldest_is = last.oldest_is; read_is = (g.passing).read_is }) e fault_is last.reliable_is last.lossy_is (holds s t gone Lossy place at id bytes pdu g st) in
    subst (λ x. Came x gone s) (sym (dropped_by s.role t place bytes pdu id why a kept fresh fault_is))
    (refl, dropped_one Lossy id pdu u gone s (record { at = place; bytes = bytes; pdu = pdu }) (alone s.role Lossy t place bytes pdu id a kept) out)

-- the reliable one holds it, and is at fault
pub met : (s : Store) (t : Trace Act) (gone : Gone) (place at id : ℕ) (bytes : List ℕ) (pdu : Pdu) (why : Why) (cause : Cause) (queue : List hold.Pdu) → IsGiven s Reliable place at id bytes pdu → said pdu ≡ Brings id → release_fault s.role t pdu ≡ Some why
    → why_of cause ≡ Some why → queue ≡ s.held_reliable ++ hold.pdu_of id at bytes ∷ [] → Stands s t gone
    → Met (grown s.role t (Draws Reliable place (Carried bytes pdu))) gone (record s { held_reliable = queue }) (record { at = at; cause = cause })
met s t gone place at id bytes pdu why cause queue g e fault cause_is queue_is st =
    let u = t ▷ Draws Reliable place (Carried bytes pdu) in
    let a = given_at_once s t gone Reliable place at id bytes pdu g st in
    let kept = g.kept t gone st in
    let fresh = fresh_for s.role Reliable t id bytes pdu g.channel_is kept in
    let fault_is = fault_drawn s.role Reliable t place id bytes pdu (Some why) e fault in
    let untaken : Untaken = record { at = at; cause = cause } in
    subst (λ x. Met x gone (record s { held_reliable = queue }) untaken) (sym (refused_by s.role t place bytes pdu id why a kept fresh fault_is))
    (record {
      place = place;
      why = why;
      fault_is = refl;
      at_is = g.where_at;
      cause_is = cause_is;
      stands = subst (λ q. Stands (record s { held_reliable = q }) u gone) (sym queue_is) (holds s t gone Reliable place at id bytes pdu g st);
    })

-- memory was wanting
pub lacked_for : (s : Store) (t : Trace Act) (gone : Gone) (kind : Kind) (place at id : ℕ) (bytes : List ℕ) (pdu : Pdu) (untaken : Untaken) → IsGiven s kind place at id bytes pdu → said pdu ≡ Brings id → release_fault s.role t pdu ≡ None
    → why_of untaken.cause ≡ None → Stands s t gone → Lacked t (grown s.role t (Draws kind place (Carried bytes pdu))) gone s untaken
lacked_for s t gone kind place at id bytes pdu untaken g e none cause_is st =
    let act = Draws kind place (Carried bytes pdu) in
    let a = given_at_once s t gone kind place at id bytes pdu g st in
    let kept = g.kept t gone st in
    let fresh = fresh_for s.role kind t id bytes pdu g.channel_is kept in
    let grown_is = taken_by s.role kind t place bytes pdu id a kept fresh (fault_drawn s.role kind t place id bytes pdu None e none) in record {
      cause_is = cause_is;
      reached = t;
      begun = whole t;
      next = act;
      takes = ap is_for_memory e;
      due = subst (λ (x : Grown). IsFront (t ▷ act) x.acts) (sym grown_is) (shorter (t ▷ act) (t ▷ act) (Releases kind place bytes pdu) (whole (t ▷ act)));
      stands = st;
    }

-- ---- by what the table answered

none_of : {A : Type 0} (o : Option A) → not (is_some o) ≡ true → o ≡ None
none_of None h = refl
none_of (Some x) h = absurd (let never : false ≡ true = h in cc)

some_of : {A : Type 0} (o : Option A) → not (is_some o) ≡ false → (x : A) × (o ≡ Some x)
some_of None h = absurd (let never : true ≡ false = h in cc)
some_of (Some x) h = (x, refl)

abbrev Answered : Store → ℕ → Pdu → Result Accepted ChannelRefusal → Type 0
Answered s id pdu a = (u : Trace Change) → channels.Stands s.channels u → IsAnswer u id pdu a

pub if_took : (s : Store) (t : Trace Act) (gone : Gone) (kind : Kind) (place at id : ℕ) (bytes : List ℕ) (pdu : Pdu) (a : Result Accepted ChannelRefusal) (x : Accepted) (c : channels.Table) → IsGiven s kind place at id bytes pdu → said pdu ≡ Brings id
    → a ≡ Ok x → Answered s id pdu a → ((u : Trace Change) → channels.Stands s.channels u → OnOk a (channels.Stands c (u ▷ Brought id pdu))) → Stands s t gone
    → Came (grown s.role t (Draws kind place (Carried bytes pdu))) gone (record s { channels = c })
if_took s t gone kind place at id bytes pdu a x c g e is answers came st =
    let u = table s.role t in
    let answer : IsAnswer u id pdu (Ok x) = subst (IsAnswer u id pdu) is (answers u (st.knows).channels_stand) in
    took s t gone kind place at id bytes pdu c g e answer.0 (subst (λ a. OnOk a (channels.Stands c (u ▷ Brought id pdu))) is (came u (st.knows).channels_stand)) st

-- it didn't take it: memory was wanting
pub if_lacked : (s : Store) (t : Trace Act) (gone : Gone) (kind : Kind) (place at id : ℕ) (bytes : List ℕ) (pdu : Pdu) (a : Result Accepted ChannelRefusal) (r : ChannelRefusal) (cause : Cause) (c : channels.Table) → IsGiven s kind place at id bytes pdu → said pdu ≡ Brings id
    → a ≡ Err r → cause ≡ cause_of r → not (is_some (why_of cause)) ≡ true → c ≡ s.channels → Answered s id pdu a → Stands s t gone
    → Lacked t (grown s.role t (Draws kind place (Carried bytes pdu))) gone (record s { channels = c }) (record { at = at; cause = cause })
if_lacked s t gone kind place at id bytes pdu a r cause c g e is cause_is lack same answers st =
    let none = none_of (why_of cause) lack in
    let fault = found_by s t gone id pdu a r e is answers st ∙ ap why_of (sym cause_is) ∙ none in
    subst (λ x. Lacked t (grown s.role t (Draws kind place (Carried bytes pdu))) gone (record s { channels = x }) (record { at = at; cause = cause })) (sym same)
    (lacked_for s t gone kind place at id bytes pdu (record { at = at; cause = cause }) g e fault none st)

-- or the lossy tunnel brought it
pub if_let_go : (s : Store) (t : Trace Act) (gone : Gone) (kind : Kind) (place at id : ℕ) (bytes : List ℕ) (pdu : Pdu) (a : Result Accepted ChannelRefusal) (r : ChannelRefusal) (cause : Cause) (c : channels.Table) → kind ≡ Lossy → IsGiven s kind place at id bytes pdu
    → said pdu ≡ Brings id → a ≡ Err r → cause ≡ cause_of r → not (is_some (why_of cause)) ≡ false → c ≡ s.channels → Answered s id pdu a → Stands s t gone
    → Came (grown s.role t (Draws kind place (Carried bytes pdu))) gone (record s { channels = c })
if_let_go s t gone Reliable place at id bytes pdu a r cause c kind_is g e is cause_is some same answers st = absurd (let never : Reliable ≡ Lossy = kind_is in cc)
if_let_go s t gone Lossy place at id bytes pdu a r cause c kind_is g e is cause_is some same answers st =
    let w = some_of (why_of cause) some in
    let fault = found_by s t gone id pdu a r e is answers st ∙ ap why_of (sym cause_is) ∙ w.1 in
    subst (λ x. Came (grown s.role t (Draws Lossy place (Carried bytes pdu))) gone (record s { channels = x })) (sym same) (let_go s t gone place at id bytes pdu w.0 g e fault st)

-- or the reliable one did
pub if_met : (s : Store) (t : Trace Act) (gone : Gone) (kind : Kind) (place at id : ℕ) (bytes : List ℕ) (pdu : Pdu) (a : Result Accepted ChannelRefusal) (r : ChannelRefusal) (cause : Cause) (c : channels.Table) (queue : List hold.Pdu) → kind ≡ Reliable
    → IsGiven s kind place at id bytes pdu → said pdu ≡ Brings id → a ≡ Err r → cause ≡ cause_of r → not (is_some (why_of cause)) ≡ false → c ≡ s.channels → queue ≡ s.held_reliable ++ hold.pdu_of id at bytes ∷ [] → Answered s id pdu a → Stands s t gone
    → Met (grown s.role t (Draws kind place (Carried bytes pdu))) gone (record s { channels = c; held_reliable = queue }) (record { at = at; cause = cause })
if_met s t gone Lossy place at id bytes pdu a r cause c queue kind_is g e is cause_is some same queue_is answers st = absurd (let never : Lossy ≡ Reliable = kind_is in cc)
if_met s t gone Reliable place at id bytes pdu a r cause c queue kind_is g e is cause_is some same queue_is answers st =
    let w = some_of (why_of cause) some in
    let fault = found_by s t gone id pdu a r e is answers st ∙ ap why_of (sym cause_is) ∙ w.1 in
    subst (λ x. Met (grown s.role t (Draws Reliable place (Carried bytes pdu))) gone (record s { channels = x; held_reliable = queue }) (record { at = at; cause = cause })) (sym same)
    (met s t gone place at id bytes pdu w.0 cause queue g e fault w.1 queue_is st)

-- ---- whether it is held

and_true : (b : Bool) → b && true ≡ b
and_true true = refl
and_true false = refl

pub held_behind : (s : Store) (t : Trace Act) (gone : Gone) (kind : Kind) (bytes : List ℕ) (pdu : Pdu) (of : Option ℕ) (b : Bool) → kind ≡ Lossy → IsBehind kind pdu s → IfSome of (λ id. lone pdu ≡ id ∷ []) → IfNone of (lone pdu ≡ [])
    → IfSome of (λ id. channel_of pdu ≡ Some id) → is_for_open s.role t of ≡ b → Stands s t gone → is_held s.role kind t bytes pdu (held s.role kind t) ≡ b
held_behind s t gone Reliable bytes pdu of b e behind some none channel_is opened st = absurd (let never : Reliable ≡ Lossy = e in cc)
held_behind s t gone Lossy bytes pdu None b e behind some none channel_is opened st = ap (λ ids. may_hold s.role t ids bytes (held s.role Lossy t)) none ∙ opened
held_behind s t gone Lossy bytes pdu (Some id) b e behind some none channel_is opened st =
    let same = same_channel (channel_of pdu) (behind.id) id behind.channel_is channel_is in
    let through : is_through Lossy (inward id t) ≡ true = ap (is_through Lossy) (sym (inward_is s t gone id st)) ∙ ap (λ x. is_through Lossy (words.inward x s.paths)) (sym same) ∙ behind.through in
    ap (λ ids. may_hold s.role t ids bytes (held s.role Lossy t)) some ∙ ap (λ x. is_open s.role id t && (x || fits bytes (held s.role Lossy t))) through ∙ and_true (is_open s.role id t) ∙ opened

-- ---- as it is seen from outside

pub came_outside : (u s : Store) (t : Trace Act) (act : Act) (gone : Gone) (after : Store) → u ≡ s → Came (grown u.role t act) gone after → Came (grown s.role t act) gone after
came_outside u s t act gone after is came = subst (λ (x : Store). Came (grown x.role t act) gone after) is came

pub ended_outside : (u s : Store) (t : Trace Act) (act : Act) (gone : Gone) (after : Store) (untaken : Untaken) → u ≡ s → Ended t (grown u.role t act) gone after untaken → Ended t (grown s.role t act) gone after untaken
ended_outside u s t act gone after untaken is ended = subst (λ (x : Store). Ended t (grown x.role t act) gone after untaken) is ended

pub given_inside : (u s : Store) (kind : Kind) (place at id : ℕ) (bytes : List ℕ) (pdu : Pdu) → u ≡ s → IsGiven s kind place at id bytes pdu → IsGiven u kind place at id bytes pdu
given_inside u s kind place at id bytes pdu is given = subst (λ s. IsGiven s kind place at id bytes pdu) (sym is) given

-- All that is held of a channel is released, PDU by PDU.
use Rattle.std.proofs.Common.{◌≡◌, inl, inr, ℕ, ◌+◌, Bool, true, false, cond, eqb, eq-eqb, List, [], ◌∷◌, length, Option, Some, None, option_map, Ok, refl, sym, ap, subst, ◌∙◌, arith}
use Rattle.mt_base.specs.Ends.{other, same_kind}
use Rattle.mt_base.specs.declared.kinds.Kind.{Kind}
use Rattle.mt_base.specs.declared.kinds.Kind.TheVariants.{Reliable, Lossy}
use Rattle.mt_base.specs.declared.kinds.Role.{Role}
use Rattle.mt_base.specs.Trace.{Trace, ◌▷◌}
use Rattle.mt_base.proofs.Fields.{ok_is}
use Rattle.dvc_channels.specs.Acts.{Act as Change}
use Rattle.dvc_channels.specs.Acts as change
use Rattle.dvc_channels.specs.Table as channels
use Rattle.dvc_channels.specs.declared.answers.ChannelState.{ChannelState}
use Rattle.dvc_channels.specs.declared.answers.ChannelState.TheVariants as state
use Rattle.dvc_pdus.specs.Reading.{reading}
use Rattle.dvc_pdus.specs.Value.{Pdu, Close}
use Rattle.hold_queue.specs.Held as hold
use Rattle.mt_endpoint.specs.Acts.{Act, Releases, Discards}
use Rattle.mt_endpoint.specs.Channels.{channel, is_closed, is_closed_in}
use Rattle.mt_endpoint.specs.Faults.{Why, release_fault}
use Rattle.mt_endpoint.specs.Growing.{Grown, fine, released}
use Rattle.mt_endpoint.specs.Holding.{Held, channel_in, held, is_of, only, unless_ended, without_first}
use Rattle.mt_endpoint.specs.Said.{Brings, said}
use Rattle.mt_endpoint.proofs.HeldPdus.{first_gone}
use Rattle.mt_endpoint.proofs.Walking.{same_itself}
use Rattle.end_calls.specs.Law.{IsFront, is_for_memory, shorter, whole}
use Rattle.end_calls.specs.Streams.{told_place}
use Rattle.end_calls.proofs.Onward.{front_then}
use Rattle.end_session.specs.declared.untaken.Untaken.{Untaken}
use Rattle.end_session.specs.Causes.{IsCause, why_of}
use Rattle.end_session.specs.Coming.{Came, Ended, Lacked, Met, Went, all_released, on, over}
use Rattle.end_session.specs.Drawing.{held_of}
use Rattle.end_session.specs.Releasing.{IsOldest, Released, dropped, drops, taken}
use Rattle.end_session.specs.Standing.{AreKept, Gone, Stands}
use Rattle.end_session.specs.Store.{Store}
use Rattle.end_session.proofs.DataHeard.{closed_as}
use Rattle.end_session.proofs.Freed.{first_held, kept_of, never_none}

-- ---- one PDU, by what there is against it

pub closed_over : (role : Role) (kind : Kind) (id : ℕ) (queue : List Held) (t : Trace Act) → is_closed role id t ≡ true → released role kind id queue t ≡ fine t
closed_over role kind id [] t e = refl
closed_over role kind id (h ∷ queue) t e =
    ap (λ b. cond b (fine t) (elim (release_fault role t h.pdu) as (λ w. Grown) [
      | None ↦ released role kind id queue (t ▷ Releases kind h.at h.bytes h.pdu)
      | Some why ↦ elim kind as (λ w. Grown) [
        | Reliable ↦ record { acts = t; fault = Some (h.at, why) }
        | Lossy ↦ released role Lossy id queue (t ▷ Discards h.at h.bytes h.pdu)
      ]
    ])) e

open_next : (role : Role) (kind : Kind) (id : ℕ) (h : Held) (queue : List Held) (t : Trace Act) (w : Option Why) → is_closed role id t ≡ false → release_fault role t h.pdu ≡ w
    → released role kind id (h ∷ queue) t ≡ (elim w as (λ w. Grown) [
      | None ↦ released role kind id queue (t ▷ Releases kind h.at h.bytes h.pdu)
      | Some why ↦ elim kind as (λ w. Grown) [
        | Reliable ↦ record { acts = t; fault = Some (h.at, why) }
        | Lossy ↦ released role Lossy id queue (t ▷ Discards h.at h.bytes h.pdu)
      ]
    ])
open_next role kind id h queue t w e f =
    ap (λ b. cond b (fine t) (elim (release_fault role t h.pdu) as (λ w. Grown) [
      | None ↦ released role kind id queue (t ▷ Releases kind h.at h.bytes h.pdu)
      | Some why ↦ elim kind as (λ w. Grown) [
        | Reliable ↦ record { acts = t; fault = Some (h.at, why) }
        | Lossy ↦ released role Lossy id queue (t ▷ Discards h.at h.bytes h.pdu)
      ]
    ])) e
    ∙ ap (λ w. elim w as (λ w. Grown) [
      | None ↦ released role kind id queue (t ▷ Releases kind h.at h.bytes h.pdu)
      | Some why ↦ elim kind as (λ w. Grown) [
        | Reliable ↦ record { acts = t; fault = Some (h.at, why) }
        | Lossy ↦ released role Lossy id queue (t ▷ Discards h.at h.bytes h.pdu)
      ]
    ]) f

-- with what is held of its channel
first_next : (role : Role) (kind : Kind) (id : ℕ) (h : Held) (rest : List Held) (t : Trace Act) (w : Option Why) → only id (held role kind t) ≡ h ∷ rest → is_closed role id t ≡ false → release_fault role t h.pdu ≡ w
    → all_released role kind id t ≡ (elim w as (λ w. Grown) [
      | None ↦ released role kind id rest (t ▷ Releases kind h.at h.bytes h.pdu)
      | Some why ↦ elim kind as (λ w. Grown) [
        | Reliable ↦ record { acts = t; fault = Some (h.at, why) }
        | Lossy ↦ released role Lossy id rest (t ▷ Discards h.at h.bytes h.pdu)
      ]
    ])
first_next role kind id h rest t w first_is e f = ap (λ q. released role kind id q t) first_is ∙ open_next role kind id h rest t w e f

-- ---- data

rest_released : (role : Role) (kind : Kind) (id : ℕ) (h : Held) (rest : List Held) (t : Trace Act) → said h.pdu ≡ Brings id → only id (held role kind t) ≡ h ∷ rest → only id (held role kind (t ▷ Releases kind h.at h.bytes h.pdu)) ≡ rest
rest_released role kind id h rest t e first_is =
    ap (λ x. only id (unless_ended x (cond (same_kind kind kind) (without_first (channel_in x) (held role kind t)) (held role kind t)))) e
    ∙ ap (λ b. only id (cond b (without_first (Some id) (held role kind t)) (held role kind t))) (same_itself kind) ∙ first_gone id (held role kind t) h rest first_is

rest_dropped : (role : Role) (id : ℕ) (h : Held) (rest : List Held) (t : Trace Act) → said h.pdu ≡ Brings id → only id (held role Lossy t) ≡ h ∷ rest → only id (held role Lossy (t ▷ Discards h.at h.bytes h.pdu)) ≡ rest
rest_dropped role id h rest t e first_is = ap (λ x. only id (without_first (channel_in x) (held role Lossy t))) e ∙ first_gone id (held role Lossy t) h rest first_is

same_taken : (role : Role) (kind : Kind) (id : ℕ) (h : Held) (rest : List Held) (t : Trace Act) → said h.pdu ≡ Brings id → only id (held role kind t) ≡ h ∷ rest → is_closed role id t ≡ false → release_fault role t h.pdu ≡ None
    → all_released role kind id (t ▷ Releases kind h.at h.bytes h.pdu) ≡ all_released role kind id t
same_taken role kind id h rest t e first_is fresh none =
    ap (λ q. released role kind id q (t ▷ Releases kind h.at h.bytes h.pdu)) (rest_released role kind id h rest t e first_is) ∙ sym (first_next role kind id h rest t None first_is fresh none)

same_dropped : (role : Role) (id : ℕ) (h : Held) (rest : List Held) (t : Trace Act) (why : Why) → said h.pdu ≡ Brings id → only id (held role Lossy t) ≡ h ∷ rest → is_closed role id t ≡ false → release_fault role t h.pdu ≡ Some why
    → all_released role Lossy id (t ▷ Discards h.at h.bytes h.pdu) ≡ all_released role Lossy id t
same_dropped role id h rest t why e first_is fresh fault =
    ap (λ q. released role Lossy id q (t ▷ Discards h.at h.bytes h.pdu)) (rest_dropped role id h rest t e first_is) ∙ sym (first_next role Lossy id h rest t (Some why) first_is fresh fault)

pub data_went : (kind : Kind) (id : ℕ) (pdu : Pdu) (t : Trace Act) (gone : Gone) (s : Store) (b : Bool) → said pdu ≡ Brings id → is_closed s.role id t ≡ false → Released kind id pdu t gone s b → Went kind id t gone s true
data_went kind id pdu t gone s true e fresh (taken h rest first_is pdu_is none st) =
    on (Releases kind h.at h.bytes pdu)
    (subst (λ p. all_released s.role kind id (t ▷ Releases kind h.at h.bytes p) ≡ all_released s.role kind id t) pdu_is
    (same_taken s.role kind id h rest t (ap said pdu_is ∙ e) first_is fresh (ap (release_fault s.role t) pdu_is ∙ none))) st
data_went Reliable id pdu t gone s false e fresh (dropped h rest why kind_is first_is pdu_is fault st) = absurd (let never : Reliable ≡ Lossy = kind_is in cc)
data_went Lossy id pdu t gone s false e fresh (dropped h rest why kind_is first_is pdu_is fault st) =
    on (Discards h.at h.bytes pdu)
    (subst (λ p. all_released s.role Lossy id (t ▷ Discards h.at h.bytes p) ≡ all_released s.role Lossy id t) pdu_is
    (same_dropped s.role id h rest t why (ap said pdu_is ∙ e) first_is fresh (ap (release_fault s.role t) pdu_is ∙ fault))) st

-- ---- a close

ended_closed : (role : Role) (kind : Kind) (t : Trace Act) (at : ℕ) (bytes : List ℕ) (id : ℕ) → is_closed role id (t ▷ Releases kind at bytes (Close id)) ≡ true
ended_closed role kind t at bytes id = ap (λ b. is_closed_in (cond b state.Closed (channel role id t))) (eq-eqb id id refl)

close_over : (role : Role) (kind : Kind) (id : ℕ) (h : Held) (rest : List Held) (t : Trace Act) → h.pdu ≡ Close id → only id (held role kind t) ≡ h ∷ rest → is_closed role id t ≡ false
    → all_released role kind id t ≡ fine (t ▷ Releases kind h.at h.bytes (Close id))
close_over role kind id h rest t pdu_is first_is fresh =
    first_next role kind id h rest t None first_is fresh (ap (release_fault role t) pdu_is)
    ∙ ap (λ p. released role kind id rest (t ▷ Releases kind h.at h.bytes p)) pdu_is
    ∙ closed_over role kind id rest (t ▷ Releases kind h.at h.bytes (Close id)) (ended_closed role kind t h.at h.bytes id)

pub close_went : (kind : Kind) (id : ℕ) (t : Trace Act) (gone : Gone) (s : Store) → is_closed s.role id t ≡ false → Released kind id (Close id) t gone s true → Went kind id t gone s false
close_went kind id t gone s fresh (taken h rest first_is pdu_is none st) =
    over (subst (λ g. Came g gone s) (sym (close_over s.role kind id h rest t pdu_is first_is fresh)) (refl, st))

-- ---- nothing is to come

none_held : (id : ℕ) (queue : List Held) (pdus : List hold.Pdu) → AreKept queue pdus → hold.oldest id pdus ≡ None → only id queue ≡ []
none_held id [] [] k e = refl
none_held id [] (p ∷ pdus) k e = absurd k
none_held id (h ∷ queue) [] k e = absurd k
none_held id (h ∷ queue) (p ∷ pdus) k e = by_test (eqb p.id id) refl (none_held id queue pdus k.1) e where
  only_is : only id (h ∷ queue) ≡ cond (eqb p.id id) (h ∷ only id queue) (only id queue)
  only_is = ap (λ o. cond (is_of id o) (h ∷ only id queue) (only id queue)) k.0.0

  by_test : (b : Bool) → eqb p.id id ≡ b → (hold.oldest id pdus ≡ None → only id queue ≡ []) → cond b (Some p) (hold.oldest id pdus) ≡ None → only id (h ∷ queue) ≡ []
  by_test true is deeper e = absurd (let never : Some p ≡ None = e in cc)
  by_test false is deeper e = only_is ∙ ap (λ b. cond b (h ∷ only id queue) (only id queue)) is ∙ deeper e

pub none_went : (s : Store) (t : Trace Act) (gone : Gone) (kind : Kind) (id : ℕ) → hold.oldest id (held_of kind s) ≡ None → Stands s t gone → Went kind id t gone s false
none_went s t gone kind id none st =
    let nothing = none_held id (held s.role kind t) (held_of kind s) (kept_of s t gone kind st) none in
    over (subst (λ g. Came g gone s) (sym (ap (λ q. released s.role kind id q t) nothing)) (refl, st))

pub closed_went : (s : Store) (t : Trace Act) (gone : Gone) (kind : Kind) (id : ℕ) → is_closed s.role id t ≡ true → Stands s t gone → Went kind id t gone s false
closed_went s t gone kind id closed st =
    over (subst (λ g. Came g gone s) (sym (closed_over s.role kind id (only id (held s.role kind t)) t closed)) (refl, st))

-- ---- data that aren't taken

front_released : (s : Trace Act) (role : Role) (kind : Kind) (id : ℕ) (queue : List Held) (t : Trace Act) → IsFront s t → IsFront s (released role kind id queue t).acts
front_released s role kind id [] t f = f
front_released s role kind id (h ∷ queue) t f =
    by_closed (is_closed role id t) (front_released s role kind id queue (t ▷ Releases kind h.at h.bytes h.pdu) (shorter s t (Releases kind h.at h.bytes h.pdu) f))
    (front_released s role Lossy id queue (t ▷ Discards h.at h.bytes h.pdu) (shorter s t (Discards h.at h.bytes h.pdu) f)) where
      Deeper : Type 0
      Deeper = IsFront s (released role kind id queue (t ▷ Releases kind h.at h.bytes h.pdu)).acts

      Other : Type 0
      Other = IsFront s (released role Lossy id queue (t ▷ Discards h.at h.bytes h.pdu)).acts

      by_kind : (k : Kind) (why : Why) → Other → IsFront s (elim k as (λ w. Grown) [
        | Reliable ↦ record { acts = t; fault = Some (h.at, why) }
        | Lossy ↦ released role Lossy id queue (t ▷ Discards h.at h.bytes h.pdu)
      ]).acts
      by_kind Reliable why o = f
      by_kind Lossy why o = o

      by_fault : (w : Option Why) → Deeper → Other → IsFront s (elim w as (λ w. Grown) [
        | None ↦ released role kind id queue (t ▷ Releases kind h.at h.bytes h.pdu)
        | Some why ↦ elim kind as (λ w. Grown) [
          | Reliable ↦ record { acts = t; fault = Some (h.at, why) }
          | Lossy ↦ released role Lossy id queue (t ▷ Discards h.at h.bytes h.pdu)
        ]
      ]).acts
      by_fault None d o = d
      by_fault (Some why) d o = by_kind kind why o

      by_closed : (b : Bool) → Deeper → Other → IsFront s (cond b (fine t) (elim (release_fault role t h.pdu) as (λ w. Grown) [
        | None ↦ released role kind id queue (t ▷ Releases kind h.at h.bytes h.pdu)
        | Some why ↦ elim kind as (λ w. Grown) [
          | Reliable ↦ record { acts = t; fault = Some (h.at, why) }
          | Lossy ↦ released role Lossy id queue (t ▷ Discards h.at h.bytes h.pdu)
        ]
      ])).acts
      by_closed true d o = f
      by_closed false d o = by_fault (release_fault role t h.pdu) d o

lacked : (s : Store) (t : Trace Act) (gone : Gone) (kind : Kind) (id : ℕ) (h : Held) (rest : List Held) (untaken : Untaken) → only id (held s.role kind t) ≡ h ∷ rest → said h.pdu ≡ Brings id → is_closed s.role id t ≡ false
    → release_fault s.role t h.pdu ≡ None → why_of untaken.cause ≡ None → Stands s t gone → Lacked t (all_released s.role kind id t) gone s untaken
lacked s t gone kind id h rest untaken first_is e fresh none cause st =
    let act = Releases kind h.at h.bytes h.pdu in record {
      cause_is = cause;
      reached = t;
      begun = whole t;
      next = act;
      takes = ap is_for_memory e;
      due = subst (λ (g : Grown). IsFront (t ▷ act) g.acts) (sym (first_next s.role kind id h rest t None first_is fresh none)) (front_released (t ▷ act) s.role kind id rest (t ▷ act) (whole (t ▷ act)));
      stands = st;
    }

met : (s : Store) (t : Trace Act) (gone : Gone) (id : ℕ) (h : Held) (rest : List Held) (why : Why) (untaken : Untaken) → only id (held s.role Reliable t) ≡ h ∷ rest → is_closed s.role id t ≡ false
    → release_fault s.role t h.pdu ≡ Some why → untaken.at ≡ told_place h.at → why_of untaken.cause ≡ Some why → Stands s t gone → Met (all_released s.role Reliable id t) gone s untaken
met s t gone id h rest why untaken first_is fresh fault at_is cause st =
    let is = first_next s.role Reliable id h rest t (Some why) first_is fresh fault in record {
      place = h.at;
      why = why;
      fault_is = ap (λ (g : Grown). g.fault) is;
      at_is = at_is;
      cause_is = cause;
      stands = subst (λ (g : Grown). Stands s g.acts gone) (sym is) st;
    }

by_against : (s : Store) (t : Trace Act) (gone : Gone) (kind : Kind) (id : ℕ) (h : Held) (rest : List Held) (untaken : Untaken) (w : Option Why) → why_of untaken.cause ≡ w → only id (held s.role kind t) ≡ h ∷ rest → said h.pdu ≡ Brings id
    → is_closed s.role id t ≡ false → release_fault s.role t h.pdu ≡ w → drops kind w ≡ false → untaken.at ≡ told_place h.at → Stands s t gone → Ended t (all_released s.role kind id t) gone s untaken
by_against s t gone kind id h rest untaken None is first_is e fresh against undropped at_is st = inr (lacked s t gone kind id h rest untaken first_is e fresh against is st)
by_against s t gone Reliable id h rest untaken (Some why) is first_is e fresh against undropped at_is st = inl (met s t gone id h rest why untaken first_is fresh against at_is is st)
by_against s t gone Lossy id h rest untaken (Some why) is first_is e fresh against undropped at_is st = absurd (let never : true ≡ false = undropped in cc)

-- the oldest of the channel, and what there is against it
pub ended_first : (s : Store) (t : Trace Act) (gone : Gone) (kind : Kind) (id : ℕ) (p : hold.Pdu) (pdu : Pdu) (untaken : Untaken) → hold.oldest id (held_of kind s) ≡ Some p → reading (other s.role) p.bytes ≡ Ok pdu → said pdu ≡ Brings id
    → is_closed s.role id t ≡ false → release_fault s.role t pdu ≡ why_of untaken.cause → drops kind (why_of untaken.cause) ≡ false → untaken.at ≡ p.at → Stands s t gone
    → Ended t (all_released s.role kind id t) gone s untaken
ended_first s t gone kind id p pdu untaken oldest_is read_is e fresh against undropped at_is st =
    let f = first_held id (held s.role kind t) (held_of kind s) p (kept_of s t gone kind st) oldest_is in
    let same : (f.h).pdu ≡ pdu = ok_is (f.h).pdu pdu (ap (reading (other s.role)) (f.kept).2 ∙ (f.kept).3 (other s.role)) read_is in
    by_against s t gone kind id f.h f.rest untaken (why_of untaken.cause) refl f.first_is (ap said same ∙ e) fresh (ap (release_fault s.role t) same ∙ against) undropped (at_is ∙ (f.kept).1) st

-- ---- one after the other

pub ended_on : (t u : Trace Act) (g h : Grown) (gone : Gone) (s : Store) (untaken : Untaken) → IsFront t u → g ≡ h → Ended u g gone s untaken → Ended t h gone s untaken
ended_on t u g h gone s untaken f same (inl m) = inl (subst (λ g. Met g gone s untaken) same m)
ended_on t u g h gone s untaken f same (inr l) =
    inr (record { cause_is = l.cause_is; reached = l.reached; begun = front_then t u l.reached f l.begun; next = l.next; takes = l.takes; due = subst (λ (g : Grown). IsFront (l.reached ▷ l.next) g.acts) same l.due; stands = l.stands })

-- each takes one from what is held
pub fewer : (id : ℕ) (pdus : List hold.Pdu) (p : hold.Pdu) → hold.oldest id pdus ≡ Some p → length (hold.without_oldest id pdus) + 1 ≡ length pdus
fewer id [] p e = never_none e
fewer id (q ∷ pdus) p e = by_test (eqb q.id id) e (fewer id pdus p) where
  by_test : (b : Bool) → cond b (Some q) (hold.oldest id pdus) ≡ Some p → (hold.oldest id pdus ≡ Some p → length (hold.without_oldest id pdus) + 1 ≡ length pdus) → length (cond b pdus (q ∷ hold.without_oldest id pdus)) + 1 ≡ length (q ∷ pdus)
  by_test true e deeper = omega arith
  by_test false e deeper = omega (arith, deeper e)

pub fewer_oldest : (kind : Kind) (id : ℕ) (pdu : Pdu) (s after : Store) → IsOldest kind id pdu s → held_of kind after ≡ hold.without_oldest id (held_of kind s) → length (held_of kind after) + 1 ≡ length (held_of kind s)
fewer_oldest kind id pdu s after o is = ap (λ (l : List hold.Pdu). length l + 1) is ∙ fewer id (held_of kind s) o.kept o.oldest_is

-- of an end of the same role
pub fresh_still : (s after : Store) (t : Trace Act) (id : ℕ) → after.role ≡ s.role → is_closed s.role id t ≡ false → is_closed after.role id t ≡ false
fresh_still s after t id same fresh = ap (λ role. is_closed role id t) same ∙ fresh

-- by what the table says
pub closed_inside : (inside s : Store) (id : ℕ) (r : ChannelState) (told b : Bool) → inside ≡ s → ((u : Trace Change) → channels.Stands inside.channels u → r ≡ change.state u id) → told ≡ is_closed_in r → told ≡ b
    → (t : Trace Act) (gone : Gone) → Stands s t gone → is_closed s.role id t ≡ b
closed_inside inside s id r told b view_is is told_is told_as t gone st =
    ap (λ (s : Store). is_closed s.role id t) (sym view_is) ∙ closed_as inside t gone id r told b is told_is told_as (subst (λ s. Stands s t gone) (sym view_is) st)

place_at : (p : hold.Pdu) (at : ℕ) (o : Option hold.Pdu) → o ≡ Some p → option_map (λ (p : hold.Pdu). p.at) o ≡ Some at → at ≡ p.at
place_at p at o is e = let same : Some p.at ≡ Some at = sym (ap (option_map (λ (p : hold.Pdu). p.at)) is) ∙ e in cc

pub ended_oldest : (s after : Store) (t : Trace Act) (gone : Gone) (kind : Kind) (id : ℕ) (pdu : Pdu) (untaken : Untaken) → after ≡ s → IsOldest kind id pdu s → option_map (λ (p : hold.Pdu). p.at) (hold.oldest id (held_of kind s)) ≡ Some untaken.at
    → said pdu ≡ Brings id → is_closed s.role id t ≡ false → IsCause (release_fault s.role t pdu) untaken.cause → drops kind (why_of untaken.cause) ≡ false → Stands s t gone
    → Ended t (all_released s.role kind id t) gone after untaken
ended_oldest s after t gone kind id pdu untaken same o place e fresh against undropped st =
    subst (λ x. Ended t (all_released s.role kind id t) gone x untaken) (sym same)
    (ended_first s t gone kind id o.kept pdu untaken o.oldest_is o.read_is e fresh against undropped (place_at o.kept untaken.at (hold.oldest id (held_of kind s)) o.oldest_is place) st)

pub went_on : (before after : Store) (kind : Kind) (id : ℕ) (t u : Trace Act) (gone : Gone) (g : Grown) (b : Bool) → b ≡ true → after.role ≡ before.role → IsFront t u → all_released before.role kind id u ≡ g → Went kind id u gone after b
    → (v : Trace Act) × IsFront t v × (all_released after.role kind id v ≡ g) × Stands after v gone
went_on before after kind id t u gone g true e role_is f same (on act still st) = (u ▷ act, shorter t u act f, still ∙ ap (λ role. all_released role kind id u) role_is ∙ same, st)
went_on before after kind id t u gone g false e role_is f same w = absurd (let never : false ≡ true = e in cc)

pub went_over : (before after : Store) (kind : Kind) (id : ℕ) (u : Trace Act) (gone : Gone) (g : Grown) (b : Bool) → b ≡ false → after.role ≡ before.role → all_released before.role kind id u ≡ g → Went kind id u gone after b → Came g gone after
went_over before after kind id u gone g true e role_is same w = absurd (let never : true ≡ false = e in cc)
went_over before after kind id u gone g false e role_is same (over c) = subst (λ g. Came g gone after) (ap (λ role. all_released role kind id u) role_is ∙ same) c

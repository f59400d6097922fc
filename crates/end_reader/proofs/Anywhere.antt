-- What rests, and that no answer is due, is the same for all acts that an end stands for.
use Rattle.std.proofs.Common.{◌≡◌, ℕ, Bool, true, false, cond, List, [], ◌∷◌, None, refl, sym, ap, ◌∙◌}
use Rattle.mt_base.specs.Trace.{Trace}
use Rattle.mt_base.specs.declared.kinds.Kind.TheVariants.{Reliable, Lossy}
use Rattle.mt_base.specs.declared.kinds.Role.TheVariants.{Client}
use Rattle.hold_queue.specs.Held as hold
use Rattle.mt_endpoint.specs.Acts.{Act}
use Rattle.mt_endpoint.specs.Holding.{Held, channel_of, held, is_of, is_through, only}
use Rattle.mt_endpoint.specs.Resting.{Rests}
use Rattle.end_session.specs.AnswerDue.{due_in}
use Rattle.end_session.specs.Standing.{AreKept, Gone, Stands}
use Rattle.end_session.specs.Store.{Store}
use Rattle.end_session.proofs.DataHeard.{inward_is}
use Rattle.end_session.proofs.DueKept.{due_is}
use Rattle.end_reader.specs.declared.reader.Reader.{Reader}
use Rattle.end_reader.specs.Standing.{Reads}
use Rattle.end_calls.specs.Streams.{Past}

-- two queues that are kept alike hold PDUs of the same channels
none_kept : (id : ℕ) (hs ks : List Held) (pdus : List hold.Pdu) → AreKept hs pdus → AreKept ks pdus → only id hs ≡ [] → only id ks ≡ []
none_kept id [] [] pdus a b e = refl
none_kept id [] (k ∷ ks) [] a b e = absurd b
none_kept id [] (k ∷ ks) (pdu ∷ pdus) a b e = absurd a
none_kept id (h ∷ hs) ks [] a b e = absurd a
none_kept id (h ∷ hs) [] (pdu ∷ pdus) a b e = absurd b
none_kept id (h ∷ hs) (k ∷ ks) (pdu ∷ pdus) a b e = by_test (is_of id (channel_of h.pdu)) refl e (none_kept id hs ks pdus a.1 b.1) where
  same : is_of id (channel_of k.pdu) ≡ is_of id (channel_of h.pdu)
  same = ap (is_of id) (b.0.0 ∙ sym a.0.0)

  by_test : (x : Bool) → is_of id (channel_of h.pdu) ≡ x → cond x (h ∷ only id hs) (only id hs) ≡ [] → (only id hs ≡ [] → only id ks ≡ []) → only id (k ∷ ks) ≡ []
  by_test true is none deeper = absurd (let no : h ∷ only id hs ≡ [] = none in cc)
  by_test false is none deeper = ap (λ x. cond x (k ∷ only id ks) (only id ks)) (same ∙ is) ∙ deeper none

pub rests_anywhere : (s : Store) (t u : Trace Act) (gone left : Gone) → Stands s t gone → Rests s.role t → Stands s u left → Rests s.role u
rests_anywhere s t u gone left st rests su id Reliable h =
    none_kept id (held s.role Reliable t) (held s.role Reliable u) s.held_reliable (st.knows).reliable_held (su.knows).reliable_held
    (rests id Reliable (ap (is_through Reliable) (sym (inward_is s t gone id st) ∙ inward_is s u left id su) ∙ h))
rests_anywhere s t u gone left st rests su id Lossy h =
    none_kept id (held s.role Lossy t) (held s.role Lossy u) s.held_lossy (st.knows).lossy_held (su.knows).lossy_held
    (rests id Lossy (ap (is_through Lossy) (sym (inward_is s t gone id st) ∙ inward_is s u left id su) ∙ h))

pub rests_of : (r : Reader) → ((p : Past) × (gone : Gone) × Reads r p gone) → (r.session).broken ≡ None → (t : Trace Act) (gone : Gone) → Stands r.session t gone → Rests (r.session).role t
rests_of r w fine t gone st =
    let rd = w.2 in
    rests_anywhere r.session w.0.acts t w.1 gone rd.stands (rd.rests (sym rd.broken_is ∙ fine)) st

pub quiet_of : (r : Reader) → ((p : Past) × (gone : Gone) × Reads r p gone) → (r.session).broken ≡ None → (r.session).role ≡ Client → due_in r.session ≡ None
quiet_of r w fine client =
    let rd = w.2 in
    sym (due_is r.session w.0.acts w.1 client rd.stands) ∙ rd.quiet (sym rd.broken_is ∙ fine) client

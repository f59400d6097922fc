-- An end that releases a close that was held stands for one act more.
use Rattle.std.proofs.Common.{◌≡◌, ℕ, ◌+◌, ◌≤◌, Bool, true, false, cond, not, List, [], ◌∷◌, length, length-append, append-nil, Some, is_some, refl, sym, ap, subst, ◌∙◌, arith}
use Rattle.mt_base.specs.Ends.{same_kind}
use Rattle.mt_base.specs.declared.kinds.Kind.{Kind}
use Rattle.mt_base.specs.declared.kinds.Kind.TheVariants.{Reliable, Lossy}
use Rattle.mt_base.specs.declared.kinds.Role.{Role}
use Rattle.mt_base.specs.declared.kinds.Role.TheVariants.{Server, Client}
use Rattle.mt_base.specs.Trace.{Trace, ◌▷◌}
use Rattle.dvc_channels.specs.Acts.{TakesData, ids}
use Rattle.dvc_channels.specs.Table as channels
use Rattle.dvc_channels.specs.declared.answers.ChannelRefusal.TheVariants as refusal
use Rattle.dvc_pdus.specs.Value.{Close, spelled}
use Rattle.hold_queue.specs.Held as hold
use Rattle.soft_sync.specs.Words.{HasPlace, Words}
use Rattle.soft_sync.specs.Words as words
use Rattle.soft_sync.specs.declared.kinds.Path.{Path}
use Rattle.soft_sync.specs.declared.kinds.Path.TheVariants.{Main, Tunnel}
use Rattle.mt_endpoint.specs.Acts.{Act, Carried, Releases, Spoken}
use Rattle.mt_endpoint.specs.Alone.{IsDue}
use Rattle.mt_endpoint.specs.Channels.{channel, is_closed, table}
use Rattle.mt_endpoint.specs.Faults as faults
use Rattle.mt_endpoint.specs.Holding.{Held, channel_of, held, is_of, is_through, without, without_first}
use Rattle.mt_endpoint.specs.Moving.{outward}
use Rattle.mt_endpoint.specs.Orders.{is_among}
use Rattle.mt_endpoint.specs.Writing.{adds, closing, framed, tunneled, unless}
use Rattle.mt_endpoint.proofs.Creating.{rooted}
use Rattle.mt_endpoint.proofs.HeldTaken.{first_known}
use Rattle.mt_endpoint.proofs.Known.{due_known}
use Rattle.end_session.specs.Known.{Known}
use Rattle.end_session.specs.Outgoing.{Outgoing}
use Rattle.end_session.specs.Releasing.{IsOldest, Released, taken}
use Rattle.end_session.specs.Standing.{Gone, Stands, Waits}
use Rattle.end_session.specs.Store.{Store}
use Rattle.end_session.specs.Writes.{writes}
use Rattle.end_session.proofs.DataHeard.{IsClosedBy, ends, outward_is, taking, wrote}
use Rattle.end_session.proofs.Freed.{MayRelease, may_release, release_tells}
use Rattle.end_session.proofs.Sizes.{close_short}
use Rattle.end_session.proofs.Still.{IsStill}
use Rattle.end_session.proofs.ToldOf.{has_place}

-- ---- the act

close_still : (role : Role) (kind : Kind) (t : Trace Act) (at : ℕ) (bytes : List ℕ) (id : ℕ) → IsStill role t (Releases kind at bytes (Close id))
close_still role kind t at bytes id = record {
  reliable = release_tells role Reliable kind t at bytes (Close id);
  lossy = release_tells role Lossy kind t at bytes (Close id);
  says = record { none_made = refl; none_read = refl; no_answer_read = refl; no_answer_made = refl; no_version = refl; no_capabilities = refl };
  none_issued = refl;
}

close_adds : (role : Role) (kind : Kind) (t : Trace Act) (at : ℕ) (bytes : List ℕ) (id : ℕ) → adds role t (Releases kind at bytes (Close id)) ≡ unless (is_closed role id t) (closing (outward id t) id ∷ [])
close_adds Server kind t at bytes id = append-nil (unless (is_closed Server id t) (closing (outward id t) id ∷ []))
close_adds Client kind t at bytes id = append-nil (unless (is_closed Client id t) (closing (outward id t) id ∷ []))

-- its channel is left with nothing that is held
without_both : (id : ℕ) (queue : List Held) → without id (without_first (Some id) queue) ≡ without id queue
without_both id [] = refl
without_both id (h ∷ queue) = by_test (is_of id (channel_of h.pdu)) refl (without_both id queue) where
  by_test : (b : Bool) → is_of id (channel_of h.pdu) ≡ b → without id (without_first (Some id) queue) ≡ without id queue
      → without id (cond b queue (h ∷ without_first (Some id) queue)) ≡ cond b (without id queue) (h ∷ without id queue)
  by_test true e deeper = refl
  by_test false e deeper = ap (λ b. cond b (without id (without_first (Some id) queue)) (h ∷ without id (without_first (Some id) queue))) e ∙ ap (λ l. h ∷ l) deeper

held_ended : (role : Role) (k kind : Kind) (t : Trace Act) (at : ℕ) (bytes : List ℕ) (id : ℕ) → held role k (t ▷ Releases kind at bytes (Close id)) ≡ without id (held role k t)
held_ended role k kind t at bytes id = by_test (same_kind k kind) where
  by_test : (b : Bool) → without id (cond b (without_first (Some id) (held role k t)) (held role k t)) ≡ without id (held role k t)
  by_test true = without_both id (held role k t)
  by_test false = refl

-- ---- it may be released

close_due : (s : Store) (t : Trace Act) (kind : Kind) (id : ℕ) (m : MayRelease s t kind id (Close id)) → is_closed s.role id t ≡ false → IsDue s.role kind t (m.h).at (m.h).bytes (Close id)
close_due s t kind id m fresh = record {
  id = id;
  rest = m.rest;
  channel_is = refl;
  word_is_read = m.through;
  is_fresh = fresh;
  is_oldest = m.first_is ∙ ap (λ p. record { at = (m.h).at; bytes = (m.h).bytes; pdu = p } ∷ m.rest) m.pdu_is;
  is_taken = refl;
}

-- what the call was asked for
pub record IsCloseDue (kind : Kind) (id : ℕ) (s : Store) : Type 0 where
  pub word : is_through kind (words.inward id s.paths) ≡ true
  pub fresh : (t : Trace Act) (gone : Gone) → Stands s t gone → is_closed s.role id t ≡ false
  pub oldest : IsOldest kind id (Close id) s

pub close_takes : (s : Store) (t : Trace Act) (gone : Gone) (kind : Kind) (id : ℕ) → IsCloseDue kind id s → Stands s t gone → TakesData (channel s.role id t)
close_takes s t gone kind id d st =
    let m = may_release s t gone kind id (Close id) d.word d.oldest st in
    taking (channel s.role id t) (faults.Channel (refusal.UnknownChannel id)) (first_known s.role kind t id id m.h m.rest (st.knows).lawful m.first_is (ap channel_of m.pdu_is))

listed : (s : Store) (t : Trace Act) (gone : Gone) (kind : Kind) (id : ℕ) → IsCloseDue kind id s → Stands s t gone → is_among id (ids (table s.role t)) ≡ true
listed s t gone kind id d st =
    let m = may_release s t gone kind id (Close id) d.word d.oldest st in
    (rooted s.role t (st.knows).lawful).listed id (due_known s.role kind t (m.h).at (m.h).bytes (Close id) (close_due s t kind id m (d.fresh t gone st)))

pub close_told : (s : Store) (t : Trace Act) (gone : Gone) (kind : Kind) (id : ℕ) → IsCloseDue kind id s → Stands s t gone → HasPlace id (s.paths).channels
close_told s t gone kind id d st = has_place s.role t id (s.paths).channels ((st.knows).words_are).channels_are (listed s t gone kind id d st)

pub close_released : (s : Store) (t : Trace Act) (gone : Gone) (kind : Kind) (id : ℕ) (c : channels.Table) (w : Words) (reliable lossy : List hold.Pdu) (o : Outgoing) (path : Path) (silent : Bool) → IsCloseDue kind id s
    → IsClosedBy s id c w reliable lossy → path ≡ words.outward id s.paths → silent ≡ is_some (s.reliable).silence → o ≡ writes silent (closing path id) s.outgoing → Stands s t gone
    → Released kind id (Close id) t gone (record s { channels = c; paths = w; held_reliable = reliable; held_lossy = lossy; outgoing = o }) true
close_released s t gone kind id c w reliable lossy o path silent d by path_is silent_is o_is st =
    let k = st.knows in
    let m = may_release s t gone kind id (Close id) d.word d.oldest st in
    let at = (m.h).at in
    let bytes = (m.h).bytes in
    let act = Releases kind at bytes (Close id) in
    let fresh = d.fresh t gone st in
    let one = close_adds s.role kind t at bytes id ∙ ap (λ b. unless b (closing (outward id t) id ∷ [])) fresh ∙ ap (λ p. closing p id ∷ []) (sym (path_is ∙ outward_is s t gone id st)) in
    let quiet_is = sym (silent_is ∙ ap (λ (k : Known). is_some k.silence) k.reliable_is) in
    taken m.h m.rest m.first_is m.pdu_is refl
    (ends s t gone act id c w reliable lossy o (close_still s.role kind t at bytes id) (sym (ap not k.begun), close_due s t kind id m fresh, k.lawful) refl (λ k. held_ended s.role k kind t at bytes id)
    (listed s t gone kind id d st) by (subst (λ o. Waits s.role o (t ▷ act) gone) (sym o_is) (wrote s.role s.outgoing t gone act id path silent one quiet_is st.waits)) st)

-- ---- what it writes

pub record IsShortOf (o after : Outgoing) : Type 0 where
  pub main : length after.main ≤ length o.main + 8
  pub reliable : length after.reliable ≤ length o.reliable + 9
  pub lossy : after.lossy ≡ o.lossy

pub writes_short : (silent : Bool) (path : Path) (id : ℕ) (o : Outgoing) → IsShortOf o (writes silent (closing path id) o)
writes_short silent Main id o = record { main = omega (arith, length-append o.main (framed (Spoken (Close id))), length-append (spelled (Close id)) [], close_short id); reliable = omega arith; lossy = refl }
writes_short silent (Tunnel Lossy) id o = record { main = omega (arith, length-append o.main (framed (Spoken (Close id))), length-append (spelled (Close id)) [], close_short id); reliable = omega arith; lossy = refl }
writes_short true (Tunnel Reliable) id o = record { main = omega arith; reliable = omega arith; lossy = refl }
writes_short false (Tunnel Reliable) id o = record { main = omega arith; reliable = omega (arith, length-append o.reliable (tunneled (Carried (spelled (Close id)) (Close id))), length-append (spelled (Close id)) [], close_short id); lossy = refl }

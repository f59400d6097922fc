-- An end that releases data that were held stands for one act more.
use Rattle.std.proofs.Common.{◌≡◌, ℕ, ◌≤◌, Bool, true, false, cond, not, eqb, List, [], ◌∷◌, ◌++◌, Option, Some, None, Result, Ok, Err, OnOk, refl, sym, ap, subst, ◌∙◌}
use Rattle.mt_base.specs.Ends.{other, same_kind}
use Rattle.mt_base.specs.declared.kinds.Kind.{Kind}
use Rattle.mt_base.specs.declared.kinds.Kind.TheVariants.{Reliable, Lossy}
use Rattle.mt_base.specs.declared.kinds.Role.{Role}
use Rattle.mt_base.specs.declared.kinds.Role.TheVariants.{Server, Client}
use Rattle.mt_base.proofs.Fields.{ok_is}
use Rattle.mt_base.specs.Trace.{Trace, ◌▷◌}
use Rattle.dvc_channels.specs.Acts.{Act as Change, Came, IsAnswer, refusal_of}
use Rattle.dvc_channels.specs.Acts as change
use Rattle.dvc_channels.specs.Table as channels
use Rattle.dvc_channels.specs.declared.answers.Accepted.{Accepted}
use Rattle.dvc_channels.specs.declared.answers.ChannelRefusal.{ChannelRefusal}
use Rattle.dvc_channels.specs.declared.answers.ChannelRefusal.TheVariants as refusal
use Rattle.dvc_pdus.specs.Reading.{reading}
use Rattle.dvc_pdus.specs.Value.{Pdu, Caps, CreateRequest, CreateResponse, DataFirst, Data, CompressedFirst, Compressed, Close, SyncRequest, SyncResponse}
use Rattle.hold_queue.specs.Held as hold
use Rattle.soft_sync.specs.Words as words
use Rattle.mt_endpoint.specs.Acts.{Act, Releases, Discards}
use Rattle.mt_endpoint.specs.Alone.{IsDropped, IsDue}
use Rattle.mt_endpoint.specs.Channels.{is_closed, is_open_in, table, tells_capabilities, with_said}
use Rattle.mt_endpoint.specs.Faults.{Why, because, release_fault, release_fault_of}
use Rattle.mt_endpoint.specs.Holding.{Held, channel_in, channel_of, held, is_of, is_through, only, unless_ended, without_first}
use Rattle.mt_endpoint.specs.Moving.{inward}
use Rattle.mt_endpoint.specs.Said.{Brings, said}
use Rattle.mt_endpoint.specs.Tunnels.{refusal_in}
use Rattle.mt_endpoint.specs.Writing.{adds, reply}
use Rattle.end_session.specs.declared.cause.Cause.{Cause}
use Rattle.end_session.specs.Causes.{cause_of, why_of}
use Rattle.end_session.specs.Drawing.{held_of}
use Rattle.end_session.specs.Releasing.{IsOldest, Released, dropped, drops, released_from, taken}
use Rattle.end_session.specs.Standing.{AreKept, Gone, IsKeptAs, IsLawful, Stands}
use Rattle.end_session.specs.Store.{Store}
use Rattle.end_session.proofs.DataHeard.{inward_is}
use Rattle.end_session.proofs.Putting.{quiet}
use Rattle.end_session.proofs.Still.{IsStill, TellsNothing, knows_still}

-- ---- the oldest that is held

pub record IsFirst (id : ℕ) (queue : List Held) (p : hold.Pdu) : Type 0 where
  pub h : Held
  pub rest : List Held
  pub first_is : only id queue ≡ h ∷ rest
  pub kept : IsKeptAs h p

some_same : (p q : hold.Pdu) → Some p ≡ Some q → p ≡ q
some_same p q e = cc

pub never_none : {A : Type 0} {p : hold.Pdu} → None ≡ Some p → A
never_none e = cc

pub first_held : (id : ℕ) (queue : List Held) (pdus : List hold.Pdu) (p : hold.Pdu) → AreKept queue pdus → hold.oldest id pdus ≡ Some p → IsFirst id queue p
first_held id [] [] p k e = never_none e
first_held id [] (q ∷ pdus) p k e = absurd k
first_held id (h ∷ queue) [] p k e = absurd k
first_held id (h ∷ queue) (q ∷ pdus) p k e = by_test (eqb q.id id) refl (first_held id queue pdus p k.1) e where
  only_is : only id (h ∷ queue) ≡ cond (eqb q.id id) (h ∷ only id queue) (only id queue)
  only_is = ap (λ o. cond (is_of id o) (h ∷ only id queue) (only id queue)) k.0.0

  by_test : (b : Bool) → eqb q.id id ≡ b → (hold.oldest id pdus ≡ Some p → IsFirst id queue p) → cond b (Some q) (hold.oldest id pdus) ≡ Some p → IsFirst id (h ∷ queue) p
  by_test true is deeper e = record {
    h = h;
    rest = only id queue;
    first_is = only_is ∙ ap (λ b. cond b (h ∷ only id queue) (only id queue)) is;
    kept = subst (IsKeptAs h) (some_same q p e) k.0;
  }
  by_test false is deeper e =
      let f = deeper e in record {
        h = f.h;
        rest = f.rest;
        first_is = only_is ∙ ap (λ b. cond b (h ∷ only id queue) (only id queue)) is ∙ f.first_is;
        kept = f.kept;
      }

kept_but_first : (id : ℕ) (queue : List Held) (pdus : List hold.Pdu) → AreKept queue pdus → AreKept (without_first (Some id) queue) (hold.without_oldest id pdus)
kept_but_first id [] [] k = tt
kept_but_first id [] (p ∷ pdus) k = absurd k
kept_but_first id (h ∷ queue) [] k = absurd k
kept_but_first id (h ∷ queue) (p ∷ pdus) k =
    subst (λ o. AreKept (cond (is_of id o) queue (h ∷ without_first (Some id) queue)) (cond (eqb p.id id) pdus (p ∷ hold.without_oldest id pdus))) (sym k.0.0)
    (by_test (eqb p.id id) (kept_but_first id queue pdus k.1)) where
      by_test : (b : Bool) → AreKept (without_first (Some id) queue) (hold.without_oldest id pdus) → AreKept (cond b queue (h ∷ without_first (Some id) queue)) (cond b pdus (p ∷ hold.without_oldest id pdus))
      by_test true deeper = k.1
      by_test false deeper = (k.0, deeper)

-- of either tunnel
but_first : (k kind : Kind) (id : ℕ) (queue : List Held) (pdus : List hold.Pdu) (of : Option ℕ) → of ≡ Some id → AreKept queue pdus → AreKept (cond (same_kind k kind) (without_first of queue) queue) (released_from k kind id pdus)
but_first k kind id queue pdus of is kept =
    subst (λ o. AreKept (cond (same_kind k kind) (without_first o queue) queue) (released_from k kind id pdus)) (sym is) (by_test (same_kind k kind))
  where
    by_test : (b : Bool) → AreKept (cond b (without_first (Some id) queue) queue) (cond b (hold.without_oldest id pdus) pdus)
    by_test true = kept_but_first id queue pdus kept
    by_test false = kept

-- ---- the channel takes it

no_capabilities : (pdu : Pdu) (id : ℕ) → said pdu ≡ Brings id → tells_capabilities (pdu ∷ []) ≡ false
no_capabilities (Caps version charges) id e = cc
no_capabilities (CreateRequest made priority name) id e = refl
no_capabilities (CreateResponse made status) id e = refl
no_capabilities (DataFirst made total bytes) id e = refl
no_capabilities (Data made bytes) id e = refl
no_capabilities (CompressedFirst made total bytes) id e = refl
no_capabilities (Compressed made bytes) id e = refl
no_capabilities (Close made) id e = refl
no_capabilities (SyncRequest flags tunnels lists) id e = refl
no_capabilities (SyncResponse types) id e = refl

release_refuses_none : (role : Role) (k kind : Kind) (t : Trace Act) (at : ℕ) (bytes : List ℕ) (pdu : Pdu) → refusal_in role k t (Releases kind at bytes pdu) ≡ None
release_refuses_none Server k kind t at bytes pdu = refl
release_refuses_none Client k kind t at bytes pdu = refl

pub release_tells : (role : Role) (k kind : Kind) (t : Trace Act) (at : ℕ) (bytes : List ℕ) (pdu : Pdu) → TellsNothing role k t (Releases kind at bytes pdu)
release_tells role k kind t at bytes pdu =
    record { no_request = refl; no_link = refl; no_verdict = refl; no_answer = refl; no_refusal = release_refuses_none role k kind t at bytes pdu; no_silence = refl }

release_still : (role : Role) (kind : Kind) (t : Trace Act) (at id : ℕ) (bytes : List ℕ) (pdu : Pdu) → said pdu ≡ Brings id → IsStill role t (Releases kind at bytes pdu)
release_still role kind t at id bytes pdu e = record {
  reliable = release_tells role Reliable kind t at bytes pdu;
  lossy = release_tells role Lossy kind t at bytes pdu;
  says = record { none_made = refl; none_read = refl; no_answer_read = refl; no_answer_made = refl; no_version = refl; no_capabilities = no_capabilities pdu id e };
  none_issued = refl;
}

no_reply : (role : Role) (kind : Kind) (t : Trace Act) (at id : ℕ) (bytes : List ℕ) (pdu : Pdu) → said pdu ≡ Brings id → adds role t (Releases kind at bytes pdu) ≡ []
no_reply Server kind t at id bytes pdu e = ap (λ x. reply Server t x ++ []) e
no_reply Client kind t at id bytes pdu e = ap (λ x. reply Client t x ++ []) e

kept_after : (role : Role) (k kind : Kind) (t : Trace Act) (at id : ℕ) (bytes : List ℕ) (pdu : Pdu) (pdus : List hold.Pdu) → said pdu ≡ Brings id → AreKept (held role k t) pdus
    → AreKept (held role k (t ▷ Releases kind at bytes pdu)) (released_from k kind id pdus)
kept_after role k kind t at id bytes pdu pdus e kept =
    subst (λ x. AreKept (unless_ended x (cond (same_kind k kind) (without_first (channel_of pdu) (held role k t)) (held role k t))) (released_from k kind id pdus)) (sym e)
    (but_first k kind id (held role k t) pdus (channel_of pdu) (ap channel_in e) kept)

-- what the call was given
pub record MayRelease (s : Store) (t : Trace Act) (kind : Kind) (id : ℕ) (pdu : Pdu) : Type 0 where
  pub h : Held
  pub rest : List Held
  pub first_is : only id (held s.role kind t) ≡ h ∷ rest
  pub pdu_is : h.pdu ≡ pdu
  pub through : is_through kind (inward id t) ≡ true

pub kept_of : (s : Store) (t : Trace Act) (gone : Gone) (kind : Kind) → Stands s t gone → AreKept (held s.role kind t) (held_of kind s)
kept_of s t gone Reliable st = (st.knows).reliable_held
kept_of s t gone Lossy st = (st.knows).lossy_held

pub may_release : (s : Store) (t : Trace Act) (gone : Gone) (kind : Kind) (id : ℕ) (pdu : Pdu) → is_through kind (words.inward id s.paths) ≡ true → IsOldest kind id pdu s → Stands s t gone → MayRelease s t kind id pdu
may_release s t gone kind id pdu word o st =
    let f = first_held id (held s.role kind t) (held_of kind s) o.kept (kept_of s t gone kind st) o.oldest_is in record {
      h = f.h;
      rest = f.rest;
      first_is = f.first_is;
      pdu_is = ok_is (f.h).pdu pdu (ap (reading (other s.role)) (f.kept).2 ∙ (f.kept).3 (other s.role)) o.read_is;
      through = ap (is_through kind) (sym (inward_is s t gone id st)) ∙ word;
    }

is_due : (s : Store) (t : Trace Act) (kind : Kind) (id : ℕ) (pdu : Pdu) (m : MayRelease s t kind id pdu) → said pdu ≡ Brings id → is_closed s.role id t ≡ false → release_fault s.role t pdu ≡ None
    → IsDue s.role kind t (m.h).at (m.h).bytes pdu
is_due s t kind id pdu m e fresh none = record {
  id = id;
  rest = m.rest;
  channel_is = ap channel_in e;
  word_is_read = m.through;
  is_fresh = fresh;
  is_oldest = m.first_is ∙ ap (λ p. record { at = (m.h).at; bytes = (m.h).bytes; pdu = p } ∷ m.rest) m.pdu_is;
  is_taken = none;
}

-- a release of data meets what the channel has against them
fault_by_table : (role : Role) (t : Trace Act) (id : ℕ) (pdu : Pdu) → said pdu ≡ Brings id → release_fault role t pdu ≡ because (refusal_of (table role t) id pdu)
fault_by_table role t id pdu e = ap (release_fault_of role t pdu) e

pub data_taken : (s : Store) (t : Trace Act) (gone : Gone) (kind : Kind) (id : ℕ) (pdu : Pdu) (c : channels.Table) (reliable lossy : List hold.Pdu) → is_through kind (words.inward id s.paths) ≡ true → is_closed s.role id t ≡ false
    → IsOldest kind id pdu s → said pdu ≡ Brings id → refusal_of (table s.role t) id pdu ≡ None → channels.Stands c (table s.role t ▷ Came id pdu)
    → reliable ≡ released_from Reliable kind id s.held_reliable → lossy ≡ released_from Lossy kind id s.held_lossy → Stands s t gone
    → Released kind id pdu t gone (record s { channels = c; held_reliable = reliable; held_lossy = lossy }) true
data_taken s t gone kind id pdu c reliable lossy word fresh oldest e fine stands r l st =
    let k = st.knows in
    let m = may_release s t gone kind id pdu word oldest st in
    let at = (m.h).at in
    let bytes = (m.h).bytes in
    let act = Releases kind at bytes pdu in
    let none = fault_by_table s.role t id pdu e ∙ ap because fine in
    let told = (k.words_are).channels_are in
    let same : table s.role (t ▷ act) ≡ table s.role t ▷ Came id pdu = ap (λ x. with_said s.role pdu x (table s.role t)) e in
    let kept_reliable = subst (AreKept (held s.role Reliable (t ▷ act))) (sym r) (kept_after s.role Reliable kind t at id bytes pdu s.held_reliable e k.reliable_held) in
    let kept_lossy = subst (AreKept (held s.role Lossy (t ▷ act))) (sym l) (kept_after s.role Lossy kind t at id bytes pdu s.held_lossy e k.lossy_held) in
    taken m.h m.rest m.first_is m.pdu_is none
    (record {
      knows =
          knows_still s.role s t act c (s.paths).channels reliable lossy s.outgoing k (release_still s.role kind t at id bytes pdu e) (sym (ap not k.begun), is_due s t kind id pdu m e fresh none, k.lawful)
          (subst (channels.Stands c) (sym same) stands)
          (record { ids_are = told.ids_are ∙ sym (ap change.ids same); open_are = λ x. told.open_are x ∙ sym (ap (λ u. is_open_in (change.state u x)) same) })
          kept_reliable kept_lossy;
      waits = quiet s.role s.outgoing t gone act (no_reply s.role kind t at id bytes pdu e) st.waits;
    })

-- ---- it doesn't

drop_refuses_none : (role : Role) (k : Kind) (t : Trace Act) (at : ℕ) (bytes : List ℕ) (pdu : Pdu) → refusal_in role k t (Discards at bytes pdu) ≡ None
drop_refuses_none Server k t at bytes pdu = refl
drop_refuses_none Client k t at bytes pdu = refl

drop_tells : (role : Role) (k : Kind) (t : Trace Act) (at : ℕ) (bytes : List ℕ) (pdu : Pdu) → TellsNothing role k t (Discards at bytes pdu)
drop_tells role k t at bytes pdu = record { no_request = refl; no_link = refl; no_verdict = refl; no_answer = refl; no_refusal = drop_refuses_none role k t at bytes pdu; no_silence = refl }

is_drop : (s : Store) (t : Trace Act) (id : ℕ) (pdu : Pdu) (m : MayRelease s t Lossy id pdu) → said pdu ≡ Brings id → is_closed s.role id t ≡ false → IsDropped s.role t (m.h).at (m.h).bytes pdu
is_drop s t id pdu m e fresh = record {
  id = id;
  rest = m.rest;
  channel_is = ap channel_in e;
  word_is_read = m.through;
  is_fresh = fresh;
  is_oldest = m.first_is ∙ ap (λ p. record { at = (m.h).at; bytes = (m.h).bytes; pdu = p } ∷ m.rest) m.pdu_is;
}

pub data_dropped : (s : Store) (t : Trace Act) (gone : Gone) (kind : Kind) (id : ℕ) (pdu : Pdu) (why : Why) (reliable lossy : List hold.Pdu) → kind ≡ Lossy → is_through kind (words.inward id s.paths) ≡ true → is_closed s.role id t ≡ false
    → IsOldest kind id pdu s → said pdu ≡ Brings id → release_fault s.role t pdu ≡ Some why
    → reliable ≡ released_from Reliable kind id s.held_reliable → lossy ≡ released_from Lossy kind id s.held_lossy → Stands s t gone
    → Released kind id pdu t gone (record s { held_reliable = reliable; held_lossy = lossy }) false
data_dropped s t gone Reliable id pdu why reliable lossy kind_is word fresh oldest e fault r l st = absurd (let never : Reliable ≡ Lossy = kind_is in cc)
data_dropped s t gone Lossy id pdu why reliable lossy kind_is word fresh oldest e fault r l st =
    let k = st.knows in
    let m = may_release s t gone Lossy id pdu word oldest st in
    let at = (m.h).at in
    let bytes = (m.h).bytes in
    let act = Discards at bytes pdu in
    let told = (k.words_are).channels_are in
    let kept_reliable = subst (AreKept (held s.role Reliable t)) (sym r) k.reliable_held in
    let kept_lossy = subst (AreKept (held s.role Lossy (t ▷ act))) (sym l) (but_first Lossy Lossy id (held s.role Lossy t) s.held_lossy (channel_of pdu) (ap channel_in e) k.lossy_held) in
    dropped m.h m.rest why refl m.first_is m.pdu_is fault
    (record {
      knows =
          knows_still s.role s t act s.channels (s.paths).channels reliable lossy s.outgoing k
          (record {
            reliable = drop_tells s.role Reliable t at bytes pdu;
            lossy = drop_tells s.role Lossy t at bytes pdu;
            says = record { none_made = refl; none_read = refl; no_answer_read = refl; no_answer_made = refl; no_version = refl; no_capabilities = refl };
            none_issued = refl;
          })
          (sym (ap not k.begun), is_drop s t id pdu m e fresh, k.lawful) k.channels_stand (record { ids_are = told.ids_are; open_are = told.open_are }) kept_reliable kept_lossy;
      waits = quiet s.role s.outgoing t gone act refl st.waits;
    })

-- ---- by what the table answered

refused_is : (u : Trace Change) (id : ℕ) (pdu : Pdu) (r : ChannelRefusal) → IsAnswer u id pdu (Err r) → because (refusal_of u id pdu) ≡ why_of (cause_of r)
refused_is u id pdu (refusal.UnknownChannel made) h = ap because h
refused_is u id pdu (refusal.KnownChannel made) h = ap because h
refused_is u id pdu (refusal.FirstInside made) h = ap because h
refused_is u id pdu (refusal.MoreThanLength made) h = ap because h
refused_is u id pdu (refusal.MessageTooLong made total) h = ap because h
refused_is u id pdu refusal.NoMemory h = ap because h.0

pub found_by : (s : Store) (t : Trace Act) (gone : Gone) (id : ℕ) (pdu : Pdu) (a : Result Accepted ChannelRefusal) (r : ChannelRefusal) → said pdu ≡ Brings id → a ≡ Err r
    → ((u : Trace Change) → channels.Stands s.channels u → IsAnswer u id pdu a) → Stands s t gone → release_fault s.role t pdu ≡ why_of (cause_of r)
found_by s t gone id pdu a r e is answers st =
    fault_by_table s.role t id pdu e ∙ refused_is (table s.role t) id pdu r (subst (IsAnswer (table s.role t) id pdu) is (answers (table s.role t) (st.knows).channels_stand))

-- what the call was asked for
pub record IsAsked (kind : Kind) (id : ℕ) (pdu : Pdu) (s : Store) : Type 0 where
  pub word : is_through kind (words.inward id s.paths) ≡ true
  pub fresh : (t : Trace Act) (gone : Gone) → Stands s t gone → is_closed s.role id t ≡ false
  pub oldest : IsOldest kind id pdu s
  pub brings : said pdu ≡ Brings id

-- the channel took it
pub if_taken : (s : Store) (t : Trace Act) (gone : Gone) (kind : Kind) (id : ℕ) (pdu : Pdu) (a : Result Accepted ChannelRefusal) (x : Accepted) (c : channels.Table) (reliable lossy : List hold.Pdu) → IsAsked kind id pdu s → a ≡ Ok x
    → ((u : Trace Change) → channels.Stands s.channels u → IsAnswer u id pdu a) → ((u : Trace Change) → channels.Stands s.channels u → OnOk a (channels.Stands c (u ▷ Came id pdu)))
    → reliable ≡ released_from Reliable kind id s.held_reliable → lossy ≡ released_from Lossy kind id s.held_lossy → Stands s t gone
    → Released kind id pdu t gone (record s { channels = c; held_reliable = reliable; held_lossy = lossy }) true
if_taken s t gone kind id pdu a x c reliable lossy asked is answers came r l st =
    let u = table s.role t in
    let answer : IsAnswer u id pdu (Ok x) = subst (IsAnswer u id pdu) is (answers u (st.knows).channels_stand) in
    data_taken s t gone kind id pdu c reliable lossy asked.word (asked.fresh t gone st) asked.oldest asked.brings answer.0
    (subst (λ a. OnOk a (channels.Stands c (u ▷ Came id pdu))) is (came u (st.knows).channels_stand)) r l st

dropped_by_lossy : (kind : Kind) (w : Option Why) → drops kind w ≡ true → kind ≡ Lossy
dropped_by_lossy Reliable w h = absurd (let never : false ≡ true = h in cc)
dropped_by_lossy Lossy w h = refl

dropped_for : (kind : Kind) (w : Option Why) → drops kind w ≡ true → (why : Why) × (w ≡ Some why)
dropped_for Reliable w h = absurd (let never : false ≡ true = h in cc)
dropped_for Lossy None h = absurd (let never : false ≡ true = h in cc)
dropped_for Lossy (Some why) h = (why, refl)

-- or it didn't, and dropped it
pub if_dropped : (s : Store) (t : Trace Act) (gone : Gone) (kind : Kind) (id : ℕ) (pdu : Pdu) (a : Result Accepted ChannelRefusal) (r : ChannelRefusal) (cause : Cause) (c : channels.Table) (reliable lossy : List hold.Pdu) → IsAsked kind id pdu s
    → a ≡ Err r → cause ≡ cause_of r → drops kind (why_of cause) ≡ true → c ≡ s.channels → ((u : Trace Change) → channels.Stands s.channels u → IsAnswer u id pdu a)
    → reliable ≡ released_from Reliable kind id s.held_reliable → lossy ≡ released_from Lossy kind id s.held_lossy → Stands s t gone
    → Released kind id pdu t gone (record s { channels = c; held_reliable = reliable; held_lossy = lossy }) false
if_dropped s t gone kind id pdu a r cause c reliable lossy asked is cause_is drop same answers rs ls st =
    let w = dropped_for kind (why_of cause) drop in
    let fault = found_by s t gone id pdu a r asked.brings is answers st ∙ ap why_of (sym cause_is) ∙ w.1 in
    subst (λ x. Released kind id pdu t gone (record s { channels = x; held_reliable = reliable; held_lossy = lossy }) false) (sym same)
    (data_dropped s t gone kind id pdu w.0 reliable lossy (dropped_by_lossy kind (why_of cause) drop) asked.word (asked.fresh t gone st) asked.oldest asked.brings fault rs ls st)

-- either way it stands for some acts
pub lawful_by : (kind : Kind) (id : ℕ) (pdu : Pdu) (t : Trace Act) (gone : Gone) (s : Store) (b : Bool) → Released kind id pdu t gone s b → s.owed ≤ 256 → IsLawful s
lawful_by kind id pdu t gone s true (taken h rest first_is pdu_is none st) few = ((t ▷ Releases kind h.at h.bytes pdu, gone, st), few)
lawful_by kind id pdu t gone s false (dropped h rest why kind_is first_is pdu_is fault st) few = ((t ▷ Discards h.at h.bytes pdu, gone, st), few)

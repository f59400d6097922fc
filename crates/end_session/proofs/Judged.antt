-- A server that judges a create request stands for one act more.
use Rattle.std.proofs.Common.{◌≡◌, ℕ, Bool, true, false, not, ◌||◌, List, [], ◌∷◌, Option, None, is_some, refl, sym, ap, subst, ◌∙◌, if◌then◌else◌}
use Rattle.std.specs.Option.{option_or}
use Rattle.mt_base.specs.declared.kinds.Kind.{Kind}
use Rattle.mt_base.specs.declared.kinds.Kind.TheVariants.{Reliable, Lossy}
use Rattle.mt_base.specs.declared.kinds.Role.TheVariants.{Server}
use Rattle.mt_base.specs.Trace.{Trace, ◌▷◌}
use Rattle.soft_sync.specs.Exchanges.{set_kind}
use Rattle.soft_sync.specs.Words.{Words}
use Rattle.tunnel_cookies.specs.declared.entry.Entry.{Entry}
use Rattle.tunnel_cookies.specs.declared.entry.Verdict.{Verdict}
use Rattle.tunnel_cookies.specs.Entries.{Entries, IsVerdict, after, entry_of}
use Rattle.tunnel_cookies.proofs.Tables.{one_verdict}
use Rattle.mt_endpoint.specs.Acts.{Act, CreateAnswered, Judges}
use Rattle.mt_endpoint.specs.Alone.{EndOfActs}
use Rattle.mt_endpoint.specs.Tunnels.{answer, answer_in, asked, attaches, is_attached, is_opened, is_silent, issued, link_of, opens, refusal_in, request_in, silence, silence_in, told_refusal, was_opened}
use Rattle.mt_endpoint.specs.Writing.{Into, create_code, is_full_for, unless}
use Rattle.end_calls.specs.Streams.{verdict_by}
use Rattle.end_calls.proofs.Verdicts.{verdict_is}
use Rattle.end_session.specs.Known.{Known, known, is_live_in}
use Rattle.end_session.specs.OfKind.{tunnel_of}
use Rattle.end_session.specs.Outgoing.{Outgoing, carries}
use Rattle.end_session.specs.Standing.{Gone, Knows, Stands, Waits}
use Rattle.end_session.specs.Store.{Store}
use Rattle.end_session.proofs.OneTunnel.{IsApart, knows_reliable, knows_lossy}
use Rattle.end_session.proofs.Putting.{drew, dropped, quiet}
use Rattle.end_session.proofs.Still.{TellsNothing, or_false, or_none}

-- ---- what it tells

tells : (k kind : Kind) (t : Trace Act) (at id : ℕ) (cookie : List ℕ) (verdict : Verdict) (is_full : Bool) → opens k (Judges kind at id cookie verdict is_full) ≡ false
    → TellsNothing Server k t (Judges kind at id cookie verdict is_full)
tells k kind t at id cookie verdict is_full none = record { no_request = refl; no_link = refl; no_verdict = none; no_answer = refl; no_refusal = refl; no_silence = refl }

apart : (kind : Kind) (t : Trace Act) (at id : ℕ) (cookie : List ℕ) (verdict : Verdict) (is_full : Bool) → IsApart Server t (Judges kind at id cookie verdict is_full)
apart kind t at id cookie verdict is_full = record {
  says = record { none_made = refl; none_read = refl; no_answer_read = refl; no_answer_made = refl; no_version = refl; no_capabilities = refl };
  table_is = refl;
  held_is = λ k. refl;
}

-- the tunnel opened before, or opens now
opened_known : (kind : Kind) (t : Trace Act) (act : Act) (b : Bool) → request_in kind act ≡ None → attaches kind act ≡ false → opens kind act ≡ b → answer_in kind act ≡ None → refusal_in Server kind t act ≡ None
    → silence_in kind act ≡ None → record (known Server kind t) { was_opened = was_opened kind t || b } ≡ known Server kind (t ▷ act)
opened_known kind t act b no_request no_link opening no_answer no_refusal no_silence =
    let a : asked kind (t ▷ act) ≡ asked kind t = ap (option_or (asked kind t)) no_request ∙ or_none (asked kind t) in
    let l : is_attached kind (t ▷ act) ≡ is_attached kind t = ap (λ x. is_attached kind t || x) no_link ∙ or_false (is_attached kind t) in
    let c : was_opened kind (t ▷ act) ≡ was_opened kind t || b = ap (λ x. was_opened kind t || x) opening in
    let d : answer kind (t ▷ act) ≡ answer kind t = ap (option_or (answer kind t)) no_answer ∙ or_none (answer kind t) in
    let e : told_refusal Server kind (t ▷ act) ≡ told_refusal Server kind t = ap (option_or (told_refusal Server kind t)) no_refusal ∙ or_none (told_refusal Server kind t) in
    let f : silence kind (t ▷ act) ≡ silence kind t = ap (option_or (silence kind t)) no_silence ∙ or_none (silence kind t) in
    cc

abbrev pub opening : Bool → Known → Known
opening b k = record k { was_opened = k.was_opened || b }

-- ---- what it writes

answers : (kind : Kind) (t : Trace Act) (gone : Gone) (at id : ℕ) (cookie : List ℕ) (verdict : Verdict) (is_full : Bool) (o : Outgoing) (silent full : Bool) → is_silent kind t ≡ silent → is_full_for kind is_full ≡ full
    → Waits Server o t gone → Waits Server (if silent || full then o else carries kind (CreateAnswered (create_code verdict)) o) (t ▷ Judges kind at id cookie verdict is_full) gone
answers kind t gone at id cookie verdict is_full o true true silent full w =
    quiet Server o t gone (Judges kind at id cookie verdict is_full) (ap (λ b. unless b (Into kind (CreateAnswered (create_code verdict)) ∷ [])) full) w
answers kind t gone at id cookie verdict is_full o true false silent full w =
    dropped Server o t gone (Judges kind at id cookie verdict is_full) kind (CreateAnswered (create_code verdict)) (ap (λ b. unless b (Into kind (CreateAnswered (create_code verdict)) ∷ [])) full) silent w
answers kind t gone at id cookie verdict is_full o false true silent full w =
    quiet Server o t gone (Judges kind at id cookie verdict is_full) (ap (λ b. unless b (Into kind (CreateAnswered (create_code verdict)) ∷ [])) full) w
answers kind t gone at id cookie verdict is_full o false false silent full w =
    drew Server o t gone (Judges kind at id cookie verdict is_full) kind (CreateAnswered (create_code verdict)) (ap (λ b. unless b (Into kind (CreateAnswered (create_code verdict)) ∷ [])) full) silent w

written : (kind : Kind) (t : Trace Act) (gone : Gone) (at id : ℕ) (cookie : List ℕ) (verdict : Verdict) (is_full gets_none : Bool) (o p : Outgoing) (k : Known) → k ≡ known Server kind t
    → gets_none ≡ is_some k.silence || is_full_for kind is_full → p ≡ (if gets_none then o else carries kind (CreateAnswered (create_code verdict)) o)
    → Waits Server o t gone → Waits Server p (t ▷ Judges kind at id cookie verdict is_full) gone
written kind t gone at id cookie verdict is_full gets_none o p k is none new w =
    subst (λ x. Waits Server x (t ▷ Judges kind at id cookie verdict is_full) gone)
    (sym (new ∙ ap (λ b. if b then o else carries kind (CreateAnswered (create_code verdict)) o) (none ∙ ap (λ (k : Known). is_some k.silence || is_full_for kind is_full) is)))
    (answers kind t gone at id cookie verdict is_full o (is_silent kind t) (is_full_for kind is_full) refl refl w)

-- ---- the act

-- the verdict of a link by its number is that of its kind
pub by_number : (link : ℕ) (kind : Kind) (cookie : List ℕ) (e : Option Entry) (verdict : Verdict) → link ≡ link_of kind → IsVerdict link kind cookie e verdict → IsVerdict (link_of kind) kind cookie e verdict
by_number link kind cookie e verdict is v = subst (λ n. IsVerdict n kind cookie e verdict) is v

pub verdict_of : (link : ℕ) (kind : Kind) (cookie : List ℕ) (e : Option Entry) (verdict : Verdict) → link ≡ link_of kind → IsVerdict link kind cookie e verdict → verdict ≡ verdict_by kind cookie e
verdict_of link kind cookie e verdict is v = one_verdict (link_of kind) kind cookie e verdict (verdict_by kind cookie e) (by_number link kind cookie e verdict is v) (verdict_is kind cookie e)

stands_where : (s : Store) (t : Trace Act) (link : ℕ) (kind : Kind) (at id : ℕ) (cookie : List ℕ) (verdict : Verdict) (is_full : Bool) → Knows Server s t → link ≡ link_of kind
    → IsVerdict link kind cookie (entry_of id s.issued) verdict → EndOfActs Server (t ▷ Judges kind at id cookie verdict is_full)
stands_where s t link kind at id cookie verdict is_full k is v =
    (sym (ap not k.begun), ((refl, subst (λ es. IsVerdict (link_of kind) kind cookie (entry_of id es) verdict) k.issued_are (by_number link kind cookie (entry_of id s.issued) verdict is v)), tt), k.lawful)

spent : (s : Store) (t : Trace Act) (link : ℕ) (kind : Kind) (at id : ℕ) (cookie : List ℕ) (verdict : Verdict) (is_full : Bool) (entries : Entries) → Knows Server s t → link ≡ link_of kind
    → entries ≡ after link id verdict (entry_of id s.issued) s.issued → entries ≡ issued (t ▷ Judges kind at id cookie verdict is_full)
spent s t link kind at id cookie verdict is_full entries k is e =
    e ∙ ap (λ n. after n id verdict (entry_of id s.issued) s.issued) is ∙ ap (λ es. after (link_of kind) id verdict (entry_of id es) es) k.issued_are

-- what the call left
pub record IsJudged (s : Store) (link : ℕ) (kind : Kind) (id : ℕ) (cookie : List ℕ) (verdict : Verdict) (is_full gets_none : Bool) (entries : Entries) (before tunnel : Known) (w : Words) (o : Outgoing) : Type 0 where
  pub is_server : s.role ≡ Server
  pub number : link ≡ link_of kind
  pub verdict_is : IsVerdict link kind cookie (entry_of id s.issued) verdict
  pub entries_are : entries ≡ after link id verdict (entry_of id s.issued) s.issued
  pub tunnel_is : tunnel ≡ opening (is_opened verdict) before
  pub words_are : w ≡ record s.paths { opened = set_kind kind (is_live_in Server tunnel) (s.paths).opened }
  pub quiet_is : gets_none ≡ is_some (tunnel_of kind s).silence || is_full_for kind is_full
  pub written_is : o ≡ (if gets_none then s.outgoing else carries kind (CreateAnswered (create_code verdict)) s.outgoing)

pub judged_reliable : (s : Store) (t : Trace Act) (gone : Gone) (link : ℕ) (kind : Kind) (at id : ℕ) (cookie : List ℕ) (verdict : Verdict) (is_full gets_none : Bool) (entries : Entries) (tunnel : Known) (w : Words) (o : Outgoing)
    → kind ≡ Reliable → IsJudged s link kind id cookie verdict is_full gets_none entries s.reliable tunnel w o → Stands s t gone
    → Stands (record s { issued = entries; reliable = tunnel; paths = w; outgoing = o }) (t ▷ Judges kind at id cookie verdict is_full) gone
judged_reliable s t gone link Lossy at id cookie verdict is_full gets_none entries tunnel w o e j st = absurd (let never : Lossy ≡ Reliable = e in cc)
judged_reliable s t gone link Reliable at id cookie verdict is_full gets_none entries tunnel w o e j st =
    let act = Judges Reliable at id cookie verdict is_full in
    let k : Knows Server s t = subst (λ r. Knows r s t) j.is_server st.knows in
    let waited : Waits Server s.outgoing t gone = subst (λ r. Waits r s.outgoing t gone) j.is_server st.waits in
    let now : tunnel ≡ known Server Reliable (t ▷ act) = j.tunnel_is ∙ ap (opening (is_opened verdict)) k.reliable_is ∙ opened_known Reliable t act (is_opened verdict) refl refl refl refl refl refl in record {
      knows =
          subst (λ r. Knows r (record s { issued = entries; reliable = tunnel; paths = w; outgoing = o }) (t ▷ act)) (sym j.is_server)
          (subst (λ x. Knows Server (record s { issued = entries; reliable = tunnel; paths = x; outgoing = o }) (t ▷ act)) (sym j.words_are)
          (knows_reliable Server s t act entries tunnel o k (apart Reliable t at id cookie verdict is_full) (stands_where s t link Reliable at id cookie verdict is_full k j.number j.verdict_is)
          (spent s t link Reliable at id cookie verdict is_full entries k j.number j.entries_are) now (tells Lossy Reliable t at id cookie verdict is_full refl)));
      waits =
          subst (λ r. Waits r o (t ▷ act) gone) (sym j.is_server)
          (written Reliable t gone at id cookie verdict is_full gets_none s.outgoing o s.reliable k.reliable_is j.quiet_is j.written_is waited);
    }

pub judged_lossy : (s : Store) (t : Trace Act) (gone : Gone) (link : ℕ) (kind : Kind) (at id : ℕ) (cookie : List ℕ) (verdict : Verdict) (is_full gets_none : Bool) (entries : Entries) (tunnel : Known) (w : Words) (o : Outgoing)
    → kind ≡ Lossy → IsJudged s link kind id cookie verdict is_full gets_none entries s.lossy tunnel w o → Stands s t gone
    → Stands (record s { issued = entries; lossy = tunnel; paths = w; outgoing = o }) (t ▷ Judges kind at id cookie verdict is_full) gone
judged_lossy s t gone link Reliable at id cookie verdict is_full gets_none entries tunnel w o e j st = absurd (let never : Reliable ≡ Lossy = e in cc)
judged_lossy s t gone link Lossy at id cookie verdict is_full gets_none entries tunnel w o e j st =
    let act = Judges Lossy at id cookie verdict is_full in
    let k : Knows Server s t = subst (λ r. Knows r s t) j.is_server st.knows in
    let waited : Waits Server s.outgoing t gone = subst (λ r. Waits r s.outgoing t gone) j.is_server st.waits in
    let now : tunnel ≡ known Server Lossy (t ▷ act) = j.tunnel_is ∙ ap (opening (is_opened verdict)) k.lossy_is ∙ opened_known Lossy t act (is_opened verdict) refl refl refl refl refl refl in record {
      knows =
          subst (λ r. Knows r (record s { issued = entries; lossy = tunnel; paths = w; outgoing = o }) (t ▷ act)) (sym j.is_server)
          (subst (λ x. Knows Server (record s { issued = entries; lossy = tunnel; paths = x; outgoing = o }) (t ▷ act)) (sym j.words_are)
          (knows_lossy Server s t act entries tunnel o k (apart Lossy t at id cookie verdict is_full) (stands_where s t link Lossy at id cookie verdict is_full k j.number j.verdict_is)
          (spent s t link Lossy at id cookie verdict is_full entries k j.number j.entries_are) now (tells Reliable Lossy t at id cookie verdict is_full refl)));
      waits =
          subst (λ r. Waits r o (t ▷ act) gone) (sym j.is_server)
          (written Lossy t gone at id cookie verdict is_full gets_none s.outgoing o s.lossy k.lossy_is j.quiet_is j.written_is waited);
    }

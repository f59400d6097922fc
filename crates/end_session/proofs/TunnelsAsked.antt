-- A server that asks for a tunnel stands for one act more.
use Rattle.std.proofs.Common.{◌≡◌, ℕ, ◌<◌, Bool, true, false, not, nat_le, List, [], ◌∷◌, ◌++◌, length, Option, Some, None, is_some, IfSome, IfNone, IfErr, Result, Ok, Err, is_err, option_map, length-append, refl, sym, ap, subst, ◌∙◌, arith}
use Rattle.std.specs.Option.{option_or}
use Rattle.std.proofs.lemmas.Bool.{le-leb, leb-false, lt-leb}
use Rattle.mt_base.specs.declared.kinds.Kind.{Kind}
use Rattle.mt_base.specs.declared.kinds.Kind.TheVariants.{Reliable, Lossy}
use Rattle.mt_base.specs.declared.kinds.Role.TheVariants.{Server}
use Rattle.mt_base.specs.Trace.{Trace, ◌▷◌}
use Rattle.tunnel_cookies.specs.declared.entry.IssueRefusal.{IssueRefusal}
use Rattle.tunnel_cookies.specs.declared.entry.IssueRefusal.TheVariants as issue
use Rattle.tunnel_cookies.specs.Entries.{Entries, WhyNot, entry_of, unspent}
use Rattle.mt_endpoint.specs.Acts.{Act, Asks, TunnelAsked}
use Rattle.mt_endpoint.specs.Tunnels.{Request, asked, issued}
use Rattle.end_calls.specs.declared.fault.Fault.{Fault}
use Rattle.end_calls.specs.declared.refusal.AskRefusal.{AskRefusal}
use Rattle.end_calls.specs.declared.refusal.AskRefusal.TheVariants as ask
use Rattle.end_calls.specs.Refusing.{because, frame_size, main_limit, passes, when, why_not_asked, why_not_issued}
use Rattle.end_session.specs.AskedView.{request_of}
use Rattle.end_session.specs.declared.tunnel.Asked.{Asked}
use Rattle.end_session.specs.Known.{Known, known}
use Rattle.end_session.specs.OfKind.{told_at, asking}
use Rattle.end_session.specs.Outgoing.{Outgoing, says}
use Rattle.end_session.specs.Refusals.{before_asking}
use Rattle.end_session.specs.Standing.{Gone, Knows, Stands}
use Rattle.end_session.specs.Store.{Store}
use Rattle.end_session.proofs.Naming.{none_first, none_later, not_when}
use Rattle.end_session.proofs.Putting.{spoke}
use Rattle.end_session.proofs.Telling.{IsTold, as_before, asking_live, asks_known, knows_told}

-- ---- the act

told : (s : Store) (t : Trace Act) (kind : Kind) (id : ℕ) (cookie : List ℕ) (entries : Entries) (reliable lossy : Known) → Knows Server s t → entries ≡ s.issued ++ (id, unspent kind cookie) ∷ []
    → reliable ≡ told_at Reliable kind (asking (record { id = id; cookie = cookie })) s.reliable → lossy ≡ told_at Lossy kind (asking (record { id = id; cookie = cookie })) s.lossy
    → IsTold Server t (Asks kind id cookie) entries reliable lossy (s.paths).opened
told s t kind id cookie entries reliable lossy k e r l =
    let request : Request = record { id = id; cookie = cookie } in record {
      says = record { none_made = refl; none_read = refl; no_answer_read = refl; no_answer_made = refl; no_version = refl; no_capabilities = refl };
      issued_are = e ∙ ap (λ x. x ++ (id, unspent kind cookie) ∷ []) k.issued_are;
      reliable_is = r ∙ ap (told_at Reliable kind (asking request)) k.reliable_is ∙ asks_known Reliable kind t id cookie;
      lossy_is = l ∙ ap (told_at Lossy kind (asking request)) k.lossy_is ∙ asks_known Lossy kind t id cookie;
      reliable_opened = (k.words_are).reliable_is ∙ sym (as_before Server Reliable kind t (Asks kind id cookie) (asking request) (asks_known Reliable kind t id cookie) (asking_live Server request));
      lossy_opened = (k.words_are).lossy_is ∙ sym (as_before Server Lossy kind t (Asks kind id cookie) (asking request) (asks_known Lossy kind t id cookie) (asking_live Server request));
    }

pub asks : (s : Store) (t : Trace Act) (gone : Gone) (kind : Kind) (id : ℕ) (cookie : List ℕ) (entries : Entries) (reliable lossy : Known) (o : Outgoing) → s.role ≡ Server → Stands s t gone
    → asked kind t ≡ None → entry_of id (issued t) ≡ None → length cookie ≡ 16 → entries ≡ s.issued ++ (id, unspent kind cookie) ∷ []
    → reliable ≡ told_at Reliable kind (asking (record { id = id; cookie = cookie })) s.reliable → lossy ≡ told_at Lossy kind (asking (record { id = id; cookie = cookie })) s.lossy
    → o ≡ says (TunnelAsked id kind cookie) s.outgoing
    → Stands (record s { issued = entries; reliable = reliable; lossy = lossy; outgoing = o }) (t ▷ Asks kind id cookie) gone
asks s t gone kind id cookie entries reliable lossy o is st unasked fresh size e r l written =
    let k : Knows Server s t = subst (λ r. Knows r s t) is st.knows in
    let are = (k.words_are).channels_are in
    let base : Stands (record s { issued = entries; reliable = reliable; lossy = lossy; outgoing = says (TunnelAsked id kind cookie) s.outgoing }) (t ▷ Asks kind id cookie) gone = record {
      knows =
          subst (λ r. Knows r (record s { issued = entries; reliable = reliable; lossy = lossy; outgoing = says (TunnelAsked id kind cookie) s.outgoing }) (t ▷ Asks kind id cookie)) (sym is)
          (knows_told Server s t (Asks kind id cookie) entries reliable lossy (s.paths).opened (says (TunnelAsked id kind cookie) s.outgoing) k (told s t kind id cookie entries reliable lossy k e r l)
          (sym (ap not k.begun), ((refl, unasked, fresh, size), tt), k.lawful) k.channels_stand (record { ids_are = are.ids_are; open_are = are.open_are }) k.reliable_held k.lossy_held);
      waits = spoke s.role s.outgoing t gone (Asks kind id cookie) (TunnelAsked id kind cookie) refl st.waits;
    } in
    subst (λ x. Stands (record s { issued = entries; reliable = reliable; lossy = lossy; outgoing = x }) (t ▷ Asks kind id cookie) gone) (sym written) base

-- ---- why it is refused

abbrev first_or_later : (known full : Bool) → Option IssueRefusal
first_or_later known full = option_or (when known issue.Known) (when full (issue.TooMany 16))

-- by what the table answers
pub why_of : (id : ℕ) (entries : Entries) (r : Option IssueRefusal) → IfSome r (λ why. WhyNot id entries why) → IfNone r ((entry_of id entries ≡ None) × (length entries < 16)) → r ≡ why_not_issued id entries
why_of id entries (Some issue.Known) some none = sym (ap (λ b. first_or_later b (nat_le 16 (length entries))) some)
why_of id entries (Some (issue.TooMany limit)) some none =
    ap (λ n. Some (issue.TooMany n)) some.2 ∙ sym (ap (λ o. first_or_later (is_some o) (nat_le 16 (length entries))) some.0 ∙ ap (first_or_later false) (le-leb 16 (length entries) (omega (arith, some.1))))
why_of id entries None some none = sym (ap (λ o. first_or_later (is_some o) (nat_le 16 (length entries))) none.0 ∙ ap (first_or_later false) (lt-leb 16 (length entries) none.1))

abbrev steps : Option Fault → Bool → Option IssueRefusal → Option AskRefusal
steps broken is_asked issue = option_or (option_or (because ask.Broken broken) (when is_asked ask.AlreadyAsked)) (because ask.Issue issue)

same_there : {A B : Type 0} (f : A → B) (o : Option A) → is_some o ≡ is_some (option_map f o)
same_there f None = refl
same_there f (Some x) = refl

-- the request that the value keeps is that of the acts
pub there : {A B : Type 0} (f : A → B) (o : Option A) (p : Option B) (b c : Bool) → b ≡ is_some o → b ≡ c → option_map f o ≡ p → is_some p ≡ c
there f o p b c is found e = ap is_some (sym e) ∙ sym (same_there f o) ∙ sym is ∙ found

pub already : (broken : Option Fault) (t : Trace Act) (kind : Kind) (id : ℕ) → broken ≡ None → is_some (asked kind t) ≡ true → Some ask.AlreadyAsked ≡ before_asking broken t kind id
already broken t kind id whole found = sym (ap (λ b. steps b (is_some (asked kind t)) (why_not_issued id (issued t))) whole ∙ ap (λ b. steps None b (why_not_issued id (issued t))) found)

pub by_table : (broken : Option Fault) (t : Trace Act) (kind : Kind) (id : ℕ) (r : Option IssueRefusal) → broken ≡ None → is_some (asked kind t) ≡ false → r ≡ why_not_issued id (issued t)
    → because ask.Issue r ≡ before_asking broken t kind id
by_table broken t kind id r whole unasked is =
    ap (because ask.Issue) is ∙ sym (ap (λ b. steps b (is_some (asked kind t)) (why_not_issued id (issued t))) whole ∙ ap (λ b. steps None b (why_not_issued id (issued t))) unasked)

pub by_refusal : (inside s : Store) (t : Trace Act) (gone : Gone) (kind : Kind) (id : ℕ) (o : Option Asked) (b : Bool) (r : Option IssueRefusal) → inside ≡ s → inside.broken ≡ None → b ≡ is_some o → b ≡ false
    → option_map request_of o ≡ asked kind t → IfSome r (λ why. WhyNot id inside.issued why) → IfNone r ((entry_of id inside.issued ≡ None) × (length inside.issued < 16)) → Stands s t gone
    → because ask.Issue r ≡ before_asking s.broken t kind id
by_refusal inside s t gone kind id o b r is whole tested unasked acts some none st =
    let here = subst (λ s. Stands s t gone) (sym is) st in
    by_table s.broken t kind id r (sym (ap (λ (s : Store). s.broken) is) ∙ whole) (there request_of o (asked kind t) b false tested unasked acts) (why_of id inside.issued r some none ∙ ap (why_not_issued id) (here.knows).issued_are)

-- ---- what holds where there is no cause before the room

pub record MayAsk (t : Trace Act) (kind : Kind) (id : ℕ) : Type 0 where
  pub unasked : asked kind t ≡ None
  pub fresh : entry_of id (issued t) ≡ None
  pub few : length (issued t) < 16

not_there : {A : Type 0} (o : Option A) → is_some o ≡ false → o ≡ None
not_there None h = refl
not_there (Some x) h = absurd (let never : true ≡ false = h in cc)

no_cause : {A B : Type 0} (wrap : A → B) (o : Option A) → because wrap o ≡ None → o ≡ None
no_cause wrap None h = refl
no_cause wrap (Some x) h = absurd (let never : Some (wrap x) ≡ None = h in cc)

pub may_ask : (broken : Option Fault) (t : Trace Act) (kind : Kind) (id : ℕ) → before_asking broken t kind id ≡ None → MayAsk t kind id
may_ask broken t kind id h =
    let a = because ask.Broken broken in
    let b = when (is_some (asked kind t)) ask.AlreadyAsked in
    let c = because ask.Issue (why_not_issued id (issued t)) in
    let unasked = not_when (is_some (asked kind t)) ask.AlreadyAsked (none_later a b (none_first (option_or a b) c h)) in
    let none = no_cause ask.Issue (why_not_issued id (issued t)) (none_later (option_or a b) c h) in
    let known = when (is_some (entry_of id (issued t))) issue.Known in
    let full = when (nat_le 16 (length (issued t))) (issue.TooMany 16) in record {
      unasked = not_there (asked kind t) unasked;
      fresh = not_there (entry_of id (issued t)) (not_when (is_some (entry_of id (issued t))) issue.Known (none_first known full none));
      few = leb-false 16 (length (issued t)) (not_when (nat_le 16 (length (issued t))) (issue.TooMany 16) (none_later known full none));
    }

-- the table then takes it
pub is_issued : (r : Result (Unit {0}) IssueRefusal) (id : ℕ) (entries : Entries) → entry_of id entries ≡ None → length entries < 16 → is_err r ≡ true → IfErr r (λ why. WhyNot id entries why) → ⊥
is_issued (Ok x) id entries fresh few err why = let never : false ≡ true = err in cc
is_issued (Err issue.Known) id entries fresh few err why = let never : true ≡ false = sym why ∙ ap is_some fresh in cc
is_issued (Err (issue.TooMany limit)) id entries fresh few err why = let full = why.1 in omega (arith, few, full)

-- the room of the frame, by the count of its bytes
ask_size : (id : ℕ) (kind : Kind) (cookie : List ℕ) → length cookie ≡ 16 → frame_size (TunnelAsked id kind cookie) ≡ 27
ask_size id kind cookie size = omega (arith, length-append cookie [], size)

pub ask_by_room : (broken : Option Fault) (t : Trace Act) (queued : ℕ) (kind : Kind) (id : ℕ) (cookie : List ℕ) → before_asking broken t kind id ≡ None → length cookie ≡ 16
    → why_not_asked broken t queued kind id cookie ≡ when (passes queued 27 (main_limit t)) (ask.QueueFull queued (main_limit t))
ask_by_room broken t queued kind id cookie none size =
    ap (λ a. option_or a (when (passes queued (frame_size (TunnelAsked id kind cookie)) (main_limit t)) (ask.QueueFull queued (main_limit t)))) none
    ∙ ap (λ n. when (passes queued n (main_limit t)) (ask.QueueFull queued (main_limit t))) (ask_size id kind cookie size)

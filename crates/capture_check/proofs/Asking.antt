-- The data that datagrams carry, the requests that were issued, and the rule of tunnels.
use Rattle.std.proofs.Common.{◌≡◌, ◌≢◌, ◌↔◌, ◌⊎◌, ℕ, inl, inr, Bool, true, false, nat_eq, List, [], ◌∷◌, ◌++◌, length, Option, Some, None, Result, Ok, Err, IfOk, IsTrue, IsFalse, IsSome, refl, sym, ap, subst, ◌∙◌, append_assoc, append-nil, length-append, arith}
use Rattle.std.specs.Map.{lookup}
use Rattle.std.proofs.lemmas.Bool.{cases_order}
use Rattle.mt_base.specs.declared.kinds.Role.{Role}
use Rattle.mt_base.specs.declared.kinds.Role.TheVariants.{Server, Client}
use Rattle.mt_base.specs.declared.kinds.Kind.{Kind}
use Rattle.mt_base.specs.declared.kinds.Kind.TheVariants.{Reliable, Lossy}
use Rattle.mt_base.proofs.Lists.{nothing}
use Rattle.udp1_packets.specs.declared.packet.Packet1.{Packet1}
use Rattle.udp1_packets.specs.Value.{Packet}
use Rattle.udp1_packets.specs.Views.{body_of, packet_of}
use Rattle.udp1_packets.specs.Layout.{Spells}
use Rattle.tunnel_pdus.specs.declared.part.Part.{Part}
use Rattle.tunnel_pdus.specs.declared.part.Part.TheVariants.{Whole, More}
use Rattle.tunnel_pdus.specs.declared.part.TunnelRefusal.{TunnelRefusal}
use Rattle.tunnel_pdus.specs.declared.value.TunnelPdu.{TunnelPdu}
use Rattle.tunnel_pdus.specs.Value.{Pdu, CreateRequest, CreateResponse, Data}
use Rattle.tunnel_pdus.specs.Layout.{Spells as SpellsPdu}
use Rattle.tunnel_pdus.specs.Faults.{Refused}
use Rattle.tunnel_pdus.specs.Streams.{Begins, Front}
use Rattle.tunnel_pdus.specs.Reading.{seen}
use Rattle.tunnel_pdus.specs.Views.{pdu_of}
use Rattle.capture_check.specs.declared.layout.Layout.{Layout}
use Rattle.capture_check.specs.declared.layout.Layout.TheVariants.{First}
use Rattle.capture_check.specs.declared.entry.Entry.{Entry}
use Rattle.capture_check.specs.declared.entry.Entry.TheVariants.{Issue, Open, Sent, Got, Main, Word, Out, In}
use Rattle.capture_check.specs.declared.issued.Issued.{Issued}
use Rattle.capture_check.specs.declared.requests.Requests.{Requests}
use Rattle.capture_check.specs.Tellings.{HasLayout}
use Rattle.capture_check.specs.TellingsSoFar.{HasJust}
use Rattle.capture_check.specs.Requests.{data_in, Carries, CarriesAfter, GaveData, IsIssued, AsksForIssued, AsksForTunnel}
use Rattle.capture_check.specs.RequestsSoFar.{CarriesJust, CarriesJustAfter, AreIssued, AreRequests, NamesIssued}
use Rattle.capture_check.proofs.Stepping.{snoc}
use Rattle.capture_check.proofs.Arriving.{nothing_before}
use Rattle.capture_check.proofs.Telling.{one_layout}

-- ---- what a datagram carries

pub first_just_carries : (datagram : List ℕ) (p : Packet1) → Spells datagram (packet_of p) → ((q : Packet) → Spells datagram q → packet_of p ≡ q) → CarriesJust First datagram (data_in (body_of p.body))
first_just_carries datagram p found only bytes = (
  λ h. (packet_of p, found, h),
  λ s. ap (λ q. data_in q.body) (only s.0 s.1) ∙ s.2,
)

pub carried_by_layout : (kind : Kind) (before : List Entry) (datagram : List ℕ) (layout : Layout) (carried : Option (List ℕ)) → HasLayout kind before datagram layout → CarriesJust layout datagram carried → CarriesJustAfter kind before datagram carried
carried_by_layout kind before datagram layout carried here just bytes = (
  λ h. (layout, here, (just bytes).0 h),
  λ after. (just bytes).1 (subst (λ l. Carries l datagram bytes) (sym (one_layout kind before datagram layout after.0 here after.1)) after.2),
)

pub carried_by_none : (kind : Kind) (before : List Entry) (datagram : List ℕ) → HasJust kind before datagram None → CarriesJustAfter kind before datagram None
carried_by_none kind before datagram none bytes = (
  λ h. absurd (cc),
  λ after. absurd (none after.0 after.1),
)

-- ---- a create request

begins_whole : (bytes : List ℕ) (pdu : Pdu) → SpellsPdu bytes pdu → Begins SpellsPdu bytes pdu (length bytes)
begins_whole bytes pdu s = record { text = bytes; rest = []; spells = s; bytes_are = sym (append-nil bytes); used_is = refl }

spelled_whole : (bytes : List ℕ) (pdu : Pdu) (used : ℕ) → Begins SpellsPdu bytes pdu used → used ≡ length bytes → SpellsPdu bytes pdu
spelled_whole bytes pdu used b all =
    let none = nothing b.rest (omega (arith, b.used_is, all, ap length b.bytes_are, length-append b.text b.rest)) in
    subst (λ t. SpellsPdu t pdu) (sym (b.bytes_are ∙ ap (λ r. b.text ++ r) none ∙ append-nil b.text)) b.spells

asks_by : (before : List Entry) (bytes : List ℕ) (pdu : Pdu) → SpellsPdu bytes pdu → NamesIssued before pdu → AsksForIssued before bytes
asks_by before bytes (CreateRequest id cookie) s named = record { id = id; cookie = cookie; spelled = s; issued = named }
asks_by before bytes (CreateResponse hr) s named = absurd named
asks_by before bytes (Data payload) s named = absurd named

-- what reading told is all that the bytes can be
abbrev pub IsAll : List ℕ → Result (Part TunnelPdu) TunnelRefusal → Type 0
IsAll bytes told = (answer : Result (Part Pdu) TunnelRefusal) → Front SpellsPdu Refused bytes answer → seen pdu_of told ≡ answer

whole_same : (a b : Pdu) (m n : ℕ) → ◌≡◌ {A = Result (Part Pdu) TunnelRefusal} (Ok (Whole a m)) (Ok (Whole b n)) → a ≡ b
whole_same a b m n e = cc

pub whole_asks : (before : List Entry) (bytes : List ℕ) (pdu : TunnelPdu) (used : ℕ) (told : Result (Part TunnelPdu) TunnelRefusal) (b : Bool) → told ≡ Ok (Whole pdu used) → Front SpellsPdu Refused bytes (seen pdu_of told) → IsAll bytes told
    → used ≡ length bytes → IsTrue b ↔ NamesIssued before (pdu_of pdu) → IsTrue b ↔ AsksForIssued before bytes
whole_asks before bytes pdu used told b is found only all named = (
  λ t. asks_by before bytes (pdu_of pdu) (spelled_whole bytes (pdu_of pdu) used (subst (λ r. Front SpellsPdu Refused bytes (seen pdu_of r)) is found) all) (named.0 t),
  λ a.
      let e = sym (ap (seen pdu_of) is) ∙ only (Ok (Whole (CreateRequest a.id a.cookie) (length bytes))) (begins_whole bytes (CreateRequest a.id a.cookie) a.spelled) in
      named.1 (subst (NamesIssued before) (sym (whole_same (pdu_of pdu) (CreateRequest a.id a.cookie) used (length bytes) e)) a.issued),
)

part_same : (a b : Pdu) (m n : ℕ) → ◌≡◌ {A = Result (Part Pdu) TunnelRefusal} (Ok (Whole a m)) (Ok (Whole b n)) → m ≡ n
part_same a b m n e = cc

not_asked : (before : List Entry) (bytes : List ℕ) → ((pdu : Pdu) → SpellsPdu bytes pdu → ⊥) → IsTrue false ↔ AsksForIssued before bytes
not_asked before bytes none = (λ t. absurd (cc), λ a. absurd (none (CreateRequest a.id a.cookie) a.spelled))

pub part_asks_not : (before : List Entry) (bytes : List ℕ) (pdu : TunnelPdu) (used : ℕ) (told : Result (Part TunnelPdu) TunnelRefusal) → told ≡ Ok (Whole pdu used) → IsAll bytes told → used ≢ length bytes → IsTrue false ↔ AsksForIssued before bytes
part_asks_not before bytes pdu used told is only some =
    not_asked before bytes (λ q s. some (part_same (pdu_of pdu) q used (length bytes) (sym (ap (seen pdu_of) is) ∙ only (Ok (Whole q (length bytes))) (begins_whole bytes q s))))

pub more_asks_not : (before : List Entry) (bytes : List ℕ) (need : ℕ) (told : Result (Part TunnelPdu) TunnelRefusal) → told ≡ Ok (More need) → IsAll bytes told → IsTrue false ↔ AsksForIssued before bytes
more_asks_not before bytes need told is only =
    not_asked before bytes (λ q s. let e = sym (ap (seen pdu_of) is) ∙ only (Ok (Whole q (length bytes))) (begins_whole bytes q s) in cc)

pub refusal_asks_not : (before : List Entry) (bytes : List ℕ) (refusal : TunnelRefusal) (told : Result (Part TunnelPdu) TunnelRefusal) → told ≡ Err refusal → IsAll bytes told → IsTrue false ↔ AsksForIssued before bytes
refusal_asks_not before bytes refusal told is only =
    not_asked before bytes (λ q s. let e = sym (ap (seen pdu_of) is) ∙ only (Ok (Whole q (length bytes))) (begins_whole bytes q s) in cc)

-- ---- what was issued

issued_same : (a b : Issued) → Some a ≡ Some b → a ≡ b
issued_same a b e = cc

pub issued_by : (before : List Entry) (issued : List (ℕ × Issued)) (id : ℕ) (cookie : List ℕ) (found : Issued) (b : Bool) → AreIssued before issued → lookup (nat_eq id) issued ≡ Some found
    → IsTrue b ↔ (found ≡ record { kind = Reliable; cookie = cookie }) → IsTrue b ↔ IsIssued id Reliable cookie before
issued_by before issued id cookie found b are at is = (
  λ t. (are id Reliable cookie).0 (at ∙ ap Some (is.0 t)),
  λ i. is.1 (issued_same found (record { kind = Reliable; cookie = cookie }) (sym at ∙ (are id Reliable cookie).1 i)),
)

pub issued_by_none : (before : List Entry) (issued : List (ℕ × Issued)) (id : ℕ) (cookie : List ℕ) → AreIssued before issued → lookup (nat_eq id) issued ≡ None → IsTrue false ↔ IsIssued id Reliable cookie before
issued_by_none before issued id cookie are at = (
  λ t. absurd (cc),
  λ i. let e = sym at ∙ (are id Reliable cookie).1 i in absurd (cc),
)

pub nothing_asked : (issued : List (ℕ × Issued)) → issued ≡ [] → AreRequests [] (record { issued = issued; gave_data = false })
nothing_asked issued none = record {
  issued = λ id kind cookie. (
    λ h. let e = sym (ap (lookup (nat_eq id)) none) ∙ h in absurd (cc),
    λ i. absurd (nothing_before i.front (Issue id kind cookie) i.back i.parts),
  );
  gave = (λ t. absurd (cc), λ g. absurd (nothing_before g.front (Out Client Reliable g.number g.datagram) g.back g.parts));
}

-- ---- one entry more

module _ (before : List Entry) (e : Entry) where
  issued_more : (id : ℕ) (kind : Kind) (cookie : List ℕ) → IsIssued id kind cookie before → IsIssued id kind cookie (before ++ e ∷ [])
  issued_more id kind cookie i =
      record { front = i.front; back = i.back ++ e ∷ []; parts = ap (λ l. l ++ e ∷ []) i.parts ∙ append_assoc i.front (Issue id kind cookie ∷ i.back) (e ∷ []) }

  issued_parts : (id : ℕ) (kind : Kind) (cookie : List ℕ) → IsIssued id kind cookie (before ++ e ∷ []) → IsIssued id kind cookie before ⊎ (e ≡ Issue id kind cookie)
  issued_parts id kind cookie i =
      elim (snoc before i.front e (Issue id kind cookie) i.back i.parts) [
        | inl end ↦ inr end.1
        | inr more ↦ inl (record { front = i.front; back = more.0; parts = more.1 })
      ]

  issued_still : (issued : List (ℕ × Issued)) → ((id : ℕ) (kind : Kind) (cookie : List ℕ) → e ≢ Issue id kind cookie) → AreIssued before issued → AreIssued (before ++ e ∷ []) issued
  issued_still issued other are id kind cookie = (
    λ h. issued_more id kind cookie ((are id kind cookie).0 h),
    λ i. elim (issued_parts id kind cookie i) [
      | inl old ↦ (are id kind cookie).1 old
      | inr now ↦ absurd (other id kind cookie now)
    ],
  )

  gave_more : GaveData before → GaveData (before ++ e ∷ [])
  gave_more g = record {
    front = g.front;
    number = g.number;
    datagram = g.datagram;
    back = g.back ++ e ∷ [];
    parts = ap (λ l. l ++ e ∷ []) g.parts ∙ append_assoc g.front (Out Client Reliable g.number g.datagram ∷ g.back) (e ∷ []);
    bytes = g.bytes;
    carries = g.carries;
  }

  -- an entry that carries no data of the client on the reliable link
  abbrev CarriesNone : Type 0
  CarriesNone = (number : ℕ) (datagram bytes : List ℕ) → e ≡ Out Client Reliable number datagram → ¬ CarriesAfter Reliable before datagram bytes

  gave_before : CarriesNone → GaveData (before ++ e ∷ []) → GaveData before
  gave_before none g =
      elim (snoc before g.front e (Out Client Reliable g.number g.datagram) g.back g.parts) [
        | inl end ↦ absurd (none g.number g.datagram g.bytes end.1 (subst (λ f. CarriesAfter Reliable f g.datagram g.bytes) (sym end.0) g.carries))
        | inr more ↦ record { front = g.front; number = g.number; datagram = g.datagram; back = more.0; parts = more.1; bytes = g.bytes; carries = g.carries }
      ]

  requests_still : (requests : Requests) → ((id : ℕ) (kind : Kind) (cookie : List ℕ) → e ≢ Issue id kind cookie) → CarriesNone → AreRequests before requests → AreRequests (before ++ e ∷ []) requests
  requests_still requests other none are =
      record { issued = issued_still requests.issued other are.issued; gave = (λ t. gave_more (are.gave.0 t), λ g. are.gave.1 (gave_before none g)) }

same_datagram : (m n : ℕ) (d e : List ℕ) → Out Client Reliable m d ≡ Out Client Reliable n e → d ≡ e
same_datagram m n d e h = cc

out_is_no_issue : (side : Role) (kind k : Kind) (number id : ℕ) (datagram cookie : List ℕ) → Out side kind number datagram ≢ Issue id k cookie
out_is_no_issue side kind k number id datagram cookie e = cc

-- ---- a datagram

module _ (before : List Entry) (requests : Requests) (are : AreRequests before requests) (number : ℕ) (datagram : List ℕ) where
  -- of the client on the reliable link
  abbrev the_out : Entry
  the_out = Out Client Reliable number datagram

  no_issue : (id : ℕ) (kind : Kind) (cookie : List ℕ) → the_out ≢ Issue id kind cookie
  no_issue id kind cookie = out_is_no_issue Client Reliable kind number id datagram cookie

  bytes_same : (a b : List ℕ) → Some a ≡ Some b → a ≡ b
  bytes_same a b e = cc

  pub carries_data : (carried : Option (List ℕ)) (bytes : List ℕ) → carried ≡ Some bytes → CarriesJustAfter Reliable before datagram carried → (¬ GaveData before → AsksForIssued before bytes)
      → AsksForTunnel before the_out × AreRequests (before ++ the_out ∷ []) (record { issued = requests.issued; gave_data = true })
  carries_data carried bytes is just may = (
    λ b client reliable carries none. subst (AsksForIssued before) (bytes_same bytes b (sym is ∙ (just b).1 carries)) (may none),
    record {
      issued = issued_still before the_out requests.issued no_issue are.issued;
      gave = (λ t. record { front = before; number = number; datagram = datagram; back = []; parts = refl; bytes = bytes; carries = (just bytes).0 is }, λ g. refl);
    },
  )

  pub asks_wrongly : (carried : Option (List ℕ)) (bytes : List ℕ) (b : Bool) → carried ≡ Some bytes → CarriesJustAfter Reliable before datagram carried → IsTrue b ↔ (¬ GaveData before → AsksForIssued before bytes)
      → IsFalse b → ¬ AsksForTunnel before the_out
  asks_wrongly carried bytes b is just may fails asks =
      let held = may.1 (λ none. asks bytes refl refl ((just bytes).0 is) none) in cc

  pub carries_none : (carried : Option (List ℕ)) → carried ≡ None → CarriesJustAfter Reliable before datagram carried → AsksForTunnel before the_out × AreRequests (before ++ the_out ∷ []) requests
  carries_none carried is just = (
    λ b client reliable carries none. absurd (no_bytes b carries),
    requests_still before the_out requests no_issue (λ n d b same carries. no_bytes b (subst (λ x. CarriesAfter Reliable before x b) (sym (same_datagram number n datagram d same)) carries)) are,
  )
    where
      no_bytes : (b : List ℕ) → ¬ CarriesAfter Reliable before datagram b
      no_bytes b carries = let e = sym is ∙ (just b).1 carries in cc

  -- of another side or kind
  pub other_link : (side : Role) (kind : Kind) → ((m : ℕ) (d : List ℕ) → Out side kind number datagram ≢ Out Client Reliable m d)
      → AsksForTunnel before (Out side kind number datagram) × AreRequests (before ++ Out side kind number datagram ∷ []) requests
  other_link side kind other = (
    λ b client reliable carries none. absurd (other number datagram (ap (λ s. Out s kind number datagram) client ∙ ap (λ k. Out Client k number datagram) reliable)),
    requests_still before (Out side kind number datagram) requests (λ id k cookie. out_is_no_issue side kind k number id datagram cookie) (λ m d b same. absurd (other m d same)) are,
  )

  pub of_client_lossy : AsksForTunnel before (Out Client Lossy number datagram) × AreRequests (before ++ Out Client Lossy number datagram ∷ []) requests
  of_client_lossy = other_link Client Lossy (λ m d e. cc)

  pub of_server : (kind : Kind) → AsksForTunnel before (Out Server kind number datagram) × AreRequests (before ++ Out Server kind number datagram ∷ []) requests
  of_server kind = other_link Server kind (λ m d e. cc)

-- ---- a request

module _ (before : List Entry) (id : ℕ) (kind : Kind) (cookie : List ℕ) where
  abbrev the_issue : Entry
  the_issue = Issue id kind cookie

  request_is : Issued
  request_is = record { kind = kind; cookie = cookie }

  issue_is_no_out : (number : ℕ) (datagram : List ℕ) → the_issue ≢ Out Client Reliable number datagram
  issue_is_no_out number datagram e = cc

  same_issue : (i : ℕ) (k : Kind) (c : List ℕ) → the_issue ≡ Issue i k c → id ≡ i
  same_issue i k c e = cc

  same_request : (i : ℕ) (k : Kind) (c : List ℕ) → the_issue ≡ Issue i k c → ◌≡◌ {A = Option Issued} (Some (record { kind = kind; cookie = cookie })) (Some (record { kind = k; cookie = c }))
  same_request i k c e = cc

  that_issue : (k : Kind) (c : List ℕ) → ◌≡◌ {A = Option Issued} (Some (record { kind = kind; cookie = cookie })) (Some (record { kind = k; cookie = c })) → the_issue ≡ Issue id k c
  that_issue k c e =
      let same = issued_same (record { kind = kind; cookie = cookie }) (record { kind = k; cookie = c }) e in
      ap (λ x. Issue id x cookie) (ap (λ i. i.kind) same) ∙ ap (λ x. Issue id k x) (ap (λ i. i.cookie) same)

  issue_now : (k : Kind) (c : List ℕ) → the_issue ≡ Issue id k c → IsIssued id k c (before ++ the_issue ∷ [])
  issue_now k c e = record { front = before; back = []; parts = ap (λ x. before ++ x ∷ []) e }

  module _ (old new : List (ℕ × Issued)) (are : AreIssued before old) (fresh : lookup (nat_eq id) old ≡ None) where
    never_issued : (k : Kind) (c : List ℕ) → ¬ IsIssued id k c before
    never_issued k c i = let e = sym fresh ∙ (are id k c).1 i in cc

    issue_here : lookup (nat_eq id) new ≡ Some (record { kind = kind; cookie = cookie }) → (k : Kind) (c : List ℕ)
        → (lookup (nat_eq id) new ≡ Some (record { kind = k; cookie = c })) ↔ IsIssued id k c (before ++ the_issue ∷ [])
    issue_here here k c = (
      λ h. issue_now k c (that_issue k c (sym here ∙ h)),
      λ i. elim (issued_parts before the_issue id k c i) [
        | inl earlier ↦ absurd (never_issued k c earlier)
        | inr now ↦ here ∙ same_request id k c now
      ],
    )

    issue_elsewhere : (i : ℕ) (k : Kind) (c : List ℕ) → i ≢ id → lookup (nat_eq i) new ≡ lookup (nat_eq i) old → (lookup (nat_eq i) new ≡ Some (record { kind = k; cookie = c })) ↔ IsIssued i k c (before ++ the_issue ∷ [])
    issue_elsewhere i k c apart same = (
      λ h. issued_more before the_issue i k c ((are i k c).0 (sym same ∙ h)),
      λ s. elim (issued_parts before the_issue i k c s) [
        | inl earlier ↦ same ∙ (are i k c).1 earlier
        | inr now ↦ absurd (apart (sym (same_issue i k c now)))
      ],
    )

    issue_added : lookup (nat_eq id) new ≡ Some (record { kind = kind; cookie = cookie }) → ((i : ℕ) → i ≢ id → lookup (nat_eq i) new ≡ lookup (nat_eq i) old) → AreIssued (before ++ the_issue ∷ []) new
    issue_added here others i k c =
        elim (cases_order i id) [
          | inl equal ↦ subst (λ n. (lookup (nat_eq n) new ≡ Some (record { kind = k; cookie = c })) ↔ IsIssued n k c (before ++ the_issue ∷ [])) (sym equal) (issue_here here k c)
          | inr (inl less) ↦ issue_elsewhere i k c (λ e. omega (arith, less, e)) (others i (λ e. omega (arith, less, e)))
          | inr (inr greater) ↦ issue_elsewhere i k c (λ e. omega (arith, greater, e)) (others i (λ e. omega (arith, greater, e)))
        ]

  pub issues : (requests : Requests) (new : List (ℕ × Issued)) → AreRequests before requests → lookup (nat_eq id) requests.issued ≡ None → lookup (nat_eq id) new ≡ Some (record { kind = kind; cookie = cookie })
      → ((i : ℕ) → i ≢ id → lookup (nat_eq i) new ≡ lookup (nat_eq i) requests.issued)
      → AsksForTunnel before the_issue × AreRequests (before ++ the_issue ∷ []) (record { issued = new; gave_data = requests.gave_data })
  issues requests new are fresh here others = (
    λ k c. never_issued requests.issued new are.issued fresh k c,
    record {
      issued = issue_added requests.issued new are.issued fresh here others;
      gave = (λ t. gave_more before the_issue (are.gave.0 t), λ g. are.gave.1 (gave_before before the_issue (λ n d b same. absurd (issue_is_no_out n d same)) g));
    },
  )

  issued_some : (o : Option Issued) → IsSome o → (i : Issued) × (o ≡ Some i)
  issued_some (Some i) is = (i, refl)
  issued_some None is = cc

  pub issues_again : (requests : Requests) → AreRequests before requests → IsSome (lookup (nat_eq id) requests.issued) → ¬ AsksForTunnel before the_issue
  issues_again requests are again asks =
      let i = issued_some (lookup (nat_eq id) requests.issued) again in
      asks (i.0).kind (i.0).cookie ((are.issued id (i.0).kind (i.0).cookie).0 i.1)

-- ---- an entry that is neither

pub neither : (before : List Entry) (requests : Requests) (entry : Entry) → ((id : ℕ) (kind : Kind) (cookie : List ℕ) → entry ≢ Issue id kind cookie) → ((side : Role) (kind : Kind) (number : ℕ) (datagram : List ℕ) → entry ≢ Out side kind number datagram)
    → AreRequests before requests → AsksForTunnel before entry × AreRequests (before ++ entry ∷ []) requests
neither before requests entry no_issue no_out are =
    (nothing_asks entry no_issue no_out, requests_still before entry requests no_issue (λ n d b same. absurd (no_out Client Reliable n d same)) are)
  where
    nothing_asks : (entry : Entry) → ((id : ℕ) (kind : Kind) (cookie : List ℕ) → entry ≢ Issue id kind cookie) → ((side : Role) (kind : Kind) (number : ℕ) (datagram : List ℕ) → entry ≢ Out side kind number datagram) → AsksForTunnel before entry
    nothing_asks (Issue id kind cookie) no_issue no_out = absurd (no_issue id kind cookie refl)
    nothing_asks (Open id name) no_issue no_out = tt
    nothing_asks (Sent side id message) no_issue no_out = tt
    nothing_asks (Got side id message) no_issue no_out = tt
    nothing_asks (Main side bytes) no_issue no_out = tt
    nothing_asks (Word side kind id) no_issue no_out = tt
    nothing_asks (Out side kind number datagram) no_issue no_out = absurd (no_out side kind number datagram refl)
    nothing_asks (In side kind number) no_issue no_out = tt

-- ---- results

pub if_ok_four : {T E : Type 0} {A B C D F : T → Type 0} (r : Result T E) → ((x : T) → A x → B x → C x → D x → F x) → IfOk r A → IfOk r B → IfOk r C → IfOk r D → IfOk r F
if_ok_four (Ok x) f a b c d = f x a b c d
if_ok_four (Err e) f a b c d = tt

pub if_ok_one : {T E : Type 0} {A F : T → Type 0} (r : Result T E) → ((x : T) → A x → F x) → IfOk r A → IfOk r F
if_ok_one (Ok x) f a = f x a
if_ok_one (Err e) f a = tt

-- what holds of a datagram of this side and kind holds of one whose side and kind are these
pub of_link : (P : Entry → Type 0) (side s : Role) (kind k : Kind) (number : ℕ) (datagram : List ℕ) → side ≡ s → kind ≡ k → P (Out s k number datagram) → P (Out side kind number datagram)
of_link P side s kind k number datagram sides kinds h =
    subst (λ x. P (Out x kind number datagram)) (sym sides) (subst (λ x. P (Out s x number datagram)) (sym kinds) h)

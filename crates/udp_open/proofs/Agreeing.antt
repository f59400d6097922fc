-- Why two ends that open a link with each other agree.
use Rattle.std.proofs.Common.{◌≡◌, inl, inr, ℕ, zero, suc, ◌<◌, ◌^◌, ◌==◌, Bool, true, false, ◌&&◌, nat_lt, min, max, List, if◌then◌else◌, Option, Some, None, is_some, Ok, refl, sym, ap, ◌∙◌, subst, arith}
use Rattle.std.specs.Option.{option_map, IfSome}
use Rattle.mt_base.specs.declared.kinds.Role.{Role}
use Rattle.mt_base.specs.declared.kinds.Role.TheVariants.{Server, Client}
use Rattle.mt_base.specs.Trace.{Trace, Start, ◌▷◌}
use Rattle.carrier.specs.declared.state.Took.{Took}
use Rattle.carrier.specs.Entries.{Entry, Gave, In, Polled, Pulled, Owed, Posted, Next, moment}
use Rattle.carrier.specs.Joined.{Step, At, half, SentAgo}
use Rattle.carrier.specs.Receiving.{has_effect}
use Rattle.udp1_packets.specs.Layout.{spelled}
use Rattle.udp_open.specs.declared.settings.OpenSettings.{OpenSettings}
use Rattle.udp_open.specs.declared.agreement.Agreement.{Agreement}
use Rattle.udp_open.specs.declared.timer.Timer.{Timer}
use Rattle.udp_open.specs.Handshake.{shown, version_in, agreement, hears, agreed, agreed_by, owed, timer, row, is_time, names, opening_syn, syn, syn_ack, sent, opening_due, Opens}
use Rattle.udp_open.specs.OpeningView.{IsOffered}
use Rattle.udp_open.specs.Agreeing.{is_opening, SendsDue, WasSent, IsHash, Meet, AgreesWith}
use Rattle.udp_open.proofs.Heard.{IsAt, heard_at, deaf_same, stays, at_is, deaf, hears_only}
use Rattle.udp_open.proofs.OpeningPackets.{opening_shown}

-- ---- what an opening sends by itself

pub opens_due : (s : OpenSettings) (t : Trace Entry) → Opens s t → SendsDue s t
opens_due s Start h = tt
opens_due s (t ▷ Gave bytes) h = absurd h
opens_due s (t ▷ In now datagram took) h = opens_due s t h.1
opens_due s (t ▷ Polled now None) h = opens_due s t h.1
opens_due s (t ▷ Polled now (Some out)) h = ((λ o. sym h.0), opens_due s t h.1)
opens_due s (t ▷ Pulled room bytes) h = absurd h
opens_due s (t ▷ Owed count) h = absurd h
opens_due s (t ▷ Posted bytes) h = absurd h
opens_due s (t ▷ Next bytes) h = absurd h

-- ---- what is due

picked : {A B : Type 0} (f : A → B) (b : Bool) (x : A) (out : B) → option_map f (if b then Some x else None) ≡ Some out
    → out ≡ f x
picked f true x out h = cc
picked f false x out h = cc

due_syn : (s : OpenSettings) (role : Role) (a : Option Agreement) (timer : Option Timer) (owed at : ℕ) (out : List ℕ)
    → role ≡ Client → option_map spelled (sent s role a timer owed at) ≡ Some out → out ≡ spelled (syn s)
due_syn s Server a timer owed at out r h = cc
due_syn s Client (Some a) timer owed at out r h = cc
due_syn s Client None timer owed at out r h = picked spelled (is_time timer at && nat_lt (row timer) 16) (syn s) out h

due_ack : (s : OpenSettings) (x : Agreement) (role : Role) (a : Option Agreement) (timer : Option Timer) (owed at : ℕ) (out : List ℕ)
    → role ≡ Server → IsAt x a → option_map spelled (sent s role a timer owed at) ≡ Some out
    → (out ≡ spelled (syn_ack s x)) × (is_some a ≡ true)
due_ack s x Client a timer owed at out r i h = cc
due_ack s x Server None timer owed at out r i h = cc
due_ack s x Server (Some a) timer owed at out r i h =
    (picked spelled (nat_lt 0 owed) (syn_ack s a) out h ∙ ap (λ y. spelled (syn_ack s y)) i, refl)

-- ---- the one agreement

abbrev named : ℕ → Option ℕ
named v = if v == 0x0001 then None else Some v

abbrev acked : Agreement → Option ℕ
acked a = if a.extended then Some a.version else None

-- what the server agrees on, and the client after it
abbrev at_server : (Role → OpenSettings) → Agreement
at_server settings =
    agreement (settings Server).version (opening_syn (settings Client) false (named (settings Client).version))

abbrev at_client : (Role → OpenSettings) → Agreement
at_client settings =
    agreement (settings Client).version (opening_syn (settings Server) true (acked (at_server settings)))

-- with the hashes of both
abbrev named_ack : List ℕ → ℕ → ℕ → Option ℕ
named_ack oc c s =
    if is_some (option_map (names false oc) (named c)) then Some (min (version_in (option_map (names false oc) (named c))) s) else None

pub record Versions (oc os : List ℕ) (c s : ℕ) : Type 0 where
  pub server : min (version_in (option_map (names false oc) (named c))) s ≡ min s c
  pub client : min (version_in (option_map (names true os) (named_ack oc c s))) c ≡ min s c
  pub syn : IfSome (named c) IsOffered
  pub ack : IfSome (named_ack oc c s) IsOffered

versions : (oc os : List ℕ) (c s : ℕ) → IsOffered c → IsOffered s → Versions oc os c s
versions oc os c s c_is s_is = elim c_is [
  | inl ce ↦ subst (λ v. Versions oc os v s) (sym ce) (of_first s_is)
  | inr rest ↦ elim rest [
    | inl ce ↦ subst (λ v. Versions oc os v s) (sym ce) (of_second s_is)
    | inr ce ↦ subst (λ v. Versions oc os v s) (sym ce) (of_third s_is)
  ]
]
  where
    of_first : IsOffered s → Versions oc os 0x0001 s
    of_first s_is = elim s_is [
      | inl se ↦ subst (λ v. Versions oc os 0x0001 v) (sym se) (record { server = refl; client = refl; syn = tt; ack = tt })
      | inr more ↦ elim more [
        | inl se ↦ subst (λ v. Versions oc os 0x0001 v) (sym se) (record { server = refl; client = refl; syn = tt; ack = tt })
        | inr se ↦ subst (λ v. Versions oc os 0x0001 v) (sym se) (record { server = refl; client = refl; syn = tt; ack = tt })
      ]
    ]

    of_second : IsOffered s → Versions oc os 0x0002 s
    of_second s_is = elim s_is [
      | inl se ↦ subst (λ v. Versions oc os 0x0002 v) (sym se) (record { server = refl; client = refl; syn = inr (inl refl); ack = inl refl })
      | inr more ↦ elim more [
        | inl se ↦ subst (λ v. Versions oc os 0x0002 v) (sym se) (record { server = refl; client = refl; syn = inr (inl refl); ack = inr (inl refl) })
        | inr se ↦ subst (λ v. Versions oc os 0x0002 v) (sym se) (record { server = refl; client = refl; syn = inr (inl refl); ack = inr (inl refl) })
      ]
    ]

    of_third : IsOffered s → Versions oc os 0x0101 s
    of_third s_is = elim s_is [
      | inl se ↦ subst (λ v. Versions oc os 0x0101 v) (sym se) (record { server = refl; client = refl; syn = inr (inr refl); ack = inl refl })
      | inr more ↦ elim more [
        | inl se ↦ subst (λ v. Versions oc os 0x0101 v) (sym se) (record { server = refl; client = refl; syn = inr (inr refl); ack = inr (inl refl) })
        | inr se ↦ subst (λ v. Versions oc os 0x0101 v) (sym se) (record { server = refl; client = refl; syn = inr (inr refl); ack = inr (inr refl) })
      ]
    ]

-- a hash that a SYN shows is the client's
pub hash_named : (H : Type 0) (c : ℕ) → (c ≡ 0x0101 → H) → IfSome (named c) (λ v. false ≡ false → v ≡ 0x0101 → H)
hash_named H c is = by_test (c == 0x0001)
  where
    by_test : (b : Bool) → IfSome (if b then None else Some c) (λ v. false ≡ false → v ≡ 0x0101 → H)
    by_test true = tt
    by_test false = λ _ e. is e

-- a SYN+ACK shows none
pub none_shown : (H : Type 0) (o : Option ℕ) → IfSome o (λ v. true ≡ false → v ≡ 0x0101 → H)
none_shown H None = tt
none_shown H (Some v) = λ e _. absurd (no e)
  where
    no : true ≡ false → ⊥
    no e = cc

-- ---- step by step

pub record Ends (settings : Role → OpenSettings) : Type 0 where
  pub roles : (s : Role) → (settings s).role ≡ s
  pub versions : (s : Role) → IsOffered (settings s).version
  pub initials : (s : Role) → (settings s).initial < 2 ^ 32
  pub hashes : (s : Role) → (settings s).version ≡ 0x0101 → IsHash (settings s).cookie_hash

pub record Follow (settings : Role → OpenSettings) (w : Trace Step) : Type 0 where
  pub asks : IsAt (at_client settings) (agreed (settings Client) (half Client w))
  pub serves : IsAt (at_server settings) (agreed (settings Server) (half Server w))
  pub from_client : (k : ℕ) (d : List ℕ) → SentAgo Client w k d → is_opening d ≡ true → d ≡ spelled (syn (settings Client))
  pub from_server : (k : ℕ) (d : List ℕ) → SentAgo Server w k d → is_opening d ≡ true
      → (d ≡ spelled (syn_ack (settings Server) (at_server settings))) × (is_some (agreed (settings Server) (half Server w)) ≡ true)
  pub behind : is_some (agreed (settings Client) (half Client w)) ≡ true → is_some (agreed (settings Server) (half Server w)) ≡ true

-- a datagram more on the way
sent_more : (s side : Role) (w : Trace Step) (now : ℕ) (out : List ℕ) (P : List ℕ → Type 0)
    → (side ≡ s → is_opening out ≡ true → P out)
    → ((k : ℕ) (d : List ℕ) → SentAgo s w k d → is_opening d ≡ true → P d)
    → (k : ℕ) (d : List ℕ) → SentAgo s (w ▷ At side (Polled now (Some out))) k d → is_opening d ≡ true → P d
sent_more s side w now out P is before zero d h o =
    subst P h.1 (is h.0 (subst (λ x. is_opening x ≡ true) (sym h.1) o))
sent_more s side w now out P is before (suc k) d h o = before k d h o

apart : (one two : Role) → one ≡ Client → two ≡ Server → one ≡ two → ⊥
apart one two c s e = cc

client_sends : (settings : Role → OpenSettings) (e : Ends settings) (w : Trace Step) (now : ℕ) (out : List ℕ) → Follow settings w
    → (is_opening out ≡ true → opening_due (settings Client) (half Client w) now ≡ Some out)
    → Follow settings (w ▷ At Client (Polled now (Some out)))
client_sends settings e w now out i due = record {
  asks = i.asks;
  serves = i.serves;
  from_client = sent_more Client Client w now out (λ d. d ≡ spelled (syn (settings Client)))
      (λ same o. due_syn (settings Client) (settings Client).role (agreed (settings Client) (half Client w)) (timer (settings Client) (half Client w)) (owed (settings Client) (half Client w)) (max (moment (half Client w)) now) out (e.roles Client) (due o))
      i.from_client;
  from_server = sent_more Server Client w now out (λ d. (d ≡ spelled (syn_ack (settings Server) (at_server settings))) × (is_some (agreed (settings Server) (half Server w)) ≡ true))
      (λ same o. absurd (apart Client Server refl refl same)) i.from_server;
  behind = i.behind;
}

server_sends : (settings : Role → OpenSettings) (e : Ends settings) (w : Trace Step) (now : ℕ) (out : List ℕ) → Follow settings w
    → (is_opening out ≡ true → opening_due (settings Server) (half Server w) now ≡ Some out)
    → Follow settings (w ▷ At Server (Polled now (Some out)))
server_sends settings e w now out i due = record {
  asks = i.asks;
  serves = i.serves;
  from_client = sent_more Client Server w now out (λ d. d ≡ spelled (syn (settings Client)))
      (λ same o. absurd (apart Client Server refl refl (sym same))) i.from_client;
  from_server = sent_more Server Server w now out (λ d. (d ≡ spelled (syn_ack (settings Server) (at_server settings))) × (is_some (agreed (settings Server) (half Server w)) ≡ true))
      (λ same o. due_ack (settings Server) (at_server settings) (settings Server).role (agreed (settings Server) (half Server w)) (timer (settings Server) (half Server w)) (owed (settings Server) (half Server w)) (max (moment (half Server w)) now) out (e.roles Server) i.serves (due o))
      i.from_server;
  behind = i.behind;
}

-- the SYN of the client, and the SYN+ACK of the server, are read as they were meant
syn_shown : (settings : Role → OpenSettings) (e : Ends settings)
    → shown (spelled (syn (settings Client))) ≡ Ok (syn (settings Client))
syn_shown settings e =
    let c = settings Client in
    let v = versions c.cookie_hash (settings Server).cookie_hash c.version (settings Server).version (e.versions Client) (e.versions Server) in
    opening_shown c false 0xFFFFFFFF (named c.version) (e.initials Client) (omega arith) v.syn (hash_named (IsHash c.cookie_hash) c.version (e.hashes Client))

ack_shown : (settings : Role → OpenSettings) (e : Ends settings)
    → shown (spelled (syn_ack (settings Server) (at_server settings))) ≡ Ok (syn_ack (settings Server) (at_server settings))
ack_shown settings e =
    let c = settings Client in
    let v = versions c.cookie_hash (settings Server).cookie_hash c.version (settings Server).version (e.versions Client) (e.versions Server) in
    opening_shown (settings Server) true c.initial (named_ack c.cookie_hash c.version (settings Server).version) (e.initials Server) (e.initials Client) v.ack (none_shown (IsHash (settings Server).cookie_hash) (named_ack c.cookie_hash c.version (settings Server).version))

client_hears : (settings : Role → OpenSettings) (e : Ends settings) (w : Trace Step) (now : ℕ) (d : List ℕ) (took : Took) → Follow settings w
    → (is_opening d ≡ true → (k : ℕ) × SentAgo Server w k d)
    → Follow settings (w ▷ At Client (In now d took))
client_hears settings e w now d took i was = record {
  asks = heard_at (at_client settings) (has_effect took) before (hears c before (shown d)) i.asks
      (hears_only c before (syn_ack (settings Server) (at_server settings)) (opening_syn (settings Server) true (acked (at_server settings))) d i.asks refl
      (λ o. ap shown (i.from_server (was o).0 d (was o).1 o).0 ∙ ack_shown settings e));
  serves = i.serves;
  from_client = i.from_client;
  from_server = i.from_server;
  behind = by_test (is_opening d) refl;
}
  where
    c : OpenSettings
    c = settings Client

    before : Option Agreement
    before = agreed c (half Client w)

    by_test : (b : Bool) → is_opening d ≡ b → is_some (if has_effect took then agreed_by before (hears c before (shown d)) else before) ≡ true
        → is_some (agreed (settings Server) (half Server w)) ≡ true
    by_test true o h = (i.from_server (was o).0 d (was o).1 o).1
    by_test false o h = i.behind (subst (λ a. is_some a ≡ true) (deaf_same (has_effect took) before (hears c before (shown d)) (deaf c before (shown d) o)) h)

server_hears : (settings : Role → OpenSettings) (e : Ends settings) (w : Trace Step) (now : ℕ) (d : List ℕ) (took : Took) → Follow settings w
    → (is_opening d ≡ true → (k : ℕ) × SentAgo Client w k d)
    → Follow settings (w ▷ At Server (In now d took))
server_hears settings e w now d took i was =
    let s = settings Server in
    let before = agreed s (half Server w) in
    let more = stays (has_effect took) before (hears s before (shown d)) in
    record {
      asks = i.asks;
      serves = heard_at (at_server settings) (has_effect took) before (hears s before (shown d)) i.serves
          (hears_only s before (syn (settings Client)) (opening_syn (settings Client) false (named (settings Client).version)) d i.serves refl
          (λ o. ap shown (i.from_client (was o).0 d (was o).1 o) ∙ syn_shown settings e));
      from_client = i.from_client;
      from_server = λ k d sent o. let told = i.from_server k d sent o in (told.0, more told.1);
      behind = λ h. more (i.behind h);
    }

follow : (settings : Role → OpenSettings) (e : Ends settings) (w : Trace Step)
    → SendsDue (settings Client) (half Client w) → SendsDue (settings Server) (half Server w) → WasSent w
    → Follow settings w
follow settings e Start c s was = record {
  asks = tt;
  serves = tt;
  from_client = λ k d sent o. absurd sent;
  from_server = λ k d sent o. absurd sent;
  behind = λ h. h;
}
follow settings e (w ▷ At Client (In now d took)) c s was = client_hears settings e w now d took (follow settings e w c s was.1) was.0
follow settings e (w ▷ At Server (In now d took)) c s was = server_hears settings e w now d took (follow settings e w c s was.1) was.0
follow settings e (w ▷ At Client (Polled now (Some out))) c s was = client_sends settings e w now out (follow settings e w c.1 s was) c.0
follow settings e (w ▷ At Server (Polled now (Some out))) c s was = server_sends settings e w now out (follow settings e w c s.1 was) s.0
follow settings e (w ▷ At Client (Polled now None)) c s was = let i = follow settings e w c s was in record { asks = i.asks; serves = i.serves; from_client = i.from_client; from_server = i.from_server; behind = i.behind }
follow settings e (w ▷ At Server (Polled now None)) c s was = let i = follow settings e w c s was in record { asks = i.asks; serves = i.serves; from_client = i.from_client; from_server = i.from_server; behind = i.behind }
follow settings e (w ▷ At Client (Gave bytes)) c s was = let i = follow settings e w c s was in record { asks = i.asks; serves = i.serves; from_client = i.from_client; from_server = i.from_server; behind = i.behind }
follow settings e (w ▷ At Client (Pulled room bytes)) c s was = let i = follow settings e w c s was in record { asks = i.asks; serves = i.serves; from_client = i.from_client; from_server = i.from_server; behind = i.behind }
follow settings e (w ▷ At Client (Owed count)) c s was = let i = follow settings e w c s was in record { asks = i.asks; serves = i.serves; from_client = i.from_client; from_server = i.from_server; behind = i.behind }
follow settings e (w ▷ At Client (Posted bytes)) c s was = let i = follow settings e w c s was in record { asks = i.asks; serves = i.serves; from_client = i.from_client; from_server = i.from_server; behind = i.behind }
follow settings e (w ▷ At Client (Next bytes)) c s was = let i = follow settings e w c s was in record { asks = i.asks; serves = i.serves; from_client = i.from_client; from_server = i.from_server; behind = i.behind }
follow settings e (w ▷ At Server (Gave bytes)) c s was = let i = follow settings e w c s was in record { asks = i.asks; serves = i.serves; from_client = i.from_client; from_server = i.from_server; behind = i.behind }
follow settings e (w ▷ At Server (Pulled room bytes)) c s was = let i = follow settings e w c s was in record { asks = i.asks; serves = i.serves; from_client = i.from_client; from_server = i.from_server; behind = i.behind }
follow settings e (w ▷ At Server (Owed count)) c s was = let i = follow settings e w c s was in record { asks = i.asks; serves = i.serves; from_client = i.from_client; from_server = i.from_server; behind = i.behind }
follow settings e (w ▷ At Server (Posted bytes)) c s was = let i = follow settings e w c s was in record { asks = i.asks; serves = i.serves; from_client = i.from_client; from_server = i.from_server; behind = i.behind }
follow settings e (w ▷ At Server (Next bytes)) c s was = let i = follow settings e w c s was in record { asks = i.asks; serves = i.serves; from_client = i.from_client; from_server = i.from_server; behind = i.behind }

pub meeting : (settings : Role → OpenSettings) (w : Trace Step) → Meet settings w → Follow settings w
meeting settings w m =
    let e : Ends settings = record { roles = m.roles; versions = m.versions; initials = m.initials; hashes = m.hashes } in
    follow settings e w (m.sends Client) (m.sends Server) m.sent

pub agrees : (settings : Role → OpenSettings) (w : Trace Step) (s : Role) (a : Agreement) → Meet settings w
    → agreed (settings s) (half s w) ≡ Some a → AgreesWith settings s a
agrees settings w Client a m is =
    let v = versions (settings Client).cookie_hash (settings Server).cookie_hash (settings Client).version (settings Server).version (m.versions Client) (m.versions Server) in
    let same = at_is (at_client settings) (agreed (settings Client) (half Client w)) a (meeting settings w m).asks is in
    record {
      version_is = ap (λ (x : Agreement). x.version) same ∙ v.client;
      peer_is = ap (λ (x : Agreement). x.peer_initial) same;
    }
agrees settings w Server a m is =
    let v = versions (settings Client).cookie_hash (settings Server).cookie_hash (settings Client).version (settings Server).version (m.versions Client) (m.versions Server) in
    let same = at_is (at_server settings) (agreed (settings Server) (half Server w)) a (meeting settings w m).serves is in
    record {
      version_is = ap (λ (x : Agreement). x.version) same ∙ v.server;
      peer_is = ap (λ (x : Agreement). x.peer_initial) same;
    }

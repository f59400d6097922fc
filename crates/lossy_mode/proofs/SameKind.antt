-- Why two ends that agreed are of the same kind of link.
use Rattle.std.proofs.Common.{◌≡◌, inl, inr, ℕ, ◌==◌, ◌^◌, ◌<◌, Bool, true, false, not, List, if◌then◌else◌, Option, Some, None, is_some, Result, Ok, Err, refl, sym, ap, ◌∙◌, subst, arith}
use Rattle.std.specs.Option.{IfSome}
use Rattle.mt_base.specs.declared.kinds.Kind.{Kind}
use Rattle.mt_base.specs.declared.kinds.Kind.TheVariants.{Reliable, Lossy}
use Rattle.mt_base.specs.declared.kinds.Role.{Role}
use Rattle.mt_base.specs.declared.kinds.Role.TheVariants.{Server, Client}
use Rattle.mt_base.specs.Trace.{Trace, Start, ◌▷◌}
use Rattle.carrier.specs.declared.state.Reason.{Reason}
use Rattle.carrier.specs.declared.state.Reason.TheVariants as reason
use Rattle.carrier.specs.Entries.{Entry, Gave, In, Polled, Pulled, Owed, Posted, Next}
use Rattle.carrier.specs.Joined.{Step, At, half, SentAgo}
use Rattle.carrier.specs.Receiving.{has_effect}
use Rattle.udp1_packets.specs.Layout.{has, spelled}
use Rattle.udp_open.specs.declared.settings.OpenSettings.{OpenSettings}
use Rattle.udp_open.specs.declared.agreement.Agreement.{Agreement}
use Rattle.udp_open.specs.Agreeing.{Meet, SendsDue, WasSent, is_opening}
use Rattle.udp_open.specs.Handshake.{agreed, agreed_by, hears, is_for, is_of, judged, marks_of, opening_syn, shown, syn}
use Rattle.udp_open.specs.OpeningView.{IsFirst, IsOffered}
use Rattle.udp_open.proofs.Agreeing.{meeting}
use Rattle.udp_open.proofs.Heard.{Deaf, deaf}
use Rattle.udp_open.proofs.OpeningPackets.{opening_shown}

-- ---- what a server takes is of its kind

-- the flag tells the kind
kind_of : (one two : Kind) → is_of one (has (marks_of two) 0x0200) ≡ true → two ≡ one
kind_of Reliable Reliable h = refl
kind_of Lossy Lossy h = refl
kind_of Reliable Lossy h = (let no : false ≡ true = h in cc)
kind_of Lossy Reliable h = (let no : false ≡ true = h in cc)

kind_by : (one two : Kind) (b : Bool) (rest : Result Agreement Reason) (a : Agreement) → is_of one (has (marks_of two) 0x0200) ≡ b
    → (if not b then Err reason.WrongKind else rest) ≡ Ok a → two ≡ one
kind_by one two true rest a is h = kind_of one two is
kind_by one two false rest a is h = cc

abbrev named : ℕ → Option ℕ
named v = if v == 0x0001 then None else Some v

kind_taken : (s c : OpenSettings) (role : Role) (a : Agreement) → role ≡ Server
    → (if is_for role false then judged s role (syn c) (opening_syn c false (named c.version)) else Err reason.NotOpen) ≡ Ok a
    → c.kind ≡ s.kind
kind_taken s c Server a r h = kind_by s.kind c.kind (is_of s.kind (has (marks_of c.kind) 0x0200)) _ a refl h
kind_taken s c Client a r h = cc

kind_heard : (s c : OpenSettings) (a : Agreement) → s.role ≡ Server → hears s None (Ok (syn c)) ≡ Ok a → c.kind ≡ s.kind
kind_heard s c a r h = kind_taken s c s.role a r h

-- ---- the SYN of a client is read as it was meant

named_offered : (v : ℕ) → IsFirst v → IfSome (named v) IsOffered
named_offered v (inl one) = subst (λ n. IfSome (named n) IsOffered) (sym one) tt
named_offered v (inr two) = subst (λ n. IfSome (named n) IsOffered) (sym two) (inr (inl refl))

no_hash : (H : Type 0) (v : ℕ) → IsFirst v → IfSome (named v) (λ v. false ≡ false → v ≡ 0x0101 → H)
no_hash H v (inl one) = subst (λ n. IfSome (named n) (λ v. false ≡ false → v ≡ 0x0101 → H)) (sym one) tt
no_hash H v (inr two) = subst (λ n. IfSome (named n) (λ v. false ≡ false → v ≡ 0x0101 → H)) (sym two) (λ e is. absurd (omega (arith, is)))

syn_shown : (c : OpenSettings) → IsFirst c.version → c.initial < 2 ^ 32 → shown (spelled (syn c)) ≡ Ok (syn c)
syn_shown c first fits =
    opening_shown c false 0xFFFFFFFF (named c.version) fits (omega arith) (named_offered c.version first) (no_hash _ c.version first)

-- ---- one call less

due_before : (s : OpenSettings) (t : Trace Entry) (e : Entry) → SendsDue s (t ▷ e) → SendsDue s t
due_before s t (Polled now None) h = h
due_before s t (Polled now (Some out)) h = h.1
due_before s t (In now d took) h = h
due_before s t (Gave bytes) h = h
due_before s t (Pulled room bytes) h = h
due_before s t (Owed count) h = h
due_before s t (Posted bytes) h = h
due_before s t (Next bytes) h = h

sends_before : (settings : Role → OpenSettings) (w : Trace Step) (side : Role) (e : Entry)
    → ((s : Role) → SendsDue (settings s) (half s (w ▷ At side e))) → (s : Role) → SendsDue (settings s) (half s w)
sends_before settings w Server e h Server = due_before (settings Server) (half Server w) e (h Server)
sends_before settings w Server e h Client = h Client
sends_before settings w Client e h Server = h Server
sends_before settings w Client e h Client = due_before (settings Client) (half Client w) e (h Client)

sent_before : (w : Trace Step) (side : Role) (e : Entry) → WasSent (w ▷ At side e) → WasSent w
sent_before w side (In now d took) h = h.1
sent_before w side (Polled now out) h = h
sent_before w side (Gave bytes) h = h
sent_before w side (Pulled room bytes) h = h
sent_before w side (Owed count) h = h
sent_before w side (Posted bytes) h = h
sent_before w side (Next bytes) h = h

met_before : (settings : Role → OpenSettings) (w : Trace Step) (side : Role) (e : Entry) → Meet settings (w ▷ At side e) → Meet settings w
met_before settings w side e m = record {
  roles = m.roles;
  versions = m.versions;
  initials = m.initials;
  hashes = m.hashes;
  sends = sends_before settings w side e m.sends;
  sent = sent_before w side e m.sent;
}

-- ---- both ends

abbrev OneKind : (Role → OpenSettings) → Type 0
OneKind settings = (settings Client).kind ≡ (settings Server).kind

-- it agreed before, or does so now
agreed_now : (b : Bool) (o : Option Agreement) (r : Result Agreement Reason) (P : Type 0) → (is_some o ≡ true → P)
    → ((a : Agreement) → o ≡ None → r ≡ Ok a → P) → is_some (if b then agreed_by o r else o) ≡ true → P
agreed_now b (Some a) r P old new h = old refl
agreed_now true None (Ok a) P old new h = new a refl refl
agreed_now true None (Err why) P old new h = cc
agreed_now false None r P old new h = cc

kind_comes : (settings : Role → OpenSettings) → IsFirst (settings Client).version → (w : Trace Step) → Meet settings w → (d : List ℕ) (a : Agreement)
    → (is_opening d ≡ true → (k : ℕ) × SentAgo Client w k d) → hears (settings Server) None (shown d) ≡ Ok a → OneKind settings
kind_comes settings first w m d a was h = by_test (is_opening d) refl
  where
    s : OpenSettings
    s = settings Server

    c : OpenSettings
    c = settings Client

    by_test : (b : Bool) → is_opening d ≡ b → OneKind settings
    by_test true o =
        let sent = was o in
        let is = (meeting settings w m).from_client sent.0 d sent.1 o in
        kind_heard s c a (m.roles Server) (subst (λ r. hears s None r ≡ Ok a) (ap shown is ∙ syn_shown c first (m.initials Client)) h)
    by_test false o = absurd (subst Deaf h (deaf s None (shown d) o))

server_kind : (settings : Role → OpenSettings) → IsFirst (settings Client).version → (w : Trace Step) → Meet settings w
    → is_some (agreed (settings Server) (half Server w)) ≡ true → OneKind settings
server_kind settings first Start m h = cc
server_kind settings first (w ▷ At Client e) m h = server_kind settings first w (met_before settings w Client e m) h
server_kind settings first (w ▷ At Server (In now d took)) m h =
    let s = settings Server in
    let before = agreed s (half Server w) in
    let old = met_before settings w Server (In now d took) m in
    agreed_now (has_effect took) before (hears s before (shown d)) (OneKind settings)
    (λ is. server_kind settings first w old is)
    (λ a is heard. kind_comes settings first w old d a m.sent.0 (subst (λ o. hears s o (shown d) ≡ Ok a) is heard))
    h
server_kind settings first (w ▷ At Server (Polled now out)) m h = server_kind settings first w (met_before settings w Server (Polled now out) m) h
server_kind settings first (w ▷ At Server (Gave bytes)) m h = server_kind settings first w (met_before settings w Server (Gave bytes) m) h
server_kind settings first (w ▷ At Server (Pulled room bytes)) m h = server_kind settings first w (met_before settings w Server (Pulled room bytes) m) h
server_kind settings first (w ▷ At Server (Owed count)) m h = server_kind settings first w (met_before settings w Server (Owed count) m) h
server_kind settings first (w ▷ At Server (Posted bytes)) m h = server_kind settings first w (met_before settings w Server (Posted bytes) m) h
server_kind settings first (w ▷ At Server (Next bytes)) m h = server_kind settings first w (met_before settings w Server (Next bytes) m) h

-- an end that agreed is of the kind of the other one
pub one_kind : (settings : Role → OpenSettings) → IsFirst (settings Client).version → (w : Trace Step) → Meet settings w → (s : Role)
    → is_some (agreed (settings s) (half s w)) ≡ true → OneKind settings
one_kind settings first w m Server h = server_kind settings first w m h
one_kind settings first w m Client h = server_kind settings first w m ((meeting settings w m).behind h)

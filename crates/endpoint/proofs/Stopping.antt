-- Where a stop stands, by what an end keeps.
use Rattle.std.proofs.Common.{◌≡◌, ℕ, ◌+◌, ◌-◌, Bool, true, false, ◌&&◌, ◌||◌, nat_le, nat_lt, is_some, List, length, Option, Some, None, IfSome, IfNone, refl, sym, ap, ◌∙◌, arith, length-append}
use Rattle.std.specs.List.{flat_map}
use Rattle.mt_base.specs.declared.kinds.Kind.TheVariants.{Reliable}
use Rattle.mt_base.specs.declared.kinds.Role.{Role}
use Rattle.mt_base.specs.Trace.{Trace}
use Rattle.mt_windows.specs.declared.limits.TheConstants.{QUEUE}
use Rattle.carrier.specs.declared.state.LinkState.{LinkState}
use Rattle.carrier.specs.Entries as link
use Rattle.dvc_channels.specs.Acts as channels
use Rattle.mt_endpoint.specs.Acts.{Act}
use Rattle.mt_endpoint.specs.Channels.{table}
use Rattle.mt_endpoint.specs.Writing.{main_bytes, tunneled}
use Rattle.end_calls.specs.declared.fault.Fault.{Fault}
use Rattle.end_calls.specs.declared.limits.TheConstants.{CONTROL, INBOX, MAIN_QUEUE}
use Rattle.end_calls.specs.Stops.{answers_owed, is_inbox_full, is_link_full, is_main_full, is_stopped}
use Rattle.end_calls.specs.Streams.{Past, is_broken, written}
use Rattle.end_session.specs.Standing.{Gone, Stands}
use Rattle.end_reader.specs.declared.reader.Reader.{Reader}
use Rattle.endpoint.specs.MainRead.{begins_with}
use Rattle.endpoint.specs.OnWay.{LinkAt, OnWay}
use Rattle.endpoint.proofs.Added.{waits_by}

-- what the reader tells of a stop
abbrev Told : Reader → Bool → Type 0
Told r full =
    (t : Trace Act) (gone : Gone) → Stands r.session t gone → full ≡ nat_le INBOX (channels.waiting (table (r.session).role t)) || nat_lt MAIN_QUEUE (length ((r.session).outgoing).main + (CONTROL + answers_owed t))

or_of : (i m k : Bool) → (i || m) || k ≡ i || (m || k)
or_of true m k = refl
or_of false m k = refl

or_true : (b : Bool) → b || true ≡ true
or_true true = refl
or_true false = refl

full_is : {L : Type 0} (stands : L → Trace link.Entry → Type 0) (left : L → List ℕ) (condition : L → LinkState) (load : L → ℕ) (unread sent : List ℕ) (role : Role) (p q : Past) (l : Trace link.Entry) (queued : ℕ) (r : Reader) (c : Option L) (full : Bool)
    → OnWay stands left condition load unread sent role q l (queued + length (flat_map tunneled (written Reliable role p q))) r c → Told r full → full ≡ is_inbox_full role q || is_main_full role (begins_with sent queued p) q
full_is stands left condition load unread sent role p q l queued r c full way told =
    let main = ((r.session).outgoing).main in
    let w = waits_by r.session role q.acts way.gone way.role_is (way.reads).stands in
    let long : length main ≡ length (main_bytes role q.acts) - length sent =
    omega (arith, ap (λ (b : List ℕ). length b) w.main_waits, length-append (way.gone).main main, ap (λ (b : List ℕ). length b) way.gone_is) in
    told q.acts way.gone (way.reads).stands ∙ ap (λ x. nat_le INBOX (channels.waiting (table x q.acts)) || nat_lt MAIN_QUEUE (length main + (CONTROL + answers_owed q.acts))) way.role_is
    ∙ ap (λ n. nat_le INBOX (channels.waiting (table role q.acts)) || nat_lt MAIN_QUEUE (n + (CONTROL + answers_owed q.acts))) long

link_is : {L : Type 0} (stands : L → Trace link.Entry → Type 0) (left : L → List ℕ) (condition : L → LinkState) (load : L → ℕ) (unread sent : List ℕ) (role : Role) (p q : Past) (l : Trace link.Entry) (queued : ℕ) (r : Reader) (c : Option L) (b : Bool)
    → LinkAt stands left condition load unread q l (queued + length (flat_map tunneled (written Reliable role p q))) c → IfSome c (λ x. b ≡ nat_lt QUEUE (load x + CONTROL)) → IfNone c (b ≡ false) → b ≡ is_link_full role (begins_with sent queued p) q
link_is stands left condition load unread sent role p q l queued r (Some x) b on some none =
    some ∙ ap (λ n. nat_lt QUEUE (n + CONTROL)) on.load_is ∙ sym (ap (λ a. a && nat_lt QUEUE (queued + length (flat_map tunneled (written Reliable role p q)) + CONTROL)) on.attached)
link_is stands left condition load unread sent role p q l queued r None b off some none =
    none ∙ sym (ap (λ a. a && nat_lt QUEUE (queued + length (flat_map tunneled (written Reliable role p q)) + CONTROL)) off.unattached)

-- where it is broken, or its own queues are full
pub stops_before : {L : Type 0} (stands : L → Trace link.Entry → Type 0) (left : L → List ℕ) (condition : L → LinkState) (load : L → ℕ) (unread sent : List ℕ) (role : Role) (p q : Past) (l : Trace link.Entry) (queued : ℕ) (r : Reader) (c : Option L)
    → OnWay stands left condition load unread sent role q l (queued + length (flat_map tunneled (written Reliable role p q))) r c → is_some (r.session).broken ≡ true → is_broken q || is_stopped role (begins_with sent queued p) q ≡ true
stops_before stands left condition load unread sent role p q l queued r c way broken =
    ap (λ b. b || is_stopped role (begins_with sent queued p) q) (ap (λ (o : Option Fault). is_some o) (sym (way.reads).broken_is) ∙ broken)

pub stops_full : {L : Type 0} (stands : L → Trace link.Entry → Type 0) (left : L → List ℕ) (condition : L → LinkState) (load : L → ℕ) (unread sent : List ℕ) (role : Role) (p q : Past) (l : Trace link.Entry) (queued : ℕ) (r : Reader) (c : Option L) (full : Bool)
    → OnWay stands left condition load unread sent role q l (queued + length (flat_map tunneled (written Reliable role p q))) r c → Told r full → full ≡ true → is_broken q || is_stopped role (begins_with sent queued p) q ≡ true
stops_full stands left condition load unread sent role p q l queued r c full way told is =
    let outset = begins_with sent queued p in
    ap (λ b. is_broken q || b) (sym (or_of (is_inbox_full role q) (is_main_full role outset q) (is_link_full role outset q))
    ∙ ap (λ b. b || is_link_full role outset q) (sym (full_is stands left condition load unread sent role p q l queued r c full way told) ∙ is)) ∙ or_true (is_broken q)

-- else where its link's is
pub stops_link : {L : Type 0} (stands : L → Trace link.Entry → Type 0) (left : L → List ℕ) (condition : L → LinkState) (load : L → ℕ) (unread sent : List ℕ) (role : Role) (p q : Past) (l : Trace link.Entry) (queued : ℕ) (r : Reader) (c : Option L) (full b : Bool)
    → OnWay stands left condition load unread sent role q l (queued + length (flat_map tunneled (written Reliable role p q))) r c → is_some (r.session).broken ≡ false → Told r full → full ≡ false
    → IfSome c (λ x. b ≡ nat_lt QUEUE (load x + CONTROL)) → IfNone c (b ≡ false) → b ≡ is_broken q || is_stopped role (begins_with sent queued p) q
stops_link stands left condition load unread sent role p q l queued r c full b way whole told is some none =
    let outset = begins_with sent queued p in
    link_is stands left condition load unread sent role p q l queued r c b way.has_link some none
    ∙ sym (ap (λ b. b || is_stopped role outset q) (ap (λ (o : Option Fault). is_some o) (sym (way.reads).broken_is) ∙ whole)
    ∙ (sym (or_of (is_inbox_full role q) (is_main_full role outset q) (is_link_full role outset q))
    ∙ ap (λ b. b || is_link_full role outset q) (sym (full_is stands left condition load unread sent role p q l queued r c full way told) ∙ is)))

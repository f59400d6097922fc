-- What a link sends is sent by its opening or by its machine; so two joined links agree.
use Rattle.std.proofs.Common.{◌≡◌, ◌⊎◌, inl, inr, ℕ, Bool, true, false, List, Option, Some, None, refl, sym, ap, ◌∙◌}
use Rattle.std.specs.Prelude.{nat_lt, max, if◌then◌else◌, IfSome}
use Rattle.std.specs.Option.{option_map}
use Rattle.mt_base.specs.declared.kinds.Role.{Role}
use Rattle.mt_base.specs.Trace.{Trace, Start, ◌▷◌}
use Rattle.carrier.specs.Entries.{Entry, Gave, In, Polled, Pulled, Owed, Posted, Next, moment}
use Rattle.carrier.specs.Due.{due, meant}
use Rattle.carrier.specs.Layout.{Layout}
use Rattle.carrier.specs.Sending.{is_closed}
use Rattle.carrier.specs.Joined.{Step, At, half, Timely}
use Rattle.udp1_core.specs.FirstLayout.{packet_with}
use Rattle.udp1_packets.specs.Layout.{spelled}
use Rattle.udp2_core.specs.SecondLayout.{second_layout, packet_with as second_packet}
use Rattle.udp2_packets.specs.Layout.{spelled as spelled_second}
use Rattle.link_core.specs.CoreView.{is_second}
use Rattle.udp_open.specs.declared.settings.OpenSettings.{OpenSettings}
use Rattle.udp_open.specs.declared.agreement.Agreement.{Agreement}
use Rattle.udp_open.specs.Handshake.{agreed, owed, timer, opening_due}
use Rattle.udp_open.specs.Agreeing.{is_opening, IsHash, SendsDue, WasSent, Meet, AgreesWith}
use Rattle.udp_open.specs.LinkTrace.{has_syn, is_low, layout_by, machine_layout, machine, link_due, due_by, LinkFaithful}
use Rattle.udp_open.specs.TwoLinks.{LinkNet, AgreesIn}
use Rattle.udp_open.proofs.Agreeing.{agrees}
use Rattle.udp_open.proofs.Second.{second_plain}
use Rattle.udp_open.proofs.links.Flag.{opening_flag, machine_plain, sent_has, sent_low}

-- ---- who sends a datagram

-- the machine sends this datagram: the ends agreed, no answer to an opening is owed, and the datagram
-- has no flag SYN
pub record ByMachine (s : OpenSettings) (t : Trace Entry) (out : List ℕ) : Type 0 where
  pub agreement : Agreement
  pub agreed_is : agreed s t ≡ Some agreement
  pub none_owed : nat_lt 0 (owed s t) ≡ false
  pub plain : has_syn out ≡ false

mapped : {A B : Type 0} (f : A → B) (o : Option A) (y : B) → Some y ≡ option_map f o → (x : A) × (y ≡ f x)
mapped f None y h = cc
mapped f (Some x) y h = (x, cc)

opened_by : (closed owes : Bool) (x y : Option (List ℕ)) (out : List ℕ) → Some out ≡ (if closed then None else (if owes then x else y))
    → ((owes ≡ true) × (Some out ≡ x)) ⊎ ((owes ≡ false) × (Some out ≡ y))
opened_by true owes x y out h = cc
opened_by false true x y out h = inl (refl, h)
opened_by false false x y out h = inr (refl, h)

-- whatever its layout, a machine sends nothing with the flag SYN
due_plain : (s : OpenSettings) (a : Agreement) (m : Trace Entry) (at : ℕ) (out : List ℕ) → Some out ≡ due (machine_layout s a) m at → has_syn out ≡ false
due_plain s a m at out h = by_version (is_second a.version) h
  where
    first : Layout
    first = layout_by s a

    by_version : (b : Bool) → Some out ≡ due (if b then second_layout else first) m at → has_syn out ≡ false
    by_version true h =
        let was = mapped (λ d. spelled_second (second_packet d)) (meant second_layout m at) out h in
        ap has_syn was.1 ∙ second_plain (second_packet was.0)
    by_version false h =
        let was = mapped (λ d. spelled (packet_with d)) (meant first m at) out h in
        ap has_syn was.1 ∙ machine_plain was.0

pub sent_by : (s : OpenSettings) (t : Trace Entry) (now : ℕ) (out : List ℕ) → Some out ≡ link_due s t now
    → (opening_due s t now ≡ Some out) ⊎ ByMachine s t out
sent_by s t now out h = by_agreement (agreed s t) refl h
  where
    by_machine : (a : Agreement) → agreed s t ≡ Some a → nat_lt 0 (owed s t) ≡ false
        → Some out ≡ due (machine_layout s a) (machine s t) (max (moment t) now) → ByMachine s t out
    by_machine a is none h =
        record { agreement = a; agreed_is = is; none_owed = none; plain = due_plain s a (machine s t) (max (moment t) now) out h }

    by_agreement : (a : Option Agreement) → agreed s t ≡ a → Some out ≡ due_by s t a now → (opening_due s t now ≡ Some out) ⊎ ByMachine s t out
    by_agreement None is h = inl (sym h)
    by_agreement (Some a) is h =
        elim (opened_by (is_closed (machine_layout s a) (machine s t)) (nat_lt 0 (owed s t)) (opening_due s t now) (due (machine_layout s a) (machine s t) (max (moment t) now)) out h) [
          | inl opening ↦ inl (sym opening.1)
          | inr last ↦ inr (by_machine a is last.0 last.1)
        ]

-- what an opening sends has the flag
pub due_has : (s : OpenSettings) (t : Trace Entry) (now : ℕ) (out : List ℕ) → opening_due s t now ≡ Some out → has_syn out ≡ true
due_has s t now out h = sent_has s s.role (agreed s t) (timer s t) (owed s t) (max (moment t) now) out h

-- and a low byte at 7
pub due_low : (s : OpenSettings) (t : Trace Entry) (now : ℕ) (out : List ℕ) → (s.version ≡ 0x0101 → IsHash s.cookie_hash)
    → opening_due s t now ≡ Some out → is_low out ≡ true
due_low s t now out hash h = sent_low s s.role (agreed s t) (timer s t) (owed s t) (max (moment t) now) out hash h

-- ---- two links agree

pub link_before : (s : OpenSettings) (t : Trace Entry) (e : Entry) → LinkFaithful s (t ▷ e) → LinkFaithful s t
link_before s t e h = h.2

sends_due : (s : OpenSettings) (t : Trace Entry) → LinkFaithful s t → SendsDue s t
sends_due s Start h = tt
sends_due s (t ▷ Gave bytes) h = sends_due s t h.2
sends_due s (t ▷ In now datagram took) h = sends_due s t h.2
sends_due s (t ▷ Polled now None) h = sends_due s t h.2
sends_due s (t ▷ Polled now (Some out)) h = ((λ o. by_sender o (sent_by s t now out h.0)), sends_due s t h.2)
  where
    by_sender : is_opening out ≡ true → (opening_due s t now ≡ Some out) ⊎ ByMachine s t out → opening_due s t now ≡ Some out
    by_sender o (inl is) = is
    by_sender o (inr m) = let flag = (opening_flag out o).0 in let none = m.plain in cc
sends_due s (t ▷ Pulled room bytes) h = sends_due s t h.2
sends_due s (t ▷ Owed count) h = sends_due s t h.2
sends_due s (t ▷ Posted bytes) h = sends_due s t h.2
sends_due s (t ▷ Next bytes) h = sends_due s t h.2

was_sent : (late : ℕ) (w : Trace Step) → Timely late w → WasSent w
was_sent late Start h = tt
was_sent late (w ▷ At side (In now datagram took)) h =
    ((λ o. let sent = h.0 (opening_flag datagram o).1 in (sent.0, sent.2)), was_sent late w h.1)
was_sent late (w ▷ At side (Gave bytes)) h = was_sent late w h
was_sent late (w ▷ At side (Polled now out)) h = was_sent late w h
was_sent late (w ▷ At side (Pulled room bytes)) h = was_sent late w h
was_sent late (w ▷ At side (Owed count)) h = was_sent late w h
was_sent late (w ▷ At side (Posted bytes)) h = was_sent late w h
was_sent late (w ▷ At side (Next bytes)) h = was_sent late w h

meet : (late : ℕ) (settings : Role → OpenSettings) (w : Trace Step) → LinkNet late settings w → Meet settings w
meet late settings w h = record {
  roles = h.roles;
  versions = h.versions;
  initials = h.initials;
  hashes = h.hashes;
  sends = λ s. sends_due (settings s) (half s w) (h.faithful s);
  sent = was_sent late w h.timely;
}

pub link_agrees : (late : ℕ) (settings : Role → OpenSettings) (w : Trace Step) (s : Role) (a : Agreement) → LinkNet late settings w
    → agreed (settings s) (half s w) ≡ Some a → AgreesWith settings s a
link_agrees late settings w s a h is = agrees settings w s a (meet late settings w h) is

pub agrees_in : (late : ℕ) (settings : Role → OpenSettings) (w : Trace Step) → LinkNet late settings w → (s : Role) → AgreesIn settings w s
agrees_in late settings w h s = by_agreement (agreed (settings s) (half s w)) refl
  where
    by_agreement : (a : Option Agreement) → agreed (settings s) (half s w) ≡ a → IfSome a (AgreesWith settings s)
    by_agreement None is = tt
    by_agreement (Some a) is = link_agrees late settings w s a h is

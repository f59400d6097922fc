-- The machines of two joined links are joined by the same network.
use Rattle.std.proofs.Common.{◌≡◌, ◌⊎◌, inl, inr, ℕ, zero, suc, ◌<◌, ◌≤◌, Bool, true, false, not, ◌&&◌, ◌||◌, List, [], ◌∷◌, length, Option, Some, None, refl, sym, ap, ◌∙◌, subst, arith}
use Rattle.std.specs.Prelude.{nat_lt, max, if◌then◌else◌}
use Rattle.link_core.specs.CoreView.{is_second}
use Rattle.mt_base.specs.declared.kinds.Role.{Role}
use Rattle.mt_base.specs.declared.kinds.Role.TheVariants.{Server, Client}
use Rattle.mt_base.specs.Ends.{other}
use Rattle.mt_base.specs.Trace.{Trace, Start, ◌▷◌}
use Rattle.carrier.specs.declared.state.Took.{Took}
use Rattle.carrier.specs.declared.state.Took.TheVariants.{Used, Ignored}
use Rattle.carrier.specs.Entries.{Entry, Gave, In, Polled, Pulled, Owed, Posted, Next, moment, given}
use Rattle.carrier.specs.Joined.{Step, At, half, SentAgo, Timely}
use Rattle.udp_open.specs.declared.settings.OpenSettings.{OpenSettings}
use Rattle.udp_open.specs.declared.agreement.Agreement.{Agreement}
use Rattle.udp_open.specs.Handshake.{agreed, hears, owed, opening_due, shown}
use Rattle.udp_open.specs.LinkTrace.{has_syn, is_for_machine, is_low, is_syn_copy, begins, begins_by, copies, reaches, tells, link_due, LinkFaithful}
use Rattle.udp_open.specs.TwoLinks.{with_steps, machines}
use Rattle.udp_open.specs.Agreeing.{IsHash}
use Rattle.udp_open.proofs.links.Opened.{ByMachine, sent_by, due_has, due_low}

-- ---- one call less

abbrev pub AllFaithful : (Role → OpenSettings) → Trace Step → Type 0
AllFaithful settings w = (s : Role) → LinkFaithful (settings s) (half s w)

pub laws_before : (settings : Role → OpenSettings) (w : Trace Step) (side : Role) (e : Entry) → AllFaithful settings (w ▷ At side e) → AllFaithful settings w
laws_before settings w Server e laws Server = (laws Server).2
laws_before settings w Server e laws Client = laws Client
laws_before settings w Client e laws Server = laws Server
laws_before settings w Client e laws Client = (laws Client).2

last_law : (settings : Role → OpenSettings) (w : Trace Step) (side : Role) (e : Entry) → AllFaithful settings (w ▷ At side e) → LinkFaithful (settings side) (half side w ▷ e)
last_law settings w Server e laws = laws Server
last_law settings w Client e laws = laws Client

-- ---- what no opening sends was sent by a machine

-- a datagram that was sent, after which at most this many were sent
pub record SentWithin (s : Role) (v : Trace Step) (k : ℕ) (datagram : List ℕ) : Type 0 where
  pub ago : ℕ
  pub within : ago ≤ k
  pub sent : SentAgo s v ago datagram

-- no opening of these ends sends this datagram
abbrev pub IsNoOpening : (Role → OpenSettings) → List ℕ → Type 0
IsNoOpening settings d = (s : Role) (t : Trace Entry) (now : ℕ) → opening_due (settings s) t now ≡ Some d → ⊥

module _ (settings : Role → OpenSettings) (s : Role) (d : List ℕ) (none : IsNoOpening settings d) where
  -- more was sent, after a datagram or not
  later : (v : Trace Step) (k : ℕ) → SentWithin s v k d → SentWithin s v (suc k) d
  later v k h = record { ago = h.ago; within = omega (arith, h.within); sent = h.sent }

  onward : (v : Trace Step) (side : Role) (now : ℕ) (out : List ℕ) (k : ℕ) → SentWithin s v k d → SentWithin s (v ▷ At side (Polled now (Some out))) (suc k) d
  onward v side now out k h = record { ago = suc h.ago; within = omega (arith, h.within); sent = h.sent }

  begun : (v : Trace Step) (side role : Role) (early : List ℕ) (k : ℕ) → SentWithin s v k d → SentWithin s (with_steps v side (begins role early)) k d
  begun v side Server early k h = record { ago = h.ago; within = h.within; sent = h.sent }
  begun v side Client early k h = record { ago = h.ago; within = h.within; sent = h.sent }

  begun_by : (v : Trace Step) (side : Role) (o : OpenSettings) (a : Option Agreement) (early : List ℕ) (k : ℕ) → SentWithin s v k d → SentWithin s (with_steps v side (begins_by o a early)) k d
  begun_by v side o None early k h = h
  begun_by v side o (Some a) early k h = begun v side o.role early k h

  copied : (v : Trace Step) (side role : Role) (took : Took) (k : ℕ) → SentWithin s v k d → SentWithin s (with_steps v side (copies role took)) k d
  copied v side Server Used k h = h
  copied v side Server (Ignored why) k h = h
  copied v side Client Used k h = record { ago = h.ago; within = h.within; sent = h.sent }
  copied v side Client (Ignored why) k h = h

  came : (v : Trace Step) (side role : Role) (mine : Bool) (now : ℕ) (datagram : List ℕ) (took : Took) (k : ℕ) → SentWithin s v k d
      → SentWithin s (with_steps v side (if mine then In now datagram took ∷ [] else copies role took)) k d
  came v side role true now datagram took k h = record { ago = h.ago; within = h.within; sent = h.sent }
  came v side role false now datagram took k h = copied v side role took k h

  idle : (v : Trace Step) (side : Role) (owes : Bool) (now : ℕ) (k : ℕ) → SentWithin s v k d
      → SentWithin s (with_steps v side (if owes then [] else Polled now None ∷ [])) k d
  idle v side true now k h = h
  idle v side false now k h = record { ago = h.ago; within = h.within; sent = h.sent }

  polled : (v : Trace Step) (side : Role) (owes : Bool) (now : ℕ) (out : List ℕ) (k : ℕ) → SentWithin s v k d
      → SentWithin s (with_steps v side (if owes then [] else Polled now (Some out) ∷ [])) (suc k) d
  polled v side true now out k h = later v k h
  polled v side false now out k h = onward v side now out k h

  -- a call that sends nothing
  abbrev Silent : Entry → Type 0
  Silent (Polled now (Some out)) = ⊥
  Silent e = Unit {0}

  reached : (t : Trace Entry) (v : Trace Step) (side : Role) (o : OpenSettings) (a : Agreement) (e : Entry) (k : ℕ) → Silent e → SentWithin s v k d → SentWithin s (with_steps v side (reaches o a t e)) k d
  reached t v side o a (Gave bytes) k quiet h = record { ago = h.ago; within = h.within; sent = h.sent }
  reached t v side o a (In now datagram took) k quiet h = came v side o.role (is_for_machine o a datagram) (max (moment t) now) datagram took k h
  reached t v side o a (Polled now None) k quiet h = idle v side (nat_lt 0 (owed o t)) (max (moment t) now) k h
  reached t v side o a (Polled now (Some out)) k quiet h = absurd quiet
  reached t v side o a (Pulled room bytes) k quiet h = record { ago = h.ago; within = h.within; sent = h.sent }
  reached t v side o a (Owed count) k quiet h = h
  reached t v side o a (Posted bytes) k quiet h = h
  reached t v side o a (Next bytes) k quiet h = h

  -- what such a call tells a machine
  told : (t : Trace Entry) (v : Trace Step) (side : Role) (o : OpenSettings) (a : Option Agreement) (e : Entry) (k : ℕ) → Silent e → SentWithin s v k d → SentWithin s (with_steps v side (tells o t a e)) k d
  told t v side o None e k quiet h = begun_by v side o (agreed o (t ▷ e)) (given t) k h
  told t v side o (Some a) e k quiet h = reached t v side o a e k quiet h

  told_poll : (t : Trace Entry) (v : Trace Step) (side : Role) (o : OpenSettings) (a : Option Agreement) (now : ℕ) (out : List ℕ) (k : ℕ) → SentWithin s v k d
      → SentWithin s (with_steps v side (tells o t a (Polled now (Some out)))) (suc k) d
  told_poll t v side o None now out k h = later _ k (begun_by v side o (agreed o t) (given t) k h)
  told_poll t v side o (Some a) now out k h = polled v side (nat_lt 0 (owed o t)) (max (moment t) now) out k h

  -- this datagram is sent now
  told_now : (t : Trace Entry) (v : Trace Step) (side : Role) (now : ℕ) (out : List ℕ) → Some out ≡ link_due (settings side) t now → side ≡ s → out ≡ d
      → SentWithin s (with_steps v side (tells (settings side) t (agreed (settings side) t) (Polled now (Some out)))) zero d
  told_now t v side now out due here same = by_sender (sent_by o t now out due)
    where
      o : OpenSettings
      o = settings side

      by_sender : (opening_due o t now ≡ Some out) ⊎ ByMachine o t out → SentWithin s (with_steps v side (tells o t (agreed o t) (Polled now (Some out)))) zero d
      by_sender (inl is) = absurd (none side t now (is ∙ ap Some same))
      by_sender (inr m) =
          let now_told : tells o t (agreed o t) (Polled now (Some out)) ≡ Polled (max (moment t) now) (Some out) ∷ [] =
          ap (λ a. tells o t a (Polled now (Some out))) m.agreed_is ∙ ap (λ b. if b then [] else Polled (max (moment t) now) (Some out) ∷ []) m.none_owed in
          subst (λ es. SentWithin s (with_steps v side es) zero d) (sym now_told) (record { ago = zero; within = omega arith; sent = (here, same) })

  pub by_machine : (w : Trace Step) (k : ℕ) → AllFaithful settings w → SentAgo s w k d → SentWithin s (machines settings w) k d
  by_machine Start k laws sent = absurd sent
  by_machine (w ▷ At side (Polled now (Some out))) zero laws sent =
      told_now (half side w) (machines settings w) side now out (last_law settings w side (Polled now (Some out)) laws).0 sent.0 sent.1
  by_machine (w ▷ At side (Polled now (Some out))) (suc k) laws sent =
      told_poll (half side w) (machines settings w) side (settings side) (agreed (settings side) (half side w)) now out k
      (by_machine w k (laws_before settings w side (Polled now (Some out)) laws) sent)
  by_machine (w ▷ At side (Polled now None)) k laws sent =
      told (half side w) (machines settings w) side (settings side) (agreed (settings side) (half side w)) (Polled now None) k tt
      (by_machine w k (laws_before settings w side (Polled now None) laws) sent)
  by_machine (w ▷ At side (Gave bytes)) k laws sent =
      told (half side w) (machines settings w) side (settings side) (agreed (settings side) (half side w)) (Gave bytes) k tt
      (by_machine w k (laws_before settings w side (Gave bytes) laws) sent)
  by_machine (w ▷ At side (In now datagram took)) k laws sent =
      told (half side w) (machines settings w) side (settings side) (agreed (settings side) (half side w)) (In now datagram took) k tt
      (by_machine w k (laws_before settings w side (In now datagram took) laws) sent)
  by_machine (w ▷ At side (Pulled room bytes)) k laws sent =
      told (half side w) (machines settings w) side (settings side) (agreed (settings side) (half side w)) (Pulled room bytes) k tt
      (by_machine w k (laws_before settings w side (Pulled room bytes) laws) sent)
  by_machine (w ▷ At side (Owed count)) k laws sent =
      told (half side w) (machines settings w) side (settings side) (agreed (settings side) (half side w)) (Owed count) k tt
      (by_machine w k (laws_before settings w side (Owed count) laws) sent)
  by_machine (w ▷ At side (Posted bytes)) k laws sent =
      told (half side w) (machines settings w) side (settings side) (agreed (settings side) (half side w)) (Posted bytes) k tt
      (by_machine w k (laws_before settings w side (Posted bytes) laws) sent)
  by_machine (w ▷ At side (Next bytes)) k laws sent =
      told (half side w) (machines settings w) side (settings side) (agreed (settings side) (half side w)) (Next bytes) k tt
      (by_machine w k (laws_before settings w side (Next bytes) laws) sent)

-- ---- no datagram comes late at a machine

-- what is asked of a datagram that comes now
abbrev InTime : ℕ → Role → Trace Step → List ℕ → Type 0
InTime late side v datagram = 8 ≤ length datagram → (k : ℕ) × (k < late) × SentAgo (other side) v k datagram

module _ (late : ℕ) where
  begins_timely : (v : Trace Step) (side role : Role) (early : List ℕ) → Timely late v → Timely late (with_steps v side (begins role early))
  begins_timely v side Server early h = h
  begins_timely v side Client early h = h

  begun_timely : (v : Trace Step) (side : Role) (o : OpenSettings) (a : Option Agreement) (early : List ℕ) → Timely late v → Timely late (with_steps v side (begins_by o a early))
  begun_timely v side o None early h = h
  begun_timely v side o (Some a) early h = begins_timely v side o.role early h

  copied_timely : (v : Trace Step) (side role : Role) (took : Took) → Timely late v → Timely late (with_steps v side (copies role took))
  copied_timely v side Server Used h = h
  copied_timely v side Server (Ignored why) h = h
  copied_timely v side Client Used h = h
  copied_timely v side Client (Ignored why) h = h

  came_timely : (v : Trace Step) (side role : Role) (mine : Bool) (now : ℕ) (datagram : List ℕ) (took : Took) → (mine ≡ true → InTime late side v datagram) → Timely late v
      → Timely late (with_steps v side (if mine then In now datagram took ∷ [] else copies role took))
  came_timely v side role true now datagram took soon h = (soon refl, h)
  came_timely v side role false now datagram took soon h = copied_timely v side role took h

  polled_timely : (v : Trace Step) (side : Role) (owes : Bool) (now : ℕ) (out : Option (List ℕ)) → Timely late v
      → Timely late (with_steps v side (if owes then [] else Polled now out ∷ []))
  polled_timely v side true now out h = h
  polled_timely v side false now out h = h

  -- what comes now to a machine came in time
  abbrev Soon : OpenSettings → Trace Step → Role → Entry → Option Agreement → Type 0
  Soon o v side (In now datagram took) (Some a) = is_for_machine o a datagram ≡ true → InTime late side v datagram
  Soon o v side e a = Unit {0}

  told_timely : (t : Trace Entry) (v : Trace Step) (side : Role) (o : OpenSettings) (a : Option Agreement) (e : Entry) → Soon o v side e a → Timely late v → Timely late (with_steps v side (tells o t a e))
  told_timely t v side o None e soon h = begun_timely v side o (agreed o (t ▷ e)) (given t) h
  told_timely t v side o (Some a) (Gave bytes) soon h = h
  told_timely t v side o (Some a) (In now datagram took) soon h =
      came_timely v side o.role (is_for_machine o a datagram) (max (moment t) now) datagram took soon h
  told_timely t v side o (Some a) (Polled now out) soon h = polled_timely v side (nat_lt 0 (owed o t)) (max (moment t) now) out h
  told_timely t v side o (Some a) (Pulled room bytes) soon h = h
  told_timely t v side o (Some a) (Owed count) soon h = h
  told_timely t v side o (Some a) (Posted bytes) soon h = h
  told_timely t v side o (Some a) (Next bytes) soon h = h

  timely_before : (w : Trace Step) (side : Role) (e : Entry) → Timely late (w ▷ At side e) → Timely late w
  timely_before w side (Gave bytes) h = h
  timely_before w side (In now datagram took) h = h.1
  timely_before w side (Polled now out) h = h
  timely_before w side (Pulled room bytes) h = h
  timely_before w side (Owed count) h = h
  timely_before w side (Posted bytes) h = h
  timely_before w side (Next bytes) h = h

  -- no opening sends what a machine takes
  taken_none : (settings : Role → OpenSettings) → ((s : Role) → (settings s).version ≡ 0x0101 → IsHash (settings s).cookie_hash)
      → (o : OpenSettings) (a : Agreement) (d : List ℕ) → is_for_machine o a d ≡ true → IsNoOpening settings d
  taken_none settings hashes o a d mine s t now is =
      no_opening (is_second a.version) (is_syn_copy o.role (hears o (Some a) (shown d))) (has_syn d) (is_low d) (due_has (settings s) t now d is) (due_low (settings s) t now d (hashes s) is) mine
    where
      no_opening : (second copy syn low : Bool) → syn ≡ true → low ≡ true → not ((if second then copy else syn) || (second && low)) ≡ true → ⊥
      no_opening true true syn low f g h = cc
      no_opening true false syn true f g h = cc
      no_opening true false syn false f g h = cc
      no_opening false copy true low f g h = cc
      no_opening false copy false low f g h = cc

  soon : (settings : Role → OpenSettings) → ((s : Role) → (settings s).version ≡ 0x0101 → IsHash (settings s).cookie_hash)
      → (w : Trace Step) (side : Role) (a : Option Agreement) (e : Entry) → AllFaithful settings w → Timely late (w ▷ At side e) → Soon (settings side) (machines settings w) side e a
  soon settings hashes w side None (In now datagram took) laws h = tt
  soon settings hashes w side (Some a) (In now datagram took) laws h = λ mine long.
      let was = h.0 long in
      let sent = by_machine settings (other side) datagram (taken_none settings hashes (settings side) a datagram mine) w was.0 laws was.2 in
      (sent.ago, omega (arith, sent.within, was.1), sent.sent)
  soon settings hashes w side a (Gave bytes) laws h = tt
  soon settings hashes w side a (Polled now out) laws h = tt
  soon settings hashes w side a (Pulled room bytes) laws h = tt
  soon settings hashes w side a (Owed count) laws h = tt
  soon settings hashes w side a (Posted bytes) laws h = tt
  soon settings hashes w side a (Next bytes) laws h = tt

  pub machines_timely : (settings : Role → OpenSettings) → ((s : Role) → (settings s).version ≡ 0x0101 → IsHash (settings s).cookie_hash)
      → (w : Trace Step) → AllFaithful settings w → Timely late w → Timely late (machines settings w)
  machines_timely settings hashes Start laws h = tt
  machines_timely settings hashes (w ▷ At side e) laws h =
      let before = laws_before settings w side e laws in
      let a = agreed (settings side) (half side w) in
      told_timely (half side w) (machines settings w) side (settings side) a e (soon settings hashes w side a e before h)
      (machines_timely settings hashes w before (timely_before w side e h))

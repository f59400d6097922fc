-- What the first layout's reader says of openings, and the layouts that links agreed on.
use Rattle.std.proofs.Common.{◌≡◌, ℕ, ◌≢◌, ◌↔◌, inl, inr, Bool, true, false, List, [], ◌∷◌, ◌++◌, All, Option, Some, None, Result, Ok, Err, IfOk, IsOkAnd, IsSomeAnd, IsTrue, is_ok, is_some, refl, sym, ap, subst, ◌∙◌, append_assoc}
use Rattle.std.proofs.lemmas.List.Elements.{All-nil, All-head, All-tail, All-push, All-same}
use Rattle.mt_base.specs.declared.kinds.Role.{Role}
use Rattle.mt_base.specs.declared.kinds.Kind.{Kind}
use Rattle.mt_base.specs.declared.kinds.Kind.TheVariants.{Reliable, Lossy}
use Rattle.udp1_packets.specs.declared.packet.Packet1.{Packet1}
use Rattle.udp1_packets.specs.declared.packet.Syn1.{Syn1}
use Rattle.udp1_packets.specs.declared.packet.Body1.{Body1}
use Rattle.udp1_packets.specs.declared.packet.Body1.TheVariants as code
use Rattle.udp1_packets.specs.Value.{Syn, SynBody, Packet}
use Rattle.udp1_packets.specs.Views.{syn_of, body_of, packet_of}
use Rattle.udp1_packets.specs.Layout.{Spells}
use Rattle.mt_base.proofs.Meanings.{one_value}
use Rattle.udp1_packets.proofs.Theorems.{meaning}
use Rattle.capture_check.specs.declared.agreed.AgreedLayouts.{AgreedLayouts}
use Rattle.capture_check.specs.declared.layout.Layout.{Layout}
use Rattle.capture_check.specs.declared.entry.Entry.{Entry}
use Rattle.capture_check.specs.declared.entry.Entry.TheVariants.{Issue, Open, Sent, Got, Main, Word, Out, In}
use Rattle.capture_check.specs.Layouts.{IsOpening, Answers, Chooses, ChoosesNone, Agreed, IsReadBy, IsReadable, chosen_by}
use Rattle.capture_check.specs.LayoutsSoFar.{AgreedOn, AreAgreed, ReadsNow, layout_of}
use Rattle.capture_check.proofs.Stepping.{Places, same, sooner, later, two_places}

-- ---- what is read

pub first_reads : {E : Type 0} (datagram : List ℕ) (r : Result Packet1 E) (b : Bool) → IfOk r (λ p. Spells datagram (packet_of p)) → ((p : Packet) → Spells datagram p → IsOkAnd r (λ q. packet_of q ≡ p))
    → b ≡ is_ok r → IsTrue b ↔ ((p : Packet) × Spells datagram p)
first_reads datagram (Ok p) b found only is = (λ t. (packet_of p, found), λ s. is)
first_reads datagram (Err e) b found only is = (λ t. let no : b ≡ false = is in cc, λ s. absurd (only s.0 s.1))

syns_same : (a b : Syn) → SynBody a ≡ SynBody b → a ≡ b
syns_same a b e = cc

-- a packet's body is that of each opening that its datagram is
opening_body : (datagram : List ℕ) (p : Packet1) (syn : Syn) → ((q : Packet) → Spells datagram q → packet_of p ≡ q) → IsOpening datagram syn → body_of p.body ≡ SynBody syn
opening_body datagram p syn only o = ap (λ q. q.body) (only o.packet o.spelled) ∙ o.body_is

pub that_opening : (datagram : List ℕ) (p : Packet1) (found : Syn1) (syn : Syn) → ((q : Packet) → Spells datagram q → packet_of p ≡ q) → p.body ≡ code.Syn found → IsOpening datagram syn → syn_of found ≡ syn
that_opening datagram p found syn only is o = syns_same (syn_of found) syn (ap body_of (sym is) ∙ opening_body datagram p syn only o)

other_body : (body : Body1) (syn : Syn) → ((found : Syn1) → body ≢ code.Syn found) → body_of body ≢ SynBody syn
other_body (code.Syn found) syn none e = none found refl
other_body (code.Data vector aoa coded start bytes) syn none e = cc
other_body (code.Fec vector aoa coded start range index bytes) syn none e = cc
other_body (code.Bare vector aoa rest) syn none e = cc

pub no_opening : (datagram : List ℕ) (p : Packet1) (syn : Syn) → ((q : Packet) → Spells datagram q → packet_of p ≡ q) → ((found : Syn1) → p.body ≢ code.Syn found) → IsOpening datagram syn → ⊥
no_opening datagram p syn only none o = other_body p.body syn none (opening_body datagram p syn only o)

-- an opening that does not answer chooses no layout
pub unanswering : (datagram : List ℕ) (found : Syn) (layout : Layout) → found.answer ≡ false → ((syn : Syn) → IsOpening datagram syn → found ≡ syn) → Answers datagram layout → ⊥
unanswering datagram found layout not only a =
    let same_one = ap (λ s. s.answer) (only a.0 a.1) in
    let answers : a.0.answer ≡ true = a.2 in cc

-- ---- which layout a datagram chooses

one_opening : (datagram : List ℕ) (a b : Syn) → IsOpening datagram a → IsOpening datagram b → a ≡ b
one_opening datagram a b x y =
    syns_same a b (sym x.body_is ∙ ap (λ p. p.body) (one_value meaning x.packet y.packet datagram x.spelled y.spelled) ∙ y.body_is)

one_answer : (datagram : List ℕ) (l m : Layout) → Answers datagram l → Answers datagram m → l ≡ m
one_answer datagram l m a b = a.3 ∙ ap (λ s. chosen_by s.extension) (one_opening datagram a.0 b.0 a.1 b.1) ∙ sym b.3

one_choice : (kind : Kind) (e : Entry) (l m : Layout) → Chooses kind e l → Chooses kind e m → l ≡ m
one_choice kind (Issue id k cookie) l m a b = absurd a
one_choice kind (Open id name) l m a b = absurd a
one_choice kind (Sent side id message) l m a b = absurd a
one_choice kind (Got side id message) l m a b = absurd a
one_choice kind (Main side bytes) l m a b = absurd a
one_choice kind (Word side k id) l m a b = absurd a
one_choice kind (Out side k number datagram) l m a b = one_answer datagram l m a.1 b.1
one_choice kind (In side k number) l m a b = absurd a

-- what holds of all entries holds of one in their midst
pub midst : (P : Entry → Type 0) (xs : List Entry) (x : Entry) (ys : List Entry) → All P (xs ++ x ∷ ys) → P x
midst P [] x ys all = All-head P x ys all
midst P (y ∷ xs) x ys all = midst P xs x ys (All-tail P y (xs ++ x ∷ ys) all)

pub not_agreed : (kind : Kind) (before : List Entry) (layout : Layout) → All (ChoosesNone kind) before → Agreed kind before layout → ⊥
not_agreed kind before layout none a =
    midst (ChoosesNone kind) a.front a.answer a.back (All-same (ChoosesNone kind) (a.front ++ a.answer ∷ a.back) before (sym a.parts) none) layout a.chosen

agreed_at : (kind : Kind) (before : List Entry) (l m : Layout) (a : Agreed kind before l) (b : Agreed kind before m) → Places a.front b.front a.answer b.answer a.back b.back → l ≡ m
agreed_at kind before l m a b (same lists entry ends) = one_choice kind b.answer l m (subst (λ e. Chooses kind e l) entry a.chosen) b.chosen
agreed_at kind before l m a b (sooner rest is ends) =
    absurd (midst (ChoosesNone kind) rest b.answer b.back (All-same (ChoosesNone kind) (rest ++ b.answer ∷ b.back) a.back (sym ends) a.last) m b.chosen)
agreed_at kind before l m a b (later rest is ends) =
    absurd (midst (ChoosesNone kind) rest a.answer a.back (All-same (ChoosesNone kind) (rest ++ a.answer ∷ a.back) b.back (sym ends) b.last) l a.chosen)

pub one_agreed : (kind : Kind) (before : List Entry) (l m : Layout) → Agreed kind before l → Agreed kind before m → l ≡ m
one_agreed kind before l m a b = agreed_at kind before l m a b (two_places a.front b.front a.answer b.answer a.back b.back (sym a.parts ∙ b.parts))

-- ---- one entry more

pub none_agreed : (kind : Kind) → All (ChoosesNone kind) []
none_agreed kind = All-nil (ChoosesNone kind)

unmoved : (kind : Kind) (before : List Entry) (entry : Entry) (o : Option Layout) → ChoosesNone kind entry → AgreedOn kind before o → AgreedOn kind (before ++ entry ∷ []) o
unmoved kind before entry None chooses_none all = All-push (ChoosesNone kind) before entry all chooses_none
unmoved kind before entry (Some layout) chooses_none a =
    record {
      front = a.front;
      answer = a.answer;
      back = a.back ++ entry ∷ [];
      parts = ap (λ l. l ++ entry ∷ []) a.parts ∙ append_assoc a.front (a.answer ∷ a.back) (entry ∷ []);
      chosen = a.chosen;
      last = All-push (ChoosesNone kind) a.back entry a.last chooses_none;
    }

chosen_now : (kind : Kind) (before : List Entry) (entry : Entry) (layout : Layout) → Chooses kind entry layout → Agreed kind (before ++ entry ∷ []) layout
chosen_now kind before entry layout chosen = record { front = before; answer = entry; back = []; parts = refl; chosen = chosen; last = All-nil (ChoosesNone kind) }

-- an entry that is no datagram
pub no_datagram : (agreed : AgreedLayouts) (before : List Entry) (entry : Entry) → ((side : Role) (kind : Kind) (number : ℕ) (datagram : List ℕ) → entry ≢ Out side kind number datagram)
    → AreAgreed agreed before → AreAgreed agreed (before ++ entry ∷ [])
no_datagram agreed before (Issue id k cookie) other are kind = unmoved kind before (Issue id k cookie) (layout_of agreed kind) (λ l chosen. chosen) (are kind)
no_datagram agreed before (Open id name) other are kind = unmoved kind before (Open id name) (layout_of agreed kind) (λ l chosen. chosen) (are kind)
no_datagram agreed before (Sent side id message) other are kind = unmoved kind before (Sent side id message) (layout_of agreed kind) (λ l chosen. chosen) (are kind)
no_datagram agreed before (Got side id message) other are kind = unmoved kind before (Got side id message) (layout_of agreed kind) (λ l chosen. chosen) (are kind)
no_datagram agreed before (Main side bytes) other are kind = unmoved kind before (Main side bytes) (layout_of agreed kind) (λ l chosen. chosen) (are kind)
no_datagram agreed before (Word side k id) other are kind = unmoved kind before (Word side k id) (layout_of agreed kind) (λ l chosen. chosen) (are kind)
no_datagram agreed before (Out side k number datagram) other are kind = absurd (other side k number datagram refl)
no_datagram agreed before (In side k number) other are kind = unmoved kind before (In side k number) (layout_of agreed kind) (λ l chosen. chosen) (are kind)

-- a datagram that is no SYN+ACK
pub no_answer : (agreed : AgreedLayouts) (before : List Entry) (side : Role) (k : Kind) (number : ℕ) (datagram : List ℕ) → ((layout : Layout) → ¬ Answers datagram layout)
    → AreAgreed agreed before → AreAgreed agreed (before ++ Out side k number datagram ∷ [])
no_answer agreed before side k number datagram none are kind =
    unmoved kind before (Out side k number datagram) (layout_of agreed kind) (λ l chosen. none l chosen.1) (are kind)

apart : Reliable ≢ Lossy
apart e = cc

-- a SYN+ACK on either link
pub on_reliable : (agreed : AgreedLayouts) (before : List Entry) (side : Role) (number : ℕ) (datagram : List ℕ) (layout : Layout) → Answers datagram layout
    → AreAgreed agreed before → AreAgreed (record { reliable = Some layout; lossy = agreed.lossy }) (before ++ Out side Reliable number datagram ∷ [])
on_reliable agreed before side number datagram layout answers are Reliable = chosen_now Reliable before (Out side Reliable number datagram) layout (refl, answers)
on_reliable agreed before side number datagram layout answers are Lossy =
    unmoved Lossy before (Out side Reliable number datagram) agreed.lossy (λ l chosen. apart chosen.0) (are Lossy)

pub on_lossy : (agreed : AgreedLayouts) (before : List Entry) (side : Role) (number : ℕ) (datagram : List ℕ) (layout : Layout) → Answers datagram layout
    → AreAgreed agreed before → AreAgreed (record { reliable = agreed.reliable; lossy = Some layout }) (before ++ Out side Lossy number datagram ∷ [])
on_lossy agreed before side number datagram layout answers are Lossy = chosen_now Lossy before (Out side Lossy number datagram) layout (refl, answers)
on_lossy agreed before side number datagram layout answers are Reliable =
    unmoved Reliable before (Out side Lossy number datagram) agreed.reliable (λ l chosen. apart (sym chosen.0)) (are Reliable)

-- ---- the rule

-- what is read now is what the rule asks
by_layout : (kind : Kind) (before : List Entry) (side : Role) (number : ℕ) (datagram : List ℕ) (o : Option Layout) → AgreedOn kind before o → ReadsNow o datagram ↔ IsReadable before (Out side kind number datagram)
by_layout kind before side number datagram None none = (
  λ opening. inl opening,
  λ readable. elim readable [
    | inl opening ↦ opening
    | inr read ↦ absurd (not_agreed kind before read.0 none read.1)
  ],
)
by_layout kind before side number datagram (Some layout) agreed = (
  λ now. elim now [
    | inl opening ↦ inl opening
    | inr read ↦ inr (layout, agreed, read)
  ],
  λ readable. elim readable [
    | inl opening ↦ inl opening
    | inr read ↦ inr (subst (λ l. IsReadBy l datagram) (sym (one_agreed kind before layout read.0 agreed read.1)) read.2)
  ],
)

pub reads_as_asked : (agreed : AgreedLayouts) (kind : Kind) (before : List Entry) (side : Role) (number : ℕ) (datagram : List ℕ) (b : Bool) → AreAgreed agreed before
    → IsTrue b ↔ ReadsNow (layout_of agreed kind) datagram → IsTrue b ↔ IsReadable before (Out side kind number datagram)
reads_as_asked agreed kind before side number datagram b are now =
    let asked = by_layout kind before side number datagram (layout_of agreed kind) (are kind) in
    (λ t. asked.0 (now.0 t), λ r. now.1 (asked.1 r))

-- a datagram that is no opening
pub by_no_opening : (datagram : List ℕ) (o : Option Syn1) (named : Option Layout) (layout : Layout) (b : Bool) → ((syn : Syn) → IsOpening datagram syn → IsSomeAnd o (λ found. syn_of found ≡ syn)) → is_some o ≡ false
    → named ≡ Some layout → IsTrue b ↔ IsReadBy layout datagram → IsTrue b ↔ ReadsNow named datagram
by_no_opening datagram (Some found) named layout b only none is reads = absurd (cc)
by_no_opening datagram None named layout b only none is reads =
    subst (λ n. IsTrue b ↔ ReadsNow n datagram) (sym is) (
      λ t. inr (reads.0 t),
      λ now. elim now [
        | inl opening ↦ absurd (only opening.0 opening.1)
        | inr read ↦ reads.1 read
      ],
    )

pub by_no_layout : (datagram : List ℕ) (o : Option Syn1) (named : Option Layout) → ((syn : Syn) → IsOpening datagram syn → IsSomeAnd o (λ found. syn_of found ≡ syn)) → is_some o ≡ false
    → named ≡ None → IsTrue false ↔ ReadsNow named datagram
by_no_layout datagram (Some found) named only none is = absurd (cc)
by_no_layout datagram None named only none is =
    subst (λ n. IsTrue false ↔ ReadsNow n datagram) (sym is)
    (λ t. absurd (cc), λ now. absurd (only now.0 now.1))

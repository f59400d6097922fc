-- The prefix byte and the exchange of two bytes: what a datagram holds is read, and each datagram of
-- at least eight bytes holds something or has a wrong short length.
use Rattle.std.proofs.Common.{◌≡◌, ◌≢◌, inl, inr, ℕ, ◌+◌, ◌-◌, ◌*◌, ◌/◌, ◌%◌, ◌<◌, ◌≤◌, min, true, false, slice_index, List, [], ◌∷◌, ◌++◌, length, take, drop, Ok, Err, refl, sym, ap, ◌∙◌, arith, append-nil, length-append}
use Rattle.std.proofs.lemmas.Bool.{lt-ltb, le-ltb, cases_lt, ne_eqb}
use Rattle.std.proofs.lemmas.List.{take_at, take-append-drop, length-take-le, length-drop}
use Rattle.std.proofs.lemmas.List.Elements.{All-cons, All-head, All-tail, All-take}
use Rattle.mt_base.proofs.Numbers.{IsBytes}
use Rattle.mt_base.proofs.FrontFields.{left_at, byte_reads}
use Rattle.carrier.specs.declared.second_layout.Refusal2.TheVariants as refusal
use Rattle.udp2_packets.specs.Layout.{prefix, exchanged, Holds}
use Rattle.udp2_packets.specs.Faults.{IsWrongLength}
use Rattle.mt_base.specs.Parts.{◌>>=◌}
use Rattle.udp2_packets.specs.Reading.{end_of, is_dummy, header_at, packet_at, reading}
use Rattle.udp2_packets.proofs.WriterLemmas.{length-exchanged}

-- ---- the exchange

pub exchanged_twice : (xs : List ℕ) → exchanged (exchanged xs) ≡ xs
exchanged_twice [] = refl
exchanged_twice (a ∷ []) = refl
exchanged_twice (a ∷ b ∷ []) = refl
exchanged_twice (a ∷ b ∷ c ∷ []) = refl
exchanged_twice (a ∷ b ∷ c ∷ d ∷ []) = refl
exchanged_twice (a ∷ b ∷ c ∷ d ∷ e ∷ []) = refl
exchanged_twice (a ∷ b ∷ c ∷ d ∷ e ∷ f ∷ []) = refl
exchanged_twice (a ∷ b ∷ c ∷ d ∷ e ∷ f ∷ g ∷ []) = refl
exchanged_twice (a ∷ b ∷ c ∷ d ∷ e ∷ f ∷ g ∷ h ∷ xs) = refl

-- the byte at 7 is the first then, and bytes stay bytes
pub record Exchanged (xs : List ℕ) : Type 0 where
  pub rest : List ℕ
  pub is : exchanged xs ≡ slice_index xs 7 ∷ rest
  pub bytes : IsBytes xs → (slice_index xs 7 < 256) × IsBytes rest

pub exchanged_of : (xs : List ℕ) → 8 ≤ length xs → Exchanged xs
exchanged_of [] long = absurd (omega arith)
exchanged_of (a ∷ []) long = absurd (omega arith)
exchanged_of (a ∷ b ∷ []) long = absurd (omega arith)
exchanged_of (a ∷ b ∷ c ∷ []) long = absurd (omega arith)
exchanged_of (a ∷ b ∷ c ∷ d ∷ []) long = absurd (omega arith)
exchanged_of (a ∷ b ∷ c ∷ d ∷ e ∷ []) long = absurd (omega arith)
exchanged_of (a ∷ b ∷ c ∷ d ∷ e ∷ f ∷ []) long = absurd (omega arith)
exchanged_of (a ∷ b ∷ c ∷ d ∷ e ∷ f ∷ g ∷ []) long = absurd (omega arith)
exchanged_of (a ∷ b ∷ c ∷ d ∷ e ∷ f ∷ g ∷ h ∷ xs) long = record {
  rest = b ∷ c ∷ d ∷ e ∷ f ∷ g ∷ a ∷ xs;
  is = refl;
  bytes = λ good.
      let P : ℕ → Type 0 = λ x. x < 256 in
      let on1 = All-tail (λ x. x < 256) a (b ∷ c ∷ d ∷ e ∷ f ∷ g ∷ h ∷ xs) good in
      let on2 = All-tail (λ x. x < 256) b (c ∷ d ∷ e ∷ f ∷ g ∷ h ∷ xs) on1 in
      let on3 = All-tail (λ x. x < 256) c (d ∷ e ∷ f ∷ g ∷ h ∷ xs) on2 in
      let on4 = All-tail (λ x. x < 256) d (e ∷ f ∷ g ∷ h ∷ xs) on3 in
      let on5 = All-tail (λ x. x < 256) e (f ∷ g ∷ h ∷ xs) on4 in
      let on6 = All-tail (λ x. x < 256) f (g ∷ h ∷ xs) on5 in
      let on7 = All-tail (λ x. x < 256) g (h ∷ xs) on6 in
      let with1 = All-cons (λ x. x < 256) a xs (All-head (λ x. x < 256) a (b ∷ c ∷ d ∷ e ∷ f ∷ g ∷ h ∷ xs) good) (All-tail (λ x. x < 256) h xs on7) in
      let with2 = All-cons (λ x. x < 256) g (a ∷ xs) (All-head (λ x. x < 256) g (h ∷ xs) on6) with1 in
      let with3 = All-cons (λ x. x < 256) f (g ∷ a ∷ xs) (All-head (λ x. x < 256) f (g ∷ h ∷ xs) on5) with2 in
      let with4 = All-cons (λ x. x < 256) e (f ∷ g ∷ a ∷ xs) (All-head (λ x. x < 256) e (f ∷ g ∷ h ∷ xs) on4) with3 in
      let with5 = All-cons (λ x. x < 256) d (e ∷ f ∷ g ∷ a ∷ xs) (All-head (λ x. x < 256) d (e ∷ f ∷ g ∷ h ∷ xs) on3) with4 in
      let with6 = All-cons (λ x. x < 256) c (d ∷ e ∷ f ∷ g ∷ a ∷ xs) (All-head (λ x. x < 256) c (d ∷ e ∷ f ∷ g ∷ h ∷ xs) on2) with5 in
      let with7 = All-cons (λ x. x < 256) b (c ∷ d ∷ e ∷ f ∷ g ∷ a ∷ xs) (All-head (λ x. x < 256) b (c ∷ d ∷ e ∷ f ∷ g ∷ h ∷ xs) on1) with6 in
      (All-head (λ x. x < 256) h xs on7, with7);
}

-- ---- reading

pub reading_is : (datagram : List ℕ) → 8 ≤ length datagram → reading datagram ≡ packet_at (exchanged datagram)
unfolding reading
reading_is datagram long = rw (le-ltb (length datagram) 8 long) refl

pub reading_short : (datagram : List ℕ) → length datagram < 8 → reading datagram ≡ Err (refusal.Short (record { at = 0; need = 8 }))
unfolding reading
reading_short datagram short = rw (lt-ltb (length datagram) 8 short) refl

-- what a prefix byte shows
pub prefix_shows : (reserved kind m : ℕ) → reserved < 2 → kind < 16 → m ≤ 7
    → (reserved + 2 * kind + 32 * m < 256) × ((reserved + 2 * kind + 32 * m) / 32 ≡ m) × ((reserved + 2 * kind + 32 * m) / 2 % 16 ≡ kind)
prefix_shows reserved kind m r k s = (omega arith, omega arith, omega arith)

-- the packet's end
pub end_at : (first long text : ℕ) → 2 ≤ text → first / 32 ≡ min 7 text → long ≡ 1 + text + (7 - text) → end_of first long ≡ Ok (1 + text)
unfolding end_of
end_at first long text enough short whole =
    elim (cases_lt text 7) [
      | inl few ↦
          (let is : first / 32 ≡ text = omega arith in
          rw (le-ltb (first / 32) 2 (omega arith), lt-ltb (first / 32) 7 (omega arith), le-ltb 8 long (omega arith)) (ap (λ n. Ok (1 + n)) is))
      | inr many ↦
          (let is : first / 32 ≡ 7 = omega arith in
          rw (le-ltb (first / 32) 2 (omega arith), le-ltb (first / 32) 7 (omega arith)) (ap Ok (let e : long ≡ 1 + text = omega arith in e)))
    ]

pub end_wrong : (first long : ℕ) → IsWrongLength first long → end_of first long ≡ Err (refusal.ShortLength 0)
unfolding end_of
end_wrong first long (inl h) = rw (lt-ltb (first / 32) 2 h) refl
end_wrong first long (inr h) = elim (cases_lt (first / 32) 2) [
  | inl low ↦ rw (lt-ltb (first / 32) 2 low) refl
  | inr not_low ↦ rw (le-ltb (first / 32) 2 not_low, lt-ltb (first / 32) 7 h.0, lt-ltb 8 long h.1) refl
]

-- the type
pub no_dummy : (first : ℕ) → first / 2 % 16 ≡ 0 → is_dummy first ≡ Ok false
unfolding is_dummy
no_dummy first is = rw is refl

pub dummy : (first : ℕ) → first / 2 % 16 ≡ 8 → is_dummy first ≡ Ok true
unfolding is_dummy
dummy first is = rw is refl

pub neither : (first : ℕ) → first / 2 % 16 ≢ 0 → first / 2 % 16 ≢ 8 → is_dummy first ≡ Err (refusal.BadType 0)
unfolding is_dummy
neither first zero eight = rw (ne_eqb (first / 2 % 16) 0 zero, ne_eqb (first / 2 % 16) 8 eight) refl

-- ---- what a datagram holds is read

pub record Framed (datagram : List ℕ) (kind : ℕ) (text : List ℕ) : Type 0 where
  pub first : ℕ
  pub kind_is : first / 2 % 16 ≡ kind
  pub long : 8 ≤ length datagram
  pub sent : first ≡ slice_index datagram 7
  pub high : 64 ≤ first
  pub reads : reading datagram ≡ (is_dummy first >>= λ d. header_at d (left_at 1 text))

taken : (first : ℕ) (text filling : List ℕ) → take (1 + length text) (first ∷ (text ++ filling)) ≡ first ∷ text
taken first text filling = take_at (first ∷ text) filling (1 + length text) (omega arith)

packet_reads : (first : ℕ) (text filling : List ℕ) → first < 256 → end_of first (length (first ∷ (text ++ filling))) ≡ Ok (1 + length text)
    → packet_at (first ∷ (text ++ filling)) ≡ (is_dummy first >>= λ d. header_at d (left_at 1 text))
unfolding packet_at
packet_reads first text filling small ends = rw (ends, taken first text filling, byte_reads refusal.Short first small 0 text) refl

min_of : (n : ℕ) → 2 ≤ n → (2 ≤ min 7 n) × (min 7 n ≤ 7)
min_of n h = (omega arith, omega arith)

pub framed : (datagram : List ℕ) (kind : ℕ) (text : List ℕ) → Holds datagram kind text → Framed datagram kind text
framed datagram kind text h =
    let first = prefix h.reserved kind (length text) in
    let m = min_of (length text) h.headed in
    let s = prefix_shows h.reserved kind (min 7 (length text)) h.reserved_fits h.kind_fits m.1 in
    let back : exchanged datagram ≡ first ∷ (text ++ h.filling) = ap exchanged h.datagram_is ∙ exchanged_twice (first ∷ (text ++ h.filling)) in
    let whole : length (first ∷ (text ++ h.filling)) ≡ 1 + length text + (7 - length text) = omega (arith, length-append text h.filling, h.filled) in
    let long : 8 ≤ length datagram = omega (arith, whole, ap length back, length-exchanged datagram) in
    let x = exchanged_of datagram long in
    record {
      first = first;
      kind_is = s.2;
      long = long;
      sent = heads first (slice_index datagram 7) (text ++ h.filling) x.rest (sym back ∙ x.is);
      high = omega (arith, m.0);
      reads = reading_is datagram long ∙ ap packet_at back ∙ packet_reads first text h.filling s.0 (end_at first (length (first ∷ (text ++ h.filling))) (length text) h.headed s.1 whole);
    }
  where
    heads : (x y : ℕ) (xs ys : List ℕ) → x ∷ xs ≡ y ∷ ys → x ≡ y
    heads x y xs ys e = cc

-- ---- what a datagram of eight bytes or more is

pub data Frame (datagram : List ℕ) : Type 0 where
  wrong : (first : ℕ) (rest : List ℕ) → first < 256 → exchanged datagram ≡ first ∷ rest → IsWrongLength first (length datagram) → Frame datagram
  holds : (kind : ℕ) (text : List ℕ) → Holds datagram kind text → IsBytes text → Frame datagram

prefix_of : (first n : ℕ) → first / 32 ≡ min 7 n → prefix (first % 2) (first / 2 % 16) n ≡ first
prefix_of first n is = omega arith

pub frame_or : (datagram : List ℕ) → IsBytes datagram → 8 ≤ length datagram → Frame datagram
frame_or datagram good long =
    elim (cases_lt (first / 32) 2) [
      | inl low ↦ wrong first x.rest (x.bytes good).0 x.is (inl low)
      | inr enough ↦ elim (cases_lt (first / 32) 7) [
        | inl few ↦ elim (cases_lt 8 (length datagram)) [
          | inl more ↦ wrong first x.rest (x.bytes good).0 x.is (inr (few, more))
          | inr eight ↦ (let seven : length x.rest ≡ 7 = omega (arith, all) in holds (first / 2 % 16) (take (first / 32) x.rest) (cut enough few seven) (All-take (λ b. b < 256) (first / 32) x.rest (x.bytes good).1))
        ]
        | inr full ↦ holds (first / 2 % 16) x.rest (uncut full) (x.bytes good).1
      ]
    ]
  where
    x : Exchanged datagram
    x = exchanged_of datagram long

    first : ℕ
    first = slice_index datagram 7

    all : length datagram ≡ 1 + length (exchanged_of datagram long).rest
    all = sym (length-exchanged datagram) ∙ ap length (exchanged_of datagram long).is ∙ (let e : length (slice_index datagram 7 ∷ (exchanged_of datagram long).rest) ≡ 1 + length (exchanged_of datagram long).rest = omega arith in e)

    back : datagram ≡ exchanged (slice_index datagram 7 ∷ (exchanged_of datagram long).rest)
    back = sym (exchanged_twice datagram) ∙ ap exchanged (exchanged_of datagram long).is

    cut : 2 ≤ slice_index datagram 7 / 32 → slice_index datagram 7 / 32 < 7 → length (exchanged_of datagram long).rest ≡ 7 → Holds datagram (slice_index datagram 7 / 2 % 16) (take (slice_index datagram 7 / 32) (exchanged_of datagram long).rest)
    cut enough few seven =
        let first = slice_index datagram 7 in
        let rest = (exchanged_of datagram long).rest in
        let count : length (take (first / 32) rest) ≡ first / 32 = length-take-le (first / 32) rest (omega arith) in
        let byte : prefix (first % 2) (first / 2 % 16) (length (take (first / 32) rest)) ≡ first = prefix_of first (length (take (first / 32) rest)) (omega arith) in
        record {
          reserved = first % 2;
          filling = drop (first / 32) rest;
          reserved_fits = omega arith;
          kind_fits = omega arith;
          headed = omega arith;
          filled = omega (arith, length-drop (first / 32) rest);
          datagram_is = back ∙ ap exchanged (ap (λ t. first ∷ t) (sym (take-append-drop (first / 32) rest)) ∙ ap (λ b. b ∷ (take (first / 32) rest ++ drop (first / 32) rest)) (sym byte));
        }

    uncut : 7 ≤ slice_index datagram 7 / 32 → Holds datagram (slice_index datagram 7 / 2 % 16) (exchanged_of datagram long).rest
    uncut full =
        let first = slice_index datagram 7 in
        let rest = (exchanged_of datagram long).rest in
        let small : first < 256 = ((exchanged_of datagram long).bytes good).0 in
        let count : 7 ≤ length rest = omega (arith, all) in
        let byte : prefix (first % 2) (first / 2 % 16) (length rest) ≡ first = prefix_of first (length rest) (omega arith) in
        record {
          reserved = first % 2;
          filling = [];
          reserved_fits = omega arith;
          kind_fits = omega arith;
          headed = omega arith;
          filled = omega arith;
          datagram_is = back ∙ ap exchanged (ap (λ b. b ∷ rest) (sym byte) ∙ ap (λ t. prefix (first % 2) (first / 2 % 16) (length rest) ∷ t) (sym (append-nil rest)));
        }

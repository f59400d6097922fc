-- What a value of a stream needs: with fewer bytes it stays under way. A frame of the main stream needs at most
-- 1,603 bytes, and a tunnel PDU 1,855.
use Rattle.std.proofs.Common.{◌≡◌, ◌⊎◌, inl, inr, ℕ, ◌+◌, ◌-◌, ◌<◌, ◌≤◌, List, [], ◌∷◌, ◌++◌, length, append-nil, append_assoc, length-append, Result, Ok, refl, sym, ap, subst, ◌∙◌, arith}
use Rattle.std.proofs.lemmas.Bool.{cases_lt}
use Rattle.std.proofs.lemmas.List.Elements.{All-append, All-head, All-tail}
use Rattle.byteorder.specs.Endian.{little_bytes}
use Rattle.mt_base.specs.Writing.{joined}
use Rattle.mt_base.proofs.Fields.{not_both, ok_is}
use Rattle.mt_base.proofs.Numbers.{IsBytes}
use Rattle.tunnel_pdus.specs.declared.part.Part.{Part}
use Rattle.tunnel_pdus.specs.declared.part.Part.TheVariants.{Whole, More}
use Rattle.tunnel_pdus.specs.declared.part.TunnelRefusal.{TunnelRefusal}
use Rattle.tunnel_pdus.specs.Faults.{Refused, RefusedFrame, WrongSubHeader, bad_action, bad_body_length, bad_flags, bad_header, bad_kind, bad_length, bad_protocol, bad_sub_header, sub_length, sub_type}
use Rattle.tunnel_pdus.specs.Layout.{Spells, SpellsFrame, headed}
use Rattle.tunnel_pdus.specs.Reading.{frame_reading, reading}
use Rattle.tunnel_pdus.specs.Streams.{IsKnown}
use Rattle.tunnel_pdus.specs.Value.{Channel, CreateRequest, CreateResponse, Data, FitsPdu, Frame, Pdu, Request, Response, action_code, kind_code, payload}
use Rattle.tunnel_pdus.proofs.Frames as frames
use Rattle.tunnel_pdus.proofs.Tunnels as tunnels
use Rattle.tunnel_pdus.proofs.Grammars.{Decided, Grammar, Waits, begins_read, faulty, waiting, whole}
use Rattle.end_reader.specs.Wanting.{GoesOn}

-- ---- a value under way

abbrev need_of : {V : Type 0} → Part V → ℕ
need_of (Whole v used) = 0
need_of (More need) = need

differ : {V : Type 0} (v : V) (used need : ℕ) → Whole v used ≡ More need → ⊥
differ v used need e = cc

whole_more : {V R P : Type 0} {r : Result (Part V) R} (v : V) (used need : ℕ) → r ≡ Ok (Whole v used) → r ≡ Ok (More need) → P
whole_more v used need e f = absurd (differ v used need (ok_is (Whole v used) (More need) e f))

waits_now : {V R : Type 0} {read : List ℕ → Result (Part V) R} {Spells : List ℕ → V → Type 0} {Fault : List ℕ → R → Type 0}
    → (bytes : List ℕ) (need : ℕ) → Waits read Spells Fault bytes need → read bytes ≡ Ok (More need)
waits_now {read = read} bytes need w =
    ap read (sym (append-nil bytes)) ∙ w.more_is [] (subst (λ t. length t < need) (sym (append-nil bytes)) w.longer)

waits : {V R : Type 0} {read : List ℕ → Result (Part V) R} {Spells : List ℕ → V → Type 0} {Fault : List ℕ → R → Type 0} → Grammar read Spells Fault
    → (bytes : List ℕ) (need : ℕ) → IsBytes bytes → read bytes ≡ Ok (More need) → Waits read Spells Fault bytes need
waits {V = V} {R = R} {read = read} {Spells = Spells} {Fault = Fault} g bytes need good h = by_decided (g.decides bytes good) where
  by_decided : Decided read Spells Fault bytes → Waits read Spells Fault bytes need
  by_decided (whole v used b) = whole_more v used need (begins_read g bytes v used b) h
  by_decided (faulty r f) = not_both (More need) r h (g.refuses r bytes f)
  by_decided (waiting n w) = subst (λ m. Waits read Spells Fault bytes m) (ap need_of (ok_is (More n) (More need) (waits_now bytes n w) h)) w

under : {V R : Type 0} {read : List ℕ → Result (Part V) R} {Spells : List ℕ → V → Type 0} {Fault : List ℕ → R → Type 0} → Grammar read Spells Fault
    → (bytes : List ℕ) (need : ℕ) → IsBytes bytes → read bytes ≡ Ok (More need) → (length bytes < need) × GoesOn read bytes need
under g bytes need good h = let w = waits g bytes need good h in (w.longer, w.more_is)

pub frame_under_way : (bytes : List ℕ) (need : ℕ) → IsBytes bytes → frame_reading bytes ≡ Ok (More need) → (length bytes < need) × GoesOn frame_reading bytes need
frame_under_way = under frames.grammar

pub pdu_under_way : (bytes : List ℕ) (need : ℕ) → IsBytes bytes → reading bytes ≡ Ok (More need) → (length bytes < need) × GoesOn reading bytes need
pdu_under_way = under tunnels.grammar

-- ---- what it needs

-- no value is longer, and of so many bytes a fault doesn't need the last one
record Bounded {V R : Type 0} (Spells : List ℕ → V → Type 0) (Fault : List ℕ → R → Type 0) (most : ℕ) : Type 0 where
  pub short : (v : V) (text : List ℕ) → Spells text v → length text ≤ most
  pub still : (r : R) (bytes : List ℕ) (last : ℕ) → IsBytes (bytes ++ last ∷ []) → most ≤ length bytes → Fault (bytes ++ last ∷ []) r → Fault bytes r

-- what stands in front of bytes stands in front of all but the last, where these are as many
front_left : (front rest bytes : List ℕ) (last : ℕ) → bytes ++ last ∷ [] ≡ front ++ rest → length front ≤ length bytes → (left : List ℕ) × (bytes ≡ front ++ left)
front_left [] rest bytes last e few = (bytes, refl)
front_left (x ∷ front) rest [] last e few = absurd (omega (arith, few))
front_left (x ∷ front) rest (y ∷ bytes) last e few =
    let head : y ≡ x = cc in
    let tail : bytes ++ last ∷ [] ≡ front ++ rest = cc in
    let deeper = front_left front rest bytes last tail (omega (arith, few)) in
    (deeper.0, ap (λ z. z ∷ bytes) head ∙ ap (λ zs. x ∷ zs) deeper.1)

last_of : (xs : List ℕ) → 0 < length xs → (front : List ℕ) × (last : ℕ) × (xs ≡ front ++ last ∷ [])
last_of [] h = absurd (omega (arith, h))
last_of (x ∷ []) h = ([], x, refl)
last_of (x ∷ y ∷ xs) h = let deeper = last_of (y ∷ xs) (omega arith) in (x ∷ deeper.0, deeper.1, ap (λ l. x ∷ l) deeper.2)

needs : {V R : Type 0} {read : List ℕ → Result (Part V) R} {Spells : List ℕ → V → Type 0} {Fault : List ℕ → R → Type 0} → Grammar read Spells Fault → (most : ℕ) → Bounded Spells Fault most
    → (bytes : List ℕ) (need : ℕ) → IsBytes bytes → read bytes ≡ Ok (More need) → need ≤ most
needs {V = V} {R = R} {read = read} {Spells = Spells} {Fault = Fault} g most bound bytes need good h = by_size (cases_lt most need) where
  w : Waits read Spells Fault bytes need
  w = waits g bytes need good h

  by_known : (more front : List ℕ) (last : ℕ) → most < need → IsBytes more → length (bytes ++ more) ≡ need → more ≡ front ++ last ∷ [] → IsKnown Spells Fault (bytes ++ more) → ⊥
  by_known more front last many good_too e is known =
      let all : bytes ++ more ≡ (bytes ++ front) ++ last ∷ [] = ap (λ l. bytes ++ l) is ∙ sym (append_assoc bytes front (last ∷ [])) in
      let long : length (bytes ++ front) + 1 ≡ need = omega (arith, e, ap length all, length-append (bytes ++ front) (last ∷ [])) in
      let open_yet : read (bytes ++ front) ≡ Ok (More need) = w.more_is front (omega (arith, long)) in
      elim known [
        | inl b ↦ (
            let begins = b.2 in
            let left = front_left begins.text begins.rest (bytes ++ front) last (sym all ∙ begins.bytes_are) (omega (arith, long, many, bound.short b.0 begins.text begins.spells)) in
            let read_is : read (bytes ++ front) ≡ Ok (Whole b.0 (length begins.text)) = ap read left.1 ∙ g.reads b.0 begins.text left.0 begins.spells in
            whole_more b.0 (length begins.text) need read_is open_yet
            )
        | inr f ↦ (
            let still = bound.still f.0 (bytes ++ front) last (subst IsBytes all (All-append (λ b. b < 256) bytes more good good_too)) (omega (arith, long, many)) (subst (λ l. Fault l f.0) all f.1) in
            not_both (More need) f.0 open_yet (g.refuses f.0 (bytes ++ front) still)
            )
      ]

  by_size : (most < need) ⊎ (need ≤ most) → need ≤ most
  by_size (inr few) = few
  by_size (inl many) =
      let more = w.possible.0 in
      let s = last_of more (omega (arith, w.possible.2, w.longer, length-append bytes more)) in
      absurd (by_known more s.0 s.1 many w.possible.1 w.possible.2 s.2 w.possible.3)

-- ---- frames

frame_short : (frame : Frame) (text : List ℕ) → SpellsFrame text frame → length text ≤ 1603
frame_short (Request id kind cookie) text s = omega (arith, ap length s.text_is, length-append s.reserved (cookie ++ []), length-append cookie [], s.reserved_are.0, s.fits.1.0)
frame_short (Response id hr) text s = omega (arith, ap length s.text_is)
frame_short (Channel pdu) text s = omega (arith, ap length s.text_is, length-append pdu [], s.fits.1)

frame_still : (r : TunnelRefusal) (bytes : List ℕ) (last : ℕ) → 1603 ≤ length bytes → RefusedFrame (bytes ++ last ∷ []) r → RefusedFrame bytes r
frame_still r bytes last many (bad_kind first rest is a b c names) =
    let left = front_left (first ∷ []) rest bytes last is (omega (arith, many)) in bad_kind first left.0 left.1 a b c names
frame_still r bytes last many (bad_body_length k n why rest small is wrong names) =
    let left = front_left (kind_code k ∷ little_bytes 2 n) rest bytes last is (omega (arith, many)) in bad_body_length k n why left.0 small left.1 wrong names
frame_still r bytes last many (bad_protocol id protocol rest small fits a b is names) =
    let front = 1 ∷ (little_bytes 2 24 ++ (little_bytes 4 id ++ little_bytes 2 protocol)) in
    let left = front_left front rest bytes last is (omega (arith, many)) in bad_protocol id protocol left.0 small fits a b left.1 names

pub frame_needs : (bytes : List ℕ) (need : ℕ) → IsBytes bytes → frame_reading bytes ≡ Ok (More need) → need ≤ 1603
frame_needs = needs frames.grammar 1603 (record { short = frame_short; still = λ r bytes last good many f. frame_still r bytes last many f })

-- ---- tunnel PDUs

payload_short : (pdu : Pdu) (reserved : List ℕ) → length reserved ≡ 4 → FitsPdu pdu → length (joined (payload reserved pdu)) ≤ 1600
payload_short (CreateRequest id cookie) reserved four fits = omega (arith, length-append reserved (cookie ++ []), length-append cookie [], four, fits.1.0)
payload_short (CreateResponse hr) reserved four fits = omega arith
payload_short (Data bytes) reserved four fits = omega (arith, length-append bytes [], fits.0)

pdu_short : (pdu : Pdu) (text : List ℕ) → Spells text pdu → length text ≤ 1855
pdu_short pdu text s =
    omega (arith, ap length s.text_is, length-append (joined s.subs) (joined (payload s.reserved pdu)), s.header_fits, payload_short pdu s.reserved s.reserved_are.0 s.fits)

fourth : (x y z w : ℕ) (bytes rest : List ℕ) → IsBytes bytes → bytes ≡ x ∷ y ∷ z ∷ w ∷ rest → w < 256
fourth x y z w bytes rest good is =
    let one = All-tail (λ b. b < 256) x (y ∷ z ∷ w ∷ rest) (subst IsBytes is good) in
    let two = All-tail (λ b. b < 256) y (z ∷ w ∷ rest) one in
    All-head (λ b. b < 256) w rest (All-tail (λ b. b < 256) z (w ∷ rest) two)

-- where so much stands in front of them, of the bytes behind a header all but the last are left
behind_header : (action n end : ℕ) (subs front rest bytes : List ℕ) (last : ℕ) → bytes ++ last ∷ [] ≡ headed action n end (subs ++ (front ++ rest)) → 4 + (length subs + length front) ≤ length bytes
    → (left : List ℕ) × (bytes ≡ headed action n end (subs ++ (front ++ left)))
behind_header action n end subs front rest bytes last is few =
    let found = front_left (headed action n end (subs ++ front)) rest bytes last (is ∙ ap (λ l. headed action n end l) (sym (append_assoc subs front rest))) (omega (arith, few, length-append subs front)) in
    (found.0, found.1 ∙ ap (λ l. headed action n end l) (append_assoc subs front found.0))

pdu_still : (r : TunnelRefusal) (bytes : List ℕ) (last : ℕ) → IsBytes (bytes ++ last ∷ []) → 1855 ≤ length bytes → Refused (bytes ++ last ∷ []) r → Refused bytes r
pdu_still r bytes last good many (bad_action first rest is h names) =
    let left = front_left (first ∷ []) rest bytes last is (omega (arith, many)) in bad_action first left.0 left.1 h names
pdu_still r bytes last good many (bad_flags first rest is h k names) =
    let left = front_left (first ∷ []) rest bytes last is (omega (arith, many)) in bad_flags first left.0 left.1 h k names
pdu_still r bytes last good many (bad_length a n why rest small is wrong names) =
    let left = front_left (action_code a ∷ little_bytes 2 n) rest bytes last is (omega (arith, many)) in bad_length a n why left.0 small left.1 wrong names
pdu_still r bytes last good many (bad_header a n end rest of few is names) =
    let left = front_left (headed (action_code a) n end []) rest bytes last is (omega (arith, many)) in bad_header a n end left.0 of few left.1 names
pdu_still r bytes last good many (bad_sub_header a n end subs rest of subs_are less is wrong names) = by_wrong wrong where
  small : end < 256
  small = fourth (action_code a) _ _ end (bytes ++ last ∷ []) (joined subs ++ rest) good is

  by_wrong : WrongSubHeader (end - (4 + length (joined subs))) rest → Refused bytes r
  by_wrong (sub_length m behind e h) =
      let found = behind_header (action_code a) n end (joined subs) (m ∷ []) behind bytes last (is ∙ ap (λ l. headed (action_code a) n end (joined subs ++ l)) e) (omega (arith, many, small, less)) in
      bad_sub_header a n end subs (m ∷ found.0) of subs_are less found.1 (sub_length m found.0 refl h) names
  by_wrong (sub_type m type behind e few fits h) =
      let found = behind_header (action_code a) n end (joined subs) (m ∷ type ∷ []) behind bytes last (is ∙ ap (λ l. headed (action_code a) n end (joined subs ++ l)) e) (omega (arith, many, small, less)) in
      bad_sub_header a n end subs (m ∷ type ∷ found.0) of subs_are less found.1 (sub_type m type found.0 refl few fits h) names

pub pdu_needs : (bytes : List ℕ) (need : ℕ) → IsBytes bytes → reading bytes ≡ Ok (More need) → need ≤ 1855
pdu_needs = needs tunnels.grammar 1855 (record { short = pdu_short; still = pdu_still })

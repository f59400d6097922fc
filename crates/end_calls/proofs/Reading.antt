-- One more byte of a stream that was written: the value under way goes on, or it is whole and the next
-- of those that were written.
use Rattle.std.proofs.Common.{◌≡◌, ℕ, ◌<◌, List, [], ◌∷◌, ◌++◌, length, Result, Ok, Err, sym, ap, subst, ◌∙◌, arith, append_assoc, append-nil, length-append}
use Rattle.std.specs.List.{flat_map}
use Rattle.std.proofs.lemmas.Grind.{flat_map-append}
use Rattle.std.proofs.lemmas.List.{append_cancel_left}
use Rattle.std.proofs.lemmas.List.Elements.{All-head, All-tail, All-cons, All-nil}
use Rattle.mt_base.specs.Prefix.{IsPrefixOf}
use Rattle.mt_base.proofs.Fields.{ok_is, not_both as never}
use Rattle.mt_base.proofs.Numbers.{IsBytes}
use Rattle.mt_base.proofs.Prefixes.{Cut, first, second, cut_in_two}
use Rattle.tunnel_pdus.specs.declared.part.Part.{Part}
use Rattle.tunnel_pdus.specs.declared.part.Part.TheVariants.{Whole, More}
use Rattle.tunnel_pdus.proofs.Grammars.{Grammar, Decided, whole, faulty, waiting}
use Rattle.end_calls.proofs.Each.{Each, each_second}

-- bytes are the beginning of a value
abbrev pub IsPartial : {W R : Type 0} → (List ℕ → Result (Part W) R) → List ℕ → Type 0
IsPartial read part = (need : ℕ) × (read part ≡ Ok (More need))

-- what is written is read back, and each front of it is the beginning of a value
pub record Readable {V W R : Type 0} (read : List ℕ → Result (Part W) R) (text : V → List ℕ) (value : V → W) (Fits : V → Type 0) : Type 0 where
  pub back : (v : V) (rest : List ℕ) → Fits v → read (text v ++ rest) ≡ Ok (Whole (value v) (length (text v)))
  pub begun : (v : V) (part : List ℕ) (byte : ℕ) (rest : List ℕ) → Fits v → text v ≡ part ++ byte ∷ rest → IsPartial read part

-- ---- a front of a text

bytes_front : (xs ys : List ℕ) → IsBytes (xs ++ ys) → IsBytes xs
bytes_front [] ys h = All-nil (λ b. b < 256)
bytes_front (x ∷ xs) ys h = All-cons (λ b. b < 256) x xs (All-head (λ b. b < 256) x (xs ++ ys) h) (bytes_front xs ys (All-tail (λ b. b < 256) x (xs ++ ys) h))

abbrev used_of : {W R : Type 0} → Result (Part W) R → ℕ
used_of (Ok (Whole w used)) = used
used_of (Ok (More need)) = 0
used_of (Err r) = 0

ok_not : {W R P : Type 0} (w : W) (used : ℕ) (r : R) (o : Result (Part W) R) → o ≡ Ok (Whole w used) → o ≡ Err r → P
ok_not w used r o h k = never (Whole w used) r h k

pub front_partial : {W R : Type 0} {read : List ℕ → Result (Part W) R} {Spells : List ℕ → W → Type 0} {Fault : List ℕ → R → Type 0} → Grammar read Spells Fault
    → (w : W) (text part : List ℕ) (byte : ℕ) (rest : List ℕ) → IsBytes text → Spells text w → text ≡ part ++ byte ∷ rest → IsPartial read part
front_partial {read = read} {Spells = Spells} {Fault = Fault} g w text part byte rest good spells is = by_decided (g.decides part (bytes_front part (byte ∷ rest) (subst IsBytes is good))) where
  all : read text ≡ Ok (Whole w (length text))
  all = ap read (sym (append-nil text)) ∙ g.reads w text [] spells

  by_decided : Decided read Spells Fault part → IsPartial read part
  by_decided (whole v used b) =
      let again : read text ≡ Ok (Whole v (length b.text)) =
      ap read (is ∙ ap (λ l. l ++ byte ∷ rest) b.bytes_are ∙ append_assoc b.text b.rest (byte ∷ rest)) ∙ g.reads v b.text (b.rest ++ byte ∷ rest) b.spells in
      let same : length text ≡ length b.text = ap used_of (sym all ∙ again) in
      absurd (omega (arith, same, ap length is, length-append part (byte ∷ rest), ap length b.bytes_are, length-append b.text b.rest))
  by_decided (faulty r f) = ok_not w (length text) r (read text) all (ap read is ∙ g.refuses r (part ++ byte ∷ rest) (g.stays r part (byte ∷ rest) f))
  by_decided (waiting need a) = (need, ap read (sym (append-nil part)) ∙ a.more_is [] (subst (λ t. length t < need) (sym (append-nil part)) a.longer))

-- ---- one more byte

pub data Next_byte {V W R : Type 0} (read : List ℕ → Result (Part W) R) (text : V → List ℕ) (value : V → W) (Fits : V → Type 0) (hs out : List V) (part : List ℕ) : Type 0 where
  goes_on : IsPartial read part → Next_byte read text value Fits hs out part
  ends : (v : V) → part ≡ text v → read part ≡ Ok (Whole (value v) (length part)) → Fits v → IsPrefixOf (hs ++ v ∷ []) out → Next_byte read text value Fits hs out part

differ : {W : Type 0} (w : W) (used need : ℕ) → Whole w used ≡ More need → ⊥
differ w used need e = cc

not_both : {W R P : Type 0} (w : W) (used need : ℕ) (o : Result (Part W) R) → o ≡ Ok (Whole w used) → o ≡ Ok (More need) → P
not_both w used need o h k = absurd (differ w used need (ok_is (Whole w used) (More need) h k))

-- the first of the values that are left
in_first : {V W R : Type 0} (read : List ℕ → Result (Part W) R) (text : V → List ℕ) (value : V → W) (Fits : V → Type 0) → Readable read text value Fits
    → (hs out : List V) (v : V) (rest : List V) (part : List ℕ) (byte : ℕ) (tail more : List ℕ) → Fits v → out ≡ hs ++ v ∷ rest → IsPartial read part → Cut (text v) more part (byte ∷ tail)
    → Next_byte read text value Fits hs out (part ++ byte ∷ [])
in_first read text value Fits g hs out v rest part byte tail more fits o p (first m a b) = not_both (value v) (length (text v)) p.0 (read part) (ap read a ∙ g.back v m fits) p.1
in_first read text value Fits g hs out v rest part byte tail more fits o p (second [] a b) =
    not_both (value v) (length (text v)) p.0 (read part) (ap read (sym (append-nil part) ∙ sym a ∙ sym (append-nil (text v))) ∙ g.back v [] fits) p.1
in_first read text value Fits g hs out v rest part byte tail more fits o p (second (x ∷ []) a b) =
    let same : byte ≡ x = cc in
    let is : part ++ byte ∷ [] ≡ text v = ap (λ n. part ++ n ∷ []) same ∙ sym a in
    ends v is (ap read (is ∙ sym (append-nil (text v))) ∙ g.back v [] fits ∙ ap (λ l. Ok (Whole (value v) (length l))) (sym is)) fits
    (rest, o ∙ sym (append_assoc hs (v ∷ []) rest))
in_first read text value Fits g hs out v rest part byte tail more fits o p (second (x ∷ y ∷ m) a b) =
    let same : byte ≡ x = cc in
    let is : text v ≡ (part ++ byte ∷ []) ++ y ∷ m = a ∙ ap (λ n. part ++ n ∷ y ∷ m) (sym same) ∙ sym (append_assoc part (byte ∷ []) (y ∷ m)) in
    goes_on (g.begun v (part ++ byte ∷ []) y m fits is)

not_empty : {P : Type 0} (part : List ℕ) (byte : ℕ) (tail : List ℕ) → part ++ byte ∷ tail ≡ [] → P
not_empty [] byte tail h = absurd (let no : byte ∷ tail ≡ [] = h in cc)
not_empty (x ∷ part) byte tail h = absurd (let no : x ∷ (part ++ byte ∷ tail) ≡ [] = h in cc)

by_rest : {V W R : Type 0} (read : List ℕ → Result (Part W) R) (text : V → List ℕ) (value : V → W) (Fits : V → Type 0) → Readable read text value Fits
    → (hs out rest : List V) (part : List ℕ) (byte : ℕ) (tail : List ℕ) → Each Fits rest → out ≡ hs ++ rest → IsPartial read part → part ++ byte ∷ tail ≡ flat_map text rest
    → Next_byte read text value Fits hs out (part ++ byte ∷ [])
by_rest read text value Fits g hs out [] part byte tail f o p h = not_empty part byte tail h
by_rest read text value Fits g hs out (v ∷ rest) part byte tail f o p h =
    in_first read text value Fits g hs out v rest part byte tail (flat_map text rest) f.0 o p (cut_in_two (text v) (flat_map text rest) part (byte ∷ tail) h)

pub next_byte : {V W R : Type 0} (read : List ℕ → Result (Part W) R) (text : V → List ℕ) (value : V → W) (Fits : V → Type 0) → Readable read text value Fits
    → (hs out : List V) (part : List ℕ) (byte : ℕ) → Each Fits out → IsPrefixOf hs out → IsPartial read part → IsPrefixOf ((flat_map text hs ++ part) ++ byte ∷ []) (flat_map text out)
    → Next_byte read text value Fits hs out (part ++ byte ∷ [])
next_byte read text value Fits g hs out part byte f h p k =
    by_rest read text value Fits g hs out h.0 part byte k.0 (each_second Fits hs h.0 (subst (Each Fits) h.1 f)) h.1 p
    (append_cancel_left (flat_map text hs) (part ++ byte ∷ k.0) (flat_map text h.0)
    (sym (append_assoc (flat_map text hs) part (byte ∷ k.0)) ∙ sym (append_assoc (flat_map text hs ++ part) (byte ∷ []) k.0) ∙ sym k.1 ∙ ap (flat_map text) h.1 ∙ flat_map-append text hs h.0))

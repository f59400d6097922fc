-- A whole opening behind its header.
use Rattle.std.proofs.Common.{◌≡◌, ◌⊎◌, inl, inr, ℕ, ◌+◌, ◌^◌, ◌<◌, Bool, true, List, [], ◌∷◌, ◌++◌, length, replicate, Option, Ok, Err, refl, sym, ap, ◌∙◌, arith, append_assoc, append-nil}
use Rattle.std.specs.Option.{is_some}
use Rattle.std.proofs.lemmas.List.{length-append, length-replicate}
use Rattle.byteorder.specs.Endian.{big_bytes}
use Rattle.mt_base.specs.Reading.{Left}
use Rattle.mt_base.specs.Writing.{joined}
use Rattle.mt_base.proofs.Fill.{joined-append}
use Rattle.mt_base.proofs.Fields.{Begins, big_or}
use Rattle.carrier.specs.declared.first_layout.Refusal1.{Refusal1}
use Rattle.carrier.specs.declared.first_layout.Refusal1.TheVariants as refusal
use Rattle.udp1_packets.specs.Value.{Extended, Syn, SynBody}
use Rattle.udp1_packets.specs.Layout.{has, IsBytes, IsMtu, IsBlock, IsSyn, block_fields, extension_fields, body_fields, zeros}
use Rattle.mt_base.specs.Parts.{◌>>=◌}
use Rattle.udp1_packets.specs.Reading.{block32_at, extended_at, zeros_at, syn_with, syn_at}
use Rattle.udp1_packets.specs.Faults.{block_bytes, Opens, RefusedMtu, RefusedExtension, RefusedSyn, initial_cut, up_wrong, down_wrong, correlation_cut, extension_wrong, padding_wrong}
use Rattle.mt_base.proofs.FrontFields.{left_at as at}
use Rattle.udp1_packets.proofs.Pieces.{number_reads, number_cut, mtu_reads, mtu_answer, mtu_or, block32_reads, block32_cut, block32_or, zeros_read, zeros_wrong, Padding, all_zeros, not_all, padding_or}
use Rattle.udp1_packets.proofs.OpeningLemmas.{extended_text, extended_reads, extended_refused, extended_or, IsExtension}

-- the text of an opening up to its padding
abbrev pub front : Syn → List ℕ
front s = big_bytes 4 s.initial ++ (big_bytes 2 s.up ++ (big_bytes 2 s.down ++ (block_bytes s.correlation ++ extended_text s.extension)))

pub syn_text : (s : Syn) → joined (body_fields (SynBody s) (zeros (SynBody s))) ≡ front s ++ replicate s.padding 0
syn_text s =
    let inner : joined (block_fields s.correlation ++ (extension_fields s.extension ++ (replicate s.padding 0 ∷ []))) ≡ (block_bytes s.correlation ++ extended_text s.extension) ++ replicate s.padding 0 =
    joined-append (block_fields s.correlation) (extension_fields s.extension ++ (replicate s.padding 0 ∷ []))
    ∙ ap (λ t. block_bytes s.correlation ++ t) (joined-append (extension_fields s.extension) (replicate s.padding 0 ∷ []) ∙ ap (λ t. extended_text s.extension ++ t) (append-nil (replicate s.padding 0)))
    ∙ sym (append_assoc (block_bytes s.correlation) (extended_text s.extension) (replicate s.padding 0)) in
    ap (λ t. big_bytes 4 s.initial ++ (big_bytes 2 s.up ++ (big_bytes 2 s.down ++ t))) inner

-- the flags of an opening say what is there
pub record Says (flags : ℕ) (s : Syn) : Type 0 where
  pub answer_is : has flags 0x0004 ≡ s.answer
  pub correlation_is : has flags 0x0800 ≡ is_some s.correlation
  pub extension_is : has flags 0x1000 ≡ is_some s.extension

abbrev place : Syn → ℕ
place s = 16 + length (block_bytes s.correlation) + length (extended_text s.extension)

-- behind its number and its MTUs an opening is read
opens_reads : (a c e : Bool) (initial up down : ℕ) (bytes rest : List ℕ) → Opens initial up down bytes rest
    → syn_with a c e (at 8 bytes) ≡ (block32_at c (at 16 rest) >>= λ correlation. extended_at e a correlation.1 >>= λ extension. zeros_at extension.1 >>= λ k.
    Ok (record { answer = a; initial = initial; up = up; down = down; correlation = correlation.0; extension = extension.0; padding = k }))
unfolding syn_with
opens_reads a c e initial up down bytes rest (i, u, d, is) =
    rw (
      is,
      number_reads 4 initial i 8 (big_bytes 2 up ++ (big_bytes 2 down ++ rest)),
      mtu_reads up u 12 (big_bytes 2 down ++ rest),
      mtu_reads down d 14 rest,
    ) refl

-- up to its padding an opening is read
front_reads : (s : Syn) → IsSyn s → (rest : List ℕ)
    → syn_with s.answer (is_some s.correlation) (is_some s.extension) (at 8 (front s ++ rest)) ≡ (zeros_at (at (place s) rest) >>= λ k. Ok (record s { padding = k }))
front_reads s good rest =
    let whole : front s ++ rest ≡ big_bytes 4 s.initial ++ (big_bytes 2 s.up ++ (big_bytes 2 s.down ++ (block_bytes s.correlation ++ (extended_text s.extension ++ rest)))) =
    ap (λ t. big_bytes 4 s.initial ++ (big_bytes 2 s.up ++ (big_bytes 2 s.down ++ t))) (append_assoc (block_bytes s.correlation) (extended_text s.extension) rest) in
    opens_reads s.answer (is_some s.correlation) (is_some s.extension) s.initial s.up s.down (front s ++ rest) (block_bytes s.correlation ++ (extended_text s.extension ++ rest))
    (good.initial_fits, good.up_is, good.down_is, whole)
    ∙ rw (
      block32_reads (is_some s.correlation) s.correlation (refl, good.correlation_is) 16 (extended_text s.extension ++ rest),
      extended_reads (is_some s.extension) s.answer s.extension refl good.extension_is (16 + length (block_bytes s.correlation)) rest,
    ) refl

said : (flags : ℕ) (s : Syn) (t : Left) → Says flags s → syn_at flags t ≡ syn_with s.answer (is_some s.correlation) (is_some s.extension) t
said flags s t says = rw (says.answer_is, says.correlation_is, says.extension_is) refl

pub syn_reads : (flags : ℕ) (s : Syn) → IsSyn s → Says flags s → syn_at flags (at 8 (joined (body_fields (SynBody s) (zeros (SynBody s))))) ≡ Ok s
syn_reads flags s good says =
    said flags s (at 8 (joined (body_fields (SynBody s) (zeros (SynBody s))))) says
    ∙ ap (λ t. syn_with s.answer (is_some s.correlation) (is_some s.extension) (at 8 t)) (syn_text s) ∙ front_reads s good (replicate s.padding 0)
    ∙ ap (λ r. r >>= λ k. Ok (record s { padding = k })) (zeros_read (place s) s.padding)

-- ---- each fault is the answer

fault_with : (a c e : Bool) (bytes : List ℕ) (r : Refusal1) → RefusedSyn a c e bytes r → syn_with a c e (at 8 bytes) ≡ Err r
unfolding syn_with
fault_with a c e bytes r (initial_cut fault) = rw (number_cut 4 8 bytes r fault) refl
fault_with a c e bytes r (up_wrong initial rest i is fault) = rw (is, number_reads 4 initial i 8 rest, mtu_answer 12 rest r fault) refl
fault_with a c e bytes r (down_wrong initial up rest i u is fault) =
    rw (is, number_reads 4 initial i 8 (big_bytes 2 up ++ rest), mtu_reads up u 12 rest, mtu_answer 14 rest r fault) refl
fault_with a c e bytes r (correlation_cut initial up down rest opens on fault) =
    opens_reads a c e initial up down bytes rest opens ∙ rw (block32_cut c on 16 rest r fault) refl
fault_with a c e bytes r (extension_wrong initial up down correlation rest opens block on fault) =
    opens_reads a c e initial up down bytes (block_bytes correlation ++ rest) opens
    ∙ rw (block32_reads c correlation block 16 rest, extended_refused e a on (16 + length (block_bytes correlation)) rest r fault) refl
fault_with a c e bytes r (padding_wrong s b rest good a_is c_is e_is is bad r_is) =
    let whole : bytes ≡ front s ++ (replicate s.padding 0 ++ (b ∷ rest)) = is ∙ ap (λ t. t ++ (b ∷ rest)) (syn_text s) ∙ append_assoc (front s) (replicate s.padding 0) (b ∷ rest) in
    let nil : ℕ = 0 in
    let many : length (replicate s.padding nil) ≡ s.padding = length-replicate s.padding nil in
    let at_is : place s + s.padding ≡ 8 + length (joined (body_fields (SynBody s) (zeros (SynBody s)))) =
    omega (arith, ap (length {A = ℕ}) (syn_text s), length-append (front s) (replicate s.padding nil), many, length-append (block_bytes s.correlation) (extended_text s.extension)) in
    named a c e s (at 8 bytes) a_is c_is e_is ∙ ap (λ t. syn_with s.answer (is_some s.correlation) (is_some s.extension) (at 8 t)) whole
    ∙ front_reads s good (replicate s.padding 0 ++ (b ∷ rest))
    ∙ ap (λ z. z >>= λ k. Ok (record s { padding = k })) (zeros_wrong (place s) s.padding b rest bad)
    ∙ ap (λ m. Err (refusal.PaddingNotZero m)) at_is ∙ ap Err (sym r_is)
  where
    named : (a c e : Bool) (s : Syn) (t : Left) → s.answer ≡ a → is_some s.correlation ≡ c → is_some s.extension ≡ e
        → syn_with a c e t ≡ syn_with s.answer (is_some s.correlation) (is_some s.extension) t
    named a c e s t f g h = rw (← f, ← g, ← h) refl

pub syn_answer : (flags : ℕ) (bytes : List ℕ) (r : Refusal1) → RefusedSyn (has flags 0x0004) (has flags 0x0800) (has flags 0x1000) bytes r → syn_at flags (at 8 bytes) ≡ Err r
syn_answer flags bytes r fault = fault_with (has flags 0x0004) (has flags 0x0800) (has flags 0x1000) bytes r fault

-- ---- bytes spell an opening or have a fault

-- bytes that spell an opening with these flags
pub record IsOpening (answer correlated extended : Bool) (bytes : List ℕ) : Type 0 where
  pub syn : Syn
  pub good : IsSyn syn
  pub answer_is : syn.answer ≡ answer
  pub correlation_is : is_some syn.correlation ≡ correlated
  pub extension_is : is_some syn.extension ≡ extended
  pub bytes_are : bytes ≡ joined (body_fields (SynBody syn) (zeros (SynBody syn)))

abbrev Decided : Bool → Bool → Bool → List ℕ → Type 0
Decided a c e bytes = ((r : Refusal1) × RefusedSyn a c e bytes r) ⊎ IsOpening a c e bytes

abbrev made : Bool → (initial up down : ℕ) → Option (List ℕ) → Option Extended → ℕ → Syn
made a initial up down correlation extension k =
    record { answer = a; initial = initial; up = up; down = down; correlation = correlation; extension = extension; padding = k }

padded_or : (a c e : Bool) (bytes : List ℕ) (initial up down : ℕ) (correlation : Option (List ℕ)) (extension : Option Extended) (rest : List ℕ)
    → IsBlock c 32 correlation → IsExtension e a extension → Opens initial up down bytes (block_bytes correlation ++ (extended_text extension ++ rest)) → Decided a c e bytes
padded_or a c e bytes initial up down correlation extension rest block ext opens = by_rest (padding_or rest)
  where
    good : (k : ℕ) → IsSyn (made a initial up down correlation extension k)
    good k = record { initial_fits = opens.0; up_is = opens.1; down_is = opens.2; correlation_is = block.1; extension_is = ext.1 }

    text : (k : ℕ) → joined (body_fields (SynBody (made a initial up down correlation extension k)) (zeros (SynBody (made a initial up down correlation extension k)))) ≡ big_bytes 4 initial ++ (big_bytes 2 up ++ (big_bytes 2 down ++ (block_bytes correlation ++ (extended_text extension ++ replicate k 0))))
    text k = syn_text (made a initial up down correlation extension k) ∙ ap (λ t. big_bytes 4 initial ++ (big_bytes 2 up ++ (big_bytes 2 down ++ t))) (append_assoc (block_bytes correlation) (extended_text extension) (replicate k 0))

    by_rest : Padding rest → Decided a c e bytes
    by_rest (all_zeros k is) = inr (record {
      syn = made a initial up down correlation extension k;
      good = good k;
      answer_is = refl;
      correlation_is = block.0;
      extension_is = ext.0;
      bytes_are = opens.3 ∙ ap (λ t. big_bytes 4 initial ++ (big_bytes 2 up ++ (big_bytes 2 down ++ (block_bytes correlation ++ (extended_text extension ++ t))))) is ∙ sym (text k);
    })
    by_rest (not_all k b others bad is) =
        inl (
          _,
          padding_wrong (made a initial up down correlation extension k) b others (good k) refl block.0 ext.0
              (opens.3 ∙ ap (λ t. big_bytes 4 initial ++ (big_bytes 2 up ++ (big_bytes 2 down ++ (block_bytes correlation ++ (extended_text extension ++ t))))) is ∙ regroup k b others ∙ ap (λ t. t ++ (b ∷ others)) (sym (text k))) bad refl,
        )
      where
        regroup : (k b : ℕ) (others : List ℕ)
            → big_bytes 4 initial ++ (big_bytes 2 up ++ (big_bytes 2 down ++ (block_bytes correlation ++ (extended_text extension ++ (replicate k 0 ++ (b ∷ others))))))
            ≡ (big_bytes 4 initial ++ (big_bytes 2 up ++ (big_bytes 2 down ++ (block_bytes correlation ++ (extended_text extension ++ replicate k 0))))) ++ (b ∷ others)
        regroup k b others = ap (λ t. big_bytes 4 initial ++ (big_bytes 2 up ++ (big_bytes 2 down ++ t)))
            (sym (append_assoc (block_bytes correlation) (extended_text extension ++ replicate k 0) (b ∷ others) ∙ ap (λ t. block_bytes correlation ++ t) (append_assoc (extended_text extension) (replicate k 0) (b ∷ others))))

pub syn_or : (a c e : Bool) (bytes : List ℕ) → IsBytes bytes → Decided a c e bytes
syn_or a c e bytes good = by_initial (big_or 4 bytes good)
  where
    by_extension : (i u d : ℕ) (correlation : Option (List ℕ)) (rest : List ℕ) → IsBlock c 32 correlation → Opens i u d bytes (block_bytes correlation ++ rest)
        → ((r : Refusal1) × (e ≡ true) × RefusedExtension a (16 + length (block_bytes correlation)) rest r) ⊎ Begins extended_text (IsExtension e a) rest → Decided a c e bytes
    by_extension i u d correlation rest block opens (inl fault) = inl (fault.0, extension_wrong i u d correlation rest opens block fault.1 fault.2)
    by_extension i u d correlation rest block opens (inr x) =
        padded_or a c e bytes i u d correlation x.value x.rest block x.good
        (opens.0, opens.1, opens.2, opens.3 ∙ ap (λ t. big_bytes 4 i ++ (big_bytes 2 u ++ (big_bytes 2 d ++ (block_bytes correlation ++ t)))) x.bytes_are)

    by_correlation : (i u d : ℕ) (rest : List ℕ) → Opens i u d bytes rest → ((c ≡ true) × (length rest < 32)) ⊎ Begins block_bytes (IsBlock c 32) rest → Decided a c e bytes
    by_correlation i u d rest opens (inl short) = inl (_, correlation_cut i u d rest opens short.0 (short.1, refl))
    by_correlation i u d rest opens (inr b) =
        by_extension i u d b.value b.rest b.good (opens.0, opens.1, opens.2, opens.3 ∙ ap (λ t. big_bytes 4 i ++ (big_bytes 2 u ++ (big_bytes 2 d ++ t))) b.bytes_are)
        (extended_or e a (16 + length (block_bytes b.value)) b.rest b.bytes_behind)

    by_down : (i : ℕ) → i < 2 ^ 32 → (u : ℕ) → IsMtu u → (rest : List ℕ) → bytes ≡ big_bytes 4 i ++ (big_bytes 2 u ++ rest) → ((r : Refusal1) × RefusedMtu 14 rest r) ⊎ Begins (big_bytes 2) IsMtu rest → Decided a c e bytes
    by_down i fits u up rest is (inl fault) = inl (fault.0, down_wrong i u rest fits up is fault.1)
    by_down i fits u up rest is (inr d) =
        by_correlation i u d.value d.rest (fits, up, d.good, is ∙ ap (λ t. big_bytes 4 i ++ (big_bytes 2 u ++ t)) d.bytes_are) (block32_or c d.rest d.bytes_behind)

    by_up : (i : ℕ) → i < 2 ^ 32 → (rest : List ℕ) → bytes ≡ big_bytes 4 i ++ rest → ((r : Refusal1) × RefusedMtu 12 rest r) ⊎ Begins (big_bytes 2) IsMtu rest → Decided a c e bytes
    by_up i fits rest is (inl fault) = inl (fault.0, up_wrong i rest fits is fault.1)
    by_up i fits rest is (inr u) = by_down i fits u.value u.good u.rest (is ∙ ap (λ t. big_bytes 4 i ++ t) u.bytes_are) (mtu_or 14 u.rest u.bytes_behind)

    by_initial : (length bytes < 4) ⊎ Begins (big_bytes 4) (λ x. x < 256 ^ 4) bytes → Decided a c e bytes
    by_initial (inl few) = inl (_, initial_cut (few, refl))
    by_initial (inr i) = by_up i.value i.good i.rest i.bytes_are (mtu_or 12 i.rest i.bytes_behind)

-- A whole packet that opens nothing, behind its header.
use Rattle.std.proofs.Common.{◌≡◌, ◌⊎◌, inl, inr, ℕ, ◌+◌, ◌<◌, Bool, true, false, List, [], ◌∷◌, ◌++◌, length, Option, Ok, Err, refl, sym, ap, ◌∙◌, subst, arith, append_assoc, append-nil}
use Rattle.std.specs.Option.{is_some}
use Rattle.std.proofs.lemmas.Bool.{cases_Bool}
use Rattle.std.proofs.lemmas.List.{length-append}
use Rattle.byteorder.specs.Endian.{big_bytes}
use Rattle.mt_base.specs.Reading.{Left}
use Rattle.mt_base.specs.Writing.{joined}
use Rattle.mt_base.proofs.Fill.{joined-append}
use Rattle.mt_base.proofs.Fields.{Begins}
use Rattle.carrier.specs.declared.first_layout.Refusal1.{Refusal1}
use Rattle.udp1_packets.specs.Value.{Body, SynBody, DataBody, FecBody, BareBody}
use Rattle.udp1_packets.specs.Layout.{has, IsBytes, IsTold, IsBody, Fills, Allows, Choice, vector_fields, aoa_fields, body_fields}
use Rattle.udp1_packets.specs.Reading.{data_at, fec_at, rest_at, told_at}
use Rattle.udp1_packets.specs.Faults.{vector_bytes, RefusedVector, RefusedData, Tells, RefusedTold, vector_wrong, aoa_cut, data_wrong}
use Rattle.mt_base.proofs.FrontFields.{left_at as at}
use Rattle.udp1_packets.proofs.VectorLemmas.{vector_where_reads, vector_where_refused, vector_where_or, Vectored}
use Rattle.udp1_packets.proofs.DataLemmas.{aoa_text, IsNumber, number_where_reads, number_where_refused, number_where_or, data_reads, data_answer, fec_reads, fec_answer, Starts, starts_or, Corrects, corrects_or}

-- the flags say whether a vector and an acknowledgement of acknowledgements are there
pub record Says (flags : ℕ) (vector : Option (List ℕ)) (aoa : Option ℕ) : Type 0 where
  pub vector_there : is_some vector ≡ has flags 0x0004
  pub aoa_there : is_some aoa ≡ has flags 0x0100

abbrev place : Option (List ℕ) → List ℕ → Option ℕ → ℕ
place vector padding aoa = 8 + length (vector_bytes vector padding) + length (aoa_text aoa)

-- up to what follows them the two are read
told_reads : (flags : ℕ) (vector : Option (List ℕ)) (padding : List ℕ) (aoa : Option ℕ) → Says flags vector aoa → IsTold vector aoa → Fills vector padding → (rest : List ℕ)
    → told_at flags (at 8 (vector_bytes vector padding ++ (aoa_text aoa ++ rest))) ≡ rest_at flags vector aoa (at (place vector padding aoa) rest)
unfolding told_at
told_reads flags vector padding aoa says told fills rest =
    rw (
      vector_where_reads (has flags 0x0004) vector padding says.vector_there told.vector_is fills 8 (aoa_text aoa ++ rest),
      number_where_reads (has flags 0x0100) aoa (says.aoa_there, told.aoa_fits) (8 + length (vector_bytes vector padding)) rest,
    ) refl

-- ---- what follows them, by the flags

rest_data : (flags : ℕ) (vector : Option (List ℕ)) (aoa : Option ℕ) (s : Left) → has flags 0x0008 ≡ true → has flags 0x0010 ≡ false → rest_at flags vector aoa s ≡ data_at vector aoa s
unfolding rest_at
rest_data flags vector aoa s carried fec = rw (carried, fec) refl

rest_fec : (flags : ℕ) (vector : Option (List ℕ)) (aoa : Option ℕ) (s : Left) → has flags 0x0008 ≡ true → has flags 0x0010 ≡ true → rest_at flags vector aoa s ≡ fec_at vector aoa s
unfolding rest_at
rest_fec flags vector aoa s carried fec = rw (carried, fec) refl

rest_bare : (flags : ℕ) (vector : Option (List ℕ)) (aoa : Option ℕ) (s : Left) → has flags 0x0008 ≡ false → rest_at flags vector aoa s ≡ Ok (BareBody vector aoa s.bytes)
unfolding rest_at
rest_bare flags vector aoa s carried = rw carried refl

-- the bytes of the fields
told_text : (vector : Option (List ℕ)) (padding : List ℕ) (aoa : Option ℕ) (tail : List (List ℕ))
    → joined (vector_fields vector padding ++ (aoa_fields aoa ++ tail)) ≡ vector_bytes vector padding ++ (aoa_text aoa ++ joined tail)
told_text vector padding aoa tail =
    joined-append (vector_fields vector padding) (aoa_fields aoa ++ tail) ∙ ap (λ t. vector_bytes vector padding ++ t) (joined-append (aoa_fields aoa) tail)

pub data_body : (flags : ℕ) (vector : Option (List ℕ)) (aoa : Option ℕ) (coded start : ℕ) (bytes : List ℕ) (c : Choice) → IsBody (DataBody vector aoa coded start bytes) → Allows (DataBody vector aoa coded start bytes) c
    → Says flags vector aoa → has flags 0x0008 ≡ true → has flags 0x0010 ≡ false → told_at flags (at 8 (joined (body_fields (DataBody vector aoa coded start bytes) c))) ≡ Ok (DataBody vector aoa coded start bytes)
data_body flags vector aoa coded start bytes c is allowed says carried fec =
    let rest = big_bytes 4 coded ++ (big_bytes 4 start ++ bytes) in
    let text : joined (body_fields (DataBody vector aoa coded start bytes) c) ≡ vector_bytes vector c.after_vector ++ (aoa_text aoa ++ rest) =
    told_text vector c.after_vector aoa (big_bytes 4 coded ∷ big_bytes 4 start ∷ bytes ∷ [])
    ∙ ap (λ t. vector_bytes vector c.after_vector ++ (aoa_text aoa ++ (big_bytes 4 coded ++ (big_bytes 4 start ++ t)))) (append-nil bytes) in
    ap (λ t. told_at flags (at 8 t)) text ∙ told_reads flags vector c.after_vector aoa says is.0 allowed.0 rest
    ∙ rest_data flags vector aoa (at (place vector c.after_vector aoa) rest) carried fec ∙ data_reads vector aoa coded start is.1 is.2 (place vector c.after_vector aoa) bytes

pub fec_body : (flags : ℕ) (vector : Option (List ℕ)) (aoa : Option ℕ) (coded start range index : ℕ) (bytes : List ℕ) (c : Choice)
    → IsBody (FecBody vector aoa coded start range index bytes) → Allows (FecBody vector aoa coded start range index bytes) c → Says flags vector aoa → has flags 0x0008 ≡ true → has flags 0x0010 ≡ true
    → told_at flags (at 8 (joined (body_fields (FecBody vector aoa coded start range index bytes) c))) ≡ Ok (FecBody vector aoa coded start range index bytes)
fec_body flags vector aoa coded start range index bytes c is allowed says carried fec =
    let rest = big_bytes 4 coded ++ (big_bytes 4 start ++ (big_bytes 1 range ++ (big_bytes 1 index ++ (c.after_index ++ bytes)))) in
    let text : joined (body_fields (FecBody vector aoa coded start range index bytes) c) ≡ vector_bytes vector c.after_vector ++ (aoa_text aoa ++ rest) =
    told_text vector c.after_vector aoa (big_bytes 4 coded ∷ big_bytes 4 start ∷ big_bytes 1 range ∷ big_bytes 1 index ∷ c.after_index ∷ bytes ∷ [])
    ∙ ap (λ t. vector_bytes vector c.after_vector ++ (aoa_text aoa ++ (big_bytes 4 coded ++ (big_bytes 4 start ++ (big_bytes 1 range ++ (big_bytes 1 index ++ (c.after_index ++ t))))))) (append-nil bytes) in
    ap (λ t. told_at flags (at 8 t)) text ∙ told_reads flags vector c.after_vector aoa says is.0 allowed.0 rest
    ∙ rest_fec flags vector aoa (at (place vector c.after_vector aoa) rest) carried fec
    ∙ fec_reads vector aoa coded start range index c.after_index is.1 is.2 is.3 is.4 allowed.1 (place vector c.after_vector aoa) bytes

pub bare_body : (flags : ℕ) (vector : Option (List ℕ)) (aoa : Option ℕ) (bytes : List ℕ) (c : Choice) → IsBody (BareBody vector aoa bytes) → Allows (BareBody vector aoa bytes) c
    → Says flags vector aoa → has flags 0x0008 ≡ false → told_at flags (at 8 (joined (body_fields (BareBody vector aoa bytes) c))) ≡ Ok (BareBody vector aoa bytes)
bare_body flags vector aoa bytes c is allowed says carried =
    let text : joined (body_fields (BareBody vector aoa bytes) c) ≡ vector_bytes vector c.after_vector ++ (aoa_text aoa ++ bytes) =
    told_text vector c.after_vector aoa (bytes ∷ []) ∙ ap (λ t. vector_bytes vector c.after_vector ++ (aoa_text aoa ++ t)) (append-nil bytes) in
    ap (λ t. told_at flags (at 8 t)) text ∙ told_reads flags vector c.after_vector aoa says is.0 allowed.0 bytes
    ∙ rest_bare flags vector aoa (at (place vector c.after_vector aoa) bytes) carried

-- ---- each fault is the answer

rest_answer : (flags : ℕ) (fec : Bool) (vector : Option (List ℕ)) (aoa : Option ℕ) (n : ℕ) (rest : List ℕ) (r : Refusal1) → has flags 0x0008 ≡ true → has flags 0x0010 ≡ fec → RefusedData fec n rest r
    → rest_at flags vector aoa (at n rest) ≡ Err r
rest_answer flags true vector aoa n rest r carried fec fault = rest_fec flags vector aoa (at n rest) carried fec ∙ fec_answer vector aoa n rest r fault
rest_answer flags false vector aoa n rest r carried fec fault = rest_data flags vector aoa (at n rest) carried fec ∙ data_answer vector aoa n rest r fault

pub told_answer : (flags : ℕ) (bytes : List ℕ) (r : Refusal1) → RefusedTold flags bytes r → told_at flags (at 8 bytes) ≡ Err r
unfolding told_at
told_answer flags bytes r (vector_wrong on fault) = rw (vector_where_refused (has flags 0x0004) on 8 bytes r fault) refl
told_answer flags bytes r (aoa_cut vector padding rest on there good fills is fault) =
    rw (
      is,
      vector_where_reads (has flags 0x0004) vector padding there good fills 8 rest,
      number_where_refused (has flags 0x0100) on (8 + length (vector_bytes vector padding)) rest r fault,
    ) refl
told_answer flags bytes r (data_wrong vector aoa text rest on t is fault) =
    let whole : bytes ≡ vector_bytes vector t.padding ++ (aoa_text aoa ++ rest) = is ∙ ap (λ x. x ++ rest) t.text_is ∙ append_assoc (vector_bytes vector t.padding) (aoa_text aoa) rest in
    let at_is : 8 + length text ≡ place vector t.padding aoa = omega (arith, ap length t.text_is, length-append (vector_bytes vector t.padding) (aoa_text aoa)) in
    ap (λ x. told_at flags (at 8 x)) whole ∙ told_reads flags vector t.padding aoa (record { vector_there = t.vector_there; aoa_there = t.aoa_there }) t.told t.fills rest
    ∙ rest_answer flags (has flags 0x0010) vector aoa (place vector t.padding aoa) rest r on refl (subst (λ n. RefusedData (has flags 0x0010) n rest r) at_is fault)

-- ---- bytes spell such a packet or have a fault

-- the two, and what follows them
pub record Behind (flags : ℕ) (bytes : List ℕ) : Type 0 where
  pub vector : Option (List ℕ)
  pub aoa : Option ℕ
  pub padding : List ℕ
  pub rest : List ℕ
  pub told : IsTold vector aoa
  pub fills : Fills vector padding
  pub says : Says flags vector aoa
  pub bytes_are : bytes ≡ vector_bytes vector padding ++ (aoa_text aoa ++ rest)
  pub bytes_behind : IsBytes rest

pub behind_or : (flags : ℕ) (bytes : List ℕ) → IsBytes bytes → ((r : Refusal1) × RefusedTold flags bytes r) ⊎ Behind flags bytes
behind_or flags bytes good = by_vector (vector_where_or (has flags 0x0004) 8 bytes good)
  where
    by_aoa : (v : Vectored (has flags 0x0004) bytes) → ((has flags 0x0100 ≡ true) × (length v.rest < 4)) ⊎ Begins aoa_text (IsNumber (has flags 0x0100)) v.rest → ((r : Refusal1) × RefusedTold flags bytes r) ⊎ Behind flags bytes
    by_aoa v (inl short) = inl (_, aoa_cut v.vector v.padding v.rest short.0 v.there_is v.good v.fills v.bytes_are (short.1, refl))
    by_aoa v (inr a) = inr (record {
      vector = v.vector;
      aoa = a.value;
      padding = v.padding;
      rest = a.rest;
      told = record { vector_is = v.good; aoa_fits = a.good.1 };
      fills = v.fills;
      says = record { vector_there = v.there_is; aoa_there = a.good.0 };
      bytes_are = v.bytes_are ∙ ap (λ t. vector_bytes v.vector v.padding ++ t) a.bytes_are;
      bytes_behind = a.bytes_behind;
    })

    by_vector : ((r : Refusal1) × (has flags 0x0004 ≡ true) × RefusedVector 8 bytes r) ⊎ Vectored (has flags 0x0004) bytes → ((r : Refusal1) × RefusedTold flags bytes r) ⊎ Behind flags bytes
    by_vector (inl fault) = inl (fault.0, vector_wrong fault.1 fault.2)
    by_vector (inr v) = by_aoa v (number_where_or (has flags 0x0100) v.rest v.bytes_behind)

-- the flags say of which kind the body is, and what is there
abbrev pub Kind : ℕ → Body → Type 0
Kind flags (DataBody vector aoa coded start bytes) = Says flags vector aoa × (has flags 0x0008 ≡ true) × (has flags 0x0010 ≡ false)
Kind flags (FecBody vector aoa coded start range index bytes) = Says flags vector aoa × (has flags 0x0008 ≡ true) × (has flags 0x0010 ≡ true)
Kind flags (BareBody vector aoa rest) = Says flags vector aoa × (has flags 0x0008 ≡ false)
Kind flags (SynBody s) = ⊥

-- a body that these bytes spell behind a header with these flags
pub record IsBehind (flags : ℕ) (bytes : List ℕ) : Type 0 where
  pub body : Body
  pub choice : Choice
  pub good : IsBody body
  pub allowed : Allows body choice
  pub bytes_are : bytes ≡ joined (body_fields body choice)
  pub kind_is : Kind flags body

pub told_or : (flags : ℕ) (bytes : List ℕ) → IsBytes bytes → ((r : Refusal1) × RefusedTold flags bytes r) ⊎ IsBehind flags bytes
told_or flags bytes good = by_told (behind_or flags bytes good)
  where
    tells : (b : Behind flags bytes) → Tells flags b.vector b.aoa (vector_bytes b.vector b.padding ++ aoa_text b.aoa)
    tells b = record { padding = b.padding; told = b.told; fills = b.fills; vector_there = b.says.vector_there; aoa_there = b.says.aoa_there; text_is = refl }

    wrong : (b : Behind flags bytes) → has flags 0x0008 ≡ true → (fec : Bool) → has flags 0x0010 ≡ fec
        → (r : Refusal1) × RefusedData fec (8 + length (vector_bytes b.vector b.padding ++ aoa_text b.aoa)) b.rest r → ((r : Refusal1) × RefusedTold flags bytes r) ⊎ IsBehind flags bytes
    wrong b carried fec is fault =
        inl (
          fault.0,
          data_wrong b.vector b.aoa (vector_bytes b.vector b.padding ++ aoa_text b.aoa) b.rest carried (tells b)
              (b.bytes_are ∙ sym (append_assoc (vector_bytes b.vector b.padding) (aoa_text b.aoa) b.rest))
              (subst (λ f. RefusedData f (8 + length (vector_bytes b.vector b.padding ++ aoa_text b.aoa)) b.rest fault.0) (sym is) fault.1),
        )

    by_data : (b : Behind flags bytes) → has flags 0x0008 ≡ true → has flags 0x0010 ≡ false
        → ((r : Refusal1) × RefusedData false (8 + length (vector_bytes b.vector b.padding ++ aoa_text b.aoa)) b.rest r) ⊎ Starts b.rest → ((r : Refusal1) × RefusedTold flags bytes r) ⊎ IsBehind flags bytes
    by_data b carried fec (inl fault) = wrong b carried false fec fault
    by_data b carried fec (inr s) = inr (record {
      body = DataBody b.vector b.aoa s.coded s.start s.rest;
      choice = record { after_vector = b.padding; after_index = [] };
      good = (b.told, s.coded_fits, s.start_fits, s.bytes_behind);
      allowed = (b.fills, refl);
      bytes_are = b.bytes_are ∙ ap (λ t. vector_bytes b.vector b.padding ++ (aoa_text b.aoa ++ t)) (s.bytes_are ∙ ap (λ t. big_bytes 4 s.coded ++ (big_bytes 4 s.start ++ t)) (sym (append-nil s.rest)))
          ∙ sym (told_text b.vector b.padding b.aoa (big_bytes 4 s.coded ∷ big_bytes 4 s.start ∷ s.rest ∷ []));
      kind_is = (b.says, carried, fec);
    })

    by_fec : (b : Behind flags bytes) → has flags 0x0008 ≡ true → has flags 0x0010 ≡ true
        → ((r : Refusal1) × RefusedData true (8 + length (vector_bytes b.vector b.padding ++ aoa_text b.aoa)) b.rest r) ⊎ Corrects b.rest → ((r : Refusal1) × RefusedTold flags bytes r) ⊎ IsBehind flags bytes
    by_fec b carried fec (inl fault) = wrong b carried true fec fault
    by_fec b carried fec (inr c) = inr (record {
      body = FecBody b.vector b.aoa c.coded c.start c.range c.index c.rest;
      choice = record { after_vector = b.padding; after_index = c.pad };
      good = (b.told, c.coded_fits, c.start_fits, c.range_fits, c.index_fits, c.bytes_behind);
      allowed = (b.fills, c.pad_is.0, c.pad_is.1);
      bytes_are = b.bytes_are ∙ ap (λ t. vector_bytes b.vector b.padding ++ (aoa_text b.aoa ++ t))
          (c.bytes_are ∙ ap (λ t. big_bytes 4 c.coded ++ (big_bytes 4 c.start ++ (big_bytes 1 c.range ++ (big_bytes 1 c.index ++ (c.pad ++ t))))) (sym (append-nil c.rest)))
          ∙ sym (told_text b.vector b.padding b.aoa (big_bytes 4 c.coded ∷ big_bytes 4 c.start ∷ big_bytes 1 c.range ∷ big_bytes 1 c.index ∷ c.pad ∷ c.rest ∷ []));
      kind_is = (b.says, carried, fec);
    })

    by_kind : (b : Behind flags bytes) → has flags 0x0008 ≡ true → (has flags 0x0010 ≡ true) ⊎ (has flags 0x0010 ≡ false) → ((r : Refusal1) × RefusedTold flags bytes r) ⊎ IsBehind flags bytes
    by_kind b carried (inl fec) = by_fec b carried fec (corrects_or (8 + length (vector_bytes b.vector b.padding ++ aoa_text b.aoa)) b.rest b.bytes_behind)
    by_kind b carried (inr fec) = by_data b carried fec (starts_or false (8 + length (vector_bytes b.vector b.padding ++ aoa_text b.aoa)) b.rest b.bytes_behind)

    by_carried : (b : Behind flags bytes) → (has flags 0x0008 ≡ true) ⊎ (has flags 0x0008 ≡ false) → ((r : Refusal1) × RefusedTold flags bytes r) ⊎ IsBehind flags bytes
    by_carried b (inl on) = by_kind b on (cases_Bool (has flags 0x0010))
    by_carried b (inr off) = inr (record {
      body = BareBody b.vector b.aoa b.rest;
      choice = record { after_vector = b.padding; after_index = [] };
      good = (b.told, b.bytes_behind);
      allowed = (b.fills, refl);
      bytes_are = b.bytes_are ∙ ap (λ t. vector_bytes b.vector b.padding ++ (aoa_text b.aoa ++ t)) (sym (append-nil b.rest)) ∙ sym (told_text b.vector b.padding b.aoa (b.rest ∷ []));
      kind_is = (b.says, off);
    })

    by_told : ((r : Refusal1) × RefusedTold flags bytes r) ⊎ Behind flags bytes → ((r : Refusal1) × RefusedTold flags bytes r) ⊎ IsBehind flags bytes
    by_told (inl fault) = inl fault
    by_told (inr b) = by_carried b (cases_Bool (has flags 0x0008))

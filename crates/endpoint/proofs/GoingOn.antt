-- An end on its way through bytes of the main stream, frame by frame.
use Rattle.std.proofs.Common.{◌≡◌, ℕ, zero, suc, ◌+◌, ◌<◌, ◌≤◌, Bool, true, false, cond, ◌&&◌, ◌||◌, is_some, List, [], ◌∷◌, ◌++◌, length, take, Option, None, refl, sym, ap, subst, ◌∙◌, arith, append_assoc, length-append}
use Rattle.std.specs.List.{flat_map}
use Rattle.std.proofs.lemmas.Grind.{flat_map-append}
use Rattle.std.proofs.lemmas.List.{append_cancel_left, length-take-le}
use Rattle.mt_base.specs.declared.kinds.Kind.TheVariants.{Reliable}
use Rattle.mt_base.specs.declared.kinds.Role.{Role}
use Rattle.mt_base.specs.Trace.{Trace}
use Rattle.carrier.specs.declared.state.LinkState.{LinkState}
use Rattle.carrier.specs.Entries as link
use Rattle.mt_endpoint.specs.Acts.{Act, Drawn}
use Rattle.mt_endpoint.specs.Writing.{carried, tunneled}
use Rattle.end_calls.specs.declared.fault.Fault.{Fault}
use Rattle.end_calls.specs.Calls.{after_bytes, lacking}
use Rattle.end_calls.specs.Law.{IsFront}
use Rattle.end_calls.specs.Links.{by_bytes, gives_all}
use Rattle.end_calls.specs.Stops.{Outset, is_empty, is_stopped}
use Rattle.end_calls.specs.Streams.{Past, is_broken, with_main, written}
use Rattle.end_calls.proofs.Onward.{front_then, goes_bytes}
use Rattle.end_reader.specs.Taking.{OneFrame}
use Rattle.end_reader.specs.declared.reader.Reader.{Reader}
use Rattle.endpoint.specs.MainRead.{WayBy, reached_by}
use Rattle.endpoint.specs.OnWay.{OnWay, Reached}
use Rattle.endpoint.proofs.FrameActs.{frames_front}
use Rattle.endpoint.proofs.FrameRead.{frames_took, written_behind}
use Rattle.endpoint.proofs.MainBytes.{acts_stay, bytes_then, gives_stretch}

-- ---- bytes behind bytes

pub after_both : (role : Role) (p : Past) (xs ys : List ℕ) → after_bytes role p (xs ++ ys) ≡ after_bytes role (after_bytes role p xs) ys
after_both role p [] ys = refl
after_both role p (x ∷ xs) ys = after_both role (with_main role p x) xs ys

given_both : (role : Role) (p : Past) (xs ys : List ℕ) (lack : Option (Trace Act)) (l : Trace link.Entry) → 0 < length ys
    → by_bytes Reliable role p (xs ++ ys) lack l ≡ by_bytes Reliable role (after_bytes role p xs) ys lack (by_bytes Reliable role p xs None l)
given_both role p xs [] lack l some = absurd (omega (arith, some))
given_both role p xs (y ∷ ys) lack l some = bytes_then Reliable role xs y ys lack p l

given_frame : (role : Role) (p : Past) (done rest : List ℕ) (count : ℕ) (lack : Option (Trace Act)) (l : Trace link.Entry) → 0 < count → count ≤ length rest → OneFrame role (after_bytes role p done) rest count
    → by_bytes Reliable role p (done ++ take count rest) lack l
    ≡ gives_all Reliable role (after_bytes role p done) (lacking lack (after_bytes role (after_bytes role p done) (take count rest))) (by_bytes Reliable role p done None l)
given_frame role p done rest zero lack l some within one = absurd (omega (arith, some))
given_frame role p done rest (suc k) lack l some within one =
    given_both role p done (take (suc k) rest) lack l (omega (arith, length-take-le (suc k) rest within))
    ∙ gives_stretch Reliable role rest k lack (after_bytes role p done) (by_bytes Reliable role p done None l) within one

-- what is written is written part by part
written_both : (role : Role) (p q r : Past) → IsFront p.acts q.acts → IsFront q.acts r.acts → IsFront p.acts r.acts → written Reliable role p r ≡ written Reliable role p q ++ written Reliable role q r
written_both role p q r f g h =
    let old = carried Reliable role p.acts in
    append_cancel_left old (written Reliable role p r) (written Reliable role p q ++ written Reliable role q r)
    (sym (written_behind role p r h) ∙ written_behind role q r g ∙ ap (λ xs. xs ++ written Reliable role q r) (written_behind role p q f) ∙ append_assoc old (written Reliable role p q) (written Reliable role q r))

pub load_both : (queued : ℕ) (xs ys zs : List Drawn) → zs ≡ xs ++ ys → queued + length (flat_map tunneled xs) + length (flat_map tunneled ys) ≡ queued + length (flat_map tunneled zs)
load_both queued xs ys zs e =
    omega (arith, ap (λ ds. length (flat_map tunneled ds)) e, ap (λ (b : List ℕ). length b) (flat_map-append tunneled xs ys), length-append (flat_map tunneled xs) (flat_map tunneled ys))

-- one frame more
pub one_further : {L : Type 0} (stands : L → Trace link.Entry → Type 0) (left : L → List ℕ) (condition : L → LinkState) (load : L → ℕ) (unread sent : List ℕ) (role : Role) (p : Past) (l : Trace link.Entry) (queued : ℕ) (done rest : List ℕ) (count : ℕ) (r : Reader) (c : Option L)
    → 0 < count → count ≤ length rest → OneFrame role (after_bytes role p done) rest count
    → (h : Reached stands left condition load unread sent role (after_bytes role p done) (by_bytes Reliable role p done None l) (queued + length (flat_map tunneled (written Reliable role p (after_bytes role p done)))) rest count r c)
    → WayBy stands left condition load unread sent role p l queued (done ++ take count rest) h.lack r c
one_further stands left condition load unread sent role p l queued done rest count r c some within one h =
    let q = after_bytes role p done in
    let zs = take count rest in
    let u = lacking h.lack (after_bytes role q zs) in
    let same : reached_by role p (done ++ zs) h.lack ≡ u = ap (lacking h.lack) (after_both role p done zs) in
    let first = goes_bytes role done p in
    let second = frames_front q.acts u.acts (frames_took role q rest count h.lack h.lacks) in
    let whole = front_then p.acts q.acts u.acts first second in
    let loads = load_both queued (written Reliable role p q) (written Reliable role q u) (written Reliable role p u) (written_both role p q u first second whole) in
    subst (λ x. OnWay stands left condition load unread sent role x (by_bytes Reliable role p (done ++ zs) h.lack l) (queued + length (flat_map tunneled (written Reliable role p x))) r c) (sym same)
    (subst (λ k. OnWay stands left condition load unread sent role u k (queued + length (flat_map tunneled (written Reliable role p u))) r c) (sym (given_frame role p done rest count h.lack l some within one))
    (subst (λ n. OnWay stands left condition load unread sent role u (gives_all Reliable role q u (by_bytes Reliable role p done None l)) n r c) loads h.way))

-- ---- where a stop is looked for

abbrev pub halts : Role → Outset → Bool → Past → Bool
halts role outset is_first p = cond (is_broken p) is_first ((is_first || is_empty p.main.bytes) && is_stopped role outset p)

pub looks_first : (role : Role) (outset : Outset) (p : Past) → halts role outset true p ≡ is_broken p || is_stopped role outset p
looks_first role outset p = by_broken (is_broken p) where
  by_broken : (b : Bool) → cond b true (is_stopped role outset p) ≡ b || is_stopped role outset p
  by_broken true = refl
  by_broken false = refl

-- behind a frame, or within one that began where no stop stood
pub looks_behind : (role : Role) (outset : Outset) (q : Past) (rest : List ℕ) (count : ℕ) → 0 < count → count ≤ length rest → OneFrame role q rest count → is_stopped role outset q ≡ false
    → (after_bytes role q (take count rest)).broken ≡ None → halts role outset false (after_bytes role q (take count rest)) ≡ is_broken (after_bytes role q (take count rest)) || is_stopped role outset (after_bytes role q (take count rest))
looks_behind role outset q rest zero some within one goes whole = absurd (omega (arith, some))
looks_behind role outset q rest (suc k) some within one goes whole = by_list u.main.bytes refl where
  u : Past
  u = after_bytes role q (take (suc k) rest)

  by_list : (bytes : List ℕ) → u.main.bytes ≡ bytes → halts role outset false u ≡ is_broken u || is_stopped role outset u
  by_list [] e =
      ap (λ (o : Option Fault). cond (is_some o) false (is_empty u.main.bytes && is_stopped role outset u)) whole ∙ ap (λ b. is_empty b && is_stopped role outset u) e
      ∙ sym (ap (λ (o : Option Fault). is_some o || is_stopped role outset u) whole)
  by_list (byte ∷ bytes) e =
      let acts_are = acts_stay role rest k q within one whole (λ none. absurd (let no : byte ∷ bytes ≡ [] = sym e ∙ none in cc)) in
      let still : is_stopped role outset u ≡ false = ap (λ t. is_stopped role outset (record u { acts = t })) acts_are ∙ goes in
      ap (λ (o : Option Fault). cond (is_some o) false (is_empty u.main.bytes && is_stopped role outset u)) whole ∙ ap (λ b. is_empty b && is_stopped role outset u) e
      ∙ sym (ap (λ (o : Option Fault). is_some o || is_stopped role outset u) whole ∙ still)

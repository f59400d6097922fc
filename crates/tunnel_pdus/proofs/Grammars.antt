-- A layout and its reader over streams: few facts of both give all that the contracts say.
use Rattle.std.proofs.Common.{◌≡◌, inl, inr, ℕ, zero, suc, ◌<◌, ◌≤◌, List, [], ◌∷◌, ◌++◌, length, take, drop, get_or, Result, Ok, Err, refl, sym, ap, ◌∙◌, subst, arith, append_assoc, append-nil, length-append}
use Rattle.std.proofs.lemmas.Bool.{cases_order}
use Rattle.std.proofs.lemmas.List.{take_at, drop_at}
use Rattle.std.proofs.lemmas.List.Elements.{All-from_get_or}
use Rattle.mt_base.proofs.Lists.{nothing}
use Rattle.mt_base.proofs.Numbers.{IsBytes}
use Rattle.mt_base.proofs.Fields.{not_both, ok_is, bytes_after}
use Rattle.tunnel_pdus.specs.declared.part.Part.{Part}
use Rattle.tunnel_pdus.specs.declared.part.Part.TheVariants.{Whole, More}
use Rattle.tunnel_pdus.specs.Streams.{Begins, IsKnown, Wants, Front, SpellsAll, none, next, Stream}

-- bytes are the beginning of a value, as reading says it
pub record Waits {V R : Type 0} (read : List ℕ → Result (Part V) R) (Spells : List ℕ → V → Type 0) (Fault : List ℕ → R → Type 0) (bytes : List ℕ) (need : ℕ) : Type 0 where
  pub longer : length bytes < need
  pub more_is : (more : List ℕ) → length (bytes ++ more) < need → read (bytes ++ more) ≡ Ok (More need)
  pub possible : (more : List ℕ) × IsBytes more × (length (bytes ++ more) ≡ need) × IsKnown Spells Fault (bytes ++ more)

pub data Decided {V R : Type 0} (read : List ℕ → Result (Part V) R) (Spells : List ℕ → V → Type 0) (Fault : List ℕ → R → Type 0) (bytes : List ℕ) : Type 0 where
  whole : (v : V) (used : ℕ) → Begins Spells bytes v used → Decided read Spells Fault bytes
  faulty : (r : R) → Fault bytes r → Decided read Spells Fault bytes
  waiting : (need : ℕ) → Waits read Spells Fault bytes need → Decided read Spells Fault bytes

-- the facts of a layout and its reader
pub record Grammar {V R : Type 0} (read : List ℕ → Result (Part V) R) (Spells : List ℕ → V → Type 0) (Fault : List ℕ → R → Type 0) : Type 0 where
  pub reads : (v : V) (text rest : List ℕ) → Spells text v → read (text ++ rest) ≡ Ok (Whole v (length text))
  pub refuses : (r : R) (bytes : List ℕ) → Fault bytes r → read bytes ≡ Err r
  pub stays : (r : R) (bytes more : List ℕ) → Fault bytes r → Fault (bytes ++ more) r
  pub some : (v : V) (text : List ℕ) → Spells text v → 0 < length text
  pub decides : (bytes : List ℕ) → IsBytes bytes → Decided read Spells Fault bytes

-- ---- the front of a stream

part_is : {V R : Type 0} {r : Result (Part V) R} (p q : Part V) → r ≡ Ok p → r ≡ Ok q → p ≡ q
part_is p q e f = ok_is p q e f

not_more : {V P : Type 0} (v : V) (used need : ℕ) → Whole v used ≡ More need → P
not_more v used need e = absurd (differ v used need e)
  where
    differ : {V : Type 0} (v : V) (used need : ℕ) → Whole v used ≡ More need → ⊥
    differ v used need e = cc

pub begins_read : {V R : Type 0} {read : List ℕ → Result (Part V) R} {Spells : List ℕ → V → Type 0} {Fault : List ℕ → R → Type 0} → Grammar read Spells Fault
    → (bytes : List ℕ) (v : V) (used : ℕ) → Begins Spells bytes v used → read bytes ≡ Ok (Whole v used)
begins_read {read = read} g bytes v used b = ap read b.bytes_are ∙ g.reads v b.text b.rest b.spells ∙ ap (λ n. Ok (Whole v n)) (sym b.used_is)

-- what is known is not read as more
known_read : {V R : Type 0} {read : List ℕ → Result (Part V) R} {Spells : List ℕ → V → Type 0} {Fault : List ℕ → R → Type 0} → Grammar read Spells Fault
    → (bytes : List ℕ) (need : ℕ) → read bytes ≡ Ok (More need) → IsKnown Spells Fault bytes → ⊥
known_read g bytes need is (inl b) = not_more b.0 b.1 need (part_is (Whole b.0 b.1) (More need) (begins_read g bytes b.0 b.1 b.2) is)
known_read g bytes need is (inr f) = not_both (More need) f.0 is (g.refuses f.0 bytes f.1)

pub waits_want : {V R : Type 0} {read : List ℕ → Result (Part V) R} {Spells : List ℕ → V → Type 0} {Fault : List ℕ → R → Type 0} → Grammar read Spells Fault
    → (bytes : List ℕ) (need : ℕ) → Waits read Spells Fault bytes need → Wants Spells Fault bytes need
waits_want g bytes need w = record {
  longer = w.longer;
  not_before = λ more h known. known_read g (bytes ++ more) need (w.more_is more h) known;
  possible = w.possible;
}

waits_read : {V R : Type 0} {read : List ℕ → Result (Part V) R} {Spells : List ℕ → V → Type 0} {Fault : List ℕ → R → Type 0}
    → (bytes : List ℕ) (need : ℕ) → Waits read Spells Fault bytes need → read bytes ≡ Ok (More need)
waits_read {read = read} bytes need w =
    ap read (sym (append-nil bytes)) ∙ w.more_is [] (subst (λ t. length t < need) (sym (append-nil bytes)) w.longer)

-- bytes that want more are no known ones
not_known : {V R : Type 0} {Spells : List ℕ → V → Type 0} {Fault : List ℕ → R → Type 0} → (bytes : List ℕ) (need : ℕ) → Wants Spells Fault bytes need → IsKnown Spells Fault bytes → ⊥
not_known {Spells = Spells} {Fault = Fault} bytes need w known =
    w.not_before [] (subst (λ t. length t < need) (sym (append-nil bytes)) w.longer) (subst (IsKnown Spells Fault) (sym (append-nil bytes)) known)

-- the least length is one
least_is : {V R : Type 0} {read : List ℕ → Result (Part V) R} {Spells : List ℕ → V → Type 0} {Fault : List ℕ → R → Type 0} → Grammar read Spells Fault
    → (bytes : List ℕ) (m n : ℕ) → Waits read Spells Fault bytes m → Wants Spells Fault bytes n → m ≡ n
least_is g bytes m n a b = elim (cases_order m n) [
  | inl same ↦ same
  | inr (inl less) ↦ absurd (b.not_before a.possible.0 (omega (arith, a.possible.2)) a.possible.3)
  | inr (inr more) ↦ absurd (known_read g (bytes ++ b.possible.0) m (a.more_is b.possible.0 (omega (arith, b.possible.2))) b.possible.3)
]

pub wants_read : {V R : Type 0} {read : List ℕ → Result (Part V) R} {Spells : List ℕ → V → Type 0} {Fault : List ℕ → R → Type 0} → Grammar read Spells Fault
    → (bytes : List ℕ) (need : ℕ) → IsBytes bytes → Wants Spells Fault bytes need → read bytes ≡ Ok (More need)
wants_read g bytes need good w = elim (g.decides bytes good) [
  | whole v used b ↦ absurd (not_known bytes need w (inl (v, used, b)))
  | faulty r f ↦ absurd (not_known bytes need w (inr (r, f)))
  | waiting n a ↦ waits_read bytes n a ∙ ap (λ k. Ok (More k)) (least_is g bytes n need a w)
]

-- what is read is the front
pub front_is : {V R : Type 0} {read : List ℕ → Result (Part V) R} {Spells : List ℕ → V → Type 0} {Fault : List ℕ → R → Type 0} → Grammar read Spells Fault
    → (bytes : List ℕ) (answer : Result (Part V) R) → IsBytes bytes → answer ≡ read bytes → Front Spells Fault bytes answer
front_is {Spells = Spells} {Fault = Fault} g bytes answer good is = elim (g.decides bytes good) [
  | whole v used b ↦ subst (Front Spells Fault bytes) (sym (is ∙ begins_read g bytes v used b)) b
  | faulty r f ↦ subst (Front Spells Fault bytes) (sym (is ∙ g.refuses r bytes f)) f
  | waiting n a ↦ subst (Front Spells Fault bytes) (sym (is ∙ waits_read bytes n a)) (waits_want g bytes n a)
]

-- the front is what is read
pub is_front : {V R : Type 0} {read : List ℕ → Result (Part V) R} {Spells : List ℕ → V → Type 0} {Fault : List ℕ → R → Type 0} → Grammar read Spells Fault
    → (bytes : List ℕ) (answer : Result (Part V) R) → IsBytes bytes → Front Spells Fault bytes answer → read bytes ≡ answer
is_front g bytes (Ok (Whole v used)) good f = begins_read g bytes v used f
is_front g bytes (Ok (More need)) good f = wants_read g bytes need good f
is_front g bytes (Err r) good f = g.refuses r bytes f

-- the same of what was told of a slice
pub found_by : {V R : Type 0} {read : List ℕ → Result (Part V) R} {Spells : List ℕ → V → Type 0} {Fault : List ℕ → R → Type 0} → Grammar read Spells Fault
    → (bytes : List ℕ) (told : Result (Part V) R) → ((i : ℕ) → get_or bytes i 0 < 256) → told ≡ read bytes → Front Spells Fault bytes told
found_by g bytes told byte is = front_is g bytes told (All-from_get_or (λ b. b < 256) bytes 0 (λ i within. byte i)) is

pub only_by : {V R : Type 0} {read : List ℕ → Result (Part V) R} {Spells : List ℕ → V → Type 0} {Fault : List ℕ → R → Type 0} → Grammar read Spells Fault
    → (bytes : List ℕ) (told answer : Result (Part V) R) → ((i : ℕ) → get_or bytes i 0 < 256) → told ≡ read bytes → Front Spells Fault bytes answer → told ≡ answer
only_by g bytes told answer byte is front = is ∙ is_front g bytes answer (All-from_get_or (λ b. b < 256) bytes 0 (λ i within. byte i)) front

-- bytes have one front
pub one_front : {V R : Type 0} {read : List ℕ → Result (Part V) R} {Spells : List ℕ → V → Type 0} {Fault : List ℕ → R → Type 0} → Grammar read Spells Fault
    → (bytes : List ℕ) (a b : Result (Part V) R) → IsBytes bytes → Front Spells Fault bytes a → Front Spells Fault bytes b → a ≡ b
one_front g bytes a b good f h = sym (is_front g bytes a good f) ∙ is_front g bytes b good h

pub begins_more : {V : Type 0} {Spells : List ℕ → V → Type 0} (bytes more : List ℕ) (v : V) (used : ℕ) → Begins Spells bytes v used → Begins Spells (bytes ++ more) v used
begins_more bytes more v used b = record {
  text = b.text;
  rest = b.rest ++ more;
  spells = b.spells;
  bytes_are = ap (λ t. t ++ more) b.bytes_are ∙ append_assoc b.text b.rest more;
  used_is = b.used_is;
}

-- more bytes change neither a whole value nor a refusal
pub whole_stays : {V R : Type 0} {read : List ℕ → Result (Part V) R} {Spells : List ℕ → V → Type 0} {Fault : List ℕ → R → Type 0} → Grammar read Spells Fault
    → (bytes more : List ℕ) (v : V) (used : ℕ) → IsBytes bytes → read bytes ≡ Ok (Whole v used) → read (bytes ++ more) ≡ Ok (Whole v used)
whole_stays g bytes more v used good is = begins_read g (bytes ++ more) v used (begins_more bytes more v used (front_is g bytes (Ok (Whole v used)) good (sym is)))

pub refusal_stays : {V R : Type 0} {read : List ℕ → Result (Part V) R} {Spells : List ℕ → V → Type 0} {Fault : List ℕ → R → Type 0} → Grammar read Spells Fault
    → (bytes more : List ℕ) (r : R) → IsBytes bytes → read bytes ≡ Err r → read (bytes ++ more) ≡ Err r
refusal_stays g bytes more r good is = g.refuses r (bytes ++ more) (g.stays r bytes more (front_is g bytes (Err r) good (sym is)))

-- ---- the values of a stream

-- a value and its length are those that the bytes begin with
whole_is : {V : Type 0} (v w : V) (m n : ℕ) → Whole v m ≡ Whole w n → (v ≡ w) × (m ≡ n)
whole_is v w m n e = (cc, cc)

-- no spelling is a proper prefix of another
pub no_prefix : {V R : Type 0} {read : List ℕ → Result (Part V) R} {Spells : List ℕ → V → Type 0} {Fault : List ℕ → R → Type 0} → Grammar read Spells Fault
    → (text more : List ℕ) (v w : V) → Spells text v → Spells (text ++ more) w → (more ≡ []) × (v ≡ w)
no_prefix {read = read} g text more v w s t =
    let both = whole_is v w (length text) (length (text ++ more))
    (part_is (Whole v (length text)) (Whole w (length (text ++ more))) (g.reads v text more s) (ap read (sym (append-nil (text ++ more))) ∙ g.reads w (text ++ more) [] t)) in
    (nothing more (omega (arith, both.1, length-append text more)), both.0)

-- two spellings at the front of the same bytes
record SameFront {V : Type 0} (v w : V) (text other rest left : List ℕ) : Type 0 where
  value : v ≡ w
  text_is : text ≡ other
  rest_is : rest ≡ left

same_front : {V R : Type 0} {read : List ℕ → Result (Part V) R} {Spells : List ℕ → V → Type 0} {Fault : List ℕ → R → Type 0} → Grammar read Spells Fault
    → (v w : V) (text other rest left : List ℕ) → Spells text v → Spells other w → text ++ rest ≡ other ++ left → SameFront v w text other rest left
same_front {read = read} g v w text other rest left s t is =
    let both = whole_is v w (length text) (length other)
    (part_is (Whole v (length text)) (Whole w (length other)) (g.reads v text rest s) (ap read is ∙ g.reads w other left t)) in
    record {
      value = both.0;
      text_is = sym (take_at text rest (length text) refl) ∙ ap (take (length text)) is ∙ take_at other left (length text) (sym both.1);
      rest_is = sym (drop_at text rest (length text) refl) ∙ ap (drop (length text)) is ∙ drop_at other left (length text) (sym both.1);
    }

-- bytes begin with no value
abbrev NoNext : {V : Type 0} → (List ℕ → V → Type 0) → List ℕ → Type 0
NoNext {V} Spells bytes = (v : V) (used : ℕ) → Begins Spells bytes v used → ⊥

-- the values at the front of bytes are one list, where none is next
same_values : {V R : Type 0} {read : List ℕ → Result (Part V) R} {Spells : List ℕ → V → Type 0} {Fault : List ℕ → R → Type 0} → Grammar read Spells Fault
    → (a b left right : List ℕ) (vs ws : List V) → SpellsAll Spells a vs → SpellsAll Spells b ws → a ++ left ≡ b ++ right → NoNext Spells left → NoNext Spells right
    → (vs ≡ ws) × (left ≡ right)
same_values g a b left right vs ws none none is n m = (refl, is)
same_values g a b left right vs ws none (next text rest w more t all) is n m =
    absurd (n w (length text) (record { text = text; rest = rest ++ right; spells = t; bytes_are = is ∙ append_assoc text rest right; used_is = refl }))
same_values g a b left right vs ws (next text rest v more s all) none is n m =
    absurd (m v (length text) (record { text = text; rest = rest ++ left; spells = s; bytes_are = sym is ∙ append_assoc text rest left; used_is = refl }))
same_values g a b left right vs ws (next text rest v more s all) (next other behind w others t rests) is n m =
    let front = same_front g v w text other (rest ++ left) (behind ++ right) s t (sym (append_assoc text rest left) ∙ is ∙ append_assoc other behind right) in
    let after = same_values g rest behind left right more others all rests front.rest_is n m in
    (ap (λ x. x ∷ more) front.value ∙ ap (λ xs. w ∷ xs) after.0, after.1)

-- a stream has one list of values
pub one_stream : {V R : Type 0} {read : List ℕ → Result (Part V) R} {Spells : List ℕ → V → Type 0} {Fault : List ℕ → R → Type 0} → Grammar read Spells Fault
    → (bytes : List ℕ) (vs ws : List V) (left right : List ℕ) → Stream Spells bytes vs left → Stream Spells bytes ws right → (vs ≡ ws) × (left ≡ right)
one_stream g bytes vs ws left right a b = same_values g a.front b.front left right vs ws a.spell b.spell (sym a.bytes_are ∙ b.bytes_are) a.no_next b.no_next

-- the next value stands before those behind it
pub next_value : {V : Type 0} {Spells : List ℕ → V → Type 0} (bytes : List ℕ) (v : V) (used : ℕ) (vs : List V) (left : List ℕ)
    → Begins Spells bytes v used → Stream Spells (drop used bytes) vs left → Stream Spells bytes (v ∷ vs) left
next_value bytes v used vs left b s =
    let rest : b.rest ≡ drop used bytes = sym (ap (drop used) b.bytes_are ∙ drop_at b.text b.rest used (sym b.used_is)) in
    record {
      front = b.text ++ s.front;
      spell = next b.text s.front v vs b.spells s.spell;
      bytes_are = b.bytes_are ∙ ap (λ t. b.text ++ t) (rest ∙ s.bytes_are) ∙ sym (append_assoc b.text s.front left);
      no_next = s.no_next;
    }

-- bytes that begin with no value are left as they are
pub no_value : {V : Type 0} {Spells : List ℕ → V → Type 0} (bytes : List ℕ) → NoNext Spells bytes → Stream Spells bytes [] bytes
no_value bytes n = record { front = []; spell = none; bytes_are = refl; no_next = n }

spells_both : {V : Type 0} {Spells : List ℕ → V → Type 0} (a b : List ℕ) (vs ws : List V) → SpellsAll Spells a vs → SpellsAll Spells b ws → SpellsAll Spells (a ++ b) (vs ++ ws)
spells_both a b vs ws none t = t
spells_both {Spells = Spells} a b vs ws (next text rest v more s all) t =
    subst (λ u. SpellsAll Spells u (v ∷ (more ++ ws))) (sym (append_assoc text rest b)) (next text (rest ++ b) v (more ++ ws) s (spells_both rest b more ws all t))

-- what was left, and the bytes behind it, give the values behind those before
pub pieces : {V : Type 0} {Spells : List ℕ → V → Type 0} (a b : List ℕ) (vs ws : List V) (left end : List ℕ)
    → Stream Spells a vs left → Stream Spells (left ++ b) ws end → Stream Spells (a ++ b) (vs ++ ws) end
pieces a b vs ws left end s t = record {
  front = s.front ++ t.front;
  spell = spells_both s.front t.front vs ws s.spell t.spell;
  bytes_are = ap (λ u. u ++ b) s.bytes_are ∙ append_assoc s.front left b ∙ ap (λ u. s.front ++ u) t.bytes_are ∙ sym (append_assoc s.front t.front end);
  no_next = t.no_next;
}

stream_within : {V R : Type 0} {read : List ℕ → Result (Part V) R} {Spells : List ℕ → V → Type 0} {Fault : List ℕ → R → Type 0} → Grammar read Spells Fault
    → (n : ℕ) (bytes : List ℕ) → length bytes ≤ n → IsBytes bytes → (vs : List V) × (left : List ℕ) × Stream Spells bytes vs left
stream_within g zero bytes h good = ([], bytes, no_value bytes (λ v used b. let p = g.some v b.text b.spells in omega (arith, p, h, ap length b.bytes_are, length-append b.text b.rest)))
stream_within {V = V} {Spells = Spells} g (suc n) bytes h good = elim (g.decides bytes good) [
  | whole v used b ↦ (
      let p = g.some v b.text b.spells in
      let rest : drop used bytes ≡ b.rest = ap (drop used) b.bytes_are ∙ drop_at b.text b.rest used (sym b.used_is) in
      let few : length b.rest ≤ n = omega (arith, p, h, ap length b.bytes_are, length-append b.text b.rest) in
      let behind = stream_within g n b.rest few (bytes_after b.text b.rest bytes b.bytes_are good) in
      (v ∷ behind.0, behind.1, next_value bytes v used behind.0 behind.1 b (subst (λ t. Stream Spells t behind.0 behind.1) (sym rest) behind.2))
      )
  | faulty r f ↦ ([], bytes, no_value bytes (λ v used b. not_both (Whole v used) r (begins_read g bytes v used b) (g.refuses r bytes f)))
  | waiting need w ↦ ([], bytes, no_value bytes (λ v used b. known_read g bytes need (waits_read bytes need w) (inl (v, used, b))))
]

-- a stream has a list of values
pub some_stream : {V R : Type 0} {read : List ℕ → Result (Part V) R} {Spells : List ℕ → V → Type 0} {Fault : List ℕ → R → Type 0} → Grammar read Spells Fault
    → (bytes : List ℕ) → IsBytes bytes → (vs : List V) × (left : List ℕ) × Stream Spells bytes vs left
some_stream g bytes good = stream_within g (length bytes) bytes (omega arith) good

-- what is read next stands before the values behind it
pub next_read : {V R : Type 0} {read : List ℕ → Result (Part V) R} {Spells : List ℕ → V → Type 0} {Fault : List ℕ → R → Type 0} → Grammar read Spells Fault
    → (bytes : List ℕ) (v : V) (used : ℕ) (vs : List V) (left : List ℕ) → IsBytes bytes → read bytes ≡ Ok (Whole v used) → Stream Spells (drop used bytes) vs left → Stream Spells bytes (v ∷ vs) left
next_read g bytes v used vs left good is s = next_value bytes v used vs left (front_is g bytes (Ok (Whole v used)) good (sym is)) s

-- where no value is read, none is next
pub last_read : {V R : Type 0} {read : List ℕ → Result (Part V) R} {Spells : List ℕ → V → Type 0} {Fault : List ℕ → R → Type 0} → Grammar read Spells Fault
    → (bytes : List ℕ) → IsBytes bytes → ((v : V) (used : ℕ) → read bytes ≡ Ok (Whole v used) → ⊥) → Stream Spells bytes [] bytes
last_read g bytes good no_next = no_value bytes (λ v used b. no_next v used (begins_read g bytes v used b))

-- bytes spell one value
pub one_value : {V R : Type 0} {read : List ℕ → Result (Part V) R} {Spells : List ℕ → V → Type 0} {Fault : List ℕ → R → Type 0} → Grammar read Spells Fault
    → (text : List ℕ) (v w : V) → Spells text v → Spells text w → v ≡ w
one_value {Spells = Spells} g text v w s t = (no_prefix g text [] v w s (subst (λ u. Spells u w) (sym (append-nil text)) t)).1

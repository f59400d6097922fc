-- The rule that an entry breaks, told from the datagrams that were given.
use Rattle.std.proofs.Common.{◌≡◌, ◌≢◌, ℕ, zero, suc, ◌<◌, ◌≤◌, ◌+◌, ◌-◌, inl, inr, Bool, true, false, eqb, ltb, cond, List, [], ◌∷◌, ◌++◌, length, take, get_or, slice_get, Option, Some, None, refl, sym, ap, subst, ◌∙◌, arith}
use Rattle.std.proofs.lemmas.Bool.{and_parts, eqb-true}
use Rattle.std.proofs.lemmas.Option.{slice_get_within}
use Rattle.std.proofs.lemmas.Bool.Decides.{nat_tests}
use Rattle.mt_base.proofs.Lists.{slice_get-append-right}
use Rattle.std.specs.List.{count_by}
use Rattle.mt_base.specs.declared.kinds.Role.{Role}
use Rattle.mt_base.specs.declared.kinds.Role.TheVariants.{Server, Client}
use Rattle.mt_base.specs.declared.kinds.Kind.{Kind}
use Rattle.mt_base.specs.declared.kinds.Kind.TheVariants.{Reliable, Lossy}
use Rattle.capture_check.specs.declared.entry.Entry.{Entry}
use Rattle.capture_check.specs.declared.entry.Entry.TheVariants.{Issue, Open, Sent, Got, Main, Word, Out, In}
use Rattle.mt_base.specs.Ends.{same_kind, same_role}
use Rattle.capture_check.specs.Numbers.{is_out, is_out_of, HasOut, late, CountsUp, NamesOut, IsTimely}
use Rattle.capture_check.specs.Rules.{Rule, Numbering, Naming, Lateness, Layouts, Messages, Tellings, Framing, Asking, number_of, Asks, Keeps, Hold, FirstBreak, BreaksRule}
use Rattle.capture_check.specs.GivenSoFar.{Given, places, given_of, with_entry, no_datagrams, arrival_rule, rule_broken}
use Rattle.capture_check.proofs.Stepping.{snoc, at_place, one_further}
use Rattle.capture_check.proofs.Places.{bit, how_many, counted, one, places_from, places_from-cons, places_from-append, length-places_from, how_many-append, given_by, places_by, given_of_by, none_given, one_more}

-- ---- an entry that passes

sides_same : (a b : Role) → same_role a b ≡ true → a ≡ b
sides_same Server Server h = refl
sides_same Client Client h = refl
sides_same Server Client h = cc
sides_same Client Server h = cc

kinds_same : (a b : Kind) → same_kind a b ≡ true → a ≡ b
kinds_same Reliable Reliable h = refl
kinds_same Lossy Lossy h = refl
kinds_same Reliable Lossy h = cc
kinds_same Lossy Reliable h = cc

pub itself : (side : Role) (kind : Kind) (number : ℕ) (datagram : List ℕ) → is_out_of side kind (Out side kind number datagram) ≡ true
itself Server Reliable number datagram = refl
itself Server Lossy number datagram = refl
itself Client Reliable number datagram = refl
itself Client Lossy number datagram = refl

its_kind : (side : Role) (kind : Kind) (number : ℕ) (datagram : List ℕ) → is_out kind (Out side kind number datagram) ≡ true
its_kind side Reliable number datagram = refl
its_kind side Lossy number datagram = refl

-- what passes is an `out`
passes : (side : Role) (kind : Kind) (entry : Entry) → is_out_of side kind entry ≡ true → (number : ℕ) × (datagram : List ℕ) × (entry ≡ Out side kind number datagram)
passes side kind (Issue id k cookie) h = cc
passes side kind (Open id name) h = cc
passes side kind (Sent s id message) h = cc
passes side kind (Got s id message) h = cc
passes side kind (Main s bytes) h = cc
passes side kind (Word s k id) h = cc
passes side kind (Out s k number datagram) h =
    let parts = and_parts (same_role side s) (same_kind kind k) h in
    (number, datagram, ap (λ x. Out x k number datagram) (sym (sides_same side s parts.0)) ∙ ap (λ x. Out side x number datagram) (sym (kinds_same kind k parts.1)))
passes side kind (In s k number) h = cc

-- an entry that passes, with so many before it
record Passing (test : Entry → Bool) (xs : List Entry) (n : ℕ) : Type 0 where
  front : List Entry
  entry : Entry
  back : List Entry
  parts : xs ≡ front ++ entry ∷ back
  passed : test entry ≡ true
  earlier : how_many test front ≡ n

behind : (test : Entry → Bool) (x : Entry) (xs : List Entry) (n m : ℕ) → bit (test x) + n ≡ m → Passing test xs n → Passing test (x ∷ xs) m
behind test x xs n m sum p =
    let before = p.earlier in
    record {
      front = x ∷ p.front;
      entry = p.entry;
      back = p.back;
      parts = ap (λ l. x ∷ l) p.parts;
      passed = p.passed;
      earlier = omega arith;
    }

found_here : (test : Entry → Bool) (x : Entry) (xs : List Entry) (n : ℕ) (b : Bool) → test x ≡ b → n < bit b + how_many test xs → ((m : ℕ) → m < how_many test xs → Passing test xs m) → Passing test (x ∷ xs) n
found_here test x xs zero true is few rest = record { front = []; entry = x; back = xs; parts = refl; passed = is; earlier = refl }
found_here test x xs (suc m) true is few rest =
    let width : bit (test x) ≡ 1 = ap bit is in
    behind test x xs m (suc m) (omega arith) (rest m (omega arith))
found_here test x xs n false is few rest =
    let width : bit (test x) ≡ 0 = ap bit is in
    behind test x xs n n (omega arith) (rest n (omega arith))

found : (test : Entry → Bool) (xs : List Entry) (n : ℕ) → n < how_many test xs → Passing test xs n
found test [] n few = absurd (omega arith)
found test (x ∷ xs) n few = found_here test x xs n (test x) refl few (found test xs)

-- ---- places and entries

-- a number that has a place is that of an `out`
pub has_out : (side : Role) (kind : Kind) (number : ℕ) (before : List Entry) → Hold 3 before → number < how_many (is_out_of side kind) before → HasOut side kind number before
has_out side kind number before holds few =
    let p = found (is_out_of side kind) before number few in
    let out = passes side kind p.entry p.passed in
    let parts : before ≡ p.front ++ Out side kind out.0 out.1 ∷ p.back = p.parts ∙ ap (λ e. p.front ++ e ∷ p.back) out.2 in
    let counts = holds p.front (Out side kind out.0 out.1) p.back parts Numbering (omega arith) in
    let is : out.0 ≡ number = counts ∙ sym (counted (is_out_of side kind) p.front) ∙ p.earlier in
    record { front = p.front; datagram = out.1; back = p.back; parts = parts ∙ ap (λ n. p.front ++ Out side kind n out.1 ∷ p.back) is }

-- and an `out` has its number's place
pub place_of : (side : Role) (kind : Kind) (number : ℕ) (before : List Entry) → Hold 3 before → (given : HasOut side kind number before)
    → slice_get (places_from 0 side kind before) number ≡ Some (how_many (is_out kind) given.front)
place_of side kind number before holds given =
    let out : Entry = Out side kind number given.datagram in
    let counts : number ≡ how_many (is_out_of side kind) given.front = holds given.front out given.back given.parts Numbering (omega arith) ∙ sym (counted (is_out_of side kind) given.front) in
    let long = length-places_from 0 side kind given.front in
    let at : ℕ = 0 + how_many (is_out kind) given.front in
    let rest = places_from (at + bit (is_out kind out)) side kind given.back in
    let start : number - length (places_from 0 side kind given.front) ≡ 0 = omega (arith, counts, long) in
    let same : at ≡ how_many (is_out kind) given.front = omega arith in
    ap (λ xs. slice_get (places_from 0 side kind xs) number) given.parts
    ∙ ap (λ l. slice_get l number) (places_from-append 0 side kind given.front (out ∷ given.back))
    ∙ ap (λ l. slice_get (places_from 0 side kind given.front ++ l) number) (places_from-cons at side kind out given.back)
    ∙ slice_get-append-right (places_from 0 side kind given.front) (one (is_out_of side kind out) at ++ rest) number (omega (arith, counts, long))
    ∙ ap (slice_get (one (is_out_of side kind out) at ++ rest)) start
    ∙ ap (λ b. slice_get (one b at ++ rest) 0) (itself side kind number given.datagram)
    ∙ ap Some same

-- all datagrams of a kind: those before one, that one, and those behind it
pub total_of : (side : Role) (kind : Kind) (number : ℕ) (before : List Entry) (given : HasOut side kind number before)
    → how_many (is_out kind) before ≡ how_many (is_out kind) given.front + (1 + how_many (is_out kind) given.back)
total_of side kind number before given =
    let out : Entry = Out side kind number given.datagram in
    ap (how_many (is_out kind)) given.parts ∙ how_many-append (is_out kind) given.front (out ∷ given.back)
    ∙ ap (λ b. how_many (is_out kind) given.front + (bit b + how_many (is_out kind) given.back)) (its_kind side kind number given.datagram)

-- ---- the verdict

abbrev pub Verdict : List Entry → Entry → Option ℕ → Type 0
Verdict before entry None = Keeps 3 before entry
Verdict before entry (Some number) = BreaksRule 3 before entry number

three : (before : List Entry) (entry : Entry) → CountsUp before entry → NamesOut before entry → IsTimely before entry → Keeps 3 before entry
three before entry counts names timely Numbering few = counts
three before entry counts names timely Naming few = names
three before entry counts names timely Lateness few = timely
three before entry counts names timely Layouts few = absurd (omega (arith, few))
three before entry counts names timely Messages few = absurd (omega (arith, few))
three before entry counts names timely Tellings few = absurd (omega (arith, few))
three before entry counts names timely Framing few = absurd (omega (arith, few))
three before entry counts names timely Asking few = absurd (omega (arith, few))

below_one : (before : List Entry) (entry : Entry) (lower : Rule) → number_of lower < 1 → Asks lower before entry
below_one before entry Numbering few = absurd (omega (arith, few))
below_one before entry Naming few = absurd (omega (arith, few))
below_one before entry Lateness few = absurd (omega (arith, few))
below_one before entry Layouts few = absurd (omega (arith, few))
below_one before entry Messages few = absurd (omega (arith, few))
below_one before entry Tellings few = absurd (omega (arith, few))
below_one before entry Framing few = absurd (omega (arith, few))
below_one before entry Asking few = absurd (omega (arith, few))

below_two : (before : List Entry) (entry : Entry) → CountsUp before entry → (lower : Rule) → number_of lower < 2 → Asks lower before entry
below_two before entry counts Numbering few = counts
below_two before entry counts Naming few = absurd (omega (arith, few))
below_two before entry counts Lateness few = absurd (omega (arith, few))
below_two before entry counts Layouts few = absurd (omega (arith, few))
below_two before entry counts Messages few = absurd (omega (arith, few))
below_two before entry counts Tellings few = absurd (omega (arith, few))
below_two before entry counts Framing few = absurd (omega (arith, few))
below_two before entry counts Asking few = absurd (omega (arith, few))

below_three : (before : List Entry) (entry : Entry) → CountsUp before entry → NamesOut before entry → (lower : Rule) → number_of lower < 3 → Asks lower before entry
below_three before entry counts names Numbering few = counts
below_three before entry counts names Naming few = names
below_three before entry counts names Lateness few = absurd (omega (arith, few))
below_three before entry counts names Layouts few = absurd (omega (arith, few))
below_three before entry counts names Messages few = absurd (omega (arith, few))
below_three before entry counts names Tellings few = absurd (omega (arith, few))
below_three before entry counts names Framing few = absurd (omega (arith, few))
below_three before entry counts names Asking few = absurd (omega (arith, few))

first : (before : List Entry) (entry : Entry) → ¬ CountsUp before entry → BreaksRule 3 before entry 1
first before entry broken = record { rule = Numbering; number_is = refl; within = omega arith; broken = broken; least = below_one before entry }

second : (before : List Entry) (entry : Entry) → CountsUp before entry → ¬ NamesOut before entry → BreaksRule 3 before entry 2
second before entry counts broken = record { rule = Naming; number_is = refl; within = omega arith; broken = broken; least = below_two before entry counts }

third : (before : List Entry) (entry : Entry) → CountsUp before entry → NamesOut before entry → ¬ IsTimely before entry → BreaksRule 3 before entry 3
third before entry counts names broken = record { rule = Lateness; number_is = refl; within = omega arith; broken = broken; least = below_three before entry counts names }

different : (m n : ℕ) → eqb m n ≡ false → m ≢ n
different m n h e = grind (arith, nat_tests)

out_verdict : (before : List Entry) (side : Role) (kind : Kind) (number : ℕ) (datagram : List ℕ) (n : ℕ) (b : Bool) → n ≡ count_by (is_out_of side kind) before → eqb number n ≡ b
    → Verdict before (Out side kind number datagram) (cond b None (Some 1))
out_verdict before side kind number datagram n true is test = three before (Out side kind number datagram) (eqb-true number n test ∙ is) tt tt
out_verdict before side kind number datagram n false is test = first before (Out side kind number datagram) (λ counts. different number n test (counts ∙ sym is))

same_place : (x y : ℕ) → Some x ≡ Some y → x ≡ y
same_place x y e = cc

late_or_not : (before : List Entry) (side : Role) (kind : Kind) (number place total : ℕ) (b : Bool) → Hold 3 before → total ≡ how_many (is_out kind) before
    → slice_get (places_from 0 side kind before) number ≡ Some place → HasOut side kind number before → ltb late (total - place) ≡ b → Verdict before (In side kind number) (cond b (Some 3) None)
late_or_not before side kind number place total true holds all at has test =
    let here : place ≡ how_many (is_out kind) has.front = same_place place _ (sym at ∙ place_of side kind number before holds has) in
    let sum = total_of side kind number before has in
    third before (In side kind number) tt has (λ timely.
    let few = timely has in
    let others = counted (is_out kind) has.back in
    let long : late < total - place = (let t = test in grind (arith, nat_tests)) in omega (arith, few, others, long, here, sum, all))
late_or_not before side kind number place total false holds all at has test =
    three before (In side kind number) tt has (λ given.
    let here : place ≡ how_many (is_out kind) given.front = same_place place _ (sym at ∙ place_of side kind number before holds given) in
    let sum = total_of side kind number before given in
    let others = counted (is_out kind) given.back in
    let short : total - place ≤ late = (let t = test in grind (arith, nat_tests)) in omega (arith, short, others, here, sum, all))

in_verdict : (before : List Entry) (side : Role) (kind : Kind) (number total : ℕ) (o : Option ℕ) → Hold 3 before → total ≡ how_many (is_out kind) before
    → slice_get (places_from 0 side kind before) number ≡ o → Verdict before (In side kind number) (arrival_rule total o)
in_verdict before side kind number total None holds all at =
    second before (In side kind number) tt (λ has. let found = sym at ∙ place_of side kind number before holds has in cc)
in_verdict before side kind number total (Some place) holds all at =
    let few = slice_get_within (places_from 0 side kind before) number place at in
    let long = length-places_from 0 side kind before in
    late_or_not before side kind number place total (ltb late (total - place)) holds all at (has_out side kind number before holds (omega arith)) refl

-- what is told of an entry is what it keeps or breaks
pub verdict : (before : List Entry) (entry : Entry) → Hold 3 before → Verdict before entry (rule_broken (given_by before) entry)
verdict before (Issue id k cookie) holds = three before (Issue id k cookie) tt tt tt
verdict before (Open id name) holds = three before (Open id name) tt tt tt
verdict before (Sent s id message) holds = three before (Sent s id message) tt tt tt
verdict before (Got s id message) holds = three before (Got s id message) tt tt tt
verdict before (Main s bytes) holds = three before (Main s bytes) tt tt tt
verdict before (Word s k id) holds = three before (Word s k id) tt tt tt
verdict before (Out side kind number datagram) holds =
    out_verdict before side kind number datagram (length (places (given_by before) side kind)) (eqb number (length (places (given_by before) side kind)))
    (ap length (places_by before side kind) ∙ length-places_from 0 side kind before ∙ counted (is_out_of side kind) before) refl
verdict before (In side kind number) holds =
    in_verdict before side kind number (given_of (given_by before) kind) (slice_get (places (given_by before) side kind) number) holds
    (given_of_by before kind) (ap (λ l. slice_get l number) (sym (places_by before side kind)))

-- ---- one entry more

pub holds_on : (xs : List Entry) (e : Entry) → Hold 3 xs → Keeps 3 xs e → Hold 3 (xs ++ e ∷ [])
holds_on xs e holds keeps before entry after parts =
    elim (snoc xs before e entry after parts) [
      | inl end ↦ subst (λ b. Keeps 3 b entry) end.0 (subst (Keeps 3 xs) end.1 keeps)
      | inr more ↦ holds before entry more.0 more.1
    ]

pub none_hold : Hold 3 []
none_hold [] entry after parts = cc
none_hold (b ∷ before) entry after parts = cc

-- ---- the entries that were judged so far

pub record JudgedTo (entries : List Entry) (index line : ℕ) (given : Given) : Type 0 where
  pub holds : Hold 3 (take index entries)
  pub stands : given ≡ given_by (take index entries)
  pub line_is : line ≡ index

pub begins_to : (entries : List Entry) (given : Given) → given ≡ no_datagrams → JudgedTo entries 0 0 given
begins_to entries given is = record { holds = none_hold; stands = is ∙ sym none_given; line_is = refl }

-- an entry that breaks a rule
pub stops_at : (entries capture : List Entry) (index line rule : ℕ) (entry : Entry) (given : Given) → entries ≡ capture → JudgedTo entries index line given → index < length entries
    → entry ≡ get_or entries index entry → Some rule ≡ rule_broken given entry → FirstBreak 3 capture (line + 1) rule
stops_at entries capture index line rule entry given items s within is told =
    let p = at_place entries index entry within in
    let broken : Some rule ≡ rule_broken (given_by (take index entries)) entry = told ∙ ap (λ g. rule_broken g entry) s.stands in
    record {
      before = take index entries;
      entry = entry;
      after = p.0;
      parts = sym items ∙ p.1 ∙ ap (λ e. take index entries ++ e ∷ p.0) (sym is);
      kept = s.holds;
      breaks = subst (Verdict (take index entries) entry) (sym broken) (verdict (take index entries) entry s.holds);
      line_is = omega (arith, s.line_is, p.3);
    }

-- an entry that breaks none
pub goes_past : (entries : List Entry) (index line : ℕ) (entry : Entry) (given new : Given) → JudgedTo entries index line given → index < length entries
    → entry ≡ get_or entries index entry → None ≡ rule_broken given entry → new ≡ with_entry given entry → JudgedTo entries (index + 1) (line + 1) new
goes_past entries index line entry given new s within is told noted =
    let t = take index entries in
    let more : t ++ entry ∷ [] ≡ take (index + 1) entries = one_further entries index entry within is in
    let none : None ≡ rule_broken (given_by t) entry = told ∙ ap (λ g. rule_broken g entry) s.stands in
    let keeps = subst (Verdict t entry) (sym none) (verdict t entry s.holds) in
    record {
      holds = subst (Hold 3) more (holds_on t entry s.holds keeps);
      stands = noted ∙ ap (λ g. with_entry g entry) s.stands ∙ one_more t entry ∙ ap given_by more;
      line_is = omega (arith, s.line_is);
    }

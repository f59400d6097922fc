-- How the calls of both links go on by a call of an end.
use Rattle.std.proofs.Common.{◌≡◌, ℕ, suc, List, [], ◌∷◌, ◌++◌, length, Option, Some, None, refl, sym, ap, subst, ◌∙◌, arith, length-append, append-nil}
use Rattle.mt_base.specs.declared.kinds.Role.{Role}
use Rattle.mt_base.specs.Trace.{Trace, ◌▷◌}
use Rattle.carrier.specs.Entries.{Gave, In, Polled, Pulled, Posted, Next, Owed}
use Rattle.carrier.specs.Entries as link
use Rattle.carrier.specs.Joined.{Step, At, SentAgo, Timely}
use Rattle.udp_open.specs.TwoLinks.{with_steps}
use Rattle.end_wires.specs.Wires.{WasGiven, if_given}
use Rattle.linked_ends.proofs.Quiet.{AreQuiet, IsQuiet}

-- all that was given of a list was sent
abbrev pub AllSent : List (Role × List ℕ) → Trace Step → Type 0
AllSent all v = (s : Role) (k : ℕ) (datagram : List ℕ) → WasGiven s datagram k all → SentAgo s v k datagram

-- ---- calls that are quiet

sent_on : (v : Trace Step) (side : Role) (e : link.Entry) (s : Role) (k : ℕ) (datagram : List ℕ) → IsQuiet e → SentAgo s v k datagram → SentAgo s (v ▷ At side e) k datagram
sent_on v side (In now bytes took) s k datagram q h = absurd q
sent_on v side (Polled now out) s k datagram q h = absurd q
sent_on v side (Gave bytes) s k datagram q h = h
sent_on v side (Pulled room bytes) s k datagram q h = h
sent_on v side (Owed count) s k datagram q h = h
sent_on v side (Posted bytes) s k datagram q h = h
sent_on v side (Next bytes) s k datagram q h = h

timely_on : (late : ℕ) (v : Trace Step) (side : Role) (e : link.Entry) → IsQuiet e → Timely late v → Timely late (v ▷ At side e)
timely_on late v side (In now bytes took) q h = absurd q
timely_on late v side (Polled now out) q h = absurd q
timely_on late v side (Gave bytes) q h = h
timely_on late v side (Pulled room bytes) q h = h
timely_on late v side (Owed count) q h = h
timely_on late v side (Posted bytes) q h = h
timely_on late v side (Next bytes) q h = h

pub sent_quiet : (es : List link.Entry) (v : Trace Step) (side : Role) (s : Role) (k : ℕ) (datagram : List ℕ) → AreQuiet es → SentAgo s v k datagram → SentAgo s (with_steps v side es) k datagram
sent_quiet [] v side s k datagram q h = h
sent_quiet (e ∷ es) v side s k datagram q h = sent_quiet es (v ▷ At side e) side s k datagram q.1 (sent_on v side e s k datagram q.0 h)

pub timely_quiet : (late : ℕ) (es : List link.Entry) (v : Trace Step) (side : Role) → AreQuiet es → Timely late v → Timely late (with_steps v side es)
timely_quiet late [] v side q h = h
timely_quiet late (e ∷ es) v side q h = timely_quiet late es (v ▷ At side e) side q.1 (timely_on late v side e q.0 h)

pub steps_last : (es : List link.Entry) (v : Trace Step) (side : Role) (e : link.Entry) → with_steps v side (es ++ e ∷ []) ≡ with_steps v side es ▷ At side e
steps_last [] v side e = refl
steps_last (f ∷ es) v side e = steps_last es (v ▷ At side f) side e

-- ---- the last of a list

-- this one is the last, or it stands before the last
pub data Place {A : Type 0} (xs : List A) (y x : A) (before after : List A) : Type 0 where
  is_last : y ≡ x → after ≡ [] → Place xs y x before after
  earlier : (mid : List A) → after ≡ mid ++ y ∷ [] → xs ≡ before ++ x ∷ mid → Place xs y x before after

tail_is : {A : Type 0} (x y : A) (xs ys : List A) → x ∷ xs ≡ y ∷ ys → xs ≡ ys
tail_is x y xs ys h = cc

head_is : {A : Type 0} (x y : A) (xs ys : List A) → x ∷ xs ≡ y ∷ ys → x ≡ y
head_is x y xs ys h = cc

not_empty : {A : Type 0} (before after : List A) (x : A) → [] ≡ before ++ x ∷ after → ⊥
not_empty [] after x h = let no : [] ≡ x ∷ after = h in cc
not_empty (b ∷ before) after x h = let no : [] ≡ b ∷ (before ++ x ∷ after) = h in cc

behind_one : {A : Type 0} (z : A) (xs : List A) (b y x : A) (before after : List A) → z ≡ b → Place xs y x before after → Place (z ∷ xs) y x (b ∷ before) after
behind_one z xs b y x before after same (is_last a c) = is_last a c
behind_one z xs b y x before after same (earlier mid a c) = earlier mid a (ap (λ r. r ∷ xs) same ∙ ap (λ r. b ∷ r) c)

pub place_of : {A : Type 0} (xs : List A) (y x : A) (before after : List A) → xs ++ y ∷ [] ≡ before ++ x ∷ after → Place xs y x before after
place_of [] y x [] after h = is_last (head_is y x [] after h) (sym (tail_is y x [] after h))
place_of (z ∷ xs) y x [] after h = earlier xs (sym (tail_is z x (xs ++ y ∷ []) after h)) (ap (λ r. r ∷ xs) (head_is z x (xs ++ y ∷ []) after h))
place_of [] y x (b ∷ before) after h = absurd (not_empty before after x (tail_is y b [] (before ++ x ∷ after) h))
place_of (z ∷ xs) y x (b ∷ before) after h =
    behind_one z xs b y x before after (head_is z b (xs ++ y ∷ []) (before ++ x ∷ after) h) (place_of xs y x before after (tail_is z b (xs ++ y ∷ []) (before ++ x ∷ after) h))

-- ---- a poll

first_of : (side s : Role) (out datagram : List ℕ) → ◌≡◌ {A = Role × List ℕ} (side, out) (s, datagram) → (side ≡ s) × (out ≡ datagram)
first_of side s out datagram h = (ap (λ (p : Role × List ℕ). p.0) h, ap (λ (p : Role × List ℕ). p.1) h)

sent_last : (v : Trace Step) (side s : Role) (now k : ℕ) (out datagram : List ℕ) → k ≡ 0 → ◌≡◌ {A = Role × List ℕ} (side, out) (s, datagram) → SentAgo s (v ▷ At side (Polled now (Some out))) k datagram
sent_last v side s now k out datagram none same = subst (λ n. SentAgo s (v ▷ At side (Polled now (Some out))) n datagram) (sym none) (first_of side s out datagram same)

sent_before : (v : Trace Step) (side s : Role) (now k j : ℕ) (out datagram : List ℕ) → k ≡ suc j → SentAgo s v j datagram → SentAgo s (v ▷ At side (Polled now (Some out))) k datagram
sent_before v side s now k j out datagram more h = subst (λ n. SentAgo s (v ▷ At side (Polled now (Some out))) n datagram) (sym more) h

polled_some : (all : List (Role × List ℕ)) (v : Trace Step) (side : Role) (now : ℕ) (out : List ℕ) → AllSent all v → AllSent (all ++ (side, out) ∷ []) (v ▷ At side (Polled now (Some out)))
polled_some all v side now out h s k datagram g = by_place (place_of all (side, out) (s, datagram) g.before g.after g.all_are) where
  by_place : Place all (side, out) (s, datagram) g.before g.after → SentAgo s (v ▷ At side (Polled now (Some out))) k datagram
  by_place (is_last same none) = sent_last v side s now k out datagram (sym g.behind_is ∙ ap (λ (x : List (Role × List ℕ)). length x) none) same
  by_place (earlier mid after_is all_is) =
      sent_before v side s now k (length mid) out datagram (sym g.behind_is ∙ ap (λ (x : List (Role × List ℕ)). length x) after_is ∙ length-append mid ((side, out) ∷ []) ∙ omega arith)
      (h s (length mid) datagram (record { before = g.before; after = mid; all_are = all_is; behind_is = refl }))

polled_none : (all : List (Role × List ℕ)) (v : Trace Step) (side : Role) (now : ℕ) → AllSent all v → AllSent (all ++ []) (v ▷ At side (Polled now None))
polled_none all v side now h s k datagram g = h s k datagram (subst (λ x. WasGiven s datagram k x) (append-nil all) g)

pub polled : (all : List (Role × List ℕ)) (v : Trace Step) (side : Role) (now : ℕ) (out : Option (List ℕ)) → AllSent all v → AllSent (all ++ if_given side out) (v ▷ At side (Polled now out))
polled all v side now None h = polled_none all v side now h
polled all v side now (Some out) h = polled_some all v side now out h

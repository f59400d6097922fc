-- The words of both sides with one saying more.
use Rattle.std.proofs.Common.{◌≡◌, ◌≢◌, ◌↔◌, ◌⊎◌, ℕ, ◌<◌, ◌≤◌, ◌+◌, ◌^◌, inl, inr, Bool, true, false, ◌&&◌, ◌||◌, not, cond, nat_eq, List, [], ◌∷◌, ◌++◌, length, map, get_or, slice_get, option_map, Option, Some, None, Result, Ok, Err, IfOk, OnOk, IsTrue, IsFalse, is_ok, min, refl, sym, ap, subst, ◌∙◌, append_assoc, append-nil, length-append, arith}
use Rattle.std.specs.List.{filter_map, list_any}
use Rattle.std.proofs.lemmas.Bool.{cases_order}
use Rattle.std.proofs.lemmas.List.{map-append, length-map}
use Rattle.std.proofs.lemmas.List.Elements.{filter_map-append}
use Rattle.std.proofs.lemmas.List.Folds.{list_any-append}
use Rattle.std.proofs.lemmas.Option.{slice_get_past, slice_get-get_or, slice_get-map}
use Rattle.mt_base.specs.declared.kinds.Role.{Role}
use Rattle.mt_base.specs.declared.kinds.Kind.{Kind}
use Rattle.mt_base.specs.declared.kinds.Kind.TheVariants.{Reliable, Lossy}
use Rattle.capture_check.specs.declared.moves.Move.{Move}
use Rattle.capture_check.specs.declared.moves.Named.{Named}
use Rattle.capture_check.specs.declared.words.Words.{Words}
use Rattle.capture_check.specs.Arrivals.{has}
use Rattle.capture_check.specs.Sayings.{Saying, DataOf, Moves, Takes, Nothing, HasWord, HasTaken, KeepsWords, moves_of, kinds_of, moves_id, names, takes_id, requests_in, responses_in}
use Rattle.capture_check.specs.WordsSoFar.{is_named, names_id, Counts, AreWords, MaySay}
use Rattle.capture_check.proofs.Stepping.{snoc}

-- ---- one saying more

module _ (said : List Saying) (s : Saying) where
  requests_more : requests_in (said ++ s ∷ []) ≡ requests_in said ++ filter_map moves_of (s ∷ [])
  requests_more = filter_map-append moves_of said (s ∷ [])

  responses_more : responses_in (said ++ s ∷ []) ≡ responses_in said ++ filter_map kinds_of (s ∷ [])
  responses_more = filter_map-append kinds_of said (s ∷ [])

  taken_more : (id : ℕ) → HasTaken said id → HasTaken (said ++ s ∷ []) id
  taken_more id t = record {
    front = t.front;
    kinds = t.kinds;
    back = t.back ++ s ∷ [];
    parts = ap (λ l. l ++ s ∷ []) t.parts ∙ append_assoc t.front (Takes t.kinds ∷ t.back) (s ∷ []);
    moves = t.moves;
    request = t.request;
    takes = t.takes;
  }

  -- the saying is the word itself
  abbrev IsTaking : ℕ → Type 0
  IsTaking id = (kinds : List Kind) × (s ≡ Takes kinds) × ((moves : List Move) × (slice_get (requests_in said) (length (responses_in said)) ≡ Some moves) × (takes_id kinds id moves ≡ true))

  taken_parts : (id : ℕ) → HasTaken (said ++ s ∷ []) id → HasTaken said id ⊎ IsTaking id
  taken_parts id t =
      elim (snoc said t.front s (Takes t.kinds) t.back t.parts) [
        | inl end ↦ inr (t.kinds, end.1, (t.moves, subst (λ f. slice_get (requests_in f) (length (responses_in f)) ≡ Some t.moves) (sym end.0) t.request, t.takes))
        | inr more ↦ inl (record { front = t.front; kinds = t.kinds; back = more.0; parts = more.1; moves = t.moves; request = t.request; takes = t.takes })
      ]

  -- one that moves and takes nothing
  pub no_word : (words : Words) → moves_of s ≡ None → kinds_of s ≡ None → AreWords said words → AreWords (said ++ s ∷ []) words
  no_word words no_moves no_kinds are = record {
    requests = are.requests ∙ sym same_requests;
    responses = subst (λ r. Counts words.responses (length r)) (sym same_responses) are.responses;
    server = λ id. are.server id ∙ ap (list_any (moves_id id)) (sym same_requests);
    client = λ id. (
      λ h. taken_more id ((are.client id).0 h),
      λ t. elim (taken_parts id t) [
        | inl old ↦ (are.client id).1 old
        | inr now ↦ absurd (let some = sym no_kinds ∙ ap kinds_of now.1 in let none : None ≡ Some now.0 = some in cc)
      ],
    );
  }
    where
      nothing_more : {X : Type 0} (f : Saying → Option X) → f s ≡ None → filter_map f (s ∷ []) ≡ []
      nothing_more f none = none_of (f s) none
        where
          none_of : {X : Type 0} (o : Option X) → o ≡ None → Rattle.std.specs.List.cons_option o [] ≡ []
          none_of None h = refl
          none_of (Some x) h = absurd (cc)

      same_requests : requests_in (said ++ s ∷ []) ≡ requests_in said
      same_requests = requests_more ∙ ap (λ l. requests_in said ++ l) (nothing_more moves_of no_moves) ∙ append-nil (requests_in said)

      same_responses : responses_in (said ++ s ∷ []) ≡ responses_in said
      same_responses = responses_more ∙ ap (λ l. responses_in said ++ l) (nothing_more kinds_of no_kinds) ∙ append-nil (responses_in said)

-- ---- what is said first

nothing_taken : (id : ℕ) → ¬ HasTaken [] id
nothing_taken id t = none t.front t.kinds t.back t.parts
  where
    none : (front : List Saying) (kinds : List Kind) (back : List Saying) → [] ≢ front ++ Takes kinds ∷ back
    none [] kinds back e = cc
    none (s ∷ front) kinds back e = cc

pub nothing_said : (words : Words) → words.requests.items ≡ [] → words.responses ≡ 0 → words.server ≡ [] → words.client ≡ [] → AreWords [] words
nothing_said words no_requests no_responses no_server no_client = record {
  requests = ap (map (λ moves. moves.items)) no_requests;
  responses = inl no_responses;
  server = λ id. ap (λ l. has l id) no_server;
  client = λ id. (λ h. let no = sym (ap (λ l. has l id) no_client) ∙ h in absurd (cc), λ t. absurd (nothing_taken id t));
}

-- ---- a Soft-Sync request

all_named : (kind : Kind) → is_named (record { reliable = true; lossy = true }) kind ≡ true
all_named Reliable = refl
all_named Lossy = refl

and_true : (b c : Bool) → c ≡ true → (b && c) ≡ b
and_true true c is = is
and_true false c is = refl

-- moves of any kind
all_moves : (id : ℕ) (moves : List Move) → names_id (record { reliable = true; lossy = true }) id moves ≡ moves_id id moves
all_moves id [] = refl
all_moves id (m ∷ moves) =
    ap (λ b. b || names_id (record { reliable = true; lossy = true }) id moves) (and_true (nat_eq id m.id) (is_named (record { reliable = true; lossy = true }) m.kind) (all_named m.kind))
    ∙ ap (λ b. nat_eq id m.id || b) (all_moves id moves)

or_false : (b : Bool) → (b || false) ≡ b
or_false true = refl
or_false false = refl

pub moved : (said : List Saying) (words new : Words) (moves : List Move) → map (λ m. m.items) new.requests.items ≡ map (λ m. m.items) words.requests.items ++ moves ∷ []
    → new.responses ≡ words.responses → ((id : ℕ) → has new.server id ≡ (has words.server id || names_id (record { reliable = true; lossy = true }) id moves)) → new.client ≡ words.client
    → AreWords said words → AreWords (said ++ Moves moves ∷ []) new
moved said words new moves requests responses server client are = record {
  requests = requests ∙ ap (λ l. l ++ moves ∷ []) are.requests ∙ sym (requests_more said (Moves moves));
  responses = subst (λ n. Counts n (length (responses_in (said ++ Moves moves ∷ [])))) (sym responses) (subst (λ r. Counts words.responses (length r)) (sym same_responses) are.responses);
  server = λ id.
      server id ∙ ap (λ b. b || names_id (record { reliable = true; lossy = true }) id moves) (are.server id) ∙ ap (λ b. list_any (moves_id id) (requests_in said) || b) (all_moves id moves ∙ sym (or_false (moves_id id moves)))
      ∙ sym (list_any-append (moves_id id) (requests_in said) (moves ∷ [])) ∙ ap (list_any (moves_id id)) (sym (requests_more said (Moves moves)));
  client = λ id. (
    λ h. taken_more said (Moves moves) id ((are.client id).0 (sym (ap (λ l. has l id) client) ∙ h)),
    λ t. elim (taken_parts said (Moves moves) id t) [
      | inl old ↦ ap (λ l. has l id) client ∙ (are.client id).1 old
      | inr now ↦ absurd (no_taking now.0 now.1)
    ],
  );
}
  where
    no_taking : (kinds : List Kind) → Moves moves ≢ Takes kinds
    no_taking kinds e = cc

    same_responses : responses_in (said ++ Moves moves ∷ []) ≡ responses_in said
    same_responses = responses_more said (Moves moves) ∙ append-nil (responses_in said)

-- ---- a Soft-Sync response

named_same : (named : Named) (kinds : List Kind) (id : ℕ) → ((kind : Kind) → is_named named kind ≡ names kinds kind) → (moves : List Move) → names_id named id moves ≡ takes_id kinds id moves
named_same named kinds id same [] = refl
named_same named kinds id same (m ∷ moves) =
    ap (λ b. (nat_eq id m.id && b) || names_id named id moves) (same m.kind) ∙ ap (λ b. (nat_eq id m.id && names kinds m.kind) || b) (named_same named kinds id same moves)

-- one response more
counts_more : (count n : ℕ) → Counts count n → Counts (min (count + 1) 18446744073709551615) (n + 1)
counts_more count n (inl is) = elim (cases_order (count + 1) 18446744073709551615) [
  | inl equal ↦ inl (omega (arith, is, equal))
  | inr (inl less) ↦ inl (omega (arith, is, less))
  | inr (inr more) ↦ inr (omega (arith, more), omega (arith, is, more))
]
counts_more count n (inr both) = inr (omega (arith, both.0), omega (arith, both.1))

-- what stands at a count
counted_at : {X : Type 0} (xs : List X) (count n : ℕ) → length xs < 2 ^ 63 → Counts count n → slice_get xs count ≡ slice_get xs n
counted_at xs count n few (inl is) = ap (slice_get xs) is
counted_at xs count n few (inr both) = slice_get_past xs count (omega (arith, both.0, few)) ∙ sym (slice_get_past xs n (omega (arith, both.1, few)))

module _ (said : List Saying) (words : Words) (kinds : List Kind) (are : AreWords said words) where
  -- the request with the response's number
  the_request : slice_get (requests_in said) (length (responses_in said)) ≡ option_map (λ m. m.items) (slice_get words.requests.items words.responses)
  the_request =
      let items = words.requests.items in
      let few : length (map (λ m. m.items) items) < 2 ^ 63 = omega (arith, length-map items (λ m. m.items), words.requests.ok.0, words.requests.ok.1, words.requests.small) in
      ap (λ l. slice_get l (length (responses_in said))) (sym are.requests) ∙ sym (counted_at (map (λ m. m.items) items) words.responses (length (responses_in said)) few are.responses) ∙ slice_get-map (λ m. m.items) items words.responses

  one_response : length (responses_in (said ++ Takes kinds ∷ [])) ≡ length (responses_in said) + 1
  one_response = ap length (responses_more said (Takes kinds)) ∙ length-append (responses_in said) (kinds ∷ [])

  same_requests : requests_in (said ++ Takes kinds ∷ []) ≡ requests_in said
  same_requests = requests_more said (Takes kinds) ∙ append-nil (requests_in said)

  kinds_same : (other : List Kind) → Takes kinds ≡ Takes other → kinds ≡ other
  kinds_same other e = cc

  taken_now : (id : ℕ) (moves : List Move) → slice_get (requests_in said) (length (responses_in said)) ≡ Some moves → takes_id kinds id moves ≡ true → HasTaken (said ++ Takes kinds ∷ []) id
  taken_now id moves request takes = record { front = said; kinds = kinds; back = []; parts = refl; moves = moves; request = request; takes = takes }

  taken_with : (new : Words) → new.requests ≡ words.requests → new.responses ≡ min (words.responses + 1) 18446744073709551615 → new.server ≡ words.server
      → ((id : ℕ) → (has new.client id ≡ true) ↔ HasTaken (said ++ Takes kinds ∷ []) id) → AreWords (said ++ Takes kinds ∷ []) new
  taken_with new requests responses server client = record {
    requests = ap (λ r. map (λ m. m.items) r.items) requests ∙ are.requests ∙ sym same_requests;
    responses = subst (λ n. Counts n (length (responses_in (said ++ Takes kinds ∷ [])))) (sym responses) (subst (Counts (min (words.responses + 1) 18446744073709551615)) (sym one_response) (counts_more words.responses (length (responses_in said)) are.responses));
    server = λ id. ap (λ l. has l id) server ∙ are.server id ∙ ap (list_any (moves_id id)) (sym same_requests);
    client = client;
  }

  moves_same : (a b : List Move) → Some a ≡ Some b → a ≡ b
  moves_same a b e = cc

  -- there is one
  pub taken : (new : Words) (found : Rattle.std.proofs.Common.Vec Move Rattle.std.proofs.Common.Global) (named : Named) → new.requests ≡ words.requests → new.responses ≡ min (words.responses + 1) 18446744073709551615 → new.server ≡ words.server
      → words.responses < length words.requests.items → found ≡ get_or words.requests.items words.responses found → ((kind : Kind) → is_named named kind ≡ names kinds kind)
      → ((id : ℕ) → has new.client id ≡ (has words.client id || names_id named id found.items)) → AreWords (said ++ Takes kinds ∷ []) new
  taken new found named requests responses server few is same client =
      let request : slice_get (requests_in said) (length (responses_in said)) ≡ Some found.items = the_request ∙ ap (option_map (λ m. m.items)) (slice_get-get_or words.requests.items words.responses found few ∙ ap Some (sym is)) in
      taken_with new requests responses server (λ id. (
        λ h. elim (either (has words.client id) (names_id named id found.items) (sym (client id) ∙ h)) [
          | inl old ↦ taken_more said (Takes kinds) id ((are.client id).0 old)
          | inr now ↦ taken_now id found.items request (sym (named_same named kinds id same found.items) ∙ now)
        ],
        λ t. client id ∙ elim (taken_parts said (Takes kinds) id t) as (λ _. (has words.client id || names_id named id found.items) ≡ true) [
          | inl old ↦ ap (λ b. b || names_id named id found.items) ((are.client id).1 old)
          | inr now ↦ or_true (has words.client id) (names_id named id found.items)
              (named_same named kinds id same found.items ∙ ap (λ k. takes_id k id found.items) (kinds_same now.0 now.1) ∙ ap (takes_id now.0 id) (moves_same found.items (now.2).0 (sym request ∙ (now.2).1)) ∙ (now.2).2)
        ],
      ))
    where
      either : (b c : Bool) → (b || c) ≡ true → (b ≡ true) ⊎ (c ≡ true)
      either true c h = inl refl
      either false c h = inr h

      or_true : (b c : Bool) → c ≡ true → (b || c) ≡ true
      or_true true c h = refl
      or_true false c h = h

  -- there is none
  pub none_taken : (new : Words) → new.requests ≡ words.requests → new.responses ≡ min (words.responses + 1) 18446744073709551615 → new.server ≡ words.server → new.client ≡ words.client
      → length words.requests.items ≤ words.responses → AreWords (said ++ Takes kinds ∷ []) new
  none_taken new requests responses server client past =
      let request : slice_get (requests_in said) (length (responses_in said)) ≡ None = the_request ∙ ap (option_map (λ m. m.items)) (slice_get_past words.requests.items words.responses past) in
      taken_with new requests responses server (λ id. (
        λ h. taken_more said (Takes kinds) id ((are.client id).0 (sym (ap (λ l. has l id) client) ∙ h)),
        λ t. ap (λ l. has l id) client ∙ elim (taken_parts said (Takes kinds) id t) as (λ _. has words.client id ≡ true) [
          | inl old ↦ (are.client id).1 old
          | inr now ↦ absurd (let e : None ≡ Some (now.2).0 = sym request ∙ (now.2).1 in cc)
        ],
      ))

-- ---- results

ok_is : {T E : Type 0} (r : Result T E) (b : Bool) → is_ok r ≡ b → (A : Type 0) → (b ≡ true → A) → OnOk r A
ok_is (Ok x) b is A f = f (sym is)
ok_is (Err e) b is A f = tt

pub on_pushed : {T E U F : Type 0} {A : Type 0} (r : Result T E) (q : Result U F) → is_ok r ≡ is_ok q → (is_ok q ≡ true → A) → OnOk r A
on_pushed {A = A} r q is f = ok_is r (is_ok q) is A f

abbrev pub VecOfMoves : Type 0
VecOfMoves = Rattle.std.proofs.Common.Vec Move Rattle.std.proofs.Common.Global

pub pushed : {T E : Type 0} (r : Result T E) (old new : List VecOfMoves) (last : VecOfMoves) (moves : List Move) → is_ok r ≡ true → new ≡ cond (is_ok r) (old ++ last ∷ []) old → last.items ≡ moves
    → map (λ m. m.items) new ≡ map (λ m. m.items) old ++ moves ∷ []
pushed r old new last moves ok is last_is =
    ap (map (λ m. m.items)) (is ∙ ap (λ b. cond b (old ++ last ∷ []) old) ok) ∙ map-append (λ m. m.items) old (last ∷ []) ∙ ap (λ l. map (λ m. m.items) old ++ l ∷ []) last_is

-- ---- what is said

pub quiet : (said : List Saying) (words : Words) (s : Saying) → s ≡ Nothing → AreWords said words → MaySay said s × AreWords (said ++ s ∷ []) words
quiet said words s is are = subst (λ x. MaySay said x × AreWords (said ++ x ∷ []) words) (sym is) (tt, no_word said Nothing words refl refl are)

pub quiet_words : (said : List Saying) (words : Words) (s : Saying) → s ≡ Nothing → AreWords said words → AreWords (said ++ s ∷ []) words
quiet_words said words s is are = (quiet said words s is are).1

pub data_said : (said : List Saying) (words : Words) (s : Saying) (side : Role) (id : ℕ) → s ≡ DataOf side id → ¬ HasWord side said id → AreWords said words → MaySay said s × AreWords (said ++ s ∷ []) words
data_said said words s side id is free are = subst (λ x. MaySay said x × AreWords (said ++ x ∷ []) words) (sym is) (free, no_word said (DataOf side id) words refl refl are)

-- no data stand behind a word with one saying more
pub keeps_more : (said : List Saying) (s : Saying) → KeepsWords said → MaySay said s → KeepsWords (said ++ s ∷ [])
keeps_more said s keeps may front side id back parts =
    elim (snoc said front s (DataOf side id) back parts) [
      | inl end ↦ subst (λ f. ¬ HasWord side f id) end.0 (subst (MaySay said) end.1 may)
      | inr more ↦ keeps front side id more.0 more.1
    ]

may_next : (said : List Saying) (s : Saying) (rest : List Saying) → KeepsWords (said ++ s ∷ rest) → MaySay said s
may_next said (DataOf side id) rest keeps = keeps said side id rest refl
may_next said (Moves moves) rest keeps = tt
may_next said (Takes kinds) rest keeps = tt
may_next said Nothing rest keeps = tt

-- what is not kept stays so
pub broken_by : (said : List Saying) (s : Saying) (rest : List Saying) → ¬ MaySay said s → ¬ KeepsWords (said ++ s ∷ rest)
broken_by said s rest late keeps = late (may_next said s rest keeps)

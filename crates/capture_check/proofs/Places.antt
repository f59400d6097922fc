-- The places of the datagrams that were given, and the entries that gave them.
use Rattle.std.proofs.Common.{◌≡◌, ℕ, ◌+◌, Bool, true, false, cond, List, [], ◌∷◌, ◌++◌, length, refl, sym, ap, ◌∙◌, append_assoc, append-nil, length-append, arith}
use Rattle.std.proofs.lemmas.List.Sums.{sum_by-cons}
use Rattle.std.specs.List.{count_by}
use Rattle.mt_base.specs.declared.kinds.Role.{Role}
use Rattle.mt_base.specs.declared.kinds.Role.TheVariants.{Server, Client}
use Rattle.mt_base.specs.declared.kinds.Kind.{Kind}
use Rattle.mt_base.specs.declared.kinds.Kind.TheVariants.{Reliable, Lossy}
use Rattle.capture_check.specs.declared.entry.Entry.{Entry}
use Rattle.capture_check.specs.declared.entry.Entry.TheVariants.{Issue, Open, Sent, Got, Main, Word, Out, In}
use Rattle.capture_check.specs.Numbers.{is_out, is_out_of}
use Rattle.capture_check.specs.GivenSoFar.{Given, places, given_of, with_entry, no_datagrams}

-- ---- how many entries pass a test

abbrev pub bit : Bool → ℕ
bit b = cond b 1 0

abbrev pub how_many : (Entry → Bool) → List Entry → ℕ
how_many test [] = 0
how_many test (entry ∷ rest) = bit (test entry) + how_many test rest

pub counted : (test : Entry → Bool) (xs : List Entry) → how_many test xs ≡ count_by test xs
counted test [] = refl
counted test (x ∷ xs) = ap (λ n. bit (test x) + n) (counted test xs) ∙ sym (sum_by-cons (λ e. bit (test e)) x xs)

-- ---- places

-- a place, if an entry has one
abbrev pub one : Bool → ℕ → List ℕ
one true at = at ∷ []
one false at = []

-- the places of a side's datagrams of a kind, where so many were given before
pub places_from : ℕ → Role → Kind → List Entry → List ℕ
places_from at side kind [] = []
places_from at side kind (entry ∷ rest) = one (is_out_of side kind entry) at ++ places_from (at + bit (is_out kind entry)) side kind rest

pub places_from-cons : (at : ℕ) (side : Role) (kind : Kind) (x : Entry) (xs : List Entry)
    → places_from at side kind (x ∷ xs) ≡ one (is_out_of side kind x) at ++ places_from (at + bit (is_out kind x)) side kind xs
unfolding places_from
places_from-cons at side kind x xs = refl

pub places_from-append : (at : ℕ) (side : Role) (kind : Kind) (xs ys : List Entry) → places_from at side kind (xs ++ ys) ≡ places_from at side kind xs ++ places_from (at + how_many (is_out kind) xs) side kind ys
unfolding places_from
places_from-append at side kind [] ys = let same : at ≡ at + 0 = omega arith in ap (λ n. places_from n side kind ys) same
places_from-append at side kind (x ∷ xs) ys =
    let here = one (is_out_of side kind x) at in
    let next : ℕ = at + bit (is_out kind x) in
    let same : next + how_many (is_out kind) xs ≡ at + (bit (is_out kind x) + how_many (is_out kind) xs) = omega arith in
    ap (λ l. here ++ l) (places_from-append next side kind xs ys ∙ ap (λ n. places_from next side kind xs ++ places_from n side kind ys) same)
    ∙ sym (append_assoc here (places_from next side kind xs) (places_from (at + (bit (is_out kind x) + how_many (is_out kind) xs)) side kind ys))

length-one : (b : Bool) (at : ℕ) → length (one b at) ≡ bit b
length-one true at = refl
length-one false at = refl

pub length-places_from : (at : ℕ) (side : Role) (kind : Kind) (xs : List Entry) → length (places_from at side kind xs) ≡ how_many (is_out_of side kind) xs
unfolding places_from
length-places_from at side kind [] = refl
length-places_from at side kind (x ∷ xs) =
    length-append (one (is_out_of side kind x) at) (places_from (at + bit (is_out kind x)) side kind xs)
    ∙ ap (λ n. n + length (places_from (at + bit (is_out kind x)) side kind xs)) (length-one (is_out_of side kind x) at)
    ∙ ap (λ n. bit (is_out_of side kind x) + n) (length-places_from (at + bit (is_out kind x)) side kind xs)

pub how_many-append : (test : Entry → Bool) (xs ys : List Entry) → how_many test (xs ++ ys) ≡ how_many test xs + how_many test ys
how_many-append test [] ys = omega arith
how_many-append test (x ∷ xs) ys = let ih = how_many-append test xs ys in omega arith

-- ---- both sides together

both_sides : (kind : Kind) (entry : Entry) → bit (is_out_of Server kind entry) + bit (is_out_of Client kind entry) ≡ bit (is_out kind entry)
both_sides kind (Issue id k cookie) = refl
both_sides kind (Open id name) = refl
both_sides kind (Sent side id message) = refl
both_sides kind (Got side id message) = refl
both_sides kind (Main side bytes) = refl
both_sides kind (Word side k id) = refl
both_sides Reliable (Out Server Reliable number datagram) = refl
both_sides Reliable (Out Server Lossy number datagram) = refl
both_sides Reliable (Out Client Reliable number datagram) = refl
both_sides Reliable (Out Client Lossy number datagram) = refl
both_sides Lossy (Out Server Reliable number datagram) = refl
both_sides Lossy (Out Server Lossy number datagram) = refl
both_sides Lossy (Out Client Reliable number datagram) = refl
both_sides Lossy (Out Client Lossy number datagram) = refl
both_sides kind (In side k number) = refl

all_sides : (kind : Kind) (xs : List Entry) → how_many (is_out_of Server kind) xs + how_many (is_out_of Client kind) xs ≡ how_many (is_out kind) xs
all_sides kind [] = refl
all_sides kind (x ∷ xs) = let ih = all_sides kind xs in let here = both_sides kind x in omega arith

-- ---- what stands for the entries

-- the datagrams that entries gave
pub given_by : List Entry → Given
given_by xs =
    record {
      server_reliable = places_from 0 Server Reliable xs;
      client_reliable = places_from 0 Client Reliable xs;
      server_lossy = places_from 0 Server Lossy xs;
      client_lossy = places_from 0 Client Lossy xs;
    }

pub places_by : (xs : List Entry) (side : Role) (kind : Kind) → places (given_by xs) side kind ≡ places_from 0 side kind xs
unfolding given_by
places_by xs Server Reliable = refl
places_by xs Client Reliable = refl
places_by xs Server Lossy = refl
places_by xs Client Lossy = refl

two_lengths : (kind : Kind) (xs : List Entry) → length (places_from 0 Server kind xs) + length (places_from 0 Client kind xs) ≡ how_many (is_out kind) xs
two_lengths kind xs =
    let s = length-places_from 0 Server kind xs in
    let c = length-places_from 0 Client kind xs in
    let all = all_sides kind xs in
    omega arith

pub given_of_by : (xs : List Entry) (kind : Kind) → given_of (given_by xs) kind ≡ how_many (is_out kind) xs
unfolding given_by
given_of_by xs Reliable = two_lengths Reliable xs
given_of_by xs Lossy = two_lengths Lossy xs

pub none_given : given_by [] ≡ no_datagrams
unfolding given_by places_from
none_given = refl

-- the places with one entry more
more : (side : Role) (kind : Kind) (xs : List Entry) (entry : Entry) → places_from 0 side kind (xs ++ entry ∷ []) ≡ places_from 0 side kind xs ++ one (is_out_of side kind entry) (how_many (is_out kind) xs)
unfolding places_from
more side kind xs entry =
    let at : 0 + how_many (is_out kind) xs ≡ how_many (is_out kind) xs = omega arith in
    places_from-append 0 side kind xs (entry ∷ [])
    ∙ ap (λ l. places_from 0 side kind xs ++ l) (append-nil (one (is_out_of side kind entry) (0 + how_many (is_out kind) xs)) ∙ ap (one (is_out_of side kind entry)) at)

same_four : (a b c d : List ℕ) (p q r s : List ℕ) → a ≡ p → b ≡ q → c ≡ r → d ≡ s
    → ◌≡◌ {A = Given} (record { server_reliable = a; client_reliable = b; server_lossy = c; client_lossy = d }) (record { server_reliable = p; client_reliable = q; server_lossy = r; client_lossy = s })
same_four a b c d p q r s ea eb ec ed =
    ap (λ x. record { server_reliable = x; client_reliable = b; server_lossy = c; client_lossy = d }) ea
    ∙ ap (λ x. record { server_reliable = p; client_reliable = x; server_lossy = c; client_lossy = d }) eb
    ∙ ap (λ x. record { server_reliable = p; client_reliable = q; server_lossy = x; client_lossy = d }) ec
    ∙ ap (λ x. record { server_reliable = p; client_reliable = q; server_lossy = r; client_lossy = x }) ed

-- no place more
still : (side : Role) (kind : Kind) (xs : List Entry) (entry : Entry) → is_out_of side kind entry ≡ false → places_from 0 side kind (xs ++ entry ∷ []) ≡ places_from 0 side kind xs
still side kind xs entry other =
    more side kind xs entry ∙ ap (λ b. places_from 0 side kind xs ++ one b (how_many (is_out kind) xs)) other
    ∙ append-nil (places_from 0 side kind xs)

-- one place more
grown : (side : Role) (kind : Kind) (xs : List Entry) (number : ℕ) (datagram : List ℕ) → is_out_of side kind (Out side kind number datagram) ≡ true
    → places_from 0 side kind xs ++ (length (places_from 0 Server kind xs) + length (places_from 0 Client kind xs)) ∷ [] ≡ places_from 0 side kind (xs ++ Out side kind number datagram ∷ [])
grown side kind xs number datagram is =
    ap (λ n. places_from 0 side kind xs ++ n ∷ []) (two_lengths kind xs)
    ∙ sym (more side kind xs (Out side kind number datagram) ∙ ap (λ b. places_from 0 side kind xs ++ one b (how_many (is_out kind) xs)) is)

-- an entry that gives no datagram
unmoved : (xs : List Entry) (entry : Entry) → is_out_of Server Reliable entry ≡ false → is_out_of Client Reliable entry ≡ false → is_out_of Server Lossy entry ≡ false → is_out_of Client Lossy entry ≡ false
    → given_by xs ≡ given_by (xs ++ entry ∷ [])
unfolding given_by
unmoved xs entry a b c d =
    same_four _ _ _ _ _ _ _ _ (sym (still Server Reliable xs entry a)) (sym (still Client Reliable xs entry b)) (sym (still Server Lossy xs entry c)) (sym (still Client Lossy xs entry d))

-- the datagrams with one entry more
pub one_more : (xs : List Entry) (entry : Entry) → with_entry (given_by xs) entry ≡ given_by (xs ++ entry ∷ [])
unfolding given_by
one_more xs (Out Server Reliable n d) =
    let e : Entry = Out Server Reliable n d in
    same_four _ _ _ _ _ _ _ _ (grown Server Reliable xs n d refl) (sym (still Client Reliable xs e refl)) (sym (still Server Lossy xs e refl)) (sym (still Client Lossy xs e refl))
one_more xs (Out Client Reliable n d) =
    let e : Entry = Out Client Reliable n d in
    same_four _ _ _ _ _ _ _ _ (sym (still Server Reliable xs e refl)) (grown Client Reliable xs n d refl) (sym (still Server Lossy xs e refl)) (sym (still Client Lossy xs e refl))
one_more xs (Out Server Lossy n d) =
    let e : Entry = Out Server Lossy n d in
    same_four _ _ _ _ _ _ _ _ (sym (still Server Reliable xs e refl)) (sym (still Client Reliable xs e refl)) (grown Server Lossy xs n d refl) (sym (still Client Lossy xs e refl))
one_more xs (Out Client Lossy n d) =
    let e : Entry = Out Client Lossy n d in
    same_four _ _ _ _ _ _ _ _ (sym (still Server Reliable xs e refl)) (sym (still Client Reliable xs e refl)) (sym (still Server Lossy xs e refl)) (grown Client Lossy xs n d refl)
one_more xs (Issue id k cookie) = unmoved xs (Issue id k cookie) refl refl refl refl
one_more xs (Open id name) = unmoved xs (Open id name) refl refl refl refl
one_more xs (Sent side id message) = unmoved xs (Sent side id message) refl refl refl refl
one_more xs (Got side id message) = unmoved xs (Got side id message) refl refl refl refl
one_more xs (Main side bytes) = unmoved xs (Main side bytes) refl refl refl refl
one_more xs (Word side k id) = unmoved xs (Word side k id) refl refl refl refl
one_more xs (In side k number) = unmoved xs (In side k number) refl refl refl refl

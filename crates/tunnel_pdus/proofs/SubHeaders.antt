-- Sub-headers: passed over one by one, to the header's end.
use Rattle.std.proofs.Common.{◌≡◌, inl, inr, ℕ, zero, suc, ◌+◌, ◌-◌, ◌<◌, ◌≤◌, Bool, true, false, ◌||◌, cond, ltb, List, [], ◌∷◌, ◌++◌, length, Result, Ok, Err, refl, sym, ap, ◌∙◌, subst, arith, append_assoc, length-append}
use Rattle.std.specs.List.{All}
use Rattle.std.proofs.lemmas.Bool.{lt-ltb, le-ltb, ltb-false}
use Rattle.std.proofs.lemmas.List.Elements.{All-head, All-tail}
use Rattle.mt_base.specs.Writing.{joined}
use Rattle.tunnel_pdus.specs.declared.part.TunnelReason.TheVariants as reason
use Rattle.tunnel_pdus.specs.declared.stop.Stop.{Stop}
use Rattle.mt_base.specs.Parts.{◌>>=◌}
use Rattle.tunnel_pdus.specs.Reading.{refused, byte, sub_header_at, sub_headers_within, sub_headers_at}
use Rattle.tunnel_pdus.specs.Layout.{IsSubHeader}
use Rattle.tunnel_pdus.specs.declared.stop.Stop.TheVariants as stop
use Rattle.tunnel_pdus.specs.Faults.{WrongSubHeader, sub_length, sub_type}
use Rattle.tunnel_pdus.proofs.Windows.{byte_of, byte_cut, bind_ok, guard_ok}

neither : (a b : Bool) → (a || b) ≡ false → (a ≡ false) × (b ≡ false)
neither true b h = (h, cc)
neither false b h = (refl, h)

-- a sub-header that is passed over has two bytes at least
pub sub_some : (at end : ℕ) (bytes : List ℕ) (n : ℕ) → sub_header_at at end bytes ≡ Ok n → 2 ≤ n
unfolding sub_header_at
sub_some at end bytes n h =
    let s = bind_ok (byte at bytes) _ n h in
    let g = guard_ok (ltb s.0 2 || ltb (end - at) s.0) (refused at reason.BadSubHeader) _ n s.2 in
    let t = bind_ok (byte (at + 1) bytes) _ n g.1 in
    let u = guard_ok (ltb 1 t.0) (refused at reason.BadSubHeader) (Ok s.0) n t.2 in
    let is : s.0 ≡ n = (let e = u.1 in cc) in
    subst (λ k. 2 ≤ k) is (ltb-false s.0 2 (neither (ltb s.0 2) (ltb (end - at) s.0) g.0).0)

same_bind : (r : Result ℕ Stop) (f g : ℕ → Result ℕ Stop) → ((n : ℕ) → r ≡ Ok n → f n ≡ g n) → (r >>= f) ≡ (r >>= g)
same_bind (Ok n) f g h = h n refl
same_bind (Err e) f g h = refl

-- it does not matter how many are enough
enough : (m k at end : ℕ) (bytes : List ℕ) → end ≤ at + m → end ≤ at + k → sub_headers_within m at end bytes ≡ sub_headers_within k at end bytes
unfolding sub_headers_within
enough zero zero at end bytes a b = refl
enough zero (suc k) at end bytes a b = rw (le-ltb at end (omega arith)) refl
enough (suc m) zero at end bytes a b = rw (le-ltb at end (omega arith)) refl
enough (suc m) (suc k) at end bytes a b =
    ap (λ r. cond (ltb at end) r (Ok at)) (same_bind (sub_header_at at end bytes) (λ n. sub_headers_within m (at + n) end bytes) (λ n. sub_headers_within k (at + n) end bytes)
    (λ n is. let some = sub_some at end bytes n is in enough m k (at + n) end bytes (omega (arith, some)) (omega (arith, some))))

-- at the header's end all are passed over
pub sub_done : (at end : ℕ) (bytes : List ℕ) → end ≤ at → sub_headers_at at end bytes ≡ Ok at
unfolding sub_headers_at sub_headers_within
sub_done at end bytes h = let e : end - at ≡ zero = omega arith in ap (λ n. sub_headers_within n at end bytes) e

-- before it the next one is looked at
within_step : (m at end : ℕ) (bytes : List ℕ) → at < end → sub_headers_within (suc m) at end bytes ≡ (sub_header_at at end bytes >>= λ n. sub_headers_within m (at + n) end bytes)
unfolding sub_headers_within
within_step m at end bytes h = ap (λ t. cond t (sub_header_at at end bytes >>= λ n. sub_headers_within m (at + n) end bytes) (Ok at)) (lt-ltb at end h)

first_step : (at end : ℕ) (bytes : List ℕ) → at < end → sub_headers_at at end bytes ≡ (sub_header_at at end bytes >>= λ n. sub_headers_within (end - at - 1) (at + n) end bytes)
unfolding sub_headers_at
first_step at end bytes h =
    let e : end - at ≡ suc (end - at - 1) = omega arith in
    ap (λ m. sub_headers_within m at end bytes) e ∙ within_step (end - at - 1) at end bytes h

pub sub_pass : (at end : ℕ) (bytes : List ℕ) (n : ℕ) → at < end → sub_header_at at end bytes ≡ Ok n → sub_headers_at at end bytes ≡ sub_headers_at (at + n) end bytes
unfolding sub_headers_at
sub_pass at end bytes n h is =
    let some = sub_some at end bytes n is in
    first_step at end bytes h ∙ ap (λ r. r >>= λ k. sub_headers_within (end - at - 1) (at + k) end bytes) is
    ∙ enough (end - at - 1) (end - (at + n)) (at + n) end bytes (omega (arith, some)) (omega (arith, some))

pub sub_stop : (at end : ℕ) (bytes : List ℕ) (e : Stop) → at < end → sub_header_at at end bytes ≡ Err e → sub_headers_at at end bytes ≡ Err e
sub_stop at end bytes e h is = first_step at end bytes h ∙ ap (λ r. r >>= λ k. sub_headers_within (end - at - 1) (at + k) end bytes) is

-- a sub-header is passed over by its first two bytes
pub sub_reads : (front rest bytes : List ℕ) (at end n type : ℕ) → bytes ≡ front ++ (n ∷ type ∷ rest) → length front ≡ at → type < 2 → 2 ≤ n → at + n ≤ end → sub_header_at at end bytes ≡ Ok n
unfolding sub_header_at
sub_reads front rest bytes at end n type is place known some fits =
    rw (
      byte_of front n (type ∷ rest) bytes at is place,
      le-ltb n 2 some,
      le-ltb (end - at) n (omega arith),
      byte_of (front ++ (n ∷ [])) type rest bytes (at + 1) (is ∙ sym (append_assoc front (n ∷ []) (type ∷ rest))) (omega (arith, length-append front (n ∷ []))),
      le-ltb 1 type (omega arith),
    ) refl

-- its type isn't there yet
pub sub_type_cut : (front rest bytes : List ℕ) (at end n : ℕ) → bytes ≡ front ++ (n ∷ rest) → length front ≡ at → 2 ≤ n → at + n ≤ end → length bytes < at + 1 + 1 → sub_header_at at end bytes ≡ Err (stop.More (at + 1 + 1))
unfolding sub_header_at
sub_type_cut front rest bytes at end n is place some fits few =
    rw (byte_of front n rest bytes at is place, le-ltb n 2 some, le-ltb (end - at) n (omega arith), byte_cut bytes (at + 1) few) refl

-- its length isn't there yet
pub sub_length_cut : (bytes : List ℕ) (at end : ℕ) → length bytes < at + 1 → sub_header_at at end bytes ≡ Err (stop.More (at + 1))
unfolding sub_header_at
sub_length_cut bytes at end few = rw (byte_cut bytes at few) refl

or_true : (b : Bool) → (b || true) ≡ true
or_true true = refl
or_true false = refl

-- it is wrong
pub sub_wrong : (front rest bytes : List ℕ) (at end : ℕ) → WrongSubHeader (end - at) rest → bytes ≡ front ++ rest → length front ≡ at → sub_header_at at end bytes ≡ Err (refused at reason.BadSubHeader)
unfolding sub_header_at
sub_wrong front rest bytes at end (sub_length n after is (inl few)) whole place =
    rw (byte_of front n after bytes at (whole ∙ ap (λ t. front ++ t) is) place, lt-ltb n 2 few) refl
sub_wrong front rest bytes at end (sub_length n after is (inr more)) whole place =
    rw (byte_of front n after bytes at (whole ∙ ap (λ t. front ++ t) is) place, lt-ltb (end - at) n more, or_true (ltb n 2)) refl
sub_wrong front rest bytes at end (sub_type n type after is some fits unknown) whole place =
    let first : bytes ≡ front ++ (n ∷ type ∷ after) = whole ∙ ap (λ t. front ++ t) is in
    rw (
      byte_of front n (type ∷ after) bytes at first place,
      le-ltb n 2 some,
      le-ltb (end - at) n fits,
      byte_of (front ++ (n ∷ [])) type after bytes (at + 1) (first ∙ sym (append_assoc front (n ∷ []) (type ∷ after))) (omega (arith, length-append front (n ∷ []))),
      lt-ltb 1 type unknown,
    ) refl

-- sub-headers that keep their rule are passed over
pub subs_pass : (subs : List (List ℕ)) → All IsSubHeader subs → (front rest bytes : List ℕ) (at end : ℕ) → bytes ≡ front ++ (joined subs ++ rest) → length front ≡ at
    → at + length (joined subs) ≤ end → sub_headers_at at end bytes ≡ sub_headers_at (at + length (joined subs)) end bytes
subs_pass [] good front rest bytes at end is place fits = let e : at ≡ at + 0 = omega arith in ap (λ n. sub_headers_at n end bytes) e
subs_pass (sub ∷ subs) good front rest bytes at end is place fits =
    let s = All-head IsSubHeader sub subs good in
    let n = length s.rest + 2 in
    let long : length sub ≡ n = omega (arith, ap length s.bytes_are) in
    let all = length-append sub (joined subs) in
    let first : bytes ≡ front ++ (n ∷ s.type ∷ (s.rest ++ (joined subs ++ rest))) = is ∙ ap (λ t. front ++ t) (append_assoc sub (joined subs) rest ∙ ap (λ t. t ++ (joined subs ++ rest)) s.bytes_are) in
    let one = sub_reads front (s.rest ++ (joined subs ++ rest)) bytes at end n s.type first place s.known (omega arith) (omega arith) in
    let behind : bytes ≡ (front ++ sub) ++ (joined subs ++ rest) = is ∙ ap (λ t. front ++ t) (append_assoc sub (joined subs) rest) ∙ sym (append_assoc front sub (joined subs ++ rest)) in
    let others = subs_pass subs (All-tail IsSubHeader sub subs good) (front ++ sub) rest bytes (at + n) end behind (omega (arith, length-append front sub)) (omega arith) in
    let place_is : at + n + length (joined subs) ≡ at + length (sub ++ joined subs) = omega arith in
    sub_pass at end bytes n (omega arith) one ∙ others ∙ ap (λ m. sub_headers_at m end bytes) place_is

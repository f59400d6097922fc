-- Bytes of a stream that end no value but with the last of them.
use Rattle.std.proofs.Common.{◌≡◌, ℕ, ◌<◌, cond, List, [], ◌∷◌, ◌++◌, length, append-nil, append_assoc, length-append, None, refl, sym, ap, subst, ◌∙◌, is_some, arith}
use Rattle.std.specs.List.{fold}
use Rattle.mt_base.specs.declared.kinds.Role.{Role}
use Rattle.tunnel_pdus.specs.Reading.{frame_reading, reading}
use Rattle.end_calls.specs.Calls.{after_bytes}
use Rattle.end_calls.specs.Streams.{Past, main_reads, tunnel_reads, with_main, with_tunnel}
use Rattle.end_reader.specs.Wanting.{GoesOn}

-- the past with these bytes of the frame under way
abbrev pub with_bytes : Past → List ℕ → Past
with_bytes p bytes = record p { main = record { at = p.main.at; bytes = bytes } }

one_byte : (role : Role) (p : Past) (byte : ℕ) → p.broken ≡ None → with_main role p byte ≡ main_reads role (p.main.bytes ++ byte ∷ []) (frame_reading (p.main.bytes ++ byte ∷ [])) p
unfolding with_main
one_byte role p byte fine =
    ap (λ o. cond (is_some o) p (main_reads role (p.main.bytes ++ byte ∷ []) (frame_reading (p.main.bytes ++ byte ∷ [])) p)) fine

after_two : (role : Role) (p : Past) (xs ys : List ℕ) → after_bytes role p (xs ++ ys) ≡ after_bytes role (after_bytes role p xs) ys
after_two role p [] ys = refl
after_two role p (x ∷ xs) ys = after_two role (with_main role p x) xs ys

-- the frame under way goes on
pub goes_on : (role : Role) (p : Past) (need : ℕ) (xs : List ℕ) → p.broken ≡ None → GoesOn frame_reading p.main.bytes need → length (p.main.bytes ++ xs) < need → after_bytes role p xs ≡ with_bytes p (p.main.bytes ++ xs)
goes_on role p need [] fine on few = ap (with_bytes p) (sym (append-nil p.main.bytes))
goes_on role p need (x ∷ xs) fine on few =
    let bytes = p.main.bytes in
    let all : (bytes ++ x ∷ []) ++ xs ≡ bytes ++ x ∷ xs = append_assoc bytes (x ∷ []) xs in
    let first : length (bytes ++ x ∷ []) < need = omega (arith, few, length-append bytes (x ∷ xs), length-append bytes (x ∷ [])) in
    let step : with_main role p x ≡ with_bytes p (bytes ++ x ∷ []) = one_byte role p x fine ∙ ap (λ r. main_reads role (bytes ++ x ∷ []) r p) (on (x ∷ []) first) in
    let on_too : GoesOn frame_reading (bytes ++ x ∷ []) need = λ more h. ap frame_reading (append_assoc bytes (x ∷ []) more) ∙ on (x ∷ more) (subst (λ t. length t < need) (append_assoc bytes (x ∷ []) more) h) in
    ap (λ q. after_bytes role q xs) step
    ∙ goes_on role (with_bytes p (bytes ++ x ∷ [])) need xs fine on_too (subst (λ t. length t < need) (sym all) few)
    ∙ ap (with_bytes p) all

-- up to the last of them, which may end it
pub ends : (role : Role) (p : Past) (need : ℕ) (ys : List ℕ) (z : ℕ) → p.broken ≡ None → GoesOn frame_reading p.main.bytes need → length (p.main.bytes ++ ys) < need
    → after_bytes role p (ys ++ z ∷ []) ≡ main_reads role (p.main.bytes ++ (ys ++ z ∷ [])) (frame_reading (p.main.bytes ++ (ys ++ z ∷ []))) (with_bytes p (p.main.bytes ++ ys))
ends role p need ys z fine on few =
    let bytes = p.main.bytes in
    let before = with_bytes p (bytes ++ ys) in
    after_two role p ys (z ∷ []) ∙ ap (λ q. with_main role q z) (goes_on role p need ys fine on few) ∙ one_byte role before z fine
    ∙ ap (λ b. main_reads role b (frame_reading b) before) (append_assoc bytes ys (z ∷ []))

-- ---- the same of the stream of the reliable link

-- the past with these bytes of the tunnel PDU under way
abbrev pub with_pulled : Past → List ℕ → Past
with_pulled p bytes = record p { tunnel = record { at = p.tunnel.at; bytes = bytes } }

one_pulled : (role : Role) (p : Past) (byte : ℕ) → p.broken ≡ None → with_tunnel role p byte ≡ tunnel_reads role (p.tunnel.bytes ++ byte ∷ []) (reading (p.tunnel.bytes ++ byte ∷ [])) p
unfolding with_tunnel
one_pulled role p byte fine =
    ap (λ o. cond (is_some o) p (tunnel_reads role (p.tunnel.bytes ++ byte ∷ []) (reading (p.tunnel.bytes ++ byte ∷ [])) p)) fine

run_two : (role : Role) (p : Past) (xs ys : List ℕ) → fold (with_tunnel role) p (xs ++ ys) ≡ fold (with_tunnel role) (fold (with_tunnel role) p xs) ys
run_two role p [] ys = refl
run_two role p (x ∷ xs) ys = run_two role (with_tunnel role p x) xs ys

pulls_on : (role : Role) (p : Past) (need : ℕ) (xs : List ℕ) → p.broken ≡ None → GoesOn reading p.tunnel.bytes need → length (p.tunnel.bytes ++ xs) < need → fold (with_tunnel role) p xs ≡ with_pulled p (p.tunnel.bytes ++ xs)
pulls_on role p need [] fine on few = ap (with_pulled p) (sym (append-nil p.tunnel.bytes))
pulls_on role p need (x ∷ xs) fine on few =
    let bytes = p.tunnel.bytes in
    let all : (bytes ++ x ∷ []) ++ xs ≡ bytes ++ x ∷ xs = append_assoc bytes (x ∷ []) xs in
    let first : length (bytes ++ x ∷ []) < need = omega (arith, few, length-append bytes (x ∷ xs), length-append bytes (x ∷ [])) in
    let step : with_tunnel role p x ≡ with_pulled p (bytes ++ x ∷ []) = one_pulled role p x fine ∙ ap (λ r. tunnel_reads role (bytes ++ x ∷ []) r p) (on (x ∷ []) first) in
    let on_too : GoesOn reading (bytes ++ x ∷ []) need = λ more h. ap reading (append_assoc bytes (x ∷ []) more) ∙ on (x ∷ more) (subst (λ t. length t < need) (append_assoc bytes (x ∷ []) more) h) in
    ap (λ q. fold (with_tunnel role) q xs) step
    ∙ pulls_on role (with_pulled p (bytes ++ x ∷ [])) need xs fine on_too (subst (λ t. length t < need) (sym all) few)
    ∙ ap (with_pulled p) all

pub pull_ends : (role : Role) (p : Past) (need : ℕ) (ys : List ℕ) (z : ℕ) → p.broken ≡ None → GoesOn reading p.tunnel.bytes need → length (p.tunnel.bytes ++ ys) < need
    → fold (with_tunnel role) p (ys ++ z ∷ []) ≡ tunnel_reads role (p.tunnel.bytes ++ (ys ++ z ∷ [])) (reading (p.tunnel.bytes ++ (ys ++ z ∷ []))) (with_pulled p (p.tunnel.bytes ++ ys))
pull_ends role p need ys z fine on few =
    let bytes = p.tunnel.bytes in
    let before = with_pulled p (bytes ++ ys) in
    run_two role p ys (z ∷ []) ∙ ap (λ q. with_tunnel role q z) (pulls_on role p need ys fine on few) ∙ one_pulled role before z fine
    ∙ ap (λ b. tunnel_reads role b (reading b) before) (append_assoc bytes ys (z ∷ []))

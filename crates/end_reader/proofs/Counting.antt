-- How many bytes of the main stream are taken, call by call.
use Rattle.std.proofs.Common.{◌≡◌, ◌≢◌, ℕ, zero, suc, ◌+◌, ◌<◌, ◌≤◌, Bool, true, false, ◌&&◌, ◌||◌, cond, is_some, List, [], ◌∷◌, length, take, drop, Some, None, refl, ap, ◌∙◌, arith}
use Rattle.mt_base.specs.declared.kinds.Role.{Role}
use Rattle.end_calls.specs.Calls.{after_bytes}
use Rattle.end_calls.specs.Stops.{Outset, count_from, is_empty, is_stopped}
use Rattle.end_calls.specs.Streams.{Past, with_main}
use Rattle.end_calls.specs.declared.fault.Fault.{Fault}
use Rattle.end_calls.proofs.Running.{broken_bytes}
use Rattle.end_reader.specs.Taking.{OneFrame}

abbrev is_held : Role → Outset → Bool → Past → Bool
is_held role outset is_first p = (is_first || is_empty p.main.bytes) && is_stopped role outset p

-- one byte, where the end isn't broken
one_count : (role : Role) (outset : Outset) (is_first : Bool) (p : Past) (byte : ℕ) (bytes : List ℕ) → p.broken ≡ None
    → count_from role outset is_first p (byte ∷ bytes) ≡ cond (is_held role outset is_first p) 0 (1 + count_from role outset false (with_main role p byte) bytes)
one_count role outset is_first p byte bytes fine =
    ap (λ o. cond (cond (is_some o) is_first (is_held role outset is_first p)) 0 (1 + count_from role outset false (with_main role p byte) bytes)) fine

pub stopped : (role : Role) (outset : Outset) (is_first : Bool) (p : Past) (bytes : List ℕ) → p.broken ≡ None → is_held role outset is_first p ≡ true → count_from role outset is_first p bytes ≡ 0
stopped role outset is_first p [] fine held = refl
stopped role outset is_first p (byte ∷ bytes) fine held =
    one_count role outset is_first p byte bytes fine ∙ ap (λ b. cond b 0 (1 + count_from role outset false (with_main role p byte) bytes)) held

some_not_empty : (bytes : List ℕ) → bytes ≢ [] → is_empty bytes ≡ false
some_not_empty [] h = absurd (h refl)
some_not_empty (byte ∷ bytes) h = refl

pub counted : (role : Role) (outset : Outset) (is_first : Bool) (p : Past) (bytes : List ℕ) (count : ℕ) → p.broken ≡ None → 0 < count → count ≤ length bytes → OneFrame role p bytes count → is_held role outset is_first p ≡ false
    → count_from role outset is_first p bytes ≡ count + count_from role outset false (after_bytes role p (take count bytes)) (drop count bytes)
counted role outset is_first p bytes zero fine some within one held = absurd (omega (arith, some))
counted role outset is_first p [] (suc most) fine some within one held = absurd (omega (arith, within))
counted role outset is_first p (byte ∷ bytes) (suc zero) fine some within one held =
    one_count role outset is_first p byte bytes fine ∙ ap (λ b. cond b 0 (1 + count_from role outset false (with_main role p byte) bytes)) held
counted role outset is_first p (byte ∷ bytes) (suc (suc most)) fine some within one held =
    let next = with_main role p byte in
    let first = one 1 (omega arith) (omega arith) in
    let held_next : is_held role outset false next ≡ false = ap (λ b. b && is_stopped role outset next) (some_not_empty next.main.bytes first.1) in
    let deeper = counted role outset false next bytes (suc most) first.0 (omega arith) (omega (arith, within)) (λ m h k. one (suc m) (omega arith) (omega (arith, k))) held_next in
    one_count role outset is_first p byte bytes fine ∙ ap (λ b. cond b 0 (1 + count_from role outset false next bytes)) held ∙ omega (arith, deeper)

pub all_count : (role : Role) (outset : Outset) (p : Past) (bytes : List ℕ) (why : Fault) → p.broken ≡ Some why → count_from role outset false p bytes ≡ length bytes
all_count role outset p [] why e = refl
all_count role outset p (byte ∷ bytes) why e =
    let rest = count_from role outset false (with_main role p byte) bytes in
    let same : with_main role p byte ≡ p = broken_bytes role p why (byte ∷ []) e in
    let one : count_from role outset false p (byte ∷ bytes) ≡ 1 + rest = ap (λ o. cond (cond (is_some o) false (is_held role outset false p)) 0 (1 + rest)) e in
    one ∙ ap (λ q. 1 + count_from role outset false q bytes) same ∙ omega (arith, all_count role outset p bytes why e)

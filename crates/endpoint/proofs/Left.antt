-- What waits for a link.
use Rattle.std.proofs.Common.{◌≡◌, ℕ, List, [], ◌∷◌, ◌++◌, length, refl, sym, ap, subst, ◌∙◌, arith, append-nil, append_assoc}
use Rattle.std.specs.List.{flat_map}
use Rattle.std.proofs.lemmas.List.{append_cancel_left}
use Rattle.std.proofs.lemmas.Grind.{flat_map-append}
use Rattle.mt_endpoint.specs.Acts.{Drawn}
use Rattle.mt_endpoint.specs.Writing.{tunneled}
use Rattle.end_session.specs.Standing.{IsLeft}

-- what waits behind more that is written: what waited, and its bytes
pub waits_more : (before now gone : List Drawn) (more : List Drawn) (waited waits : List ℕ) → now ≡ before ++ more → IsLeft before gone waited → IsLeft now gone waits → waits ≡ waited ++ flat_map tunneled more
waits_more before now gone more waited waits is old new =
    let rest : new.rest ≡ old.rest ++ more = append_cancel_left gone new.rest (old.rest ++ more) (sym new.rest_is ∙ is ∙ ap (λ w. w ++ more) old.rest_is ∙ append_assoc gone old.rest more) in
    new.bytes_are ∙ ap (flat_map tunneled) rest ∙ flat_map-append tunneled old.rest more ∙ ap (λ b. b ++ flat_map tunneled more) (sym old.bytes_are)

-- nothing waits behind nothing more
pub none_waits : (before now gone : List Drawn) (more : List Drawn) (waited waits : List ℕ) → now ≡ before ++ more → more ≡ [] → waited ≡ [] → IsLeft before gone waited → IsLeft now gone waits → waits ≡ []
none_waits before now gone more waited waits is none empty old new =
    waits_more before now gone more waited waits is old new ∙ ap (λ b. b ++ flat_map tunneled more) empty ∙ ap (flat_map tunneled) none

-- nor where all that is written was handed out
pub none_left : (written : List Drawn) (waits : List ℕ) → IsLeft written written waits → waits ≡ []
none_left written waits left = left.bytes_are ∙ ap (flat_map tunneled) (append_cancel_left written left.rest [] (sym left.rest_is ∙ sym (append-nil written)))

none_rest : (rest : List Drawn) → flat_map tunneled rest ≡ [] → rest ≡ []
none_rest [] h = refl
none_rest (drawn ∷ rest) h = absurd (omega (arith, ap length h))

-- nor where nothing waited, and all that is written more was handed out
pub nothing_left : (before now gone after more : List Drawn) (waited waits : List ℕ) → now ≡ before ++ more → after ≡ gone ++ more → waited ≡ [] → IsLeft before gone waited → IsLeft now after waits → waits ≡ []
nothing_left before now gone after more waited waits now_is after_is none old new =
    let empty : old.rest ≡ [] = none_rest old.rest (sym old.bytes_are ∙ none) in
    let all : before ≡ gone = old.rest_is ∙ ap (λ r. gone ++ r) empty ∙ append-nil gone in
    none_left now waits (subst (λ x. IsLeft now x waits) (after_is ∙ ap (λ x. x ++ more) (sym all) ∙ sym now_is) new)

-- Lemmas on the cutting of contents into pieces: a content has one.
use Rattle.std.proofs.Common.{◌≡◌, ℕ, ◌≤◌, List, [], ◌∷◌, ◌++◌, length, map, All, refl, sym, ap, ◌∙◌, arith}
use Rattle.std.specs.Prelude.{flat_map}
use Rattle.std.specs.List.{concat}
use Rattle.std.proofs.lemmas.List.{append-nil, length-append}
use Rattle.std.proofs.lemmas.List.Elements.{All-head, All-tail}
use Rattle.file_messages.specs.Files.{Message, File, Carried, messages_of, file_of}
use Rattle.file_messages.specs.Written.{AreFull, IsInFull, AreWritten}

same_fronts : (xs ys us vs : List ℕ) → length xs ≡ length ys → xs ++ us ≡ ys ++ vs → (xs ≡ ys) × (us ≡ vs)
same_fronts [] [] us vs l e = (refl, e)
same_fronts [] (y ∷ ys) us vs l e = absurd (omega (arith, l))
same_fronts (x ∷ xs) [] us vs l e = absurd (omega (arith, l))
same_fronts (x ∷ xs) (y ∷ ys) us vs l e =
    let both : (x ≡ y) × (xs ++ us ≡ ys ++ vs) = (cc, cc) in
    let rest = same_fronts xs ys us vs (omega (arith, l)) both.1 in
    (ap (λ t. t ∷ xs) both.0 ∙ ap (λ t. y ∷ t) rest.0, rest.1)

some_bytes : (p : List ℕ) (ps : List (List ℕ)) → AreFull (p ∷ ps) → 1 ≤ length (concat (p ∷ ps))
some_bytes p [] h = let l = length-append p [] in let some = h.0 in omega (arith, l, some)
some_bytes p (q ∷ ps) h = let l = length-append p (concat (q ∷ ps)) in let full = h.0 in omega (arith, l, full)

one_cut : (ps qs : List (List ℕ)) → AreFull ps → AreFull qs → concat ps ≡ concat qs → ps ≡ qs
one_cut [] [] h k e = refl
one_cut [] (q ∷ qs) h k e = let l = ap length e in let some = some_bytes q qs k in absurd (omega (arith, l, some))
one_cut (p ∷ ps) [] h k e = let l = ap length e in let some = some_bytes p ps h in absurd (omega (arith, l, some))
one_cut (p ∷ []) (q ∷ []) h k e = ap (λ t. t ∷ []) (sym (append-nil p) ∙ e ∙ append-nil q)
one_cut (p ∷ []) (q ∷ r ∷ qs) h k e =
    let l = ap length e in
    let m = length-append p [] in
    let n = length-append q (concat (r ∷ qs)) in
    let few = h.1 in
    let full = k.0 in
    let some = some_bytes r qs k.1 in
    absurd (omega (arith, l, m, n, few, full, some))
one_cut (p ∷ r ∷ ps) (q ∷ []) h k e =
    let l = ap length e in
    let m = length-append q [] in
    let n = length-append p (concat (r ∷ ps)) in
    let few = k.1 in
    let full = h.0 in
    let some = some_bytes r ps h.1 in
    absurd (omega (arith, l, m, n, few, full, some))
one_cut (p ∷ r ∷ ps) (q ∷ s ∷ qs) h k e =
    let parts = same_fronts p q (concat (r ∷ ps)) (concat (s ∷ qs)) (h.0 ∙ sym k.0) e in
    ap (λ t. t ∷ r ∷ ps) parts.0 ∙ ap (λ t. q ∷ t) (one_cut (r ∷ ps) (s ∷ qs) h.1 k.1 parts.1)

abbrev carried_as : List ℕ → List (List ℕ) → Carried
carried_as name pieces = record { name = name; pieces = pieces }

one_carried : (c d : Carried) → IsInFull c → IsInFull d → file_of c ≡ file_of d → c ≡ d
one_carried c d h k e =
    let names : c.name ≡ d.name = ap (λ (f : File). f.name) e in
    let pieces : c.pieces ≡ d.pieces = one_cut c.pieces d.pieces h.1 k.1 (ap (λ (f : File). f.content) e) in
    ap (λ t. carried_as t c.pieces) names ∙ ap (carried_as d.name) pieces

all_carried : (cs ds : List Carried) → All IsInFull cs → All IsInFull ds → map file_of cs ≡ map file_of ds → cs ≡ ds
all_carried [] [] h k e = refl
all_carried [] (d ∷ ds) h k e = cc
all_carried (c ∷ cs) [] h k e = cc
all_carried (c ∷ cs) (d ∷ ds) h k e =
    let both : (file_of c ≡ file_of d) × (map file_of cs ≡ map file_of ds) = (cc, cc) in
    let first = one_carried c d (All-head IsInFull c cs h) (All-head IsInFull d ds k) both.0 in
    let rest = all_carried cs ds (All-tail IsInFull c cs h) (All-tail IsInFull d ds k) both.1 in
    ap (λ t. t ∷ cs) first ∙ ap (λ t. d ∷ t) rest

pub one_writing : (ms ns : List Message) (fs : List File) → AreWritten ms fs → AreWritten ns fs → ms ≡ ns
one_writing ms ns fs w v =
    let same = all_carried w.carried v.carried w.are_good v.are_good (sym w.files_are ∙ v.files_are) in
    w.messages_are ∙ ap (λ t. flat_map messages_of t ++ ([] ∷ [])) same ∙ sym v.messages_are

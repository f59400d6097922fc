-- On the reliable link a client asks for its tunnel once, and a server answers once; where it opened the
-- tunnel it answered 0.
use Rattle.std.proofs.Common.{◌≡◌, ◌⊎◌, inl, inr, ℕ, ◌+◌, ◌≤◌, Bool, true, false, ◌||◌, List, [], ◌∷◌, ◌++◌, length, Option, Some, None, is_some, refl, sym, ap, subst, ◌∙◌, append-nil, arith, length-append}
use Rattle.std.specs.Option.{option_or}
use Rattle.mt_base.specs.declared.kinds.Kind.TheVariants.{Reliable, Lossy}
use Rattle.mt_base.specs.declared.kinds.Role.TheVariants.{Server, Client}
use Rattle.mt_base.specs.Trace.{Trace, Start, ◌▷◌}
use Rattle.tunnel_cookies.specs.declared.entry.Verdict.TheVariants as verdict
use Rattle.mt_endpoint.specs.Acts.{Act, Draws, Judges, Drawn, CreateAsked, CreateAnswered, Nothing, Carried}
use Rattle.mt_endpoint.specs.Tunnels.{is_attached, attaches, is_silent, silence, silence_in, answer, answer_in, was_opened, opens}
use Rattle.mt_endpoint.specs.Writing.{create_code, adds, into, carried}
use Rattle.mt_endpoint.specs.World.{drawn_in, draws}
use Rattle.mt_endpoint.specs.Alone.{IsAct, EndOfActs}
use Rattle.mt_endpoint.specs.Orders.{is_among}
use Rattle.mt_endpoint.proofs.Telling.{either}
use Rattle.mt_endpoint.proofs.Known.{among-append, or_front}
use Rattle.mt_endpoint.proofs.Filling.{AllFor, Fills, nothing, asks, answers, carries, fills_what}

-- the create requests and the codes of answers among tunnel PDUs
abbrev pub askings : List Drawn → List ℕ
askings [] = []
askings (CreateAsked id cookie ∷ xs) = id ∷ askings xs
askings (CreateAnswered hr ∷ xs) = askings xs
askings (Nothing ∷ xs) = askings xs
askings (Carried bytes pdu ∷ xs) = askings xs

abbrev pub codes : List Drawn → List ℕ
codes [] = []
codes (CreateAsked id cookie ∷ xs) = codes xs
codes (CreateAnswered hr ∷ xs) = hr ∷ codes xs
codes (Nothing ∷ xs) = codes xs
codes (Carried bytes pdu ∷ xs) = codes xs

pub askings-append : (xs ys : List Drawn) → askings (xs ++ ys) ≡ askings xs ++ askings ys
askings-append [] ys = refl
askings-append (CreateAsked id cookie ∷ xs) ys = ap (λ l. id ∷ l) (askings-append xs ys)
askings-append (CreateAnswered hr ∷ xs) ys = askings-append xs ys
askings-append (Nothing ∷ xs) ys = askings-append xs ys
askings-append (Carried bytes pdu ∷ xs) ys = askings-append xs ys

pub codes-append : (xs ys : List Drawn) → codes (xs ++ ys) ≡ codes xs ++ codes ys
codes-append [] ys = refl
codes-append (CreateAsked id cookie ∷ xs) ys = codes-append xs ys
codes-append (CreateAnswered hr ∷ xs) ys = ap (λ l. hr ∷ l) (codes-append xs ys)
codes-append (Nothing ∷ xs) ys = codes-append xs ys
codes-append (Carried bytes pdu ∷ xs) ys = codes-append xs ys

data_asks_none : (id : ℕ) (xs : List Drawn) → AllFor id xs → askings xs ≡ []
data_asks_none id [] h = refl
data_asks_none id (CreateAsked made cookie ∷ xs) h = absurd h
data_asks_none id (CreateAnswered hr ∷ xs) h = absurd h
data_asks_none id (Nothing ∷ xs) h = absurd h
data_asks_none id (Carried bytes pdu ∷ xs) h = data_asks_none id xs h.1

data_codes_none : (id : ℕ) (xs : List Drawn) → AllFor id xs → codes xs ≡ []
data_codes_none id [] h = refl
data_codes_none id (CreateAsked made cookie ∷ xs) h = absurd h
data_codes_none id (CreateAnswered hr ∷ xs) h = absurd h
data_codes_none id (Nothing ∷ xs) h = absurd h
data_codes_none id (Carried bytes pdu ∷ xs) h = data_codes_none id xs h.1

-- ---- a client asks once

abbrev pub AskedOnce : Bool → List Drawn → Type 0
AskedOnce attached xs = (attached ≡ false → askings xs ≡ []) × (length (askings xs) ≤ 1)

asked_same : (attached more : Bool) (xs ys : List Drawn) → askings ys ≡ [] → AskedOnce attached xs → AskedOnce (attached || more) (xs ++ ys)
asked_same attached more xs ys none h =
    let same : askings (xs ++ ys) ≡ askings xs = askings-append xs ys ∙ ap (λ l. askings xs ++ l) none ∙ append-nil (askings xs) in
    (λ n. same ∙ h.0 (either attached more n).0, subst (λ l. length l ≤ 1) (sym same) h.1)

asked_now : (attached : Bool) (xs : List Drawn) (id : ℕ) (cookie : List ℕ) → attached ≡ false → AskedOnce attached xs → AskedOnce (attached || true) (xs ++ CreateAsked id cookie ∷ [])
asked_now attached xs id cookie free h =
    let same : askings (xs ++ CreateAsked id cookie ∷ []) ≡ id ∷ [] = askings-append xs (CreateAsked id cookie ∷ []) ∙ ap (λ l. l ++ id ∷ []) (h.0 free) in
    (λ n. absurd (let no : true ≡ false = (either attached true n).1 in cc), subst (λ l. length l ≤ 1) (sym same) (omega arith))

asked_step : (t : Trace Act) (act : Act) (xs : List Drawn) → IsAct Client t act → Fills Client t act xs → AskedOnce (is_attached Reliable t) (carried Reliable Client t) → AskedOnce (is_attached Reliable (t ▷ act)) (carried Reliable Client t ++ xs)
asked_step t act _ a (nothing _) h = asked_same (is_attached Reliable t) (attaches Reliable act) (carried Reliable Client t) [] refl h
asked_step t _ _ a (asks id cookie r) h = asked_now (is_attached Reliable t) (carried Reliable Client t) id cookie a.0.unattached h
asked_step t _ _ a (answers at id cookie v is_full r) h = absurd (let no : Client ≡ Server = r in cc)
asked_step t act xs a (carries _ id _ e q all) h = asked_same (is_attached Reliable t) (attaches Reliable act) (carried Reliable Client t) xs (data_asks_none id xs all) h

pub asked_once : (t : Trace Act) → EndOfActs Client t → AskedOnce (is_attached Reliable t) (carried Reliable Client t)
asked_once Start e = (λ n. refl, omega arith)
asked_once (t ▷ act) e = asked_step t act (into Reliable (is_silent Reliable t) (adds Client t act)) e.1 (fills_what Client t act e.1) (asked_once t e.2)

-- ---- a server answers no more often than it was asked

few_same : (old : List Drawn) (xs : List Drawn) (drawn more : List Drawn) → codes xs ≡ [] → length (codes old) ≤ length (askings drawn) → length (codes (old ++ xs)) ≤ length (askings (drawn ++ more))
few_same old xs drawn more none h =
    let same : codes (old ++ xs) ≡ codes old = codes-append old xs ∙ ap (λ l. codes old ++ l) none ∙ append-nil (codes old) in
    let n : length (askings (drawn ++ more)) ≡ length (askings drawn) + length (askings more) = ap length (askings-append drawn more) ∙ length-append (askings drawn) (askings more) in
    subst (λ l. length l ≤ length (askings (drawn ++ more))) (sym same) (omega (arith, h, n))

few_more : (old drawn : List Drawn) (hr id : ℕ) (cookie : List ℕ) → length (codes old) ≤ length (askings drawn) → length (codes (old ++ CreateAnswered hr ∷ [])) ≤ length (askings (drawn ++ CreateAsked id cookie ∷ []))
few_more old drawn hr id cookie h =
    let m : length (codes (old ++ CreateAnswered hr ∷ [])) ≡ length (codes old) + 1 = ap length (codes-append old (CreateAnswered hr ∷ [])) ∙ length-append (codes old) (hr ∷ []) in
    let n : length (askings (drawn ++ CreateAsked id cookie ∷ [])) ≡ length (askings drawn) + 1 = ap length (askings-append drawn (CreateAsked id cookie ∷ [])) ∙ length-append (askings drawn) (id ∷ []) in
    omega (arith, h, m, n)

few_step : (t : Trace Act) (act : Act) (xs : List Drawn) → Fills Server t act xs → length (codes (carried Reliable Server t)) ≤ length (askings (draws Reliable t))
    → length (codes (carried Reliable Server t ++ xs)) ≤ length (askings (draws Reliable t ++ drawn_in Reliable act))
few_step t act _ (nothing _) h = few_same (carried Reliable Server t) [] (draws Reliable t) (drawn_in Reliable act) refl h
few_step t _ _ (asks id cookie r) h = absurd (let no : Server ≡ Client = r in cc)
few_step t _ _ (answers at id cookie v is_full r) h = few_more (carried Reliable Server t) (draws Reliable t) (create_code v) id cookie h
few_step t act xs (carries _ id _ e q all) h = few_same (carried Reliable Server t) xs (draws Reliable t) (drawn_in Reliable act) (data_codes_none id xs all) h

pub few_codes : (t : Trace Act) → EndOfActs Server t → length (codes (carried Reliable Server t)) ≤ length (askings (draws Reliable t))
few_codes Start e = omega arith
few_codes (t ▷ act) e = few_step t act (into Reliable (is_silent Reliable t) (adds Server t act)) (fills_what Server t act e.1) (few_codes t e.2)

-- ---- the first answer that was drawn

abbrev pub first_of : List ℕ → Option ℕ
first_of [] = None
first_of (x ∷ xs) = Some x

first_of-append : (xs ys : List ℕ) → first_of (xs ++ ys) ≡ option_or (first_of xs) (first_of ys)
first_of-append [] ys = refl
first_of-append (x ∷ xs) ys = refl

answer_new : (act : Act) → answer_in Reliable act ≡ first_of (codes (drawn_in Reliable act))
answer_new (Draws Reliable at (CreateAsked id cookie)) = refl
answer_new (Draws Reliable at (CreateAnswered hr)) = refl
answer_new (Draws Reliable at Nothing) = refl
answer_new (Draws Reliable at (Carried bytes pdu)) = refl
answer_new (Draws Lossy at (CreateAsked id cookie)) = refl
answer_new (Draws Lossy at (CreateAnswered hr)) = refl
answer_new (Draws Lossy at Nothing) = refl
answer_new (Draws Lossy at (Carried bytes pdu)) = refl
answer_new (Judges Reliable at id cookie v is_full) = refl
answer_new (Judges Lossy at id cookie v is_full) = refl
answer_new act = refl

pub answer_first : (t : Trace Act) → answer Reliable t ≡ first_of (codes (draws Reliable t))
answer_first Start = refl
answer_first (t ▷ act) =
    ap (λ o. option_or o (answer_in Reliable act)) (answer_first t) ∙ ap (option_or (first_of (codes (draws Reliable t)))) (answer_new act)
    ∙ sym (first_of-append (codes (draws Reliable t)) (codes (drawn_in Reliable act))) ∙ ap first_of (sym (codes-append (draws Reliable t) (drawn_in Reliable act)))

-- ---- where it is open, and the link is not closed, the server answered 0

pub or_back : (a b : Bool) → b ≡ true → a || b ≡ true
or_back true b h = refl
or_back false b h = h

pub either_true : (a b : Bool) → a || b ≡ true → (a ≡ true) ⊎ (b ≡ true)
either_true true b h = inl refl
either_true false b h = inr h

loud_before : (a b : Option ℕ) → is_some (option_or a b) ≡ false → is_some a ≡ false
loud_before None b h = refl
loud_before (Some x) b h = h

opens_adds : (t : Trace Act) (act : Act) → opens Reliable act ≡ true → is_among 0 (codes (into Reliable false (adds Server t act))) ≡ true
opens_adds t (Judges Reliable at id cookie verdict.Opened is_full) h = refl
opens_adds t (Judges Reliable at id cookie verdict.Again is_full) h = absurd (let no : false ≡ true = h in cc)
opens_adds t (Judges Reliable at id cookie verdict.Unknown is_full) h = absurd (let no : false ≡ true = h in cc)
opens_adds t (Judges Reliable at id cookie verdict.WrongCookie is_full) h = absurd (let no : false ≡ true = h in cc)
opens_adds t (Judges Reliable at id cookie verdict.WrongKind is_full) h = absurd (let no : false ≡ true = h in cc)
opens_adds t (Judges Reliable at id cookie (verdict.Spent link) is_full) h = absurd (let no : false ≡ true = h in cc)
opens_adds t (Judges Lossy at id cookie v is_full) h = absurd (let no : false ≡ true = h in cc)
opens_adds t act h = absurd (let no : false ≡ true = h in cc)

pub zero_more : (xs ys : List Drawn) → is_among 0 (codes xs) ≡ true → is_among 0 (codes (xs ++ ys)) ≡ true
zero_more xs ys h = ap (is_among 0) (codes-append xs ys) ∙ among-append 0 (codes xs) (codes ys) ∙ or_front (is_among 0 (codes xs)) (is_among 0 (codes ys)) h

zero_new : (xs ys : List Drawn) → is_among 0 (codes ys) ≡ true → is_among 0 (codes (xs ++ ys)) ≡ true
zero_new xs ys h = ap (is_among 0) (codes-append xs ys) ∙ among-append 0 (codes xs) (codes ys) ∙ or_back (is_among 0 (codes xs)) (is_among 0 (codes ys)) h

zero_step : (t : Trace Act) (act : Act) → is_silent Reliable t ≡ false → (was_opened Reliable t ≡ true → is_among 0 (codes (carried Reliable Server t)) ≡ true) → (was_opened Reliable t ≡ true) ⊎ (opens Reliable act ≡ true)
    → is_among 0 (codes (carried Reliable Server (t ▷ act))) ≡ true
zero_step t act loud told (inl old) = zero_more (carried Reliable Server t) (into Reliable (is_silent Reliable t) (adds Server t act)) (told old)
zero_step t act loud told (inr now) =
    zero_new (carried Reliable Server t) (into Reliable (is_silent Reliable t) (adds Server t act)) (ap (λ b. is_among 0 (codes (into Reliable b (adds Server t act)))) loud ∙ opens_adds t act now)

pub zero_told : (t : Trace Act) → was_opened Reliable t ≡ true → is_silent Reliable t ≡ false → is_among 0 (codes (carried Reliable Server t)) ≡ true
zero_told Start h q = absurd (let no : false ≡ true = h in cc)
zero_told (t ▷ act) h q =
    let loud = loud_before (silence Reliable t) (silence_in Reliable act) q in zero_step t act loud (λ old. zero_told t old loud) (either_true (was_opened Reliable t) (opens Reliable act) h)

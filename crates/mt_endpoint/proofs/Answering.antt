-- The k-th answer of a client fits the k-th request that it read.
use Rattle.std.proofs.Common.{◌≡◌, Bool, true, false, ◌&&◌, List, [], ◌∷◌, ◌++◌, map, refl, sym, ap, subst, ◌∙◌, append-nil}
use Rattle.mt_base.specs.declared.kinds.Kind.{Kind}
use Rattle.mt_base.specs.declared.kinds.Role.{Role}
use Rattle.mt_base.specs.Trace.{Trace, Start, ◌▷◌}
use Rattle.soft_sync.specs.declared.kinds.Kinds.{Kinds}
use Rattle.soft_sync.specs.Exchanges.{Request, exchanges}
use Rattle.mt_base.specs.declared.kinds.Kind.TheVariants.{Reliable, Lossy}
use Rattle.mt_endpoint.specs.Acts.{Act, Answers, Heard}
use Rattle.mt_endpoint.specs.Tunnels.{is_live}
use Rattle.mt_endpoint.specs.Moving.{all_told, read_by, answer_made, unanswered_in, answer_to}
use Rattle.mt_endpoint.specs.Writing.{types_of, adds, on_main, spoken}
use Rattle.mt_endpoint.specs.Faults.{is_answer_to}
use Rattle.mt_endpoint.specs.Alone.{IsAct, EndOfActs}
use Rattle.mt_endpoint.specs.Orders.{told_by, answers_of, AnswersFit}
use Rattle.mt_endpoint.proofs.Creating.{told-append, data_tells}
use Rattle.mt_endpoint.proofs.Sources.{Source, begun, opens, asks_for, tells, syncs, closes, answers, heard_capable, heard_creates, heard_ends, released_ends, Adds, nothing, frame, sends, adds_what}

-- ---- the answers on the main stream are those that were made

frame_answers : (role : Role) (t : Trace Act) (act : Act) (x : Heard) → Source role t act x → answer_made act ≡ [] → told_by answers_of (x ∷ []) ≡ []
frame_answers role t _ _ (begun r) h = refl
frame_answers role t _ _ (opens id name) h = refl
frame_answers role t _ _ (asks_for kind id cookie) h = refl
frame_answers role t _ _ (tells act id hr r) h = refl
frame_answers role t _ _ (syncs reliable lossy) h = refl
frame_answers role t _ _ (closes id) h = refl
frame_answers role t _ _ (answers named) h = absurd (let no : named ∷ [] ≡ [] = h in cc)
frame_answers role t _ _ (heard_capable pdu version s r) h = refl
frame_answers role t _ _ (heard_creates pdu id name s r) h = refl
frame_answers role t _ _ (heard_ends pdu id s c) h = refl
frame_answers role t _ _ (released_ends kind at bytes pdu id s c) h = refl

added_answers : (role : Role) (t : Trace Act) (act : Act) (xs : List Heard) → Adds role t act xs → answer_made act ≡ [] → told_by answers_of xs ≡ []
added_answers role t act _ (nothing _) h = refl
added_answers role t act _ (frame _ x s) h = frame_answers role t act x s h
added_answers role t _ xs (sends id message _ all) h = data_tells answers_of (λ x. refl) id xs all

answered_new : (role : Role) (t : Trace Act) (act : Act) → IsAct role t act → told_by answers_of (on_main (adds role t act)) ≡ map types_of (answer_made act)
answered_new role t (Answers named) a = refl
answered_new role t act a = added_answers role t act _ (adds_what role t act a) refl

pub map-append : {A B : Type 0} (f : A → B) (xs ys : List A) → map f (xs ++ ys) ≡ map f xs ++ map f ys
map-append f [] ys = refl
map-append f (x ∷ xs) ys = ap (λ l. f x ∷ l) (map-append f xs ys)

pub answers_are : (role : Role) (t : Trace Act) → EndOfActs role t → told_by answers_of (spoken role t) ≡ map types_of (all_told answer_made t)
answers_are role Start e = refl
answers_are role (t ▷ act) e =
    told-append answers_of (spoken role t) (on_main (adds role t act)) ∙ ap (λ l. l ++ told_by answers_of (on_main (adds role t act))) (answers_are role t e.2)
    ∙ ap (λ l. map types_of (all_told answer_made t) ++ l) (answered_new role t act e.1) ∙ sym (map-append types_of (all_told answer_made t) (answer_made act))

-- ---- each fits its request

fit_bits : (x y a b : Bool) → is_answer_to (record { reliable = x; lossy = y }) (types_of (record { reliable = x && a; lossy = y && b })) ≡ true
fit_bits true true true true = refl
fit_bits true true true false = refl
fit_bits true true false true = refl
fit_bits true true false false = refl
fit_bits true false true b = refl
fit_bits true false false b = refl
fit_bits false true a true = refl
fit_bits false true a false = refl
fit_bits false false a b = refl

fit_one : (role : Role) (t : Trace Act) (named : Kinds) → is_answer_to named (types_of (answer_to role t named)) ≡ true
fit_one role t named = fit_bits named.reliable named.lossy (is_live role Reliable t) (is_live role Lossy t)

pub fit_more : (rs more : List Request) (zs : List (List Kind)) → AnswersFit rs zs → AnswersFit (rs ++ more) zs
fit_more rs more [] h = tt
fit_more [] more (z ∷ zs) h = absurd h
fit_more (r ∷ rs) more (z ∷ zs) h = (h.0, fit_more rs more zs h.1)

fit_next : (rs : List Request) (zs : List Kinds) (r : Request) (rest : List Request) (named : Kinds) → unanswered_in (exchanges rs zs) ≡ r ∷ rest → is_answer_to r.named (types_of named) ≡ true
    → AnswersFit rs (map types_of zs) → AnswersFit rs (map types_of (zs ++ named ∷ []))
fit_next [] zs r rest named h f k = absurd (let no : [] ≡ r ∷ rest = h in cc)
fit_next (x ∷ rs) [] r rest named h f k = let same : x ≡ r = cc in (ap (λ (q : Request). is_answer_to q.named (types_of named)) same ∙ f, tt)
fit_next (x ∷ rs) (z ∷ zs) r rest named h f k = (k.0, fit_next rs zs r rest named h f k.1)

fit_act : (role : Role) (t : Trace Act) (act : Act) → IsAct role t act → AnswersFit (all_told read_by t) (map types_of (all_told answer_made t)) → AnswersFit (all_told read_by t) (map types_of (all_told answer_made t ++ answer_made act))
fit_act role t (Answers named) a h =
    fit_next (all_told read_by t) (all_told answer_made t) a.request a.rest named a.is_oldest (ap (λ k. is_answer_to a.request.named (types_of k)) a.is_answer ∙ fit_one role t a.request.named) h
fit_act role t act a h = subst (λ l. AnswersFit (all_told read_by t) (map types_of l)) (sym (append-nil (all_told answer_made t))) h

pub answers_fit : (role : Role) (t : Trace Act) → EndOfActs role t → AnswersFit (all_told read_by t) (map types_of (all_told answer_made t))
answers_fit role Start e = tt
answers_fit role (t ▷ act) e =
    fit_more (all_told read_by t) (read_by act) (map types_of (all_told answer_made (t ▷ act))) (fit_act role t act e.1 (answers_fit role t e.2))

pub written_fit : (role : Role) (t : Trace Act) → EndOfActs role t → AnswersFit (all_told read_by t) (told_by answers_of (spoken role t))
written_fit role t e = subst (AnswersFit (all_told read_by t)) (sym (answers_are role t e)) (answers_fit role t e)

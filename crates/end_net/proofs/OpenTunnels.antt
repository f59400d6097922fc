-- A tunnel that is open was opened by a request that the server issued.
use Rattle.std.proofs.Common.{◌≡◌, ◌≢◌, ◌⊎◌, inl, inr, ℕ, Bool, true, false, ◌&&◌, cond, eqb, nat_eq, List, [], ◌∷◌, ◌++◌, Option, Some, None, refl, sym, ap, subst, ◌∙◌}
use Rattle.std.proofs.lemmas.Bool.{eqb-true}
use Rattle.std.specs.Option.{option_or}
use Rattle.std.specs.Map.{lookup, set_value}
use Rattle.mt_base.specs.declared.kinds.Kind.{Kind}
use Rattle.mt_base.specs.declared.kinds.Kind.TheVariants.{Reliable, Lossy}
use Rattle.mt_base.specs.declared.kinds.Role.{Role}
use Rattle.mt_base.specs.declared.kinds.Role.TheVariants.{Server, Client}
use Rattle.mt_base.specs.Ends.{same_kind}
use Rattle.mt_base.specs.Prefix.{IsPickOf, none, taken, passed}
use Rattle.mt_base.specs.Trace.{Trace, Start, ◌▷◌}
use Rattle.mt_base.proofs.Prefixes.{front-append, pick-append, pick-nothing, pick-same, pick-trans}
use Rattle.carrier.specs.Entries.{pulled}
use Rattle.tunnel_cookies.specs.declared.entry.Entry.{Entry as Issued}
use Rattle.tunnel_cookies.specs.declared.entry.Verdict.TheVariants as verdict
use Rattle.tunnel_cookies.specs.Entries.{Entries, IsVerdict, after, entry_of, opened, spent_by, unspent}
use Rattle.mt_endpoint.specs.Acts.{Act, Asks, Draws, Judges, Drawn, CreateAsked, CreateAnswered, Nothing, Carried}
use Rattle.mt_endpoint.specs.Alone.{IsAct, EndOfActs}
use Rattle.mt_endpoint.specs.Orders.{is_among}
use Rattle.mt_endpoint.specs.Tunnels.{Request, answer, answer_in, is_open, is_zero, issued, link_of, opens, was_opened}
use Rattle.mt_endpoint.specs.World.{drawn_in, draws}
use Rattle.mt_endpoint.specs.Writing.{carried}
use Rattle.mt_endpoint.proofs.AskedFor.{opened_if}
use Rattle.mt_endpoint.proofs.Growth.{pick_front}
use Rattle.mt_endpoint.proofs.Opening.{codes, either_true, or_back}
use Rattle.mt_endpoint.proofs.Spending.{asked_later, opened_asked}
use Rattle.mt_endpoint.proofs.Together.{Place}
use Rattle.end_calls.specs.Calls.{Entry, past}
use Rattle.end_calls.specs.Law.{taken_main}
use Rattle.end_calls.specs.Links.{linked}
use Rattle.end_calls.specs.Net.{Net, acts_of, at, handed_out}
use Rattle.end_calls.proofs.Running.{state_place}
use Rattle.end_calls.proofs.TwoEnds.{both_ends}
use Rattle.end_net.specs.Opened.{HasOpened, OpenedBy}

-- ---- the table

set_same : (id : ℕ) (xs : Entries) (old e : Issued) → entry_of id xs ≡ Some old → entry_of id (set_value (nat_eq id) xs e) ≡ Some e
set_same id [] old e h = absurd (let no : None ≡ Some old = h in cc)
set_same id ((x, y) ∷ xs) old e h = by_test (eqb id x) refl h (λ k. set_same id xs old e k) where
  by_test : (b : Bool) → eqb id x ≡ b → cond b (Some y) (lookup (nat_eq id) xs) ≡ Some old → (entry_of id xs ≡ Some old → entry_of id (set_value (nat_eq id) xs e) ≡ Some e)
      → lookup (nat_eq id) (cond b ((x, e) ∷ xs) ((x, y) ∷ set_value (nat_eq id) xs e)) ≡ Some e
  by_test true q k deeper = ap (λ z. cond z (Some e) (lookup (nat_eq id) xs)) q
  by_test false q k deeper = ap (λ z. cond z (Some y) (lookup (nat_eq id) (set_value (nat_eq id) xs e))) q ∙ deeper k

set_other : (id made : ℕ) (xs : Entries) (e : Issued) → id ≢ made → entry_of id (set_value (nat_eq made) xs e) ≡ entry_of id xs
set_other id made [] e apart = refl
set_other id made ((x, y) ∷ xs) e apart = by_test (eqb made x) (eqb id x) refl refl (set_other id made xs e apart) where
  by_test : (b c : Bool) → eqb made x ≡ b → eqb id x ≡ c → entry_of id (set_value (nat_eq made) xs e) ≡ entry_of id xs
      → lookup (nat_eq id) (cond b ((x, e) ∷ xs) ((x, y) ∷ set_value (nat_eq made) xs e)) ≡ cond c (Some y) (lookup (nat_eq id) xs)
  by_test true true p q deeper = absurd (apart (eqb-true id x q ∙ sym (eqb-true made x p)))
  by_test true false p q deeper = ap (λ z. cond z (Some e) (lookup (nat_eq id) xs)) q
  by_test false true p q deeper = ap (λ z. cond z (Some y) (lookup (nat_eq id) (set_value (nat_eq made) xs e))) q
  by_test false false p q deeper = ap (λ z. cond z (Some y) (lookup (nat_eq id) (set_value (nat_eq made) xs e))) q ∙ deeper

found_more : (id : ℕ) (xs ys : Entries) (e : Issued) → entry_of id xs ≡ Some e → entry_of id (xs ++ ys) ≡ Some e
found_more id [] ys e h = absurd (let no : None ≡ Some e = h in cc)
found_more id ((x, y) ∷ xs) ys e h = by_test (eqb id x) h (λ k. found_more id xs ys e k) where
  by_test : (b : Bool) → cond b (Some y) (lookup (nat_eq id) xs) ≡ Some e → (entry_of id xs ≡ Some e → entry_of id (xs ++ ys) ≡ Some e) → cond b (Some y) (lookup (nat_eq id) (xs ++ ys)) ≡ Some e
  by_test true k deeper = k
  by_test false k deeper = deeper k

-- the entry behind a verdict that opens a tunnel
abbrev with_fields : Kind → List ℕ → Option ℕ → Issued
with_fields kind cookie spender = record { kind = kind; cookie = cookie; spender = spender }

entry_is : (e : Issued) (kind : Kind) (cookie : List ℕ) → cookie ≡ e.cookie → kind ≡ e.kind → e.spender ≡ None → e ≡ unspent kind cookie
entry_is e kind cookie c k s =
    ap (λ x. with_fields x e.cookie e.spender) (sym k) ∙ ap (λ x. with_fields kind x e.spender) (sym c) ∙ ap (λ x. with_fields kind cookie x) s

unspent_is : (link : ℕ) (kind : Kind) (cookie : List ℕ) (o : Option Issued) → IsVerdict link kind cookie o verdict.Opened → o ≡ Some (unspent kind cookie)
unspent_is link kind cookie _ (opened e c k s) = ap Some (entry_is e kind cookie c k s)

abbrev spender_in : Option Issued → Option ℕ
spender_in None = None
spender_in (Some e) = e.spender

-- ---- an entry that is spent stays so

not_again : (t : Trace Act) (id made : ℕ) (e : Issued) (link : ℕ) (kind : Kind) (cookie : List ℕ) → e.spender ≡ Some link → entry_of id (issued t) ≡ Some e → entry_of made (issued t) ≡ Some (unspent kind cookie) → id ≢ made
not_again t id made e link kind cookie s h u same =
    let is : Some e ≡ Some (unspent kind cookie) = sym h ∙ ap (λ x. entry_of x (issued t)) same ∙ u in
    let no : Some link ≡ None = sym s ∙ ap spender_in is in cc

stays_opened : (t : Trace Act) (id made : ℕ) (e : Issued) (link : ℕ) (kind : Kind) (cookie : List ℕ) → e.spender ≡ Some link → entry_of id (issued t) ≡ Some e → entry_of made (issued t) ≡ Some (unspent kind cookie)
    → entry_of id (after (link_of kind) made verdict.Opened (entry_of made (issued t)) (issued t)) ≡ Some e
stays_opened t id made e link kind cookie s h u =
    subst (λ o. entry_of id (after (link_of kind) made verdict.Opened o (issued t)) ≡ Some e) (sym u)
    (set_other id made (issued t) (spent_by (link_of kind) (unspent kind cookie)) (not_again t id made e link kind cookie s h u) ∙ h)

stays : (id : ℕ) (e : Issued) (link : ℕ) (t : Trace Act) (act : Act) → e.spender ≡ Some link → IsAct Server t act → entry_of id (issued t) ≡ Some e → entry_of id (issued (t ▷ act)) ≡ Some e
stays id e link t (Asks kind made cookie) s a h = found_more id (issued t) ((made, unspent kind cookie) ∷ []) e h
stays id e link t (Judges kind at made cookie verdict.Opened is_full) s a h =
    stays_opened t id made e link kind cookie s h (unspent_is (link_of kind) kind cookie (entry_of made (issued t)) a.0.1)
stays id e link t (Judges kind at made cookie verdict.Again is_full) s a h = h
stays id e link t (Judges kind at made cookie verdict.Unknown is_full) s a h = h
stays id e link t (Judges kind at made cookie verdict.WrongCookie is_full) s a h = h
stays id e link t (Judges kind at made cookie verdict.WrongKind is_full) s a h = h
stays id e link t (Judges kind at made cookie (verdict.Spent other) is_full) s a h = h
stays id e link t act s a h = h

-- ---- at the server

opened_later : (t : Trace Act) (kind : Kind) (act : Act) → EndOfActs Server (t ▷ act) → HasOpened kind t → HasOpened kind (t ▷ act)
opened_later t kind act e (id, cookie, by) = (
  id,
  cookie,
  record {
    asked_is = asked_later kind t act (record { id = id; cookie = cookie }) by.asked_is;
    read = inr by.read;
    spent = stays id (spent_by (link_of kind) (unspent kind cookie)) (link_of kind) t act refl e.1 by.spent;
  },
)

opened_now : (t : Trace Act) (kind : Kind) (at id : ℕ) (cookie : List ℕ) (is_full : Bool) → EndOfActs Server (t ▷ Judges kind at id cookie verdict.Opened is_full) → HasOpened kind (t ▷ Judges kind at id cookie verdict.Opened is_full)
opened_now t kind at id cookie is_full e =
    let act : Act = Judges kind at id cookie verdict.Opened is_full in
    let request : Request = record { id = id; cookie = cookie } in
    let u : entry_of id (issued t) ≡ Some (unspent kind cookie) = unspent_is (link_of kind) kind cookie (entry_of id (issued t)) e.1.0.1 in
    let spent : Issued = spent_by (link_of kind) (unspent kind cookie) in (
      id,
      cookie,
      record {
        asked_is = asked_later kind t act request (opened_asked t kind at id cookie is_full e.2 e.1);
        read = inl (at, is_full, refl);
        spent = subst (λ o. entry_of id (after (link_of kind) id verdict.Opened o (issued t)) ≡ Some spent) (sym u) (set_same id (issued t) (unspent kind cookie) spent u);
      },
    )

same_kinds : (kind made : Kind) → same_kind kind made && true ≡ true → made ≡ kind
same_kinds Reliable Reliable h = refl
same_kinds Reliable Lossy h = absurd (let no : false ≡ true = h in cc)
same_kinds Lossy Reliable h = absurd (let no : false ≡ true = h in cc)
same_kinds Lossy Lossy h = refl

nothing_opens : (b : Bool) → b && false ≡ true → ⊥
nothing_opens true h = let no : false ≡ true = h in cc
nothing_opens false h = let no : false ≡ true = h in cc

opened_by_act : (t : Trace Act) (kind : Kind) (act : Act) → EndOfActs Server (t ▷ act) → opens kind act ≡ true → HasOpened kind (t ▷ act)
opened_by_act t kind (Judges made at id cookie verdict.Opened is_full) e h =
    subst (λ k. HasOpened k (t ▷ Judges made at id cookie verdict.Opened is_full)) (same_kinds kind made h) (opened_now t made at id cookie is_full e)
opened_by_act t kind (Judges made at id cookie verdict.Again is_full) e h = absurd (nothing_opens (same_kind kind made) h)
opened_by_act t kind (Judges made at id cookie verdict.Unknown is_full) e h = absurd (nothing_opens (same_kind kind made) h)
opened_by_act t kind (Judges made at id cookie verdict.WrongCookie is_full) e h = absurd (nothing_opens (same_kind kind made) h)
opened_by_act t kind (Judges made at id cookie verdict.WrongKind is_full) e h = absurd (nothing_opens (same_kind kind made) h)
opened_by_act t kind (Judges made at id cookie (verdict.Spent link) is_full) e h = absurd (nothing_opens (same_kind kind made) h)
opened_by_act t kind act e h = absurd (let no : false ≡ true = h in cc)

opened_case : (t : Trace Act) (kind : Kind) (act : Act) → EndOfActs Server (t ▷ act) → (was_opened kind t ≡ true → HasOpened kind t) → (was_opened kind t ≡ true) ⊎ (opens kind act ≡ true) → HasOpened kind (t ▷ act)
opened_case t kind act e before (inl old) = opened_later t kind act e (before old)
opened_case t kind act e before (inr now) = opened_by_act t kind act e now

at_server : (t : Trace Act) (kind : Kind) → EndOfActs Server t → was_opened kind t ≡ true → HasOpened kind t
at_server Start kind e h = absurd (let no : false ≡ true = h in cc)
at_server (t ▷ act) kind e h = opened_case t kind act e (λ old. at_server t kind e.2 old) (either_true (was_opened kind t) (opens kind act) h)

-- ---- at the client, which drew the answer 0

zero_drawn : (t : Trace Act) (kind : Kind) (act : Act) → is_zero (answer_in kind act) ≡ true → IsPickOf (CreateAnswered 0 ∷ []) (drawn_in kind act)
zero_drawn t kind (Draws made at (CreateAnswered hr)) h = by_kind (same_kind kind made) h where
  by_kind : (b : Bool) → is_zero (cond b (Some hr) None) ≡ true → IsPickOf (CreateAnswered 0 ∷ []) (cond b (CreateAnswered hr ∷ []) [])
  by_kind true k = let it : hr ≡ 0 = eqb-true hr 0 k in subst (λ n. IsPickOf (CreateAnswered 0 ∷ []) (CreateAnswered n ∷ [])) (sym it) (pick-same (CreateAnswered 0 ∷ []))
  by_kind false k = absurd (let no : false ≡ true = k in cc)
zero_drawn t kind act h = absurd (let no : false ≡ true = h in cc)

zero_case : (t : Trace Act) (kind : Kind) (act : Act) (o : Option ℕ) → answer kind t ≡ o → is_zero (option_or o (answer_in kind act)) ≡ true → (is_zero (answer kind t) ≡ true → IsPickOf (CreateAnswered 0 ∷ []) (draws kind t))
    → IsPickOf (CreateAnswered 0 ∷ []) (draws kind t ++ drawn_in kind act)
zero_case t kind act None e h before = pick-append [] (draws kind t) (CreateAnswered 0 ∷ []) (drawn_in kind act) (pick-nothing (draws kind t)) (zero_drawn t kind act h)
zero_case t kind act (Some n) e h before =
    pick_front (CreateAnswered 0 ∷ []) (draws kind t) (draws kind t ++ drawn_in kind act) (before (ap is_zero e ∙ h)) (front-append (draws kind t) (drawn_in kind act))

drew_zero : (t : Trace Act) (kind : Kind) → is_zero (answer kind t) ≡ true → IsPickOf (CreateAnswered 0 ∷ []) (draws kind t)
drew_zero Start kind h = absurd (let no : false ≡ true = h in cc)
drew_zero (t ▷ act) kind h = zero_case t kind act (answer kind t) refl h (λ old. drew_zero t kind old)

zero_picked : (xs ys : List Drawn) → IsPickOf xs ys → xs ≡ CreateAnswered 0 ∷ [] → is_among 0 (codes ys) ≡ true
zero_picked _ _ none e = absurd (let no : [] ≡ CreateAnswered 0 ∷ [] = e in cc)
zero_picked _ _ (taken x xs ys p) e = let same : x ≡ CreateAnswered 0 = cc in subst (λ y. is_among 0 (codes (y ∷ ys)) ≡ true) (sym same) refl
zero_picked xs _ (passed (CreateAsked id cookie) _ ys p) e = zero_picked xs ys p e
zero_picked xs _ (passed (CreateAnswered hr) _ ys p) e = or_back (eqb hr 0) (is_among 0 (codes ys)) (zero_picked xs ys p e)
zero_picked xs _ (passed Nothing _ ys p) e = zero_picked xs ys p e
zero_picked xs _ (passed (Carried bytes pdu) _ ys p) e = zero_picked xs ys p e

-- what a client drew left the server
drawn_left : (s c : Trace Act) (kind : Kind) → Place Server s c → IsPickOf (draws kind c) (carried kind Server s)
drawn_left s c Reliable p = pick_front (draws Reliable c) (draws Reliable c) (carried Reliable Server s) (pick-same (draws Reliable c)) p.left.reliable
drawn_left s c Lossy p = p.left.lossy

at_client : (s c : Trace Act) (kind : Kind) → Place Server s c → is_zero (answer kind c) ≡ true → HasOpened kind s
at_client s c kind p h =
    let picked = pick-trans (CreateAnswered 0 ∷ []) (draws kind c) (carried kind Server s) (drew_zero c kind h) (drawn_left s c kind p) in
    at_server s kind p.here_acts (opened_if s kind p.here_acts (zero_picked (CreateAnswered 0 ∷ []) (carried kind Server s) picked refl))

-- ---- at either end

place_at : (w : Trace (Role × Entry)) → Net w → Place Server (acts_of Server w) (acts_of Client w)
place_at w n =
    let t = at Server w in
    state_place Server (acts_of Client w) (past Server t) (taken_main t) (pulled (linked Reliable Server t)) (handed_out (linked Lossy Server t)) (both_ends w n).server.state

pub opened_at : (w : Trace (Role × Entry)) → Net w → (role : Role) (kind : Kind) → is_open role kind (acts_of role w) ≡ true → HasOpened kind (acts_of Server w)
opened_at w n Server kind h = at_server (acts_of Server w) kind (place_at w n).here_acts h
opened_at w n Client kind h = at_client (acts_of Server w) (acts_of Client w) kind (place_at w n) h

-- ---- no two by one request

abbrev kind_in : Option Issued → Option Kind
kind_in None = None
kind_in (Some e) = Some e.kind

pub no_two : (t : Trace Act) (id second : ℕ) (cookie word : List ℕ) → OpenedBy Reliable id cookie t → OpenedBy Lossy second word t → id ≢ second
no_two t id second cookie word one two same =
    let is : Some (spent_by 0 (unspent Reliable cookie)) ≡ Some (spent_by 1 (unspent Lossy word)) = sym one.spent ∙ ap (λ x. entry_of x (issued t)) same ∙ two.spent in
    let no : Some Reliable ≡ Some Lossy = ap kind_in is in cc

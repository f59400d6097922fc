-- The channels that a server's requests list are distinct, and so there are no more requests than channels.
use Rattle.std.proofs.Common.{◌≡◌, ℕ, ◌+◌, ◌<◌, ◌≤◌, Bool, true, false, ◌||◌, cond, eqb, nat_eq, List, [], ◌∷◌, ◌++◌, map, length, Some, None, refl, sym, ap, subst, ◌∙◌, append_assoc, append-nil, length-append, eq-eqb, arith}
use Rattle.std.proofs.lemmas.Bool.{eqb-true}
use Rattle.std.specs.List.{list_any}
use Rattle.std.specs.Map.{lookup}
use Rattle.mt_base.specs.declared.kinds.Kind.{Kind}
use Rattle.mt_base.specs.declared.kinds.Kind.TheVariants.{Reliable, Lossy}
use Rattle.mt_base.specs.declared.kinds.Role.TheVariants.{Server}
use Rattle.mt_base.specs.Trace.{Trace, Start, ◌▷◌}
use Rattle.dvc_pdus.specs.Value.{lists_of}
use Rattle.dvc_channels.specs.Acts as channels
use Rattle.soft_sync.specs.declared.kinds.Kinds.{Kinds}
use Rattle.soft_sync.specs.Exchanges.{Request, exchanges, kind_in, listed}
use Rattle.soft_sync.specs.Words.{request_of}
use Rattle.mt_endpoint.specs.Acts.{Act, Opens, Syncs, Hears, Releases, Heard, Spoken}
use Rattle.mt_endpoint.specs.Said.{said}
use Rattle.mt_endpoint.specs.Channels.{table}
use Rattle.mt_endpoint.specs.Moving.{all_told, made_by, made, channels_listed}
use Rattle.mt_endpoint.specs.Writing.{adds, on_main, spoken}
use Rattle.mt_endpoint.specs.World.{MayMove, IsMove}
use Rattle.mt_endpoint.specs.Alone.{IsAct, EndOfActs}
use Rattle.mt_endpoint.specs.Orders.{is_among, ids_in, channels_of, EachNew}
use Rattle.mt_base.proofs.Prefixes.{front-append}
use Rattle.mt_endpoint.proofs.Asking.{neither}
use Rattle.mt_endpoint.proofs.Telling.{either}
use Rattle.mt_endpoint.proofs.Known.{among-append, known_open}
use Rattle.mt_endpoint.proofs.Creating.{EachAmong, may_among, among_more, told_known, channels_are, ids_said}
use Rattle.mt_endpoint.proofs.Written.{request_written}

-- ---- the ids of requests

pub ids-append : (xs ys : List (ℕ × Kind)) → ids_in (xs ++ ys) ≡ ids_in xs ++ ids_in ys
ids-append [] ys = refl
ids-append ((id, kind) ∷ xs) ys = ap (λ l. id ∷ l) (ids-append xs ys)

ids_under : (kind : Kind) (ids : List ℕ) → ids_in (map (λ id. (id, kind)) ids) ≡ ids
ids_under kind [] = refl
ids_under kind (id ∷ ids) = ap (λ l. id ∷ l) (ids_under kind ids)

ids_requested : (reliable lossy : List ℕ) → ids_in (map (λ id. (id, Reliable)) reliable ++ map (λ id. (id, Lossy)) lossy) ≡ reliable ++ lossy
ids_requested reliable lossy =
    ids-append (map (λ id. (id, Reliable)) reliable) (map (λ id. (id, Lossy)) lossy) ∙ ap (λ l. l ++ ids_in (map (λ id. (id, Lossy)) lossy)) (ids_under Reliable reliable)
    ∙ ap (λ l. reliable ++ l) (ids_under Lossy lossy)

pub ids_made : (reliable lossy : List ℕ) → ids_in (channels_listed (lists_of reliable lossy)) ≡ reliable ++ lossy
ids_made reliable lossy = ap (λ (r : Request). ids_in r.channels) (request_written reliable lossy) ∙ ids_requested reliable lossy

abbrev pub ids_of : List Request → List ℕ
ids_of [] = []
ids_of (r ∷ rs) = ids_in r.channels ++ ids_of rs

pub ids_of-append : (xs ys : List Request) → ids_of (xs ++ ys) ≡ ids_of xs ++ ids_of ys
ids_of-append [] ys = refl
ids_of-append (r ∷ xs) ys = ap (λ l. ids_in r.channels ++ l) (ids_of-append xs ys) ∙ sym (append_assoc (ids_in r.channels) (ids_of xs) (ids_of ys))

pub other_way : (a b : ℕ) → eqb a b ≡ false → eqb b a ≡ false
other_way a b h = by_test (eqb b a) refl where
  by_test : (c : Bool) → eqb b a ≡ c → c ≡ false
  by_test true e = let same : b ≡ a = eqb-true b a e in absurd (let no : true ≡ false = sym (eq-eqb a b (sym same)) ∙ h in cc)
  by_test false e = refl

unlooked : (id : ℕ) (pairs : List (ℕ × Kind)) → lookup (nat_eq id) pairs ≡ None → is_among id (ids_in pairs) ≡ false
unlooked id [] h = refl
unlooked id ((x, kind) ∷ pairs) h = by_test (eqb id x) refl h (unlooked id pairs) where
  by_test : (b : Bool) → eqb id x ≡ b → cond b (Some kind) (lookup (nat_eq id) pairs) ≡ None → (lookup (nat_eq id) pairs ≡ None → is_among id (ids_in pairs) ≡ false) → eqb x id || is_among id (ids_in pairs) ≡ false
  by_test true e k deeper = absurd (let no : Some kind ≡ None = k in cc)
  by_test false e k deeper = ap (λ b. b || is_among id (ids_in pairs)) (other_way id x e) ∙ deeper k

neither_among : (id : ℕ) (xs ys : List ℕ) → is_among id xs ≡ false → is_among id ys ≡ false → is_among id (xs ++ ys) ≡ false
neither_among id xs ys h k = among-append id xs ys ∙ ap (λ b. b || is_among id ys) h ∙ k

-- where requests don't list a channel, its id is not among theirs
pub unlisted : (id : ℕ) (rs : List Request) (zs : List Kinds) → listed id (exchanges rs zs) ≡ None → is_among id (ids_of rs) ≡ false
unlisted id [] zs h = refl
unlisted id (r ∷ rs) [] h =
    let n = neither (kind_in id r) (listed id (exchanges rs [])) h in neither_among id (ids_in r.channels) (ids_of rs) (unlooked id r.channels n.0) (unlisted id rs [] n.1)
unlisted id (r ∷ rs) (z ∷ zs) h =
    let n = neither (kind_in id r) (listed id (exchanges rs zs)) h in neither_among id (ids_in r.channels) (ids_of rs) (unlooked id r.channels n.0) (unlisted id rs zs n.1)

-- ---- a request lists what none before it listed

abbrev pub AllOut : List ℕ → List ℕ → Type 0
AllOut seen [] = Unit {0}
AllOut seen (x ∷ xs) = (is_among x seen ≡ false) × AllOut seen xs

out_more : (id : ℕ) (seen xs : List ℕ) → list_any (nat_eq id) xs ≡ false → AllOut seen xs → AllOut (id ∷ seen) xs
out_more id seen [] h k = tt
out_more id seen (x ∷ xs) h k = let n = either (eqb id x) (list_any (nat_eq id) xs) h in (ap (λ b. b || is_among x seen) n.0 ∙ k.0, out_more id seen xs n.1 k.1)

pub out_all : (t : Trace Act) (seen ids : List ℕ) → ((id : ℕ) → listed id (made t) ≡ None → is_among id seen ≡ false) → MayMove t ids → AllOut seen ids
out_all t seen [] h m = tt
out_all t seen (id ∷ ids) h m = (h id m.1, out_all t seen ids h m.3)

pub new_all : (t : Trace Act) (seen ids : List ℕ) → AllOut seen ids → MayMove t ids → EachNew seen ids
new_all t seen [] h m = tt
new_all t seen (id ∷ ids) h m = (h.0, new_all t (id ∷ seen) ids (out_more id seen ids m.2 h.1) m.3)

-- ---- lists of distinct ids

abbrev pub seen_after : List ℕ → List ℕ → List ℕ
seen_after [] seen = seen
seen_after (x ∷ xs) seen = seen_after xs (x ∷ seen)

pub new-append : (seen xs ys : List ℕ) → EachNew seen xs → EachNew (seen_after xs seen) ys → EachNew seen (xs ++ ys)
new-append seen [] ys h k = k
new-append seen (x ∷ xs) ys h k = (h.0, new-append (x ∷ seen) xs ys h.1 k)

pub new_second : (seen xs ys : List ℕ) → EachNew seen (xs ++ ys) → EachNew (seen_after xs seen) ys
new_second seen [] ys h = h
new_second seen (x ∷ xs) ys h = new_second (x ∷ seen) xs ys h.1

pub new_first : (seen xs ys : List ℕ) → EachNew seen (xs ++ ys) → EachNew seen xs
new_first seen [] ys h = tt
new_first seen (x ∷ xs) ys h = (h.0, new_first (x ∷ seen) xs ys h.1)

away_after : (id : ℕ) (xs seen : List ℕ) → is_among id xs ≡ false → is_among id seen ≡ false → is_among id (seen_after xs seen) ≡ false
away_after id [] seen h k = k
away_after id (x ∷ xs) seen h k = let n = either (eqb x id) (is_among id xs) h in away_after id xs (x ∷ seen) n.1 (ap (λ b. b || is_among id seen) n.0 ∙ k)

-- what is not among those seen
pub before_after : (id : ℕ) (xs seen : List ℕ) → is_among id (seen_after xs seen) ≡ false → (is_among id xs ≡ false) × (is_among id seen ≡ false)
before_after id [] seen h = (refl, h)
before_after id (x ∷ xs) seen h =
    let later = before_after id xs (x ∷ seen) h in
    let n = either (eqb x id) (is_among id seen) later.1 in
    (ap (λ b. b || is_among id xs) n.0 ∙ later.0, n.1)

-- ---- distinct ids of a list are no more than its elements

drop_one : ℕ → List ℕ → List ℕ
drop_one id [] = []
drop_one id (x ∷ xs) = cond (eqb x id) xs (x ∷ drop_one id xs)

one_less : (id : ℕ) (xs : List ℕ) → is_among id xs ≡ true → length xs ≡ length (drop_one id xs) + 1
unfolding drop_one
one_less id [] h = absurd (let no : false ≡ true = h in cc)
one_less id (x ∷ xs) h = by_test (eqb x id) h (λ k. one_less id xs k) where
  by_test : (b : Bool) → b || is_among id xs ≡ true → (is_among id xs ≡ true → length xs ≡ length (drop_one id xs) + 1) → length (x ∷ xs) ≡ length (cond b xs (x ∷ drop_one id xs)) + 1
  by_test true k deeper = omega arith
  by_test false k deeper = let n = deeper k in omega (arith, n)

others_stay : (id z : ℕ) (xs : List ℕ) → eqb id z ≡ false → is_among z xs ≡ true → is_among z (drop_one id xs) ≡ true
unfolding drop_one
others_stay id z [] other h = absurd (let no : false ≡ true = h in cc)
others_stay id z (x ∷ xs) other h = by_test (eqb x id) refl h (λ k. others_stay id z xs other k) where
  by_second : (c : Bool) → c || is_among z xs ≡ true → (is_among z xs ≡ true → is_among z (drop_one id xs) ≡ true) → c || is_among z (drop_one id xs) ≡ true
  by_second true k deeper = refl
  by_second false k deeper = deeper k

  not_it : (c : Bool) → eqb z z ≡ true → c || is_among z xs ≡ true → c ≡ false → is_among z xs ≡ true
  not_it true s k n = absurd (let no : true ≡ false = n in cc)
  not_it false s k n = k

  by_test : (b : Bool) → eqb x id ≡ b → eqb x z || is_among z xs ≡ true → (is_among z xs ≡ true → is_among z (drop_one id xs) ≡ true) → is_among z (cond b xs (x ∷ drop_one id xs)) ≡ true
  by_test true e k deeper = let same : x ≡ id = eqb-true x id e in not_it (eqb x z) (eq-eqb z z refl) k (ap (λ y. eqb y z) same ∙ other)
  by_test false e k deeper = by_second (eqb x z) k deeper

-- all of these are other than those seen
each_away : (id : ℕ) (seen xs all : List ℕ) → EachNew (id ∷ seen) xs → EachAmong all xs → EachAmong (drop_one id all) xs
each_away id seen [] all h k = tt
each_away id seen (x ∷ xs) all h k =
    let n = either (eqb id x) (is_among x seen) h.0 in
    (others_stay id x all n.0 k.0, each_away id (x ∷ seen) xs all (swapped id x seen xs h.1) k.1) where
      swap : (a b c : Bool) → a || (b || c) ≡ false → b || (a || c) ≡ false
      swap true b c h = absurd (let no : true ≡ false = h in cc)
      swap false true c h = absurd (let no : true ≡ false = h in cc)
      swap false false c h = h

      same_seen : (seen other xs : List ℕ) → ((z : ℕ) → is_among z seen ≡ false → is_among z other ≡ false) → EachNew seen xs → EachNew other xs
      same_seen seen other [] later h = tt
      same_seen seen other (y ∷ ys) later h =
          (later y h.0, same_seen (y ∷ seen) (y ∷ other) ys (λ z k. let n = either (eqb y z) (is_among z seen) k in ap (λ b. b || is_among z other) n.0 ∙ later z n.1) h.1)

      swapped : (id x : ℕ) (seen xs : List ℕ) → EachNew (x ∷ id ∷ seen) xs → EachNew (id ∷ x ∷ seen) xs
      swapped id x seen xs h = same_seen (x ∷ id ∷ seen) (id ∷ x ∷ seen) xs (λ z k. swap (eqb x z) (eqb id z) (is_among z seen) k) h

pub no_more : (seen xs all : List ℕ) → EachNew seen xs → EachAmong all xs → length xs ≤ length all
no_more seen [] all h k = omega arith
no_more seen (x ∷ xs) all h k =
    let less = one_less x all k.0 in
    let rest = no_more (x ∷ seen) xs (drop_one x all) h.1 (each_away x seen xs all h.1 k.1) in
    omega (arith, less, rest)

-- ---- a server's requests

distinct_step : (t : Trace Act) (act : Act) → IsAct Server t act → EachNew [] (ids_of (all_told made_by t)) → EachNew [] (ids_of (all_told made_by t) ++ ids_of (made_by act))
distinct_step t (Syncs reliable lossy) a h =
    let seen = seen_after (ids_of (all_told made_by t)) [] in
    let may = a.0.1.may_move in
    let out = out_all t seen (reliable ++ lossy) (λ id k. away_after id (ids_of (all_told made_by t)) [] (unlisted id (all_told made_by t) _ k) refl) may in
    new-append [] (ids_of (all_told made_by t)) (ids_of (request_of reliable lossy ∷ [])) h
    (subst (EachNew seen) (sym (append-nil _ ∙ ids_requested reliable lossy)) (new_all t seen (reliable ++ lossy) out may))
distinct_step t act a h = subst (EachNew []) (sym (append-nil (ids_of (all_told made_by t)))) h

pub listed_distinct : (t : Trace Act) → EndOfActs Server t → EachNew [] (ids_of (all_told made_by t))
listed_distinct Start e = tt
listed_distinct (t ▷ act) e = subst (EachNew []) (sym (ids_of-append (all_told made_by t) (made_by act))) (distinct_step t act e.1 (listed_distinct t e.2))

each-append : (all xs ys : List ℕ) → EachAmong all xs → EachAmong all ys → EachAmong all (xs ++ ys)
each-append all [] ys h k = k
each-append all (x ∷ xs) ys h k = (h.0, each-append all xs ys h.1 k)

each_later : (all more xs : List ℕ) → ((id : ℕ) → is_among id all ≡ true → is_among id more ≡ true) → EachAmong all xs → EachAmong more xs
each_later all more [] later h = tt
each_later all more (x ∷ xs) later h = (later x h.0, each_later all more xs later h.1)

pub requested_among : (t : Trace Act) (ids : List ℕ) → EndOfActs Server t → MayMove t ids → EachAmong (channels_of Server (spoken Server t)) ids
requested_among t ids e m = may_among t (channels_of Server (spoken Server t)) ids (λ id h. told_known Server t id e (known_open Server id t h)) m

new_among : (t : Trace Act) (act : Act) → EndOfActs Server (t ▷ act) → EachAmong (channels_of Server (spoken Server t)) (ids_of (made_by act))
new_among t (Syncs reliable lossy) e =
    subst (EachAmong (channels_of Server (spoken Server t))) (sym (append-nil _ ∙ ids_requested reliable lossy)) (requested_among t (reliable ++ lossy) e.2 e.1.0.1.may_move)
new_among t act e = tt

listed_among : (t : Trace Act) → EndOfActs Server t → EachAmong (channels_of Server (spoken Server t)) (ids_of (all_told made_by t))
listed_among Start e = tt
listed_among (t ▷ act) e =
    let all = channels_of Server (spoken Server t) in
    let new : List Heard = on_main (adds Server t act) in
    each_later all (channels_of Server (spoken Server (t ▷ act))) (ids_of (all_told made_by t ++ made_by act))
    (λ id h. among_more Server id (spoken Server t) (spoken Server t ++ new) (front-append (spoken Server t) new) h)
    (subst (EachAmong all) (sym (ids_of-append (all_told made_by t) (made_by act))) (each-append all (ids_of (all_told made_by t)) (ids_of (made_by act)) (listed_among t e.2) (new_among t act e)))

-- a server has at most 256 channels
most_act : (t : Trace Act) (act : Act) → IsAct Server t act → length (channels.ids (table Server t)) ≤ 256 → length (channels.ids (table Server (t ▷ act))) ≤ 256
most_act t (Opens id name) a h =
    let next = a.0.2 in
    let most = a.0.3 in
    omega (arith, next, most, length-append (channels.ids (table Server t)) (id ∷ []))
most_act t (Hears (Spoken pdu)) a h = subst (λ l. length l ≤ 256) (sym (ids_said pdu (said pdu) (table Server t))) h
most_act t (Releases kind at bytes pdu) a h = subst (λ l. length l ≤ 256) (sym (ids_said pdu (said pdu) (table Server t))) h
most_act t act a h = h

pub most_channels : (t : Trace Act) → EndOfActs Server t → length (channels.ids (table Server t)) ≤ 256
most_channels Start e = omega arith
most_channels (t ▷ act) e = most_act t act e.1 (most_channels t e.2)

-- each request lists a channel
each_lists : (t : Trace Act) (act : Act) → IsAct Server t act → length (made_by act) ≤ length (ids_of (made_by act))
each_lists t (Syncs reliable lossy) a =
    let some = a.0.1.some in
    let n : length (ids_of (request_of reliable lossy ∷ [])) ≡ length (reliable ++ lossy) = ap length (append-nil _ ∙ ids_requested reliable lossy) in
    subst (λ m. 1 ≤ m) (sym n) (omega (arith, some))
each_lists t act a = omega arith

all_list : (t : Trace Act) → EndOfActs Server t → length (all_told made_by t) ≤ length (ids_of (all_told made_by t))
all_list Start e = omega arith
all_list (t ▷ act) e =
    let old = all_list t e.2 in
    let new = each_lists t act e.1 in
    let n : length (ids_of (all_told made_by t ++ made_by act)) ≡ length (ids_of (all_told made_by t)) + length (ids_of (made_by act)) =
    ap length (ids_of-append (all_told made_by t) (made_by act)) ∙ length-append (ids_of (all_told made_by t)) (ids_of (made_by act)) in
    omega (arith, old, new, n, length-append (all_told made_by t) (made_by act))

-- a server that may make a request has made fewer than 256
pub few_made : (t : Trace Act) (reliable lossy : List ℕ) → EndOfActs Server t → IsMove t reliable lossy → length (all_told made_by t) < 256
few_made t reliable lossy e m =
    let ids = ids_of (all_told made_by t) in
    let all = channels_of Server (spoken Server t) in
    let seen = seen_after ids [] in
    let out = out_all t seen (reliable ++ lossy) (λ id k. away_after id ids [] (unlisted id (all_told made_by t) _ k) refl) m.may_move in
    let new : EachNew [] (ids ++ (reliable ++ lossy)) = new-append [] ids (reliable ++ lossy) (listed_distinct t e) (new_all t seen (reliable ++ lossy) out m.may_move) in
    let among : EachAmong all (ids ++ (reliable ++ lossy)) = each-append all ids (reliable ++ lossy) (listed_among t e) (requested_among t (reliable ++ lossy) e m.may_move) in
    let some = m.some in
    omega (arith, no_more [] (ids ++ (reliable ++ lossy)) all new among, length-append ids (reliable ++ lossy), ap length (channels_are Server t e), most_channels t e, all_list t e, some)

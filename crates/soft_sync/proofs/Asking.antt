-- Lemmas on a request that this end makes: why it is refused, and that there is room for it.
use Rattle.std.proofs.Common.{◌≡◌, inl, inr, ℕ, ◌+◌, ◌<◌, ◌≤◌, Bool, true, false, cond, not, nat_eq, nat_lt, List, [], ◌∷◌, ◌++◌, length, All, Option, Some, None, option_map, refl, sym, ap, ◌∙◌, subst, arith}
use Rattle.std.specs.Prelude.{◌||◌, is_some, IsSome}
use Rattle.std.specs.Cmp.{nat_eq_equiv}
use Rattle.std.specs.List.{IsDistinct, find, list_any}
use Rattle.std.specs.Option.{option_or, unwrap_or}
use Rattle.std.specs.Map.{lookup, keys_of, set_value}
use Rattle.std.proofs.lemmas.Bool.{cases_eq, ne_eqb}
use Rattle.std.proofs.lemmas.Map.{lookup-set_value, keys-set_value, length-set_value}
use Rattle.std.proofs.lemmas.List.{length-append, length-map, append-nil, take_at, drop_at}
use Rattle.std.proofs.lemmas.List.Elements.{All-head, All-tail, All-cons, All-nil, All-append, All-weaker, All-map, All-take, All-drop}
use Rattle.std.proofs.lemmas.Map.Made.{length-le_from_is_member}
use Rattle.mt_base.specs.declared.kinds.Kind.{Kind}
use Rattle.mt_base.specs.declared.kinds.Kind.TheVariants.{Reliable, Lossy}
use Rattle.soft_sync.specs.declared.kinds.SyncRefusal.{SyncRefusal}
use Rattle.soft_sync.specs.declared.kinds.SyncRefusal.TheVariants.{OldVersion, Empty, UnknownChannel, Repeated, AlreadyListed, TunnelNotOpen}
use Rattle.soft_sync.specs.declared.row.Row.{Row}
use Rattle.soft_sync.specs.declared.row.Listing.{Listing}
use Rattle.soft_sync.specs.Exchanges.{listed}
use Rattle.soft_sync.specs.Table.{exchanges_in, IsKept, AreAmong, IsTold, under}
use Rattle.soft_sync.specs.Words.{Words, is_empty, is_open_channel, first_repeated, first_closed, why_not, HasPlace, told_of}
use Rattle.soft_sync.proofs.Listed.{Listings, listed_is, number_of}
use Rattle.std.proofs.lemmas.List.Folds.{find-append}
use Rattle.std.proofs.lemmas.Map.Keys.{IsDistinct-push}
use Rattle.soft_sync.proofs.Finding.{none_passes, none_either, unlisted, distinct_then, repeated-append, no_key, has_key}

-- the first cause, of what was found of each
abbrev pub verdict : ℕ → Bool → Bool → Option ℕ → Option ℕ → Option ℕ → Option Kind → Option SyncRefusal
verdict version old empty unknown repeated again closed =
    cond old (Some (OldVersion version))
    (cond empty (Some Empty)
    (option_or (option_map UnknownChannel unknown)
    (option_or (option_map Repeated repeated)
    (option_or (option_map AlreadyListed again)
    (option_map TunnelNotOpen closed)))))

abbrev pub lacks_channel : Words → ℕ → Bool
lacks_channel w id = not (is_open_channel id w)

abbrev pub is_listed : Words → ℕ → Bool
is_listed w id = is_some (listed id w.made)

pub why_is : (reliable lossy : List ℕ) (w : Words) (old empty : Bool) (unknown repeated again : Option ℕ) (closed : Option Kind)
    → nat_lt w.version 3 ≡ old → is_empty (reliable ++ lossy) ≡ empty → find (lacks_channel w) (reliable ++ lossy) ≡ unknown → first_repeated [] (reliable ++ lossy) ≡ repeated
    → find (is_listed w) (reliable ++ lossy) ≡ again → first_closed reliable lossy w.opened ≡ closed
    → why_not reliable lossy w ≡ verdict w.version old empty unknown repeated again closed
why_is reliable lossy w old empty unknown repeated again closed a b c d e f =
    let ids = reliable ++ lossy in
    let v = w.version in
    ap (λ t. verdict v t (is_empty ids) (find (lacks_channel w) ids) (first_repeated [] ids) (find (is_listed w) ids) (first_closed reliable lossy w.opened)) a
    ∙ ap (λ t. verdict v old t (find (lacks_channel w) ids) (first_repeated [] ids) (find (is_listed w) ids) (first_closed reliable lossy w.opened)) b
    ∙ ap (λ t. verdict v old empty t (first_repeated [] ids) (find (is_listed w) ids) (first_closed reliable lossy w.opened)) c
    ∙ ap (λ t. verdict v old empty unknown t (find (is_listed w) ids) (first_closed reliable lossy w.opened)) d
    ∙ ap (λ t. verdict v old empty unknown repeated t (first_closed reliable lossy w.opened)) e
    ∙ ap (λ t. verdict v old empty unknown repeated again t) f

-- ---- what holds where nothing refuses it

pub record IsAllowed (ids : List ℕ) (w : Words) : Type 0 where
  pub some : is_empty ids ≡ false
  pub known : find (lacks_channel w) ids ≡ None
  pub unrepeated : first_repeated [] ids ≡ None
  pub new : find (is_listed w) ids ≡ None

pub allowed : (reliable lossy : List ℕ) (w : Words) → why_not reliable lossy w ≡ None → IsAllowed (reliable ++ lossy) w
allowed reliable lossy w h =
    let ids = reliable ++ lossy in
    by (nat_lt w.version 3) (is_empty ids) (find (lacks_channel w) ids) (first_repeated [] ids) (find (is_listed w) ids) refl refl refl refl h
  where
    by : (old empty : Bool) (unknown repeated again : Option ℕ) → is_empty (reliable ++ lossy) ≡ empty → find (lacks_channel w) (reliable ++ lossy) ≡ unknown → first_repeated [] (reliable ++ lossy) ≡ repeated
        → find (is_listed w) (reliable ++ lossy) ≡ again → verdict w.version old empty unknown repeated again (first_closed reliable lossy w.opened) ≡ None → IsAllowed (reliable ++ lossy) w
    by true empty unknown repeated again b c d e h = cc
    by false true unknown repeated again b c d e h = cc
    by false false (Some id) repeated again b c d e h = cc
    by false false None (Some id) again b c d e h = cc
    by false false None None (Some id) b c d e h = cc
    by false false None None None b c d e h = record { some = b; known = c; unrepeated = d; new = e }

-- ids that no listing has
pub none_listed : (ids : List ℕ) (rows : List Row) (es : Listings) → IsKept rows es → find (λ id. is_some (listed id (exchanges_in rows es))) ids ≡ None
    → All (λ id. list_any (nat_eq id) (keys_of es) ≡ false) ids
none_listed ids rows es kept h = go ids (none_passes (λ id. is_some (listed id (exchanges_in rows es))) ids h)
  where
    one : (id : ℕ) (o : Option Listing) → lookup (nat_eq id) es ≡ o → is_some (listed id (exchanges_in rows es)) ≡ false → list_any (nat_eq id) (keys_of es) ≡ false
    one id None is h = no_key id es is
    one id (Some l) is h = let at = listed_is id 0 rows es (Some l) is kept.once (number_of id rows es l kept is) in absurd (let clash = sym h ∙ ap is_some at in cc)

    go : (ids : List ℕ) → All (λ id. is_some (listed id (exchanges_in rows es)) ≡ false) ids → All (λ id. list_any (nat_eq id) (keys_of es) ≡ false) ids
    go [] all = All-nil (λ (id : ℕ). list_any (nat_eq id) (keys_of es) ≡ false)
    go (id ∷ ids) all =
        All-cons (λ (id : ℕ). list_any (nat_eq id) (keys_of es) ≡ false) id ids (one id (lookup (nat_eq id) es) refl (All-head (λ (id : ℕ). is_some (listed id (exchanges_in rows es)) ≡ false) id ids all))
        (go ids (All-tail (λ (id : ℕ). is_some (listed id (exchanges_in rows es)) ≡ false) id ids all))

-- ---- room for a request that nothing refuses

abbrev pub AllTold : List ℕ → List (ℕ × Bool) → Type 0
AllTold ids channels = All (λ id. IsSome (lookup (nat_eq id) channels)) ids

open_told : (id : ℕ) (w : Words) → lacks_channel w id ≡ false → IsSome (lookup (nat_eq id) w.channels)
open_told id w = by (lookup (nat_eq id) w.channels)
  where
    by : (o : Option Bool) → not (unwrap_or o false) ≡ false → IsSome o
    by None h = cc
    by (Some b) h = refl

all_told : (ids : List ℕ) (w : Words) → All (λ id. lacks_channel w id ≡ false) ids → AllTold ids w.channels
all_told ids w all = All-weaker (λ id. lacks_channel w id ≡ false) (λ id. IsSome (lookup (nat_eq id) w.channels)) (λ id h. open_told id w h) ids all

id_told : (q : ℕ) (ids : List ℕ) (channels : List (ℕ × Bool)) → AllTold ids channels → list_any (nat_eq q) ids ≡ true → IsSome (lookup (nat_eq q) channels)
id_told q [] channels all h = cc
id_told q (id ∷ ids) channels all h = elim (cases_eq q id) [
  | inl e ↦ subst (λ k. IsSome (lookup (nat_eq k) channels)) (sym e) (All-head (λ id. IsSome (lookup (nat_eq id) channels)) id ids all)
  | inr n ↦ id_told q ids channels (All-tail (λ id. IsSome (lookup (nat_eq id) channels)) id ids all) (sym (ap (λ b. b || list_any (nat_eq q) ids) (ne_eqb q id n)) ∙ h)
]

keys_told : (es : Listings) (channels : List (ℕ × Bool)) → AreAmong es channels → AllTold (keys_of es) channels
keys_told es channels among = All-map (λ id. IsSome (lookup (nat_eq id) channels)) (λ (e : ℕ × Listing). e.0) es among

pub room_for : (es : Listings) (ids : List ℕ) (channels : List (ℕ × Bool)) → IsDistinct nat_eq (keys_of es ++ ids) → AreAmong es channels → AllTold ids channels → length channels ≤ 256
    → length es + length ids ≤ 256
room_for es ids channels distinct among told few =
    let all : AllTold (keys_of es ++ ids) channels = All-append (λ id. IsSome (lookup (nat_eq id) channels)) (keys_of es) ids (keys_told es channels among) told in
    let le = length-le_from_is_member nat_eq_equiv (keys_of es ++ ids) (keys_of channels) distinct (λ q h. has_key q channels (id_told q (keys_of es ++ ids) channels all h)) in
    omega (arith, le, few, length-append (keys_of es) ids, length-map es (λ (e : ℕ × Listing). e.0), length-map channels (λ (e : ℕ × Bool). e.0))

pub record IsReady (rows : List Row) (es : Listings) (channels : List (ℕ × Bool)) (reliable lossy : List ℕ) : Type 0 where
  pub few : length rows < 256
  pub once : first_repeated (keys_of es) reliable ≡ None
  pub once_more : first_repeated (keys_of es ++ reliable) lossy ≡ None
  pub fit : length es + (length reliable + length lossy) ≤ 256
  pub some : 0 < length reliable + length lossy
  pub told : AllTold (reliable ++ lossy) channels

some_then : (ids : List ℕ) → is_empty ids ≡ false → 0 < length ids
some_then [] h = cc
some_then (id ∷ ids) h = omega arith

pub ready : (reliable lossy : List ℕ) (w : Words) (rows : List Row) (es : Listings) → w.made ≡ exchanges_in rows es → why_not reliable lossy w ≡ None → IsKept rows es → AreAmong es w.channels
    → length w.channels ≤ 256 → length rows ≤ length es → IsReady rows es w.channels reliable lossy
ready reliable lossy w rows es made why kept among few rows_few =
    let ids = reliable ++ lossy in
    let a = allowed reliable lossy w why in
    let new : find (λ id. is_some (listed id (exchanges_in rows es))) ids ≡ None = subst (λ m. find (λ id. is_some (listed id m)) ids ≡ None) made a.new in
    let u : first_repeated (keys_of es) ids ≡ None = subst (λ k. first_repeated k ids ≡ None) (append-nil (keys_of es)) (unlisted (keys_of es) [] ids a.unrepeated (none_listed ids rows es kept new)) in
    let both = none_either (first_repeated (keys_of es) reliable) (first_repeated (keys_of es ++ reliable) lossy) (sym (repeated-append (keys_of es) reliable lossy) ∙ u) in
    let told = all_told ids w (none_passes (lacks_channel w) ids a.known) in
    let room = room_for es ids w.channels (distinct_then (keys_of es) ids kept.once u) among told few in
    let some = some_then ids a.some in
    let long = length-append reliable lossy in
    record {
      few = omega (arith, room, some, rows_few);
      once = both.0;
      once_more = both.1;
      fit = omega (arith, room, long);
      some = omega (arith, some, long);
      told = told;
    }

pub among_under : (n : ℕ) (kind : Kind) (ids : List ℕ) (channels : List (ℕ × Bool)) → AllTold ids channels → AreAmong (under n kind ids) channels
among_under n kind ids channels told = All-map (λ (l : ℕ × Listing). IsSome (lookup (nat_eq l.0) channels)) (λ id. (id, record { number = n; kind = kind })) ids told

-- ---- what is told of channels

module _ {X : Type 0} where
  pub kept_added : (q id : ℕ) (x : X) (es : List (ℕ × X)) → IsSome (lookup (nat_eq q) es) → IsSome (lookup (nat_eq q) (es ++ ((id, x) ∷ [])))
  kept_added q id x [] h = cc
  kept_added q id x (e ∷ es) h = by (nat_eq q e.0) h (kept_added q id x es)
    where
      by : (b : Bool) → IsSome (cond b (Some e.1) (lookup (nat_eq q) es)) → (IsSome (lookup (nat_eq q) es) → IsSome (lookup (nat_eq q) (es ++ ((id, x) ∷ []))))
          → IsSome (cond b (Some e.1) (lookup (nat_eq q) (es ++ ((id, x) ∷ []))))
      by true h others = refl
      by false h others = others h

pub among_added : (id : ℕ) (b : Bool) (es : Listings) (channels : List (ℕ × Bool)) → AreAmong es channels → AreAmong es (channels ++ ((id, b) ∷ []))
among_added id b es channels among =
    All-weaker (λ (l : ℕ × Listing). IsSome (lookup (nat_eq l.0) channels)) (λ (l : ℕ × Listing). IsSome (lookup (nat_eq l.0) (channels ++ ((id, b) ∷ [])))) (λ l h. kept_added l.0 id b channels h) es among

pub among_written : (id : ℕ) (b : Bool) (es : Listings) (channels : List (ℕ × Bool)) → IsSome (lookup (nat_eq id) channels) → AreAmong es channels → AreAmong es (set_value (nat_eq id) channels b)
among_written id b es channels some among =
    All-weaker (λ (l : ℕ × Listing). IsSome (lookup (nat_eq l.0) channels)) (λ (l : ℕ × Listing). IsSome (lookup (nat_eq l.0) (set_value (nat_eq id) channels b)))
    (λ l h. subst IsSome (sym (lookup-set_value nat_eq_equiv (nat_eq id) (nat_eq_equiv.congr id) l.0 b channels some)) (by (nat_eq id l.0) (lookup (nat_eq l.0) channels) h)) es among
  where
    by : (c : Bool) (o : Option Bool) → IsSome o → IsSome (cond c (Some b) o)
    by true o h = refl
    by false o h = h

pub told_written : (id : ℕ) (b : Bool) (channels after : List (ℕ × Bool)) (room left : ℕ) → IsTold channels room → after ≡ set_value (nat_eq id) channels b → left ≡ room → IsTold after left
told_written id b channels after room left t is same =
    let long : length after ≡ length channels = ap (λ (l : List (ℕ × Bool)). length l) is ∙ length-set_value (nat_eq id) channels b in
    let keys : keys_of after ≡ keys_of channels = ap (λ (l : List (ℕ × Bool)). keys_of l) is ∙ keys-set_value (nat_eq id) channels b in
    let few = t.few in
    let fit = t.fit in
    record { few = omega (arith, few, long); once = subst (IsDistinct nat_eq) (sym keys) t.once; fit = omega (arith, fit, long, same) }

pub told_added : (id : ℕ) (b : Bool) (channels after : List (ℕ × Bool)) (room left : ℕ) → IsTold channels room → length channels < 256 → after ≡ channels ++ ((id, b) ∷ []) → IsDistinct nat_eq (keys_of after)
    → room ≤ left + 1 → IsTold after left
told_added id b channels after room left t few is distinct spare =
    let long : length after ≡ length channels + 1 = ap (λ (l : List (ℕ × Bool)). length l) is ∙ length-append channels ((id, b) ∷ []) in
    let fit = t.fit in
    record { few = omega (arith, few, long); once = distinct; fit = omega (arith, fit, long, spare) }

pub place_left : (id : ℕ) (channels : List (ℕ × Bool)) → HasPlace id channels → lookup (nat_eq id) channels ≡ None → length channels < 256
place_left id channels (inl some) none = absurd (let clash = sym (ap is_some none) ∙ some in cc)
place_left id channels (inr few) none = few

-- ---- what the two lists of a request have, of what each has

pub found_either : (p : ℕ → Bool) (xs ys : List ℕ) (a b r : Option ℕ) → a ≡ find p xs → b ≡ find p ys → r ≡ option_or a b → find p (xs ++ ys) ≡ r
found_either p xs ys a b r is also either = find-append p xs ys ∙ ap (λ t. option_or t (find p ys)) (sym is) ∙ ap (λ t. option_or a t) (sym also) ∙ sym either

pub repeated_either : (xs ys : List ℕ) (a b r : Option ℕ) → a ≡ first_repeated [] xs → b ≡ first_repeated xs ys → r ≡ option_or a b → first_repeated [] (xs ++ ys) ≡ r
repeated_either xs ys a b r is also either =
    repeated-append [] xs ys ∙ ap (λ t. option_or t (first_repeated xs ys)) (sym is) ∙ ap (λ t. option_or a t) (sym also) ∙ sym either

-- ---- a channel that a request lists

pub not_listed : (id : ℕ) (rows : List Row) (es : Listings) → IsKept rows es → listed id (exchanges_in rows es) ≡ None → lookup (nat_eq id) es ≡ None
not_listed id rows es kept h = go (lookup (nat_eq id) es) refl
  where
    go : (o : Option Listing) → lookup (nat_eq id) es ≡ o → lookup (nat_eq id) es ≡ None
    go None is = is
    go (Some l) is = let at = listed_is id 0 rows es (Some l) is kept.once (number_of id rows es l kept is) in absurd (let clash = sym h ∙ at in cc)

new_entry : (id : ℕ) (b : Bool) (es : List (ℕ × Bool)) → IsSome (lookup (nat_eq id) (es ++ ((id, b) ∷ [])))
new_entry id b [] = ap (λ t. is_some (cond t (Some b) None)) (nat_eq_equiv.refl id)
new_entry id b (e ∷ es) = by (nat_eq id e.0) (new_entry id b es)
  where
    by : (t : Bool) → IsSome (lookup (nat_eq id) (es ++ ((id, b) ∷ []))) → IsSome (cond t (Some e.1) (lookup (nat_eq id) (es ++ ((id, b) ∷ []))))
    by true h = refl
    by false h = h

pub is_told : (id : ℕ) (channels : List (ℕ × Bool)) → IsSome (lookup (nat_eq id) (told_of id channels))
is_told id channels = by (is_some (lookup (nat_eq id) channels)) refl
  where
    by : (b : Bool) → is_some (lookup (nat_eq id) channels) ≡ b → IsSome (lookup (nat_eq id) (cond b channels (channels ++ ((id, false) ∷ []))))
    by true h = h
    by false h = new_entry id false channels

pub one_fits : (id : ℕ) (es : Listings) (channels : List (ℕ × Bool)) → IsDistinct nat_eq (keys_of es) → lookup (nat_eq id) es ≡ None → AreAmong es channels → IsSome (lookup (nat_eq id) channels)
    → length channels ≤ 256 → length es < 256
one_fits id es channels distinct none among told few =
    let room = room_for es (id ∷ []) channels (IsDistinct-push nat_eq_equiv (keys_of es) id distinct (no_key id es none)) among
    (All-cons (λ id. IsSome (lookup (nat_eq id) channels)) id [] told (All-nil (λ id. IsSome (lookup (nat_eq id) channels)))) few in
    omega (arith, room)

pub among_both : (n : ℕ) (reliable lossy : List ℕ) (es : Listings) (channels : List (ℕ × Bool)) → AreAmong es channels → AllTold (reliable ++ lossy) channels
    → AreAmong ((es ++ under n Reliable reliable) ++ under n Lossy lossy) channels
among_both n reliable lossy es channels among told =
    let P = λ (l : ℕ × Listing). IsSome (lookup (nat_eq l.0) channels) in
    let Q = λ (id : ℕ). IsSome (lookup (nat_eq id) channels) in
    let one : AllTold reliable channels = subst (All Q) (take_at reliable lossy (length reliable) refl) (All-take Q (length reliable) (reliable ++ lossy) told) in
    let two : AllTold lossy channels = subst (All Q) (drop_at reliable lossy (length reliable) refl) (All-drop Q (length reliable) (reliable ++ lossy) told) in
    All-append P (es ++ under n Reliable reliable) (under n Lossy lossy) (All-append P es (under n Reliable reliable) among (among_under n Reliable reliable channels one)) (among_under n Lossy lossy channels two)

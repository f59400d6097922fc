-- The requests of an end list at most 256 channels.
use Rattle.std.proofs.Common.{◌≡◌, ℕ, zero, suc, ◌≤◌, true, List, [], ◌∷◌, ◌++◌, length, length-append, append-nil, refl, sym, ap, subst, ◌∙◌, arith}
use Rattle.mt_base.specs.declared.kinds.Kind.{Kind}
use Rattle.mt_base.specs.declared.kinds.Role.{Role}
use Rattle.mt_base.specs.declared.kinds.Role.TheVariants.{Server, Client}
use Rattle.mt_base.specs.Trace.{Trace, Start, ◌▷◌}
use Rattle.dvc_channels.specs.Acts.{ids}
use Rattle.soft_sync.specs.Exchanges.{Request, channels_at, exchanges}
use Rattle.soft_sync.specs.Words.{request_of}
use Rattle.soft_sync.specs.declared.kinds.Kinds.{Kinds}
use Rattle.mt_endpoint.specs.Acts.{Act, Syncs}
use Rattle.mt_endpoint.specs.Alone.{EndOfActs}
use Rattle.mt_endpoint.specs.Channels.{table}
use Rattle.mt_endpoint.specs.Moving.{all_told, answer_read, made, made_by}
use Rattle.mt_endpoint.specs.Orders.{ids_in, is_among}
use Rattle.mt_endpoint.proofs.Creating.{EachAmong, channels_are, rooted}
use Rattle.mt_endpoint.proofs.Distinct.{ids_made, ids_of, ids_of-append, listed_distinct, most_channels, no_more, requested_among}
use Rattle.mt_endpoint.proofs.Known.{known_stays}
use Rattle.mt_endpoint.proofs.Late.{fitting}
use Rattle.mt_endpoint.proofs.Paths.{no_requests}
use Rattle.mt_endpoint.proofs.Written.{request_written}

each_append : (all xs ys : List ℕ) → EachAmong all xs → EachAmong all ys → EachAmong all (xs ++ ys)
each_append all [] ys h k = k
each_append all (x ∷ xs) ys h k = (h.0, each_append all xs ys h.1 k)

each_later : (all more xs : List ℕ) → ((id : ℕ) → is_among id all ≡ true → is_among id more ≡ true) → EachAmong all xs → EachAmong more xs
each_later all more [] later h = tt
each_later all more (x ∷ xs) later h = (later x h.0, each_later all more xs later h.1)

-- the channels that a server created stay
stays : (t : Trace Act) (act : Act) (id : ℕ) → EndOfActs Server (t ▷ act) → is_among id (ids (table Server t)) ≡ true → is_among id (ids (table Server (t ▷ act))) ≡ true
stays t act id e h = (rooted Server (t ▷ act) e).listed id (known_stays Server t act id ((rooted Server t e.2).known id h))

new_among : (t : Trace Act) (act : Act) → EndOfActs Server (t ▷ act) → EachAmong (ids (table Server t)) (ids_of (made_by act))
new_among t (Syncs reliable lossy) e =
    let listed : ids_of (request_of reliable lossy ∷ []) ≡ reliable ++ lossy =
    append-nil (ids_in (request_of reliable lossy).channels) ∙ sym (ap (λ (r : Request). ids_in r.channels) (request_written reliable lossy)) ∙ ids_made reliable lossy in
    subst (EachAmong (ids (table Server t))) (sym listed)
    (subst (λ all. EachAmong all (reliable ++ lossy)) (channels_are Server t e.2) (requested_among t (reliable ++ lossy) e.2 e.1.0.1.may_move))
new_among t act e = tt

listed_among : (t : Trace Act) → EndOfActs Server t → EachAmong (ids (table Server t)) (ids_of (all_told made_by t))
listed_among Start e = tt
listed_among (t ▷ act) e =
    each_later (ids (table Server t)) (ids (table Server (t ▷ act))) (ids_of (all_told made_by t ++ made_by act)) (λ id h. stays t act id e h)
    (subst (EachAmong (ids (table Server t))) (sym (ids_of-append (all_told made_by t) (made_by act)))
    (each_append (ids (table Server t)) (ids_of (all_told made_by t)) (ids_of (made_by act)) (listed_among t e.2) (new_among t act e)))

few_listed : (t : Trace Act) → EndOfActs Server t → length (ids_of (all_told made_by t)) ≤ 256
few_listed t e = omega (arith, no_more [] (ids_of (all_told made_by t)) (ids (table Server t)) (listed_distinct t e) (listed_among t e), most_channels t e)

in_all : (channels : List (ℕ × Kind)) → length (ids_in channels) ≡ length channels
in_all [] = refl
in_all ((id, kind) ∷ channels) = ap (λ n. suc n) (in_all channels)

at_most : (number : ℕ) (rs : List Request) (zs : List Kinds) → length (channels_at number (exchanges rs zs)) ≤ length (ids_of rs)
at_most number [] zs = omega arith
at_most zero (r ∷ rs) [] = omega (arith, in_all r.channels, length-append (ids_in r.channels) (ids_of rs))
at_most zero (r ∷ rs) (z ∷ zs) = omega (arith, in_all r.channels, length-append (ids_in r.channels) (ids_of rs))
at_most (suc number) (r ∷ rs) [] = omega (arith, at_most number rs [], length-append (ids_in r.channels) (ids_of rs))
at_most (suc number) (r ∷ rs) (z ∷ zs) = omega (arith, at_most number rs zs, length-append (ids_in r.channels) (ids_of rs))

pub few_at : (role : Role) (t : Trace Act) (number : ℕ) → EndOfActs role t → length (channels_at number (made t)) ≤ 256
few_at Server t number e = omega (arith, at_most number (all_told made_by t) (all_told answer_read t), few_listed t e)
few_at Client t number e =
    let none : made t ≡ [] = ap (λ rs. exchanges rs (all_told answer_read t)) (no_requests t (fitting Client t e)) in
    omega (arith, ap (λ xs. length (channels_at number xs)) none)

-- Which calls a call of an end makes of its link: of those that give and pull none brings or sends a datagram.
use Rattle.std.proofs.Common.{◌≡◌, ℕ, Bool, true, false, List, [], ◌∷◌, ◌++◌, length, drop, Option, Some, None, refl, sym, ap, ◌∙◌, append_assoc, append-nil}
use Rattle.std.specs.List.{flat_map, fold}
use Rattle.std.proofs.lemmas.List.{drop_at}
use Rattle.mt_base.specs.declared.kinds.Kind.{Kind}
use Rattle.mt_base.specs.declared.kinds.Kind.TheVariants.{Reliable, Lossy}
use Rattle.mt_base.specs.declared.kinds.Role.{Role}
use Rattle.mt_base.specs.Trace.{Trace, Start, ◌▷◌}
use Rattle.carrier.specs.Entries.{Gave, In, Polled, Pulled, Posted, Next, Owed}
use Rattle.carrier.specs.Entries as link
use Rattle.udp_open.specs.LinkTrace.{with_entries}
use Rattle.mt_endpoint.specs.Acts.{Act, Sends, Drawn}
use Rattle.mt_endpoint.specs.Writing.{tunneled}
use Rattle.end_calls.specs.Streams.{Past, with_main, written}
use Rattle.end_calls.specs.Calls.{Entry, Pull, Handed, lacking, after_pulls, after_parts}
use Rattle.end_calls.specs.Stops.{Outset}
use Rattle.end_calls.specs.Links.{gives, gives_bytes, gives_joined, gives_all, gives_own, by_bytes, pulls_from, by_pulls, takes_from, by_parts, of_pulls, asks_once_more, reads_in, linked}
use Rattle.end_net.specs.Network.{entries, made_by}

-- it neither brings a datagram nor sends one
abbrev pub IsQuiet : link.Entry → Type 0
IsQuiet (In now datagram took) = ⊥
IsQuiet (Polled now out) = ⊥
IsQuiet (Gave bytes) = Unit {0}
IsQuiet (Pulled room bytes) = Unit {0}
IsQuiet (Owed count) = Unit {0}
IsQuiet (Posted bytes) = Unit {0}
IsQuiet (Next bytes) = Unit {0}

abbrev pub AreQuiet : List link.Entry → Type 0
AreQuiet [] = Unit {0}
AreQuiet (e ∷ es) = IsQuiet e × AreQuiet es

-- k is l with such entries at its end
pub record Quiet (l k : Trace link.Entry) : Type 0 where
  pub more : List link.Entry
  pub are : k ≡ with_entries l more
  pub quiet : AreQuiet more

with_append : (l : Trace link.Entry) (es fs : List link.Entry) → with_entries l (es ++ fs) ≡ with_entries (with_entries l es) fs
with_append l [] fs = refl
with_append l (e ∷ es) fs = with_append (l ▷ e) es fs

both_quiet : (es fs : List link.Entry) → AreQuiet es → AreQuiet fs → AreQuiet (es ++ fs)
both_quiet [] fs a b = b
both_quiet (e ∷ es) fs a b = (a.0, both_quiet es fs a.1 b)

pub none : (l : Trace link.Entry) → Quiet l l
none l = record { more = []; are = refl; quiet = tt }

one : (l : Trace link.Entry) (e : link.Entry) → IsQuiet e → Quiet l (l ▷ e)
one l e q = record { more = e ∷ []; are = refl; quiet = (q, tt) }

both : (l k m : Trace link.Entry) → Quiet l k → Quiet k m → Quiet l m
both l k m a b = record {
  more = a.more ++ b.more;
  are = b.are ∙ ap (λ x. with_entries x b.more) a.are ∙ sym (with_append l a.more b.more);
  quiet = both_quiet a.more b.more a.quiet b.quiet;
}

-- ---- what is given

gives_one : (kind : Kind) (d : Drawn) (l : Trace link.Entry) → Quiet l (gives kind l d)
gives_one Reliable d l = one l (Gave (tunneled d)) tt
gives_one Lossy d l = one l (Posted (tunneled d)) tt

gives_each : (kind : Kind) (drawn : List Drawn) (l : Trace link.Entry) → Quiet l (fold (gives kind) l drawn)
gives_each kind [] l = none l
gives_each kind (d ∷ drawn) l = both l (gives kind l d) (fold (gives kind) (gives kind l d) drawn) (gives_one kind d l) (gives_each kind drawn (gives kind l d))

gives_run : (bytes : List ℕ) (l : Trace link.Entry) → Quiet l (gives_bytes bytes l)
gives_run [] l = none l
gives_run (b ∷ bytes) l = one l (Gave (b ∷ bytes)) tt

pub joined : (kind : Kind) (drawn : List Drawn) (l : Trace link.Entry) → Quiet l (gives_joined kind drawn l)
joined Reliable drawn l = gives_run (flat_map tunneled drawn) l
joined Lossy drawn l = gives_each Lossy drawn l

pub own : (kind : Kind) (act : Act) (drawn : List Drawn) (l : Trace link.Entry) → Quiet l (gives_own kind act drawn l)
own kind (Sends id message) drawn l = gives_each kind drawn l
own kind act drawn l = joined kind drawn l

pub main : (kind : Kind) (role : Role) (bytes : List ℕ) (lack : Option (Trace Act)) (p : Past) (l : Trace link.Entry) → Quiet l (by_bytes kind role p bytes lack l)
main kind role [] lack p l = none l
main kind role (byte ∷ []) lack p l = joined kind (written kind role p (lacking lack (with_main role p byte))) l
main kind role (byte ∷ next ∷ bytes) lack p l =
    let k = gives_all kind role p (with_main role p byte) l in
    both l k (by_bytes kind role (with_main role p byte) (next ∷ bytes) lack k) (joined kind (written kind role p (with_main role p byte)) l) (main kind role (next ∷ bytes) lack (with_main role p byte) k)

-- ---- what is taken

pull_one : (kind : Kind) (pull : Pull) (l : Trace link.Entry) → Quiet l (pulls_from kind pull l)
pull_one Reliable pull l = one l (Pulled pull.room pull.bytes) tt
pull_one Lossy pull l = none l

pull_all : (kind : Kind) (role : Role) (pulls : Trace Pull) (lack : Option (Trace Act)) (p : Past) (l : Trace link.Entry) → Quiet l (by_pulls kind role p pulls lack l)
pull_all kind role Start lack p l = none l
pull_all kind role (pulls ▷ pull) lack p l =
    let k = by_pulls kind role p pulls None l in
    let m = pulls_from kind pull k in
    both l m (by_pulls kind role p (pulls ▷ pull) lack l) (both l k m (pull_all kind role pulls None p l) (pull_one kind pull k))
    (joined kind (written kind role (after_pulls role p pulls) (lacking lack (after_pulls role p (pulls ▷ pull)))) m)

part_one : (kind : Kind) (part : Handed) (l : Trace link.Entry) → Quiet l (takes_from kind part l)
part_one Reliable part l = none l
part_one Lossy part l = one l (Next (Some part.bytes)) tt

part_all : (kind : Kind) (role : Role) (parts : Trace Handed) (lack : Option (Trace Act)) (p : Past) (l : Trace link.Entry) → Quiet l (by_parts kind role p parts lack l)
part_all kind role Start lack p l = none l
part_all kind role (parts ▷ part) lack p l =
    let k = by_parts kind role p parts None l in
    let m = takes_from kind part k in
    both l m (by_parts kind role p (parts ▷ part) lack l) (both l k m (part_all kind role parts None p l) (part_one kind part k))
    (joined kind (written kind role (after_parts role p parts) (lacking lack (after_parts role p (parts ▷ part)))) m)

asked : (kind : Kind) (b : Bool) (l : Trace link.Entry) → Quiet l (asks_once_more kind b l)
asked Reliable b l = none l
asked Lossy true l = one l (Next None) tt
asked Lossy false l = none l

pub read : (kind : Kind) (role : Role) (o : Outset) (pulls : Trace Pull) (parts : Trace Handed) (lack : Option (Trace Act)) (l : Trace link.Entry) → Quiet l (reads_in kind role o pulls parts lack l)
read kind role o pulls parts lack l =
    let m = by_pulls kind role o.before pulls (of_pulls parts lack) l in
    let n = by_parts kind role (after_pulls role o.before pulls) parts lack m in
    both l n (reads_in kind role o pulls parts lack l)
    (both l m n (pull_all kind role pulls (of_pulls parts lack) o.before l) (part_all kind role parts lack (after_pulls role o.before pulls) m))
    (asked kind _ n)

-- ---- as a list

entries_with : (l : Trace link.Entry) (es : List link.Entry) → entries (with_entries l es) ≡ entries l ++ es
entries_with l [] = sym (append-nil (entries l))
entries_with l (e ∷ es) = entries_with (l ▷ e) es ∙ append_assoc (entries l) (e ∷ []) es

dropped : (l k : Trace link.Entry) (es : List link.Entry) → k ≡ with_entries l es → drop (length (entries l)) (entries k) ≡ es
dropped l k es are =
    ap (λ x. drop (length (entries l)) (entries x)) are ∙ ap (λ x. drop (length (entries l)) x) (entries_with l es) ∙ drop_at (entries l) es (length (entries l)) refl

-- a call makes these of its link
pub made_is : (kind : Kind) (role : Role) (t : Trace Entry) (entry : Entry) (es : List link.Entry) → linked kind role (t ▷ entry) ≡ with_entries (linked kind role t) es → made_by kind role t entry ≡ es
made_is kind role t entry es are = dropped (linked kind role t) (linked kind role (t ▷ entry)) es are

-- one more at the end
pub with_last : (l : Trace link.Entry) (es : List link.Entry) (e : link.Entry) → with_entries l (es ++ e ∷ []) ≡ with_entries l es ▷ e
with_last l es e = with_append l es (e ∷ [])

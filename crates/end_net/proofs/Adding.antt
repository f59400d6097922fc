-- The calls of an end only add to those of its links.
use Rattle.std.proofs.Common.{◌≡◌, ℕ, Bool, true, false, cond, List, [], ◌∷◌, ◌++◌, length, take, drop, Option, Some, None, option_map, refl, sym, ap, ◌∙◌, append_assoc, append-nil}
use Rattle.std.specs.List.{flat_map, fold}
use Rattle.std.proofs.lemmas.List.{drop_at}
use Rattle.mt_base.specs.declared.kinds.Kind.{Kind}
use Rattle.mt_base.specs.declared.kinds.Kind.TheVariants.{Reliable, Lossy}
use Rattle.mt_base.specs.declared.kinds.Role.{Role}
use Rattle.mt_base.specs.Trace.{Trace, Start, ◌▷◌}
use Rattle.carrier.specs.declared.state.Took.{Took}
use Rattle.carrier.specs.Entries.{Gave, In, Polled, Pulled, Posted, Next}
use Rattle.carrier.specs.Entries as link
use Rattle.udp_open.specs.LinkTrace.{with_entries}
use Rattle.mt_endpoint.specs.Acts.{Act, Sends, Drawn}
use Rattle.mt_endpoint.specs.Tunnels.{is_attached}
use Rattle.mt_endpoint.specs.Writing.{tunneled}
use Rattle.end_calls.specs.Streams.{Past, with_main, written}
use Rattle.end_calls.specs.Calls.{Entry, Own, MainIn, MainOut, WireIn, WireOut, Pull, Handed, lacking, after_pulls, after_parts, read_count, before_poll, if_steps, story, past, acts}
use Rattle.end_calls.specs.Stops.{Outset}
use Rattle.end_calls.specs.Law.{outset}
use Rattle.end_calls.specs.Links.{gives, gives_bytes, gives_joined, gives_all, gives_own, by_bytes, pulls_from, by_pulls, takes_from, by_parts, of_pulls, asks_once_more, takes_in, reads_in, polls, linked}
use Rattle.end_net.specs.Network.{entries, made_by}

-- k is l with these entries at its end
abbrev pub Adds : Trace link.Entry → Trace link.Entry → Type 0
Adds l k = (es : List link.Entry) × (k ≡ with_entries l es)

with-append : (l : Trace link.Entry) (es fs : List link.Entry) → with_entries l (es ++ fs) ≡ with_entries (with_entries l es) fs
with-append l [] fs = refl
with-append l (e ∷ es) fs = with-append (l ▷ e) es fs

none : (l : Trace link.Entry) → Adds l l
none l = ([], refl)

one : (l : Trace link.Entry) (e : link.Entry) → Adds l (l ▷ e)
one l e = (e ∷ [], refl)

both : (l k m : Trace link.Entry) → Adds l k → Adds k m → Adds l m
both l k m a b = (a.0 ++ b.0, b.1 ∙ ap (λ x. with_entries x b.0) a.1 ∙ sym (with-append l a.0 b.0))

-- ---- what is given

gives_one : (kind : Kind) (d : Drawn) (l : Trace link.Entry) → Adds l (gives kind l d)
gives_one Reliable d l = one l (Gave (tunneled d))
gives_one Lossy d l = one l (Posted (tunneled d))

gives_each : (kind : Kind) (drawn : List Drawn) (l : Trace link.Entry) → Adds l (fold (gives kind) l drawn)
gives_each kind [] l = none l
gives_each kind (d ∷ drawn) l = both l (gives kind l d) (fold (gives kind) (gives kind l d) drawn) (gives_one kind d l) (gives_each kind drawn (gives kind l d))

gives_run : (bytes : List ℕ) (l : Trace link.Entry) → Adds l (gives_bytes bytes l)
gives_run [] l = none l
gives_run (b ∷ bytes) l = one l (Gave (b ∷ bytes))

joined : (kind : Kind) (drawn : List Drawn) (l : Trace link.Entry) → Adds l (gives_joined kind drawn l)
joined Reliable drawn l = gives_run (flat_map tunneled drawn) l
joined Lossy drawn l = gives_each Lossy drawn l

own : (kind : Kind) (act : Act) (drawn : List Drawn) (l : Trace link.Entry) → Adds l (gives_own kind act drawn l)
own kind (Sends id message) drawn l = gives_each kind drawn l
own kind act drawn l = joined kind drawn l

main : (kind : Kind) (role : Role) (bytes : List ℕ) (lack : Option (Trace Act)) (p : Past) (l : Trace link.Entry) → Adds l (by_bytes kind role p bytes lack l)
main kind role [] lack p l = none l
main kind role (byte ∷ []) lack p l = joined kind (written kind role p (lacking lack (with_main role p byte))) l
main kind role (byte ∷ next ∷ bytes) lack p l =
    let k = gives_all kind role p (with_main role p byte) l in
    both l k (by_bytes kind role (with_main role p byte) (next ∷ bytes) lack k) (joined kind (written kind role p (with_main role p byte)) l) (main kind role (next ∷ bytes) lack (with_main role p byte) k)

-- ---- what is taken

pull_one : (kind : Kind) (pull : Pull) (l : Trace link.Entry) → Adds l (pulls_from kind pull l)
pull_one Reliable pull l = one l (Pulled pull.room pull.bytes)
pull_one Lossy pull l = none l

pull_all : (kind : Kind) (role : Role) (pulls : Trace Pull) (lack : Option (Trace Act)) (p : Past) (l : Trace link.Entry) → Adds l (by_pulls kind role p pulls lack l)
pull_all kind role Start lack p l = none l
pull_all kind role (pulls ▷ pull) lack p l =
    let k = by_pulls kind role p pulls None l in
    let m = pulls_from kind pull k in
    both l m (by_pulls kind role p (pulls ▷ pull) lack l) (both l k m (pull_all kind role pulls None p l) (pull_one kind pull k))
    (joined kind (written kind role (after_pulls role p pulls) (lacking lack (after_pulls role p (pulls ▷ pull)))) m)

part_one : (kind : Kind) (part : Handed) (l : Trace link.Entry) → Adds l (takes_from kind part l)
part_one Reliable part l = none l
part_one Lossy part l = one l (Next (Some part.bytes))

part_all : (kind : Kind) (role : Role) (parts : Trace Handed) (lack : Option (Trace Act)) (p : Past) (l : Trace link.Entry) → Adds l (by_parts kind role p parts lack l)
part_all kind role Start lack p l = none l
part_all kind role (parts ▷ part) lack p l =
    let k = by_parts kind role p parts None l in
    let m = takes_from kind part k in
    both l m (by_parts kind role p (parts ▷ part) lack l) (both l k m (part_all kind role parts None p l) (part_one kind part k))
    (joined kind (written kind role (after_parts role p parts) (lacking lack (after_parts role p (parts ▷ part)))) m)

asked : (kind : Kind) (b : Bool) (l : Trace link.Entry) → Adds l (asks_once_more kind b l)
asked Reliable b l = none l
asked Lossy true l = one l (Next None)
asked Lossy false l = none l

brought : (kind made : Kind) (now : ℕ) (datagram : List ℕ) (took : Took) (l : Trace link.Entry) → Adds l (takes_in kind made now datagram took l)
brought Reliable Reliable now datagram took l = one l (In now datagram took)
brought Reliable Lossy now datagram took l = none l
brought Lossy Reliable now datagram took l = none l
brought Lossy Lossy now datagram took l = one l (In now datagram took)

sent : (kind made : Kind) (now : ℕ) (out : Option (List ℕ)) (l : Trace link.Entry) → Adds l (polls kind made now out l)
sent Reliable Reliable now out l = one l (Polled now out)
sent Reliable Lossy now out l = none l
sent Lossy Reliable now out l = none l
sent Lossy Lossy now out l = one l (Polled now out)

wired : (kind : Kind) (role : Role) (o : Outset) (made : Kind) (now : ℕ) (datagram : List ℕ) (took : Took) (pulls : Trace Pull) (parts : Trace Handed) (lack : Option (Trace Act)) (l : Trace link.Entry)
    → Adds l (reads_in kind role o pulls parts lack (takes_in kind made now datagram took l))
wired kind role o made now datagram took pulls parts lack l =
    let k = takes_in kind made now datagram took l in
    let m = by_pulls kind role o.before pulls (of_pulls parts lack) k in
    let n = by_parts kind role (after_pulls role o.before pulls) parts lack m in
    both l n (reads_in kind role o pulls parts lack k)
    (both l m n (both l k m (brought kind made now datagram took l) (pull_all kind role pulls (of_pulls parts lack) o.before k)) (part_all kind role parts lack (after_pulls role o.before pulls) m))
    (asked kind _ n)

if_attached : (b : Bool) (l k : Trace link.Entry) → Adds l k → Adds l (cond b k l)
if_attached true l k a = a
if_attached false l k a = none l

-- ---- each call

pub adds_call : (kind : Kind) (role : Role) (t : Trace Entry) (entry : Entry) → Adds (linked kind role t) (linked kind role (t ▷ entry))
adds_call kind role t (Own act) = own kind act (written kind role (past role t) (past role (t ▷ Own act))) (linked kind role t)
adds_call kind role t (MainIn offered count load lack) =
    main kind role (take (read_count count lack) offered) (option_map (λ (l : ℕ × Trace Act). l.1) lack) (past role t) (linked kind role t)
adds_call kind role t (MainOut room bytes) = none (linked kind role t)
adds_call kind role t (WireIn made now datagram took load came pulls parts lack) =
    if_attached (is_attached made (acts role t)) (linked kind role t) (reads_in kind role (outset role t load) pulls parts lack (takes_in kind made now datagram took (linked kind role t)))
    (wired kind role (outset role t load) made now datagram took pulls parts lack (linked kind role t))
adds_call kind role t (WireOut made now is_full out state) =
    let p = past role t in
    let q = if_steps role (before_poll made p.acts (story role t).postings now is_full) p in
    let k = gives_all kind role p q (linked kind role t) in
    both (linked kind role t) k (polls kind made now out k) (joined kind (written kind role p q) (linked kind role t)) (sent kind made now out k)

-- ---- as a list

entries_with : (l : Trace link.Entry) (es : List link.Entry) → entries (with_entries l es) ≡ entries l ++ es
entries_with l [] = sym (append-nil (entries l))
entries_with l (e ∷ es) = entries_with (l ▷ e) es ∙ append_assoc (entries l) (e ∷ []) es

added : (l k : Trace link.Entry) → Adds l k → with_entries l (drop (length (entries l)) (entries k)) ≡ k
added l k a =
    ap (λ x. with_entries l (drop (length (entries l)) (entries x))) a.1 ∙ ap (λ x. with_entries l (drop (length (entries l)) x)) (entries_with l a.0)
    ∙ ap (with_entries l) (drop_at (entries l) a.0 (length (entries l)) refl) ∙ sym a.1

-- the calls of a link are those before, with the ones that this call makes
pub with_made : (kind : Kind) (role : Role) (t : Trace Entry) (entry : Entry) → with_entries (linked kind role t) (made_by kind role t entry) ≡ linked kind role (t ▷ entry)
with_made kind role t entry = added (linked kind role t) (linked kind role (t ▷ entry)) (adds_call kind role t entry)

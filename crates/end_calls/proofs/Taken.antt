-- What was taken of the links of an end, call by call.
use Rattle.std.proofs.Common.{◌≡◌, ℕ, Bool, true, false, List, [], ◌∷◌, ◌++◌, take, option_map, Option, None, refl, sym, ap, ◌∙◌, append_assoc, append-nil}
use Rattle.std.specs.List.{flat_map, fold}
use Rattle.mt_base.specs.declared.kinds.Kind.{Kind}
use Rattle.mt_base.specs.declared.kinds.Kind.TheVariants.{Reliable, Lossy}
use Rattle.mt_base.specs.declared.kinds.Role.{Role}
use Rattle.mt_base.specs.Trace.{Trace, Start, ◌▷◌}
use Rattle.carrier.specs.declared.state.LinkState.{LinkState}
use Rattle.carrier.specs.declared.state.Took.{Took}
use Rattle.carrier.specs.Entries.{pulled}
use Rattle.carrier.specs.Entries as link
use Rattle.mt_endpoint.specs.Acts.{Act, Sends, Drawn}
use Rattle.mt_endpoint.specs.Writing.{tunneled}
use Rattle.end_calls.specs.Streams.{Past, with_main, written}
use Rattle.end_calls.specs.Calls.{Entry, Own, MainIn, WireOut, Pull, Handed, lacking, after_pulls, after_parts, read_count, if_steps, before_poll, story, past}
use Rattle.end_calls.specs.Stops.{pulled_bytes, handed_parts}
use Rattle.end_calls.specs.Law.{outset}
use Rattle.end_calls.specs.Links.{gives, gives_bytes, gives_joined, gives_all, gives_own, by_bytes, pulls_from, by_pulls, takes_from, by_parts, of_pulls, asks_once_more, takes_in, reads_in, polls, linked}
use Rattle.end_calls.specs.Net.{handed_out}

-- what was taken of a link of this kind
pub record Same (l k : Trace link.Entry) : Type 0 where
  pub pulled_same : pulled k ≡ pulled l
  pub handed_same : handed_out k ≡ handed_out l

same : (l : Trace link.Entry) → Same l l
same l = record { pulled_same = refl; handed_same = refl }

same_then : (l k m : Trace link.Entry) → Same l k → Same k m → Same l m
same_then l k m a b = record { pulled_same = b.pulled_same ∙ a.pulled_same; handed_same = b.handed_same ∙ a.handed_same }

same_gives : (kind : Kind) (d : Drawn) (l : Trace link.Entry) → Same l (gives kind l d)
same_gives Reliable d l = record { pulled_same = refl; handed_same = refl }
same_gives Lossy d l = record { pulled_same = refl; handed_same = refl }

same_each : (kind : Kind) (drawn : List Drawn) (l : Trace link.Entry) → Same l (fold (gives kind) l drawn)
same_each kind [] l = same l
same_each kind (d ∷ drawn) l = same_then l (gives kind l d) (fold (gives kind) (gives kind l d) drawn) (same_gives kind d l) (same_each kind drawn (gives kind l d))

same_bytes : (bytes : List ℕ) (l : Trace link.Entry) → Same l (gives_bytes bytes l)
same_bytes [] l = same l
same_bytes (b ∷ bytes) l = record { pulled_same = refl; handed_same = refl }

same_joined : (kind : Kind) (drawn : List Drawn) (l : Trace link.Entry) → Same l (gives_joined kind drawn l)
same_joined Reliable drawn l = same_bytes (flat_map tunneled drawn) l
same_joined Lossy drawn l = same_each Lossy drawn l

same_own : (kind : Kind) (act : Act) (drawn : List Drawn) (l : Trace link.Entry) → Same l (gives_own kind act drawn l)
same_own kind (Sends id message) drawn l = same_each kind drawn l
same_own kind act drawn l = same_joined kind drawn l

same_main : (kind : Kind) (role : Role) (bytes : List ℕ) (lack : Option (Trace Act)) (p : Past) (l : Trace link.Entry) → Same l (by_bytes kind role p bytes lack l)
same_main kind role [] lack p l = same l
same_main kind role (byte ∷ []) lack p l = same_joined kind (written kind role p (lacking lack (with_main role p byte))) l
same_main kind role (byte ∷ next ∷ bytes) lack p l =
    let k = gives_all kind role p (with_main role p byte) l in
    same_then l k (by_bytes kind role (with_main role p byte) (next ∷ bytes) lack k) (same_joined kind (written kind role p (with_main role p byte)) l) (same_main kind role (next ∷ bytes) lack (with_main role p byte) k)

-- the bytes that a kind of link hands out by pulls, and the parts
abbrev pub pulls_of : Kind → Trace Pull → List ℕ
pulls_of Reliable pulls = pulled_bytes pulls
pulls_of Lossy pulls = []

abbrev pub parts_of : Kind → Trace Handed → List (List ℕ)
parts_of Reliable parts = []
parts_of Lossy parts = handed_parts parts

pub record Took_of (l k : Trace link.Entry) (bytes : List ℕ) (parts : List (List ℕ)) : Type 0 where
  pub pulled_is : pulled k ≡ pulled l ++ bytes
  pub handed_is : handed_out k ≡ handed_out l ++ parts

took_none : (l k : Trace link.Entry) → Same l k → Took_of l k [] []
took_none l k s = record { pulled_is = s.pulled_same ∙ sym (append-nil (pulled l)); handed_is = s.handed_same ∙ sym (append-nil (handed_out l)) }

took_same : (l k m : Trace link.Entry) (bytes : List ℕ) (parts : List (List ℕ)) → Took_of l k bytes parts → Same k m → Took_of l m bytes parts
took_same l k m bytes parts t s = record { pulled_is = s.pulled_same ∙ t.pulled_is; handed_is = s.handed_same ∙ t.handed_is }

same_took : (l k m : Trace link.Entry) (bytes : List ℕ) (parts : List (List ℕ)) → Same l k → Took_of k m bytes parts → Took_of l m bytes parts
same_took l k m bytes parts s t = record { pulled_is = t.pulled_is ∙ ap (λ x. x ++ bytes) s.pulled_same; handed_is = t.handed_is ∙ ap (λ x. x ++ parts) s.handed_same }

took_pulls : (kind : Kind) (role : Role) (pulls : Trace Pull) (lack : Option (Trace Act)) (p : Past) (l : Trace link.Entry) → Took_of l (by_pulls kind role p pulls lack l) (pulls_of kind pulls) []
took_pulls Reliable role Start lack p l = took_none l l (same l)
took_pulls Lossy role Start lack p l = took_none l l (same l)
took_pulls Reliable role (pulls ▷ pull) lack p l =
    let k = by_pulls Reliable role p pulls None l in
    let before = took_pulls Reliable role pulls None p l in
    took_same l (pulls_from Reliable pull k) (by_pulls Reliable role p (pulls ▷ pull) lack l) (pulled_bytes (pulls ▷ pull)) []
    (record { pulled_is = ap (λ x. x ++ pull.bytes) before.pulled_is ∙ append_assoc (pulled l) (pulled_bytes pulls) pull.bytes; handed_is = before.handed_is })
    (same_joined Reliable (written Reliable role (after_pulls role p pulls) (lacking lack (after_pulls role p (pulls ▷ pull)))) (pulls_from Reliable pull k))
took_pulls Lossy role (pulls ▷ pull) lack p l =
    let k = by_pulls Lossy role p pulls None l in
    took_same l k (by_pulls Lossy role p (pulls ▷ pull) lack l) [] [] (took_pulls Lossy role pulls None p l)
    (same_joined Lossy (written Lossy role (after_pulls role p pulls) (lacking lack (after_pulls role p (pulls ▷ pull)))) k)

took_parts : (kind : Kind) (role : Role) (parts : Trace Handed) (lack : Option (Trace Act)) (p : Past) (l : Trace link.Entry) → Took_of l (by_parts kind role p parts lack l) [] (parts_of kind parts)
took_parts Reliable role Start lack p l = took_none l l (same l)
took_parts Lossy role Start lack p l = took_none l l (same l)
took_parts Lossy role (parts ▷ part) lack p l =
    let k = by_parts Lossy role p parts None l in
    let before = took_parts Lossy role parts None p l in
    took_same l (takes_from Lossy part k) (by_parts Lossy role p (parts ▷ part) lack l) [] (handed_parts (parts ▷ part))
    (record { pulled_is = before.pulled_is; handed_is = ap (λ x. x ++ part.bytes ∷ []) before.handed_is ∙ append_assoc (handed_out l) (handed_parts parts) (part.bytes ∷ []) })
    (same_joined Lossy (written Lossy role (after_parts role p parts) (lacking lack (after_parts role p (parts ▷ part)))) (takes_from Lossy part k))
took_parts Reliable role (parts ▷ part) lack p l =
    let k = by_parts Reliable role p parts None l in
    took_same l k (by_parts Reliable role p (parts ▷ part) lack l) [] [] (took_parts Reliable role parts None p l)
    (same_joined Reliable (written Reliable role (after_parts role p parts) (lacking lack (after_parts role p (parts ▷ part)))) k)

took_both : (l k m : Trace link.Entry) (bytes : List ℕ) (parts : List (List ℕ)) → Took_of l k bytes [] → Took_of k m [] parts → Took_of l m bytes parts
took_both l k m bytes parts a b = record {
  pulled_is = b.pulled_is ∙ append-nil (pulled k) ∙ a.pulled_is;
  handed_is = b.handed_is ∙ ap (λ x. x ++ parts) (a.handed_is ∙ append-nil (handed_out l));
}

same_asked : (kind : Kind) (b : Bool) (l : Trace link.Entry) → Same l (asks_once_more kind b l)
same_asked Reliable b l = same l
same_asked Lossy true l = record { pulled_same = refl; handed_same = append-nil (handed_out l) }
same_asked Lossy false l = same l

same_in : (kind made : Kind) (now : ℕ) (datagram : List ℕ) (took : Took) (l : Trace link.Entry) → Same l (takes_in kind made now datagram took l)
same_in Reliable Reliable now datagram took l = record { pulled_same = refl; handed_same = refl }
same_in Reliable Lossy now datagram took l = same l
same_in Lossy Reliable now datagram took l = same l
same_in Lossy Lossy now datagram took l = record { pulled_same = refl; handed_same = refl }

same_polls : (kind made : Kind) (now : ℕ) (out : Option (List ℕ)) (l : Trace link.Entry) → Same l (polls kind made now out l)
same_polls Reliable Reliable now out l = record { pulled_same = refl; handed_same = refl }
same_polls Reliable Lossy now out l = same l
same_polls Lossy Reliable now out l = same l
same_polls Lossy Lossy now out l = record { pulled_same = refl; handed_same = refl }

-- ---- each call

pub own_same : (kind : Kind) (role : Role) (t : Trace Entry) (act : Act) → Same (linked kind role t) (linked kind role (t ▷ Own act))
own_same kind role t act = same_own kind act (written kind role (past role t) (past role (t ▷ Own act))) (linked kind role t)

pub main_same : (kind : Kind) (role : Role) (t : Trace Entry) (offered : List ℕ) (count load : ℕ) (lack : Option (ℕ × Trace Act)) → Same (linked kind role t) (linked kind role (t ▷ MainIn offered count load lack))
main_same kind role t offered count load lack = same_main kind role (take (read_count count lack) offered) (option_map (λ (l : ℕ × Trace Act). l.1) lack) (past role t) (linked kind role t)

pub poll_same : (kind : Kind) (role : Role) (t : Trace Entry) (made : Kind) (now : ℕ) (is_full : Bool) (out : Option (List ℕ)) (state : LinkState) → Same (linked kind role t) (linked kind role (t ▷ WireOut made now is_full out state))
poll_same kind role t made now is_full out state =
    let p = past role t in
    let q = if_steps role (before_poll made p.acts (story role t).postings now is_full) p in
    same_then (linked kind role t) (gives_all kind role p q (linked kind role t)) (polls kind made now out (gives_all kind role p q (linked kind role t))) (same_joined kind (written kind role p q) (linked kind role t)) (same_polls kind made now out (gives_all kind role p q (linked kind role t)))

pub reads_took : (kind : Kind) (role : Role) (t : Trace Entry) (made : Kind) (now : ℕ) (datagram : List ℕ) (took : Took) (load : ℕ) (pulls : Trace Pull) (parts : Trace Handed) (lack : Option (Trace Act))
    → Took_of (linked kind role t) (reads_in kind role (outset role t load) pulls parts lack (takes_in kind made now datagram took (linked kind role t))) (pulls_of kind pulls) (parts_of kind parts)
reads_took kind role t made now datagram took load pulls parts lack =
    let l = linked kind role t in
    let k = takes_in kind made now datagram took l in
    let m = by_pulls kind role (past role t) pulls (of_pulls parts lack) k in
    let n = by_parts kind role (after_pulls role (past role t) pulls) parts lack m in
    took_same l n (reads_in kind role (outset role t load) pulls parts lack k) (pulls_of kind pulls) (parts_of kind parts)
    (same_took l k n (pulls_of kind pulls) (parts_of kind parts) (same_in kind made now datagram took l)
    (took_both k m n (pulls_of kind pulls) (parts_of kind parts) (took_pulls kind role pulls (of_pulls parts lack) (past role t) k) (took_parts kind role parts lack (after_pulls role (past role t) pulls) m)))
    (same_asked kind _ n)

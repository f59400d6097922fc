-- What the links of an end were given, and what was taken of them, call by call.
use Rattle.std.proofs.Common.{◌≡◌, ℕ, zero, suc, ◌+◌, ◌≤◌, Bool, true, false, cond, List, [], ◌∷◌, ◌++◌, map, length, take, drop, Option, Some, None, option_map, refl, sym, ap, subst, ◌∙◌, arith, append_assoc, append-nil}
use Rattle.std.specs.List.{flat_map, fold}
use Rattle.std.proofs.lemmas.Grind.{flat_map-append}
use Rattle.std.proofs.lemmas.List.{drop_at}
use Rattle.mt_base.specs.declared.kinds.Kind.{Kind}
use Rattle.mt_base.specs.declared.kinds.Kind.TheVariants.{Reliable, Lossy}
use Rattle.mt_base.specs.declared.kinds.Role.{Role}
use Rattle.mt_base.specs.declared.kinds.Role.TheVariants.{Server, Client}
use Rattle.mt_base.specs.Prefix.{IsPrefixOf}
use Rattle.mt_base.specs.Trace.{Trace, Start, ◌▷◌}
use Rattle.carrier.specs.declared.state.LinkState.{LinkState}
use Rattle.carrier.specs.declared.state.LinkState.TheVariants.{Opening, Open, Closed}
use Rattle.carrier.specs.declared.state.Took.{Took}
use Rattle.carrier.specs.Entries.{given, pulled, posted, Gave, Pulled, Posted, Next, In, Polled}
use Rattle.carrier.specs.Entries as link
use Rattle.soft_sync.specs.Exchanges.{Request}
use Rattle.mt_endpoint.specs.Acts.{Act, Sends, Silences, Answers, Drawn}
use Rattle.mt_endpoint.specs.Growing.{answer_all, answered}
use Rattle.mt_endpoint.specs.Moving.{read, unanswered_in, may_answer, answer_to}
use Rattle.mt_endpoint.specs.Tunnels.{is_attached, is_silent}
use Rattle.mt_endpoint.specs.Writing.{carried, tunneled}
use Rattle.end_calls.specs.Streams.{Past, is_broken, grows, with_main, written}
use Rattle.end_calls.specs.Calls.{Entry, Own, MainIn, MainOut, WireIn, WireOut, Pull, Handed, Came, lacking, after_bytes, after_pulls, after_parts, read_count, bare, steps, if_steps, before_poll, closed_act, polled, story, past, acts}
use Rattle.end_calls.specs.Law.{IsFront, IsMainLack, IsLinkLack, IsCall, IsWireIn, outset}
use Rattle.end_calls.specs.Links.{gives, gives_bytes, gives_joined, gives_all, gives_own, by_bytes, pulls_from, by_pulls, takes_from, by_parts, of_pulls, asks_once_more, takes_in, reads_in, polls, linked}
use Rattle.end_calls.proofs.Fronts.{front_carried}
use Rattle.end_calls.proofs.Onward.{Goes, goes_byte, goes_run, goes_part, goes_steps, goes_if}

-- ---- giving

-- the link was given all that was written into its tunnel
abbrev pub Wrote : Kind → Role → Trace Act → Trace link.Entry → Type 0
Wrote Reliable role t l = given l ≡ flat_map tunneled (carried Reliable role t)
Wrote Lossy role t l = posted l ≡ map tunneled (carried Lossy role t)

map-append : {X Y : Type 0} (f : X → Y) (xs ys : List X) → map f (xs ++ ys) ≡ map f xs ++ map f ys
map-append f [] ys = refl
map-append f (x ∷ xs) ys = ap (λ l. f x ∷ l) (map-append f xs ys)

given_each : (drawn : List Drawn) (l : Trace link.Entry) → given (fold (gives Reliable) l drawn) ≡ given l ++ flat_map tunneled drawn
given_each [] l = sym (append-nil (given l))
given_each (d ∷ drawn) l = given_each drawn (gives Reliable l d) ∙ append_assoc (given l) (tunneled d) (flat_map tunneled drawn)

posted_each : (drawn : List Drawn) (l : Trace link.Entry) → posted (fold (gives Lossy) l drawn) ≡ posted l ++ map tunneled drawn
posted_each [] l = sym (append-nil (posted l))
posted_each (d ∷ drawn) l = posted_each drawn (gives Lossy l d) ∙ append_assoc (posted l) (tunneled d ∷ []) (map tunneled drawn)

given_bytes : (bytes : List ℕ) (l : Trace link.Entry) → given (gives_bytes bytes l) ≡ given l ++ bytes
given_bytes [] l = sym (append-nil (given l))
given_bytes (b ∷ bytes) l = refl

-- what was written by now
written_is : {X : Type 0} (xs ys : List X) (h : IsPrefixOf xs ys) → xs ++ drop (length xs) ys ≡ ys
written_is xs ys h = ap (λ l. xs ++ l) (ap (drop (length xs)) h.1 ∙ drop_at xs h.0 (length xs) refl) ∙ sym h.1

-- given one by one, or joined
wrote_each : (kind : Kind) (role : Role) (p q : Past) (l : Trace link.Entry) → Wrote kind role p.acts l → Goes p q → Wrote kind role q.acts (fold (gives kind) l (written kind role p q))
wrote_each Reliable role p q l w h =
    given_each (written Reliable role p q) l ∙ ap (λ b. b ++ flat_map tunneled (written Reliable role p q)) w ∙ sym (flat_map-append tunneled (carried Reliable role p.acts) (written Reliable role p q))
    ∙ ap (flat_map tunneled) (written_is (carried Reliable role p.acts) (carried Reliable role q.acts) (front_carried Reliable role p.acts q.acts h))
wrote_each Lossy role p q l w h =
    posted_each (written Lossy role p q) l ∙ ap (λ b. b ++ map tunneled (written Lossy role p q)) w ∙ sym (map-append tunneled (carried Lossy role p.acts) (written Lossy role p q))
    ∙ ap (map tunneled) (written_is (carried Lossy role p.acts) (carried Lossy role q.acts) (front_carried Lossy role p.acts q.acts h))

wrote_joined : (kind : Kind) (role : Role) (p q : Past) (l : Trace link.Entry) → Wrote kind role p.acts l → Goes p q → Wrote kind role q.acts (gives_joined kind (written kind role p q) l)
wrote_joined Reliable role p q l w h =
    given_bytes (flat_map tunneled (written Reliable role p q)) l ∙ ap (λ b. b ++ flat_map tunneled (written Reliable role p q)) w ∙ sym (flat_map-append tunneled (carried Reliable role p.acts) (written Reliable role p q))
    ∙ ap (flat_map tunneled) (written_is (carried Reliable role p.acts) (carried Reliable role q.acts) (front_carried Reliable role p.acts q.acts h))
wrote_joined Lossy role p q l w h = wrote_each Lossy role p q l w h

wrote_own : (kind : Kind) (role : Role) (act : Act) (p q : Past) (l : Trace link.Entry) → Wrote kind role p.acts l → Goes p q → Wrote kind role q.acts (gives_own kind act (written kind role p q) l)
wrote_own kind role (Sends id message) p q l w h = wrote_each kind role p q l w h
wrote_own kind role act p q l w h = wrote_joined kind role p q l w h

-- ---- bytes of the main stream

-- memory may be wanting at the last byte
abbrev LacksLast : Kind → Role → Past → List ℕ → Option (Trace Act) → Type 0
LacksLast kind role p [] None = Unit {0}
LacksLast kind role p [] (Some reached) = ⊥
LacksLast kind role p (byte ∷ []) lack = Goes p (lacking lack (with_main role p byte))
LacksLast kind role p (byte ∷ next ∷ bytes) lack = LacksLast kind role (with_main role p byte) (next ∷ bytes) lack

wrote_bytes : (kind : Kind) (role : Role) (bytes : List ℕ) (lack : Option (Trace Act)) (p : Past) (l : Trace link.Entry) → Wrote kind role p.acts l → LacksLast kind role p bytes lack
    → Wrote kind role (lacking lack (after_bytes role p bytes)).acts (by_bytes kind role p bytes lack l)
wrote_bytes kind role [] None p l w h = w
wrote_bytes kind role [] (Some reached) p l w h = absurd h
wrote_bytes kind role (byte ∷ []) lack p l w h = wrote_joined kind role p (lacking lack (with_main role p byte)) l w h
wrote_bytes kind role (byte ∷ next ∷ bytes) lack p l w h =
    wrote_bytes kind role (next ∷ bytes) lack (with_main role p byte) (gives_all kind role p (with_main role p byte) l) (wrote_joined kind role p (with_main role p byte) l w (goes_byte role p byte)) h

none_lacks : (kind : Kind) (role : Role) (bytes : List ℕ) (p : Past) → LacksLast kind role p bytes None
none_lacks kind role [] p = tt
none_lacks kind role (byte ∷ []) p = goes_byte role p byte
none_lacks kind role (byte ∷ next ∷ bytes) p = none_lacks kind role (next ∷ bytes) (with_main role p byte)

lacks_at : (kind : Kind) (role : Role) (n : ℕ) (offered : List ℕ) (reached : Trace Act) (p : Past) → n + 1 ≤ length offered → IsFront (after_bytes role p (take n offered)).acts reached
    → LacksLast kind role p (take (suc n) offered) (Some reached)
lacks_at kind role n [] reached p few f = absurd (omega (arith, few))
lacks_at kind role zero (x ∷ xs) reached p few f = f
lacks_at kind role (suc n) (x ∷ []) reached p few f = absurd (omega (arith, few))
lacks_at kind role (suc n) (x ∷ y ∷ ys) reached p few f = lacks_at kind role n (y ∷ ys) reached (with_main role p x) (omega (arith, few)) f

suc_is : (n count : ℕ) → count ≡ n + 1 → suc n ≡ count
suc_is n count e = omega (arith, e)

main_lacks : (kind : Kind) (role : Role) (offered : List ℕ) (count : ℕ) (lack : Option (ℕ × Trace Act)) (p : Past) → IsMainLack role p offered lack
    → LacksLast kind role p (take (read_count count lack) offered) (option_map (λ (l : ℕ × Trace Act). l.1) lack)
main_lacks kind role offered count None p h = none_lacks kind role (take count offered) p
main_lacks kind role offered count (Some (most, reached)) p h =
    subst (λ m. LacksLast kind role p (take m offered) (Some reached)) (suc_is h.0 most h.1) (lacks_at kind role h.0 offered reached p (subst (λ m. m ≤ length offered) h.1 h.2) h.3.begun)

-- ---- pulls and parts

wrote_from : (kind : Kind) (role : Role) (t : Trace Act) (pull : Pull) (l : Trace link.Entry) → Wrote kind role t l → Wrote kind role t (pulls_from kind pull l)
wrote_from Reliable role t pull l w = w
wrote_from Lossy role t pull l w = w

wrote_taken : (kind : Kind) (role : Role) (t : Trace Act) (part : Handed) (l : Trace link.Entry) → Wrote kind role t l → Wrote kind role t (takes_from kind part l)
wrote_taken Reliable role t part l w = w
wrote_taken Lossy role t part l w = w

abbrev PullsLack : Kind → Role → Past → Trace Pull → Option (Trace Act) → Type 0
PullsLack kind role p pulls None = Unit {0}
PullsLack kind role p Start (Some reached) = ⊥
PullsLack kind role p (pulls ▷ pull) (Some reached) = IsFront (after_pulls role p pulls).acts reached

wrote_pulls : (kind : Kind) (role : Role) (pulls : Trace Pull) (lack : Option (Trace Act)) (p : Past) (l : Trace link.Entry) → Wrote kind role p.acts l → PullsLack kind role p pulls lack
    → Wrote kind role (lacking lack (after_pulls role p pulls)).acts (by_pulls kind role p pulls lack l)
wrote_pulls kind role Start None p l w h = w
wrote_pulls kind role Start (Some reached) p l w h = absurd h
wrote_pulls kind role (pulls ▷ pull) None p l w h =
    wrote_joined kind role (after_pulls role p pulls) (after_pulls role p (pulls ▷ pull)) (pulls_from kind pull (by_pulls kind role p pulls None l))
    (wrote_from kind role (after_pulls role p pulls).acts pull (by_pulls kind role p pulls None l) (wrote_pulls kind role pulls None p l w tt)) (goes_run role pull.bytes (after_pulls role p pulls))
wrote_pulls kind role (pulls ▷ pull) (Some reached) p l w h =
    wrote_joined kind role (after_pulls role p pulls) (lacking (Some reached) (after_pulls role p (pulls ▷ pull))) (pulls_from kind pull (by_pulls kind role p pulls None l))
    (wrote_from kind role (after_pulls role p pulls).acts pull (by_pulls kind role p pulls None l) (wrote_pulls kind role pulls None p l w tt)) h

abbrev PartsLack : Kind → Role → Past → Trace Handed → Option (Trace Act) → Type 0
PartsLack kind role p parts None = Unit {0}
PartsLack kind role p Start (Some reached) = ⊥
PartsLack kind role p (parts ▷ part) (Some reached) = IsFront (after_parts role p parts).acts reached

wrote_parts : (kind : Kind) (role : Role) (parts : Trace Handed) (lack : Option (Trace Act)) (p : Past) (l : Trace link.Entry) → Wrote kind role p.acts l → PartsLack kind role p parts lack
    → Wrote kind role (lacking lack (after_parts role p parts)).acts (by_parts kind role p parts lack l)
wrote_parts kind role Start None p l w h = w
wrote_parts kind role Start (Some reached) p l w h = absurd h
wrote_parts kind role (parts ▷ part) None p l w h =
    wrote_joined kind role (after_parts role p parts) (after_parts role p (parts ▷ part)) (takes_from kind part (by_parts kind role p parts None l))
    (wrote_taken kind role (after_parts role p parts).acts part (by_parts kind role p parts None l) (wrote_parts kind role parts None p l w tt)) (goes_part role (after_parts role p parts) part.bytes part.is_full)
wrote_parts kind role (parts ▷ part) (Some reached) p l w h =
    wrote_joined kind role (after_parts role p parts) (lacking (Some reached) (after_parts role p (parts ▷ part))) (takes_from kind part (by_parts kind role p parts None l))
    (wrote_taken kind role (after_parts role p parts).acts part (by_parts kind role p parts None l) (wrote_parts kind role parts None p l w tt)) h

wrote_both : (kind : Kind) (role : Role) (pulls : Trace Pull) (parts : Trace Handed) (lack : Option (Trace Act)) (p : Past) (l : Trace link.Entry) → Wrote kind role p.acts l → IsLinkLack role p pulls parts lack
    → Wrote kind role (lacking lack (after_parts role (after_pulls role p pulls) parts)).acts (by_parts kind role (after_pulls role p pulls) parts lack (by_pulls kind role p pulls (of_pulls parts lack) l))
wrote_both kind role pulls Start None p l w h = wrote_pulls kind role pulls None p l w tt
wrote_both kind role pulls (parts ▷ part) None p l w h = wrote_parts kind role (parts ▷ part) None (after_pulls role p pulls) (by_pulls kind role p pulls None l) (wrote_pulls kind role pulls None p l w tt) tt
wrote_both kind role Start Start (Some reached) p l w h = absurd h
wrote_both kind role (pulls ▷ pull) Start (Some reached) p l w h = wrote_pulls kind role (pulls ▷ pull) (Some reached) p l w h.begun
wrote_both kind role pulls (parts ▷ part) (Some reached) p l w h =
    wrote_parts kind role (parts ▷ part) (Some reached) (after_pulls role p pulls) (by_pulls kind role p pulls None l) (wrote_pulls kind role pulls None p l w tt) h.begun

wrote_asked : (kind : Kind) (role : Role) (t : Trace Act) (b : Bool) (l : Trace link.Entry) → Wrote kind role t l → Wrote kind role t (asks_once_more kind b l)
wrote_asked Reliable role t b l w = w
wrote_asked Lossy role t true l w = w
wrote_asked Lossy role t false l w = w

wrote_in : (kind made : Kind) (role : Role) (t : Trace Act) (now : ℕ) (datagram : List ℕ) (took : Took) (l : Trace link.Entry) → Wrote kind role t l → Wrote kind role t (takes_in kind made now datagram took l)
wrote_in Reliable Reliable role t now datagram took l w = w
wrote_in Reliable Lossy role t now datagram took l w = w
wrote_in Lossy Reliable role t now datagram took l w = w
wrote_in Lossy Lossy role t now datagram took l w = w

wrote_polled : (kind made : Kind) (role : Role) (t : Trace Act) (now : ℕ) (out : Option (List ℕ)) (l : Trace link.Entry) → Wrote kind role t l → Wrote kind role t (polls kind made now out l)
wrote_polled Reliable Reliable role t now out l w = w
wrote_polled Reliable Lossy role t now out l w = w
wrote_polled Lossy Reliable role t now out l w = w
wrote_polled Lossy Lossy role t now out l w = w

-- ---- a link that is found closed

answers_carry : (kind : Kind) (role : Role) (requests : List Request) (t : Trace Act) → carried kind role (answer_all role requests t) ≡ carried kind role t
answers_carry kind role [] t = refl
answers_carry kind role (request ∷ requests) t =
    by_test (may_answer role t request.named) (answers_carry kind role requests (t ▷ Answers (answer_to role t request.named)) ∙ append-nil (carried kind role t)) where
      by_test : (b : Bool) → carried kind role (answer_all role requests (t ▷ Answers (answer_to role t request.named))) ≡ carried kind role t
          → carried kind role (cond b (answer_all role requests (t ▷ Answers (answer_to role t request.named))) t) ≡ carried kind role t
      by_test true h = h
      by_test false h = refl

answered_carries : (kind : Kind) (role : Role) (t : Trace Act) → carried kind role (answered role t) ≡ carried kind role t
answered_carries kind Server t = refl
answered_carries kind Client t = answers_carry kind Client (unanswered_in (read t)) t

silence_carries : (kind : Kind) (role : Role) (made : Kind) (expiries : ℕ) (p : Past) → carried kind role (steps role (Silences made expiries) p).acts ≡ carried kind role p.acts
silence_carries kind role made expiries p = by_broken (is_broken p) where
  by_broken : (b : Bool) → carried kind role (cond b (bare (Silences made expiries) p) (grows role (Silences made expiries) p)).acts ≡ carried kind role p.acts
  by_broken true = append-nil (carried kind role p.acts)
  by_broken false = answered_carries kind role (p.acts ▷ Silences made expiries) ∙ append-nil (carried kind role p.acts)

closed_carries : (kind : Kind) (role : Role) (made : Kind) (silent : Bool) (state : LinkState) (p : Past) → carried kind role (if_steps role (closed_act made silent state) p).acts ≡ carried kind role p.acts
closed_carries kind role made silent Opening p = refl
closed_carries kind role made silent Open p = refl
closed_carries kind role made true (Closed expiries) p = refl
closed_carries kind role made false (Closed expiries) p = silence_carries kind role made expiries p

wrote_at : (kind : Kind) (role : Role) (t u : Trace Act) (l : Trace link.Entry) → carried kind role u ≡ carried kind role t → Wrote kind role t l → Wrote kind role u l
wrote_at Reliable role t u l e w = w ∙ ap (flat_map tunneled) (sym e)
wrote_at Lossy role t u l e w = w ∙ ap (map tunneled) (sym e)

wrote_poll : (kind : Kind) (role : Role) (made : Kind) (t : Trace Entry) (now : ℕ) (is_full : Bool) (out : Option (List ℕ)) (state : LinkState) → Wrote kind role (acts role t) (linked kind role t)
    → Wrote kind role (polled role made (story role t).postings now is_full state (past role t)).acts (linked kind role (t ▷ WireOut made now is_full out state))
wrote_poll kind role made t now is_full out state w =
    let p = past role t in
    let o = before_poll made p.acts (story role t).postings now is_full in
    let q = if_steps role o p in
    wrote_polled kind made role (polled role made (story role t).postings now is_full state p).acts now out (gives_all kind role p q (linked kind role t))
    (wrote_at kind role q.acts (polled role made (story role t).postings now is_full state p).acts (gives_all kind role p q (linked kind role t)) (closed_carries kind role made (is_silent made q.acts) state q)
    (wrote_joined kind role p q (linked kind role t) w (goes_if role o p)))

-- ---- one call

wrote_wire : (kind : Kind) (role : Role) (t : Trace Entry) (made : Kind) (now : ℕ) (datagram : List ℕ) (took : Took) (load : ℕ) (came : Came) (pulls : Trace Pull) (parts : Trace Handed) (lack : Option (Trace Act)) (b : Bool)
    → IsWireIn b role t made took load came pulls parts lack → Wrote kind role (acts role t) (linked kind role t)
    → Wrote kind role (lacking lack (after_parts role (after_pulls role (past role t) pulls) parts)).acts (cond b (reads_in kind role (outset role t load) pulls parts lack (takes_in kind made now datagram took (linked kind role t))) (linked kind role t))
wrote_wire kind role t made now datagram took load came pulls parts lack true h w =
    wrote_asked kind role (lacking lack (after_parts role (after_pulls role (past role t) pulls) parts)).acts _ (by_parts kind role (after_pulls role (past role t) pulls) parts lack (by_pulls kind role (past role t) pulls (of_pulls parts lack) (takes_in kind made now datagram took (linked kind role t))))
    (wrote_both kind role pulls parts lack (past role t) (takes_in kind made now datagram took (linked kind role t)) (wrote_in kind made role (acts role t) now datagram took (linked kind role t) w) h.lacking)
wrote_wire kind role t made now datagram took load came pulls parts lack false h w =
    let P : Past → Type 0 = λ q. Wrote kind role q.acts (linked kind role t) in
    subst P (ap (λ (o : Option (Trace Act)). lacking o (after_parts role (after_pulls role (past role t) pulls) parts)) (sym h.none_lacking)) (subst P (ap (λ (ps : Trace Handed). after_parts role (after_pulls role (past role t) pulls) ps) (sym h.none_handed)) (subst P (ap (after_pulls role (past role t)) (sym h.none_pulled)) w))

pub wrote_call : (kind : Kind) (role : Role) (t : Trace Entry) (entry : Entry) → IsCall role t entry → Wrote kind role (acts role t) (linked kind role t) → Wrote kind role (acts role (t ▷ entry)) (linked kind role (t ▷ entry))
wrote_call kind role t (Own act) c w = wrote_own kind role act (past role t) (past role (t ▷ Own act)) (linked kind role t) w (goes_steps role act (past role t))
wrote_call kind role t (MainIn offered count load lack) c w =
    wrote_bytes kind role (take (read_count count lack) offered) (option_map (λ (l : ℕ × Trace Act). l.1) lack) (past role t) (linked kind role t) w (main_lacks kind role offered count lack (past role t) c.2)
wrote_call kind role t (MainOut room bytes) c w = w
wrote_call kind role t (WireIn made now datagram took load came pulls parts lack) c w = wrote_wire kind role t made now datagram took load came pulls parts lack (is_attached made (acts role t)) c w
wrote_call kind role t (WireOut Reliable now is_full out state) c w = wrote_poll kind role Reliable t now is_full out state w
wrote_call kind role t (WireOut Lossy now is_full out state) c w = wrote_poll kind role Lossy t now is_full out state w

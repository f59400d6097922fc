-- An end over many bytes and parts, and one that stops for want of memory.
use Rattle.std.proofs.Common.{◌≡◌, ℕ, Bool, List, [], ◌∷◌, ◌++◌, map, take, drop, Option, Some, None, option_map, refl, sym, ap, subst, ◌∙◌, append_assoc, append-nil}
use Rattle.std.specs.List.{flat_map, fold}
use Rattle.std.proofs.lemmas.List.{take-append-drop}
use Rattle.mt_base.specs.declared.kinds.Kind.TheVariants.{Reliable, Lossy}
use Rattle.mt_base.specs.declared.kinds.Role.{Role}
use Rattle.mt_base.specs.Ends.{other}
use Rattle.mt_base.specs.Prefix.{IsPrefixOf, IsPickOf}
use Rattle.mt_base.specs.Trace.{Trace, Start, ◌▷◌}
use Rattle.mt_base.proofs.Prefixes.{front-trans, front-at, front-append, pick-at}
use Rattle.mt_endpoint.specs.Acts.{Act}
use Rattle.mt_endpoint.specs.Writing.{spoken, carried, framed, tunneled}
use Rattle.mt_endpoint.proofs.Together.{Place}
use Rattle.end_calls.specs.declared.fault.Fault.{Fault}
use Rattle.end_calls.specs.declared.fault.Fault.TheVariants as fault
use Rattle.end_calls.specs.Streams.{Past, with_main, with_tunnel, with_part}
use Rattle.end_calls.specs.Calls.{Pull, Handed, lacking, after_bytes, after_pulls, after_parts}
use Rattle.end_calls.specs.Stops.{pulled_bytes, handed_parts}
use Rattle.end_calls.specs.Law.{IsFront, IsLack, IsMainLack, IsLinkLack}
use Rattle.end_calls.proofs.Fitting.{EachGiven}
use Rattle.end_calls.proofs.Fronts.{front_given, front_less, front_picked, place_between}
use Rattle.end_calls.proofs.Standing.{Spelled, At, On, main_byte, tunnel_byte, one_part}

-- an end that reads, or one that stopped for want of memory
pub data State (role : Role) (there : Trace Act) (p : Past) (taken pulled : List ℕ) (handed : List (List ℕ)) : Type 0 where
  reads_on : At role there p taken pulled handed → State role there p taken pulled handed
  stopped : Place role p.acts there → EachGiven p.acts → p.broken ≡ Some fault.NoMemory → State role there p taken pulled handed

pub state_at : (role : Role) (there : Trace Act) (p : Past) (taken took pulled got : List ℕ) (handed parts : List (List ℕ)) → taken ≡ took → pulled ≡ got → handed ≡ parts → State role there p taken pulled handed → State role there p took got parts
state_at role there p taken took pulled got handed parts a b c s =
    subst (State role there p took got) c (subst (λ l. State role there p took l handed) b (subst (λ l. State role there p l pulled handed) a s))

pub state_place : (role : Role) (there : Trace Act) (p : Past) (taken pulled : List ℕ) (handed : List (List ℕ)) → State role there p taken pulled handed → Place role p.acts there
state_place role there p taken pulled handed (reads_on a) = a.place
state_place role there p taken pulled handed (stopped place given broken) = place

pub state_given : (role : Role) (there : Trace Act) (p : Past) (taken pulled : List ℕ) (handed : List (List ℕ)) → State role there p taken pulled handed → EachGiven p.acts
state_given role there p taken pulled handed (reads_on a) = a.given
state_given role there p taken pulled handed (stopped place given broken) = given

-- ---- many bytes

pub main_bytes : (role : Role) (there : Trace Act) (bytes : List ℕ) (p : Past) (taken pulled : List ℕ) (handed : List (List ℕ)) → Spelled (other role) there → On role there p taken pulled handed
    → IsPrefixOf (taken ++ bytes) (flat_map framed (spoken (other role) there)) → On role there (after_bytes role p bytes) (taken ++ bytes) pulled handed
main_bytes role there [] p taken pulled handed f o front = subst (λ l. On role there p l pulled handed) (sym (append-nil taken)) o
main_bytes role there (byte ∷ bytes) p taken pulled handed f o front =
    let all : (taken ++ byte ∷ []) ++ bytes ≡ taken ++ byte ∷ bytes = append_assoc taken (byte ∷ []) bytes in
    let out : List ℕ = flat_map framed (spoken (other role) there) in
    let one = main_byte role there p taken pulled handed byte f o (front-trans (taken ++ byte ∷ []) (taken ++ byte ∷ bytes) out (bytes, sym all) front) in
    subst (λ l. On role there (after_bytes role (with_main role p byte) bytes) l pulled handed) all
    (main_bytes role there bytes (with_main role p byte) (taken ++ byte ∷ []) pulled handed f one (front-at (taken ++ byte ∷ bytes) ((taken ++ byte ∷ []) ++ bytes) out out (sym all) refl front))

tunnel_bytes : (role : Role) (there : Trace Act) (bytes : List ℕ) (p : Past) (taken pulled : List ℕ) (handed : List (List ℕ)) → Spelled (other role) there → On role there p taken pulled handed
    → IsPrefixOf (pulled ++ bytes) (flat_map tunneled (carried Reliable (other role) there)) → On role there (fold (with_tunnel role) p bytes) taken (pulled ++ bytes) handed
tunnel_bytes role there [] p taken pulled handed f o front = subst (λ l. On role there p taken l handed) (sym (append-nil pulled)) o
tunnel_bytes role there (byte ∷ bytes) p taken pulled handed f o front =
    let all : (pulled ++ byte ∷ []) ++ bytes ≡ pulled ++ byte ∷ bytes = append_assoc pulled (byte ∷ []) bytes in
    let out : List ℕ = flat_map tunneled (carried Reliable (other role) there) in
    let one = tunnel_byte role there p taken pulled handed byte f o (front-trans (pulled ++ byte ∷ []) (pulled ++ byte ∷ bytes) out (bytes, sym all) front) in
    subst (λ l. On role there (fold (with_tunnel role) (with_tunnel role p byte) bytes) taken l handed) all
    (tunnel_bytes role there bytes (with_tunnel role p byte) taken (pulled ++ byte ∷ []) handed f one (front-at (pulled ++ byte ∷ bytes) ((pulled ++ byte ∷ []) ++ bytes) out out (sym all) refl front))

pub all_pulls : (role : Role) (there : Trace Act) (pulls : Trace Pull) (p : Past) (taken pulled : List ℕ) (handed : List (List ℕ)) → Spelled (other role) there → On role there p taken pulled handed
    → IsPrefixOf (pulled ++ pulled_bytes pulls) (flat_map tunneled (carried Reliable (other role) there)) → On role there (after_pulls role p pulls) taken (pulled ++ pulled_bytes pulls) handed
all_pulls role there Start p taken pulled handed f o front = subst (λ l. On role there p taken l handed) (sym (append-nil pulled)) o
all_pulls role there (pulls ▷ pull) p taken pulled handed f o front =
    let all : (pulled ++ pulled_bytes pulls) ++ pull.bytes ≡ pulled ++ (pulled_bytes pulls ++ pull.bytes) = append_assoc pulled (pulled_bytes pulls) pull.bytes in
    let out : List ℕ = flat_map tunneled (carried Reliable (other role) there) in
    let before = all_pulls role there pulls p taken pulled handed f o (front-trans (pulled ++ pulled_bytes pulls) (pulled ++ (pulled_bytes pulls ++ pull.bytes)) out (pull.bytes, sym all) front) in
    subst (λ l. On role there (after_pulls role p (pulls ▷ pull)) taken l handed) all
    (tunnel_bytes role there pull.bytes (after_pulls role p pulls) taken (pulled ++ pulled_bytes pulls) handed f before
    (front-at (pulled ++ (pulled_bytes pulls ++ pull.bytes)) ((pulled ++ pulled_bytes pulls) ++ pull.bytes) out out (sym all) refl front))

pub all_parts : (role : Role) (there : Trace Act) (parts : Trace Handed) (p : Past) (taken pulled : List ℕ) (handed : List (List ℕ)) → Spelled (other role) there → On role there p taken pulled handed
    → IsPickOf (handed ++ handed_parts parts) (map tunneled (carried Lossy (other role) there)) → On role there (after_parts role p parts) taken pulled (handed ++ handed_parts parts)
all_parts role there Start p taken pulled handed f o pick = subst (On role there p taken pulled) (sym (append-nil handed)) o
all_parts role there (parts ▷ part) p taken pulled handed f o pick =
    let all : (handed ++ handed_parts parts) ++ part.bytes ∷ [] ≡ handed ++ (handed_parts parts ++ part.bytes ∷ []) = append_assoc handed (handed_parts parts) (part.bytes ∷ []) in
    let out : List (List ℕ) = map tunneled (carried Lossy (other role) there) in
    let before = all_parts role there parts p taken pulled handed f o (front_picked (handed ++ handed_parts parts) (handed ++ (handed_parts parts ++ part.bytes ∷ [])) out (part.bytes ∷ [], sym all) pick) in
    subst (On role there (after_parts role p (parts ▷ part)) taken pulled) all
    (one_part role there (after_parts role p parts) taken pulled (handed ++ handed_parts parts) part.bytes part.is_full f before
    (pick-at (handed ++ (handed_parts parts ++ part.bytes ∷ [])) ((handed ++ handed_parts parts) ++ part.bytes ∷ []) out out (sym all) refl pick))

-- ---- a broken end reads nothing

broken_byte : (role : Role) (p : Past) (why : Fault) (byte : ℕ) → p.broken ≡ Some why → with_main role p byte ≡ p
unfolding with_main
broken_byte role p why byte e = rw e refl

broken_pull : (role : Role) (p : Past) (why : Fault) (byte : ℕ) → p.broken ≡ Some why → with_tunnel role p byte ≡ p
unfolding with_tunnel
broken_pull role p why byte e = rw e refl

broken_part : (role : Role) (p : Past) (why : Fault) (bytes : List ℕ) (is_full : Bool) → p.broken ≡ Some why → with_part role p bytes is_full ≡ p
unfolding with_part
broken_part role p why bytes is_full e = rw e refl

pub broken_bytes : (role : Role) (p : Past) (why : Fault) (bytes : List ℕ) → p.broken ≡ Some why → after_bytes role p bytes ≡ p
broken_bytes role p why [] e = refl
broken_bytes role p why (byte ∷ bytes) e = ap (λ q. after_bytes role q bytes) (broken_byte role p why byte e) ∙ broken_bytes role p why bytes e

broken_run : (role : Role) (p : Past) (why : Fault) (bytes : List ℕ) → p.broken ≡ Some why → fold (with_tunnel role) p bytes ≡ p
broken_run role p why [] e = refl
broken_run role p why (byte ∷ bytes) e = ap (λ q. fold (with_tunnel role) q bytes) (broken_pull role p why byte e) ∙ broken_run role p why bytes e

pub broken_pulls : (role : Role) (p : Past) (why : Fault) (pulls : Trace Pull) → p.broken ≡ Some why → after_pulls role p pulls ≡ p
broken_pulls role p why Start e = refl
broken_pulls role p why (pulls ▷ pull) e = ap (λ q. fold (with_tunnel role) q pull.bytes) (broken_pulls role p why pulls e) ∙ broken_run role p why pull.bytes e

pub broken_parts : (role : Role) (p : Past) (why : Fault) (parts : Trace Handed) → p.broken ≡ Some why → after_parts role p parts ≡ p
broken_parts role p why Start e = refl
broken_parts role p why (parts ▷ part) e = ap (λ q. with_part role q part.bytes part.is_full) (broken_parts role p why parts e) ∙ broken_part role p why part.bytes part.is_full e

-- ---- want of memory

lack_between : (role : Role) (there : Trace Act) (p q : Past) (reached : Trace Act) (taken pulled : List ℕ) (handed : List (List ℕ)) → IsLack p q reached → Place role p.acts there → Place role q.acts there → EachGiven q.acts
    → State role there (lacking (Some reached) q) taken pulled handed
lack_between role there p q reached taken pulled handed l before after given =
    let f : IsFront reached q.acts = front_less (reached ▷ l.next) reached q.acts l.next refl l.due in stopped (place_between role there p.acts reached q.acts l.begun f before after) (front_given reached q.acts f given) refl

abbrev IsStopped : Past → Type 0
IsStopped p = p.broken ≡ Some fault.NoMemory

-- a lack of an end that was broken before
lack_again : (role : Role) (there : Trace Act) (p q r : Past) (reached : Trace Act) (taken pulled : List ℕ) (handed : List (List ℕ)) → q ≡ p → r ≡ p → IsLack q r reached → Place role p.acts there → EachGiven p.acts
    → State role there (lacking (Some reached) p) taken pulled handed
lack_again role there p q r reached taken pulled handed a b l place given =
    lack_between role there p p reached taken pulled handed (subst (λ x. IsLack x p reached) a (subst (λ x. IsLack q x reached) b l)) place place given

take_front : (n : ℕ) (xs : List ℕ) → IsPrefixOf (take n xs) xs
take_front n xs = (drop n xs, sym (take-append-drop n xs))

behind : (taken xs ys : List ℕ) (out : List ℕ) → IsPrefixOf xs ys → IsPrefixOf (taken ++ ys) out → IsPrefixOf (taken ++ xs) out
behind taken xs ys out h k = front-trans (taken ++ xs) (taken ++ ys) out (h.0, ap (λ l. taken ++ l) h.1 ∙ sym (append_assoc taken xs h.0)) k

-- bytes of the main stream that are offered
pub main_in : (role : Role) (there : Trace Act) (p : Past) (taken pulled : List ℕ) (handed : List (List ℕ)) (offered : List ℕ) (count : ℕ) → Spelled (other role) there → (begun : On role there p taken pulled handed)
    → IsPrefixOf (taken ++ take count offered) (flat_map framed (spoken (other role) there)) → State role there (after_bytes role p (take count offered)) (taken ++ take count offered) pulled handed
main_in role there p taken pulled handed offered count f o front = reads_on (main_bytes role there (take count offered) p taken pulled handed f o front).at_end

pub main_lacks : (role : Role) (there : Trace Act) (p : Past) (taken pulled took : List ℕ) (handed : List (List ℕ)) (offered : List ℕ) (count : ℕ) (reached : Trace Act) → Spelled (other role) there → On role there p taken pulled handed
    → IsMainLack role p offered (Some (count, reached)) → IsPrefixOf (taken ++ offered) (flat_map framed (spoken (other role) there))
    → State role there (lacking (Some reached) (after_bytes role p (take count offered))) took pulled handed
main_lacks role there p taken pulled took handed offered count reached f o l front =
    let out : List ℕ = flat_map framed (spoken (other role) there) in
    let before = main_bytes role there (take l.0 offered) p taken pulled handed f o (behind taken (take l.0 offered) offered out (take_front l.0 offered) front) in
    let after = main_bytes role there (take count offered) p taken pulled handed f o (behind taken (take count offered) offered out (take_front count offered) front) in
    lack_between role there (after_bytes role p (take l.0 offered)) (after_bytes role p (take count offered)) reached took pulled handed l.3 before.at_end.place after.at_end.place after.at_end.given

pub main_stopped : (role : Role) (there : Trace Act) (p : Past) (pulled took : List ℕ) (handed : List (List ℕ)) (offered : List ℕ) (bytes : List ℕ) (lack : Option (ℕ × Trace Act)) → Place role p.acts there → EachGiven p.acts → IsStopped p
    → IsMainLack role p offered lack → State role there (lacking (option_map (λ (l : ℕ × Trace Act). l.1) lack) (after_bytes role p bytes)) took pulled handed
main_stopped role there p pulled took handed offered bytes None place given broken l =
    subst (λ q. State role there q took pulled handed) (sym (broken_bytes role p fault.NoMemory bytes broken)) (stopped place given broken)
main_stopped role there p pulled took handed offered bytes (Some (count, reached)) place given broken l =
    subst (λ q. State role there (lacking (Some reached) q) took pulled handed) (sym (broken_bytes role p fault.NoMemory bytes broken))
    (lack_again role there p (after_bytes role p (take l.0 offered)) (after_bytes role p (take count offered)) reached took pulled handed (broken_bytes role p fault.NoMemory (take l.0 offered) broken) (broken_bytes role p fault.NoMemory (take count offered) broken) l.3 place given)

-- ---- a datagram

abbrev after_both : Role → Past → Trace Pull → Trace Handed → Past
after_both role p pulls parts = after_parts role (after_pulls role p pulls) parts

pub link_in : (role : Role) (there : Trace Act) (pulls : Trace Pull) (parts : Trace Handed) (lack : Option (Trace Act)) (p : Past) (taken pulled : List ℕ) (handed : List (List ℕ)) → Spelled (other role) there → On role there p taken pulled handed
    → IsLinkLack role p pulls parts lack → IsPrefixOf (pulled ++ pulled_bytes pulls) (flat_map tunneled (carried Reliable (other role) there)) → IsPickOf (handed ++ handed_parts parts) (map tunneled (carried Lossy (other role) there))
    → State role there (lacking lack (after_both role p pulls parts)) taken (pulled ++ pulled_bytes pulls) (handed ++ handed_parts parts)
link_in role there pulls parts None p taken pulled handed f o l front pick =
    reads_on (all_parts role there parts (after_pulls role p pulls) taken (pulled ++ pulled_bytes pulls) handed f (all_pulls role there pulls p taken pulled handed f o front) pick).at_end
link_in role there Start Start (Some reached) p taken pulled handed f o l front pick = absurd l
link_in role there (pulls ▷ pull) Start (Some reached) p taken pulled handed f o l front pick =
    let out : List ℕ = flat_map tunneled (carried Reliable (other role) there) in
    let before = all_pulls role there pulls p taken pulled handed f o (behind pulled (pulled_bytes pulls) (pulled_bytes (pulls ▷ pull)) out (front-append (pulled_bytes pulls) pull.bytes) front) in
    let after = all_pulls role there (pulls ▷ pull) p taken pulled handed f o front in
    lack_between role there (after_pulls role p pulls) (after_pulls role p (pulls ▷ pull)) reached taken (pulled ++ pulled_bytes (pulls ▷ pull)) (handed ++ []) l before.at_end.place after.at_end.place after.at_end.given
link_in role there pulls (parts ▷ part) (Some reached) p taken pulled handed f o l front pick =
    let out : List (List ℕ) = map tunneled (carried Lossy (other role) there) in
    let q = after_pulls role p pulls in
    let got : List ℕ = pulled ++ pulled_bytes pulls in
    let at_pulls = all_pulls role there pulls p taken pulled handed f o front in
    let all : (handed ++ handed_parts parts) ++ part.bytes ∷ [] ≡ handed ++ (handed_parts parts ++ part.bytes ∷ []) = append_assoc handed (handed_parts parts) (part.bytes ∷ []) in
    let before = all_parts role there parts q taken got handed f at_pulls (front_picked (handed ++ handed_parts parts) (handed ++ (handed_parts parts ++ part.bytes ∷ [])) out (part.bytes ∷ [], sym all) pick) in
    let after = all_parts role there (parts ▷ part) q taken got handed f at_pulls pick in
    lack_between role there (after_parts role q parts) (after_parts role q (parts ▷ part)) reached taken got (handed ++ handed_parts (parts ▷ part)) l before.at_end.place after.at_end.place after.at_end.given

broken_both : (role : Role) (p : Past) (pulls : Trace Pull) (parts : Trace Handed) → IsStopped p → after_both role p pulls parts ≡ p
broken_both role p pulls parts e = ap (λ q. after_parts role q parts) (broken_pulls role p fault.NoMemory pulls e) ∙ broken_parts role p fault.NoMemory parts e

pub link_stopped : (role : Role) (there : Trace Act) (pulls : Trace Pull) (parts : Trace Handed) (lack : Option (Trace Act)) (p : Past) (taken pulled : List ℕ) (handed : List (List ℕ)) → Place role p.acts there → EachGiven p.acts → IsStopped p
    → IsLinkLack role p pulls parts lack → State role there (lacking lack (after_both role p pulls parts)) taken pulled handed
link_stopped role there pulls parts None p taken pulled handed place given broken l = subst (λ q. State role there q taken pulled handed) (sym (broken_both role p pulls parts broken)) (stopped place given broken)
link_stopped role there Start Start (Some reached) p taken pulled handed place given broken l = absurd l
link_stopped role there (pulls ▷ pull) Start (Some reached) p taken pulled handed place given broken l =
    subst (λ q. State role there (lacking (Some reached) q) taken pulled handed) (sym (broken_pulls role p fault.NoMemory (pulls ▷ pull) broken))
    (lack_again role there p (after_pulls role p pulls) (after_pulls role p (pulls ▷ pull)) reached taken pulled handed (broken_pulls role p fault.NoMemory pulls broken) (broken_pulls role p fault.NoMemory (pulls ▷ pull) broken) l place given)
link_stopped role there pulls (parts ▷ part) (Some reached) p taken pulled handed place given broken l =
    subst (λ q. State role there (lacking (Some reached) q) taken pulled handed) (sym (broken_both role p pulls (parts ▷ part) broken))
    (lack_again role there p (after_both role p pulls parts) (after_both role p pulls (parts ▷ part)) reached taken pulled handed (broken_both role p pulls parts broken) (broken_both role p pulls (parts ▷ part) broken) l place given)

-- Lemmas on how datagrams stand in memory.
use Rattle.std.proofs.Common.{◌≡◌, ℕ, ◌+◌, ◌<◌, ◌≤◌, cond, List, [], ◌∷◌, ◌++◌, length, take, drop, All, slice_get, get_or, Some, refl, sym, ap, ◌∙◌, subst, arith, length-append, length-drop}
use Rattle.std.proofs.lemmas.List.{map_push, get_or-map, length-map, take_all, drop_at, drop-append-le, take-append-le}
use Rattle.std.proofs.lemmas.List.Elements.{All-head, All-tail, All-get_or, All-push, All-weaker}
use Rattle.std.proofs.lemmas.Option.{slice_get_read}
use Rattle.mt_base.specs.declared.kinds.Role.{Role}
use Rattle.mt_base.specs.declared.kinds.Role.TheVariants.{Server, Client}
use Rattle.mt_base.specs.Ends.{same_role}
use Rattle.link_traffic.specs.declared.traffic.Given.{Given}
use Rattle.link_traffic.specs.Given.{places, numbered}
use Rattle.link_traffic.specs.Stored.{datagrams_in, IsStored}
use Rattle.link_traffic.proofs.Places.{place_within, numbered_at, places-push}

pub length-datagrams : (bytes : List ℕ) (given : List Given) → length (datagrams_in bytes given) ≡ length given
length-datagrams bytes given = length-map given (λ (g : Given). let pair : Role × List ℕ = (g.side, take g.length (drop g.start bytes)) in pair)

-- what a read of the places gives
pub read_place : (side : Role) (all : List (Role × List ℕ)) (shown : List ℕ) (n q : ℕ) → shown ≡ places side all → n < length shown → q ≡ get_or shown n q
    → slice_get (places side all) n ≡ Some q
read_place side all shown n q is within read = subst (λ t. slice_get t n ≡ Some q) is (slice_get_read shown (length shown) n q refl within read)

-- the datagram that is read by its place
pub record Stands (side : Role) (all : List (Role × List ℕ)) (n : ℕ) (bytes : List ℕ) (g : Given) : Type 0 where
  pub inside : g.start + g.length ≤ length bytes
  pub numbered_is : numbered side n all ≡ Some (take g.length (drop g.start bytes))

pub stands_within : (side : Role) (all : List (Role × List ℕ)) (bytes : List ℕ) (given : List Given) (n q : ℕ) → datagrams_in bytes given ≡ all
    → slice_get (places side all) n ≡ Some q → q < length given
stands_within side all bytes given n q is at =
    let h = place_within side all n q at in
    let same = ap length is in
    let l = length-datagrams bytes given in
    omega (arith, h, same, l)

pub stands_at : (side : Role) (all : List (Role × List ℕ)) (bytes : List ℕ) (given : List Given) (server client : List ℕ) (n q : ℕ) (g : Given)
    → datagrams_in bytes given ≡ all → IsStored bytes given server client → slice_get (places side all) n ≡ Some q → g ≡ get_or given q g → Stands side all n bytes g
stands_at side all bytes given server client n q g is stored at read =
    let within = stands_within side all bytes given n q is at in
    let shown = λ (f : Given). let pair : Role × List ℕ = (f.side, take f.length (drop f.start bytes)) in pair in
    let all_is : get_or all q (shown g) ≡ shown g =
    ap (λ t. get_or t q (shown g)) (sym is) ∙ get_or-map shown given q g (shown g) within ∙ ap shown (sym read) in
    record {
      inside = subst (λ (f : Given). f.start + f.length ≤ length bytes) (sym read) (All-get_or (λ (f : Given). f.start + f.length ≤ length bytes) given q g within stored.inside);
      numbered_is = numbered_at side all n q at (shown g) ∙ ap (λ (p : Role × List ℕ). Some p.1) all_is;
    }

-- what stands stays where bytes come behind it
same_bytes : (bytes datagram : List ℕ) (given : List Given) → All (λ (g : Given). g.start + g.length ≤ length bytes) given
    → datagrams_in (bytes ++ datagram) given ≡ datagrams_in bytes given
same_bytes bytes datagram [] inside = refl
same_bytes bytes datagram (g ∷ given) inside =
    let P = λ (f : Given). f.start + f.length ≤ length bytes in
    let here = All-head P g given inside in
    let start : g.start ≤ length bytes = omega (arith, here) in
    let room : g.length ≤ length (drop g.start bytes) = omega (arith, here, length-drop g.start bytes) in
    let same : take g.length (drop g.start (bytes ++ datagram)) ≡ take g.length (drop g.start bytes) =
    ap (λ t. take g.length t) (drop-append-le g.start bytes datagram start) ∙ take-append-le g.length (drop g.start bytes) datagram room in
    ap (λ t. (g.side, t) ∷ datagrams_in (bytes ++ datagram) given) same
    ∙ ap (λ t. (g.side, take g.length (drop g.start bytes)) ∷ t) (same_bytes bytes datagram given (All-tail P g given inside))

-- one more is given
abbrev pub given_of : Role → List ℕ → List ℕ → Given
given_of side bytes datagram = record { side = side; start = length bytes; length = length datagram }

pub given_more : (bytes datagram : List ℕ) (given : List Given) (side : Role) (bytes' : List ℕ) (given' : List Given) → All (λ (g : Given). g.start + g.length ≤ length bytes) given
    → bytes' ≡ bytes ++ datagram → given' ≡ given ++ (given_of side bytes datagram ∷ []) → datagrams_in bytes' given' ≡ datagrams_in bytes given ++ ((side, datagram) ∷ [])
given_more bytes datagram given side bytes' given' inside bytes_are given_are =
    let whole = bytes ++ datagram in
    let shown = λ (f : Given). let pair : Role × List ℕ = (f.side, take f.length (drop f.start whole)) in pair in
    let last : take (length datagram) (drop (length bytes) whole) ≡ datagram =
    ap (λ t. take (length datagram) t) (drop_at bytes datagram (length bytes) refl) ∙ take_all (length datagram) datagram (omega arith) in
    ap (λ t. datagrams_in t given') bytes_are ∙ ap (λ t. datagrams_in whole t) given_are ∙ map_push shown given (given_of side bytes datagram)
    ∙ ap (λ t. t ++ ((side, take (length datagram) (drop (length bytes) whole)) ∷ [])) (same_bytes bytes datagram given inside)
    ∙ ap (λ t. datagrams_in bytes given ++ ((side, t) ∷ [])) last

places_more : (which side : Role) (bytes datagram : List ℕ) (given : List Given) (shown shown' : List ℕ) (all : List (Role × List ℕ))
    → shown ≡ places which (datagrams_in bytes given) → shown' ≡ shown ++ cond (same_role which side) (length given ∷ []) []
    → all ≡ datagrams_in bytes given ++ ((side, datagram) ∷ []) → shown' ≡ places which all
places_more which side bytes datagram given shown shown' all is more all_is =
    let old = datagrams_in bytes given in
    let here : 0 + length old ≡ length given = omega (arith, length-datagrams bytes given) in
    more ∙ ap (λ t. t ++ cond (same_role which side) (length given ∷ []) []) is
    ∙ ap (λ k. places which old ++ cond (same_role which side) (k ∷ []) []) (sym here)
    ∙ sym (places-push 0 which old (side, datagram)) ∙ ap (λ t. places which t) (sym all_is)

pub stored_more : (bytes datagram : List ℕ) (given : List Given) (server client : List ℕ) (side : Role) (bytes' : List ℕ) (given' : List Given) (server' client' : List ℕ)
    → IsStored bytes given server client → bytes' ≡ bytes ++ datagram → given' ≡ given ++ (given_of side bytes datagram ∷ [])
    → server' ≡ server ++ cond (same_role Server side) (length given ∷ []) [] → client' ≡ client ++ cond (same_role Client side) (length given ∷ []) []
    → IsStored bytes' given' server' client'
stored_more bytes datagram given server client side bytes' given' server' client' stored bytes_are given_are server_are client_are =
    let all_is = given_more bytes datagram given side bytes' given' stored.inside bytes_are given_are in
    let long : length bytes' ≡ length bytes + length datagram = ap length bytes_are ∙ length-append bytes datagram in
    let wider : All (λ (g : Given). g.start + g.length ≤ length bytes') given =
    All-weaker (λ (g : Given). g.start + g.length ≤ length bytes) (λ (g : Given). g.start + g.length ≤ length bytes') (λ g h. omega (arith, h, long)) given stored.inside in
    record {
      inside = subst (λ t. All (λ (g : Given). g.start + g.length ≤ length bytes') t) (sym given_are)
          (All-push (λ (g : Given). g.start + g.length ≤ length bytes') given (given_of side bytes datagram) wider (omega (arith, long)));
      server_are = places_more Server side bytes datagram given server server' (datagrams_in bytes' given') stored.server_are server_are all_is;
      client_are = places_more Client side bytes datagram given client client' (datagrams_in bytes' given') stored.client_are client_are all_is;
    }

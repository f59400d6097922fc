-- Two ends of which one handed out bytes of its main stream, and the other took some.
use Rattle.std.proofs.Common.{◌≡◌, ℕ, zero, suc, ◌≤◌, List, [], ◌∷◌, ◌++◌, length, take, drop, Option, Some, None, refl, sym, ap, subst, ◌∙◌, arith, append_assoc, append-nil}
use Rattle.std.proofs.Math.Seq.{drop-append_seam}
use Rattle.std.proofs.lemmas.List.{length-take, take-append-drop}
use Rattle.mt_base.specs.declared.kinds.Kind.{Kind}
use Rattle.mt_base.specs.declared.kinds.Kind.TheVariants.{Reliable, Lossy}
use Rattle.mt_base.specs.declared.kinds.Role.{Role}
use Rattle.mt_base.specs.declared.kinds.Role.TheVariants.{Server, Client}
use Rattle.mt_base.specs.Ends.{other}
use Rattle.mt_base.specs.Trace.{Trace, ◌▷◌}
use Rattle.carrier.specs.declared.state.LinkState.{LinkState}
use Rattle.carrier.specs.Entries as link
use Rattle.mt_endpoint.specs.Acts.{Act}
use Rattle.end_calls.specs.Calls.{Entry, MainIn, MainOut}
use Rattle.end_calls.specs.Law.{given_main, taken_main, unsent}
use Rattle.end_calls.specs.Net.{at}
use Rattle.endpoint.specs.Kept.{Kept}
use Rattle.endpoint.specs.Standing.{EndStands}
use Rattle.end_wires.specs.MainStreams.{under_way}
use Rattle.end_pair.specs.Joined.{Joined, PairIsLawful, PairStands, end_of, from, on}
use Rattle.end_pair.specs.Moving.{HandsOut, Moves, TakesIn, more_of, needed, up_to}
use Rattle.end_pair.proofs.Growing.{grows}

-- ---- lists

front_again : (n m : ℕ) (xs : List ℕ) → n ≤ m → take n (take m xs) ≡ take n xs
front_again zero m xs h = refl
front_again (suc n) zero xs h = absurd (omega (arith, h))
front_again (suc n) (suc m) [] h = refl
front_again (suc n) (suc m) (x ∷ xs) h = ap (λ ys. x ∷ ys) (front_again n m xs (omega (arith, h)))

front_of : (limit : Option ℕ) (bytes : List ℕ) (count : ℕ) → count ≤ length (up_to limit bytes) → take count (up_to limit bytes) ≡ take count bytes
front_of None bytes count h = refl
front_of (Some limit) bytes count h = front_again count limit bytes (omega (arith, h, length-take limit bytes))

handed : (given taken kept more bytes : List ℕ) → given ≡ taken ++ kept → bytes ≡ kept ++ more → given ++ more ≡ taken ++ bytes
handed given taken kept more bytes e b = ap (λ xs. xs ++ more) e ∙ append_assoc taken kept more ∙ ap (λ xs. taken ++ xs) (sym b)

took : (given taken bytes rest : List ℕ) (limit : Option ℕ) (count : ℕ) → given ≡ taken ++ bytes → count ≤ length (up_to limit bytes) → rest ≡ drop count bytes → given ≡ (taken ++ take count (up_to limit bytes)) ++ rest
took given taken bytes rest limit count e within is =
    e ∙ ap (λ xs. taken ++ xs) (sym (take-append-drop count bytes) ∙ ap (λ xs. xs ++ drop count bytes) (sym (front_of limit bytes count within)) ∙ ap (λ xs. take count (up_to limit bytes) ++ xs) (sym is))
    ∙ sym (append_assoc taken (take count (up_to limit bytes)) rest)

-- what is under way is what the pair keeps
pub is_under_way : (given taken kept : List ℕ) → given ≡ taken ++ kept → drop (length taken) given ≡ kept
is_under_way given taken kept e = ap (drop (length taken)) e ∙ drop-append_seam taken kept

none_given : {C P : Type 0} (pair now : Joined C P) → now.reliable ≡ pair.reliable → now.lossy ≡ pair.lossy → (kind : Kind) → on kind now ≡ on kind pair ++ []
none_given pair now r l Reliable = r ∙ sym (append-nil pair.reliable)
none_given pair now r l Lossy = l ∙ sym (append-nil pair.lossy)

-- the pair behind both calls
abbrev pub moved : {C P : Type 0} → Role → Kept C P → Kept C P → List ℕ → Joined C P → Joined C P
moved Server sender receiver rest pair = record pair { server = sender; client = receiver; from_server = rest }
moved Client sender receiver rest pair = record pair { client = sender; server = receiver; from_client = rest }

-- the list is that of what is under way
lists_are : (w : Trace (Role × Entry)) (side : Role) (limit : Option ℕ) (count load : ℕ) (lack : Option (ℕ × Trace Act)) (kept from bytes : List ℕ) → kept ≡ from
    → bytes ≡ from ++ take (needed limit (length from) (length (unsent side (at side w)))) (unsent side (at side w))
    → w ▷ (side, MainOut (needed limit (length kept) (length (unsent side (at side w)))) (take (needed limit (length kept) (length (unsent side (at side w)))) (unsent side (at side w))))
    ▷ (other side, MainIn (up_to limit (kept ++ take (needed limit (length kept) (length (unsent side (at side w)))) (unsent side (at side w)))) count load lack)
    ≡ w ▷ (side, MainOut (needed limit (length from) (length (unsent side (at side w)))) (take (needed limit (length from) (length (unsent side (at side w)))) (unsent side (at side w))))
    ▷ (other side, MainIn (up_to limit bytes) count load lack)
lists_are w side limit count load lack kept from bytes same is =
    let all = unsent side (at side w) in
    let call = λ (xs ys : List ℕ). w ▷ (side, MainOut (needed limit (length xs) (length all)) (take (needed limit (length xs) (length all)) all)) ▷ (other side, MainIn (up_to limit ys) count load lack) in
    ap (λ xs. call xs (xs ++ take (needed limit (length xs) (length all)) all)) same ∙ ap (λ ys. call from ys) (sym is)

out_of_server : {C P : Type 0} (carrier_stands : C → Trace link.Entry → Type 0) (carrier_left : C → List ℕ) (carrier_condition : C → LinkState) (post_stands : P → Trace link.Entry → Type 0) (post_left : P → List (List ℕ)) (post_condition : P → LinkState) (pair : Joined C P) (w : Trace (Role × Entry)) (limit : Option ℕ) (bytes : List ℕ) (end : Kept C P)
    → PairStands carrier_stands carrier_left carrier_condition post_stands post_left post_condition pair w → HandsOut carrier_stands carrier_left carrier_condition post_stands post_left post_condition Server (at Server w) limit pair.from_server bytes end
    → PairStands carrier_stands carrier_left carrier_condition post_stands post_left post_condition (record pair { server = end; from_server = bytes }) (w ▷ (Server, MainOut (more_of Server (at Server w) limit pair.from_server) (take (more_of Server (at Server w) limit pair.from_server) (unsent Server (at Server w)))))
out_of_server {C} {P} carrier_stands carrier_left carrier_condition post_stands post_left post_condition pair w limit bytes end s h =
    grows carrier_stands carrier_left carrier_condition post_stands post_left post_condition pair now w Server entry s ends under_way (none_given pair now refl refl) tt where
      now : Joined C P
      now = record pair { server = end; from_server = bytes }

      entry : Entry
      entry = MainOut (more_of Server (at Server w) limit pair.from_server) (take (more_of Server (at Server w) limit pair.from_server) (unsent Server (at Server w)))

      ends : (role : Role) → EndStands carrier_stands carrier_left carrier_condition post_stands post_left post_condition (end_of role now) role (at role (w ▷ (Server, entry)))
      ends Server = h.stands
      ends Client = s.ends Client

      under_way : (role : Role) → given_main (at role (w ▷ (Server, entry))) ≡ taken_main (at (other role) (w ▷ (Server, entry))) ++ from role now
      under_way Server = handed (given_main (at Server w)) (taken_main (at Client w)) pair.from_server (take (more_of Server (at Server w) limit pair.from_server) (unsent Server (at Server w))) bytes (s.under_way Server) h.bytes_are
      under_way Client = s.under_way Client

into_client : {C P : Type 0} (carrier_stands : C → Trace link.Entry → Type 0) (carrier_left : C → List ℕ) (carrier_condition : C → LinkState) (post_stands : P → Trace link.Entry → Type 0) (post_left : P → List (List ℕ)) (post_condition : P → LinkState) (pair : Joined C P) (w : Trace (Role × Entry)) (limit : Option ℕ) (rest : List ℕ) (count : ℕ) (end : Kept C P)
    → PairStands carrier_stands carrier_left carrier_condition post_stands post_left post_condition pair w → (h : TakesIn carrier_stands carrier_left carrier_condition post_stands post_left post_condition Client (at Client w) limit pair.from_server rest count end)
    → PairStands carrier_stands carrier_left carrier_condition post_stands post_left post_condition (record pair { client = end; from_server = rest }) (w ▷ (Client, MainIn (up_to limit pair.from_server) count h.load h.lack))
into_client {C} {P} carrier_stands carrier_left carrier_condition post_stands post_left post_condition pair w limit rest count end s h =
    grows carrier_stands carrier_left carrier_condition post_stands post_left post_condition pair now w Client entry s ends under_way (none_given pair now refl refl) tt where
      now : Joined C P
      now = record pair { client = end; from_server = rest }

      entry : Entry
      entry = MainIn (up_to limit pair.from_server) count h.load h.lack

      ends : (role : Role) → EndStands carrier_stands carrier_left carrier_condition post_stands post_left post_condition (end_of role now) role (at role (w ▷ (Client, entry)))
      ends Client = h.stands
      ends Server = s.ends Server

      under_way : (role : Role) → given_main (at role (w ▷ (Client, entry))) ≡ taken_main (at (other role) (w ▷ (Client, entry))) ++ from role now
      under_way Server = took (given_main (at Server w)) (taken_main (at Client w)) pair.from_server rest limit count (s.under_way Server) h.within h.rest_is
      under_way Client = s.under_way Client

pub moves_from_server : {C P : Type 0} (carrier_stands : C → Trace link.Entry → Type 0) (carrier_left : C → List ℕ) (carrier_condition : C → LinkState) (post_stands : P → Trace link.Entry → Type 0) (post_left : P → List (List ℕ)) (post_condition : P → LinkState) (pair : Joined C P) (w : Trace (Role × Entry)) (limit : Option ℕ) (bytes rest : List ℕ) (count : ℕ) (sender receiver : Kept C P)
    → PairStands carrier_stands carrier_left carrier_condition post_stands post_left post_condition pair w → HandsOut carrier_stands carrier_left carrier_condition post_stands post_left post_condition Server (at Server w) limit pair.from_server bytes sender → TakesIn carrier_stands carrier_left carrier_condition post_stands post_left post_condition Client (at Client w) limit bytes rest count receiver
    → (v : Trace (Role × Entry)) × Moves Server limit count w v × PairStands carrier_stands carrier_left carrier_condition post_stands post_left post_condition (moved Server sender receiver rest pair) v
moves_from_server carrier_stands carrier_left carrier_condition post_stands post_left post_condition pair w limit bytes rest count sender receiver s h k =
    let more = more_of Server (at Server w) limit pair.from_server in
    let out = take more (unsent Server (at Server w)) in
    let kept = is_under_way (given_main (at Server w)) (taken_main (at Client w)) pair.from_server (s.under_way Server) in
    let mid = record pair { server = sender; from_server = bytes } in (
      w ▷ (Server, MainOut more out) ▷ (Client, MainIn (up_to limit bytes) count k.load k.lack),
      record {
        load = k.load;
        lack = k.lack;
        list_is = sym (lists_are w Server limit count k.load k.lack (under_way Server w) pair.from_server bytes kept h.bytes_are);
      },
      into_client carrier_stands carrier_left carrier_condition post_stands post_left post_condition mid (w ▷ (Server, MainOut more out)) limit rest count receiver (out_of_server carrier_stands carrier_left carrier_condition post_stands post_left post_condition pair w limit bytes sender s h) k,
    )

out_of_client : {C P : Type 0} (carrier_stands : C → Trace link.Entry → Type 0) (carrier_left : C → List ℕ) (carrier_condition : C → LinkState) (post_stands : P → Trace link.Entry → Type 0) (post_left : P → List (List ℕ)) (post_condition : P → LinkState) (pair : Joined C P) (w : Trace (Role × Entry)) (limit : Option ℕ) (bytes : List ℕ) (end : Kept C P)
    → PairStands carrier_stands carrier_left carrier_condition post_stands post_left post_condition pair w → HandsOut carrier_stands carrier_left carrier_condition post_stands post_left post_condition Client (at Client w) limit pair.from_client bytes end
    → PairStands carrier_stands carrier_left carrier_condition post_stands post_left post_condition (record pair { client = end; from_client = bytes }) (w ▷ (Client, MainOut (more_of Client (at Client w) limit pair.from_client) (take (more_of Client (at Client w) limit pair.from_client) (unsent Client (at Client w)))))
out_of_client {C} {P} carrier_stands carrier_left carrier_condition post_stands post_left post_condition pair w limit bytes end s h =
    grows carrier_stands carrier_left carrier_condition post_stands post_left post_condition pair now w Client entry s ends under_way (none_given pair now refl refl) tt where
      now : Joined C P
      now = record pair { client = end; from_client = bytes }

      entry : Entry
      entry = MainOut (more_of Client (at Client w) limit pair.from_client) (take (more_of Client (at Client w) limit pair.from_client) (unsent Client (at Client w)))

      ends : (role : Role) → EndStands carrier_stands carrier_left carrier_condition post_stands post_left post_condition (end_of role now) role (at role (w ▷ (Client, entry)))
      ends Client = h.stands
      ends Server = s.ends Server

      under_way : (role : Role) → given_main (at role (w ▷ (Client, entry))) ≡ taken_main (at (other role) (w ▷ (Client, entry))) ++ from role now
      under_way Client = handed (given_main (at Client w)) (taken_main (at Server w)) pair.from_client (take (more_of Client (at Client w) limit pair.from_client) (unsent Client (at Client w))) bytes (s.under_way Client) h.bytes_are
      under_way Server = s.under_way Server

into_server : {C P : Type 0} (carrier_stands : C → Trace link.Entry → Type 0) (carrier_left : C → List ℕ) (carrier_condition : C → LinkState) (post_stands : P → Trace link.Entry → Type 0) (post_left : P → List (List ℕ)) (post_condition : P → LinkState) (pair : Joined C P) (w : Trace (Role × Entry)) (limit : Option ℕ) (rest : List ℕ) (count : ℕ) (end : Kept C P)
    → PairStands carrier_stands carrier_left carrier_condition post_stands post_left post_condition pair w → (h : TakesIn carrier_stands carrier_left carrier_condition post_stands post_left post_condition Server (at Server w) limit pair.from_client rest count end)
    → PairStands carrier_stands carrier_left carrier_condition post_stands post_left post_condition (record pair { server = end; from_client = rest }) (w ▷ (Server, MainIn (up_to limit pair.from_client) count h.load h.lack))
into_server {C} {P} carrier_stands carrier_left carrier_condition post_stands post_left post_condition pair w limit rest count end s h =
    grows carrier_stands carrier_left carrier_condition post_stands post_left post_condition pair now w Server entry s ends under_way (none_given pair now refl refl) tt where
      now : Joined C P
      now = record pair { server = end; from_client = rest }

      entry : Entry
      entry = MainIn (up_to limit pair.from_client) count h.load h.lack

      ends : (role : Role) → EndStands carrier_stands carrier_left carrier_condition post_stands post_left post_condition (end_of role now) role (at role (w ▷ (Server, entry)))
      ends Server = h.stands
      ends Client = s.ends Client

      under_way : (role : Role) → given_main (at role (w ▷ (Server, entry))) ≡ taken_main (at (other role) (w ▷ (Server, entry))) ++ from role now
      under_way Client = took (given_main (at Client w)) (taken_main (at Server w)) pair.from_client rest limit count (s.under_way Client) h.within h.rest_is
      under_way Server = s.under_way Server

pub moves_from_client : {C P : Type 0} (carrier_stands : C → Trace link.Entry → Type 0) (carrier_left : C → List ℕ) (carrier_condition : C → LinkState) (post_stands : P → Trace link.Entry → Type 0) (post_left : P → List (List ℕ)) (post_condition : P → LinkState) (pair : Joined C P) (w : Trace (Role × Entry)) (limit : Option ℕ) (bytes rest : List ℕ) (count : ℕ) (sender receiver : Kept C P)
    → PairStands carrier_stands carrier_left carrier_condition post_stands post_left post_condition pair w → HandsOut carrier_stands carrier_left carrier_condition post_stands post_left post_condition Client (at Client w) limit pair.from_client bytes sender → TakesIn carrier_stands carrier_left carrier_condition post_stands post_left post_condition Server (at Server w) limit bytes rest count receiver
    → (v : Trace (Role × Entry)) × Moves Client limit count w v × PairStands carrier_stands carrier_left carrier_condition post_stands post_left post_condition (moved Client sender receiver rest pair) v
moves_from_client carrier_stands carrier_left carrier_condition post_stands post_left post_condition pair w limit bytes rest count sender receiver s h k =
    let more = more_of Client (at Client w) limit pair.from_client in
    let out = take more (unsent Client (at Client w)) in
    let kept = is_under_way (given_main (at Client w)) (taken_main (at Server w)) pair.from_client (s.under_way Client) in
    let mid = record pair { client = sender; from_client = bytes } in (
      w ▷ (Client, MainOut more out) ▷ (Server, MainIn (up_to limit bytes) count k.load k.lack),
      record {
        load = k.load;
        lack = k.lack;
        list_is = sym (lists_are w Client limit count k.load k.lack (under_way Client w) pair.from_client bytes kept h.bytes_are);
      },
      into_server carrier_stands carrier_left carrier_condition post_stands post_left post_condition mid (w ▷ (Client, MainOut more out)) limit rest count receiver (out_of_client carrier_stands carrier_left carrier_condition post_stands post_left post_condition pair w limit bytes sender s h) k,
    )

-- the side that was asked is this one
pub as_asked : {C P : Type 0} (carrier_stands : C → Trace link.Entry → Type 0) (carrier_left : C → List ℕ) (carrier_condition : C → LinkState) (post_stands : P → Trace link.Entry → Type 0) (post_left : P → List (List ℕ)) (post_condition : P → LinkState) (now : Joined C P) (w : Trace (Role × Entry)) (asked side : Role) (limit : Option ℕ) (count : ℕ)
    → asked ≡ side → (v : Trace (Role × Entry)) × Moves side limit count w v × PairStands carrier_stands carrier_left carrier_condition post_stands post_left post_condition now v
    → (v : Trace (Role × Entry)) × Moves asked limit count w v × PairStands carrier_stands carrier_left carrier_condition post_stands post_left post_condition now v
as_asked carrier_stands carrier_left carrier_condition post_stands post_left post_condition now w asked side limit count is m =
    (m.0, subst (λ r. Moves r limit count w m.0) (sym is) m.1, m.2)

-- each end stands for some list
pub lawful_both : {C P : Type 0} (carrier_stands : C → Trace link.Entry → Type 0) (carrier_left : C → List ℕ) (carrier_condition : C → LinkState) (post_stands : P → Trace link.Entry → Type 0) (post_left : P → List (List ℕ)) (post_condition : P → LinkState) (reliable lossy : List (Role × List ℕ)) (from_server from_client : List ℕ) (server client : Kept C P)
    → (t : Trace Entry) × EndStands carrier_stands carrier_left carrier_condition post_stands post_left post_condition server Server t → (t : Trace Entry) × EndStands carrier_stands carrier_left carrier_condition post_stands post_left post_condition client Client t
    → PairIsLawful carrier_stands carrier_left carrier_condition post_stands post_left post_condition (record { server = server; client = client; from_server = from_server; from_client = from_client; reliable = reliable; lossy = lossy })
lawful_both carrier_stands carrier_left carrier_condition post_stands post_left post_condition reliable lossy from_server from_client server client s c Server = s
lawful_both carrier_stands carrier_left carrier_condition post_stands post_left post_condition reliable lossy from_server from_client server client s c Client = c

pub same_stands : {C P : Type 0} (carrier_stands : C → Trace link.Entry → Type 0) (carrier_left : C → List ℕ) (carrier_condition : C → LinkState) (post_stands : P → Trace link.Entry → Type 0) (post_left : P → List (List ℕ)) (post_condition : P → LinkState) (old kept : Kept C P) (role : Role) → kept ≡ old → (t : Trace Entry) × EndStands carrier_stands carrier_left carrier_condition post_stands post_left post_condition old role t → (t : Trace Entry) × EndStands carrier_stands carrier_left carrier_condition post_stands post_left post_condition kept role t
same_stands carrier_stands carrier_left carrier_condition post_stands post_left post_condition old kept role same e =
    (e.0, subst (λ k. EndStands carrier_stands carrier_left carrier_condition post_stands post_left post_condition k role e.0) (sym same) e.1)

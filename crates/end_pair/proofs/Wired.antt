-- Two ends of which one was polled, or a datagram came for.
use Rattle.std.proofs.Common.{◌≡◌, ℕ, Bool, true, List, [], ◌++◌, is_some, Option, Result, Ok, Err, IfErr, IfOk, OnErr, refl, sym, ap, subst, ◌∙◌, append-nil}
use Rattle.mt_base.specs.declared.kinds.Kind.{Kind}
use Rattle.mt_base.specs.declared.kinds.Kind.TheVariants.{Reliable, Lossy}
use Rattle.mt_base.specs.declared.kinds.Role.{Role}
use Rattle.mt_base.specs.declared.kinds.Role.TheVariants.{Server, Client}
use Rattle.mt_base.specs.Ends.{other}
use Rattle.mt_base.specs.Trace.{Trace, ◌▷◌}
use Rattle.carrier.specs.declared.state.LinkState.{LinkState}
use Rattle.carrier.specs.Entries as link
use Rattle.carrier.specs.declared.state.Took.{Took}
use Rattle.mt_endpoint.specs.Tunnels.{is_attached}
use Rattle.mt_endpoint.specs.Acts.{Act}
use Rattle.end_calls.specs.Calls.{Came, Entry, Handed, Pull, WireIn, WireOut, acts}
use Rattle.end_calls.specs.Law.{given_main, taken_main}
use Rattle.end_calls.specs.Net.{at}
use Rattle.endpoint.specs.Kept.{Kept}
use Rattle.endpoint.specs.Standing.{EndStands}
use Rattle.end_wires.specs.Wires.{WasGiven, given_on, gives, if_given}
use Rattle.end_pair.specs.Delivered.{Brings, Delivers, IsDue, WhyNotDelivered}
use Rattle.end_pair.specs.Given.{Gives}
use Rattle.end_pair.specs.Joined.{Joined, PairStands, end_of, from, on}
use Rattle.end_pair.specs.declared.wires.DeliverRefusal.{DeliverRefusal}
use Rattle.end_pair.proofs.Growing.{grows, with_end}
use Rattle.end_pair.proofs.InTime.{was_given}

-- the pair with other datagrams on one link
abbrev pub with_on : {C P : Type 0} → Kind → List (Role × List ℕ) → Joined C P → Joined C P
with_on Reliable all pair = record pair { reliable = all }
with_on Lossy all pair = record pair { lossy = all }

abbrev pub with_given : {C P : Type 0} → Role → Kind → Kept C P → List (Role × List ℕ) → Joined C P → Joined C P
with_given side kind kept all pair = with_on kind all (with_end side kept pair)

same_from : {C P : Type 0} (role side : Role) (kind : Kind) (kept : Kept C P) (all : List (Role × List ℕ)) (pair : Joined C P) → from role (with_given side kind kept all pair) ≡ from role pair
same_from Server Server Reliable kept all pair = refl
same_from Server Server Lossy kept all pair = refl
same_from Server Client Reliable kept all pair = refl
same_from Server Client Lossy kept all pair = refl
same_from Client Server Reliable kept all pair = refl
same_from Client Server Lossy kept all pair = refl
same_from Client Client Reliable kept all pair = refl
same_from Client Client Lossy kept all pair = refl

-- a call of a link moves nothing on the main streams
still_under_way : (role side : Role) (w : Trace (Role × Entry)) (kind : Kind) (now : ℕ) (is_full : Bool) (out : Option (List ℕ)) (state : LinkState) (bytes : List ℕ) → given_main (at role w) ≡ taken_main (at (other role) w) ++ bytes
    → given_main (at role (w ▷ (side, WireOut kind now is_full out state))) ≡ taken_main (at (other role) (w ▷ (side, WireOut kind now is_full out state))) ++ bytes
still_under_way Server Server w kind now is_full out state bytes e = e
still_under_way Server Client w kind now is_full out state bytes e = e
still_under_way Client Server w kind now is_full out state bytes e = e
still_under_way Client Client w kind now is_full out state bytes e = e

polled_ends : {C P : Type 0} (carrier_stands : C → Trace link.Entry → Type 0) (carrier_left : C → List ℕ) (carrier_condition : C → LinkState) (post_stands : P → Trace link.Entry → Type 0) (post_left : P → List (List ℕ)) (post_condition : P → LinkState) (pair : Joined C P) (w : Trace (Role × Entry)) (side : Role) (kind : Kind) (kept : Kept C P) (all : List (Role × List ℕ)) (entry : Entry)
    → ((role : Role) → EndStands carrier_stands carrier_left carrier_condition post_stands post_left post_condition (end_of role pair) role (at role w)) → EndStands carrier_stands carrier_left carrier_condition post_stands post_left post_condition kept side (at side w ▷ entry)
    → (role : Role) → EndStands carrier_stands carrier_left carrier_condition post_stands post_left post_condition (end_of role (with_given side kind kept all pair)) role (at role (w ▷ (side, entry)))
polled_ends carrier_stands carrier_left carrier_condition post_stands post_left post_condition pair w Server Reliable kept all entry ends e Server = e
polled_ends carrier_stands carrier_left carrier_condition post_stands post_left post_condition pair w Server Reliable kept all entry ends e Client = ends Client
polled_ends carrier_stands carrier_left carrier_condition post_stands post_left post_condition pair w Server Lossy kept all entry ends e Server = e
polled_ends carrier_stands carrier_left carrier_condition post_stands post_left post_condition pair w Server Lossy kept all entry ends e Client = ends Client
polled_ends carrier_stands carrier_left carrier_condition post_stands post_left post_condition pair w Client Reliable kept all entry ends e Server = ends Server
polled_ends carrier_stands carrier_left carrier_condition post_stands post_left post_condition pair w Client Reliable kept all entry ends e Client = e
polled_ends carrier_stands carrier_left carrier_condition post_stands post_left post_condition pair w Client Lossy kept all entry ends e Server = ends Server
polled_ends carrier_stands carrier_left carrier_condition post_stands post_left post_condition pair w Client Lossy kept all entry ends e Client = e

polled_given : {C P : Type 0} (pair : Joined C P) (side : Role) (kind : Kind) (kept : Kept C P) (all more : List (Role × List ℕ)) → all ≡ on kind pair ++ more → (now : ℕ) (is_full : Bool) (out : Option (List ℕ)) (state : LinkState) → gives kind side (WireOut kind now is_full out state) ≡ more
    → (k : Kind) → on k (with_given side kind kept all pair) ≡ on k pair ++ gives k side (WireOut kind now is_full out state)
polled_given pair Server Reliable kept all more is now is_full out state more_is Reliable = is ∙ ap (λ xs. pair.reliable ++ xs) (sym more_is)
polled_given pair Server Reliable kept all more is now is_full out state more_is Lossy = sym (append-nil pair.lossy)
polled_given pair Server Lossy kept all more is now is_full out state more_is Reliable = sym (append-nil pair.reliable)
polled_given pair Server Lossy kept all more is now is_full out state more_is Lossy = is ∙ ap (λ xs. pair.lossy ++ xs) (sym more_is)
polled_given pair Client Reliable kept all more is now is_full out state more_is Reliable = is ∙ ap (λ xs. pair.reliable ++ xs) (sym more_is)
polled_given pair Client Reliable kept all more is now is_full out state more_is Lossy = sym (append-nil pair.lossy)
polled_given pair Client Lossy kept all more is now is_full out state more_is Reliable = sym (append-nil pair.reliable)
polled_given pair Client Lossy kept all more is now is_full out state more_is Lossy = is ∙ ap (λ xs. pair.lossy ++ xs) (sym more_is)

own_kind : (kind : Kind) (side : Role) (now : ℕ) (is_full : Bool) (out : Option (List ℕ)) (state : LinkState) → gives kind side (WireOut kind now is_full out state) ≡ if_given side out
own_kind Reliable side now is_full out state = refl
own_kind Lossy side now is_full out state = refl

polled : {C P : Type 0} (carrier_stands : C → Trace link.Entry → Type 0) (carrier_left : C → List ℕ) (carrier_condition : C → LinkState) (post_stands : P → Trace link.Entry → Type 0) (post_left : P → List (List ℕ)) (post_condition : P → LinkState) (pair : Joined C P) (w : Trace (Role × Entry)) (side : Role) (kind : Kind) (now : ℕ) (is_given : Bool) (kept : Kept C P) (all : List (Role × List ℕ))
    → PairStands carrier_stands carrier_left carrier_condition post_stands post_left post_condition pair w → Gives carrier_stands carrier_left carrier_condition post_stands post_left post_condition side (at side w) kind now is_given kept (on kind pair) all
    → (is_full : Bool) × (out : Option (List ℕ)) × (state : LinkState) × (is_given ≡ is_some out) × PairStands carrier_stands carrier_left carrier_condition post_stands post_left post_condition (with_given side kind kept all pair) (w ▷ (side, WireOut kind now is_full out state))
polled carrier_stands carrier_left carrier_condition post_stands post_left post_condition pair w side kind now is_given kept all s h = (
  h.is_full,
  h.out,
  h.state,
  h.given_is,
  grows carrier_stands carrier_left carrier_condition post_stands post_left post_condition pair (with_given side kind kept all pair) w side (WireOut kind now h.is_full h.out h.state) s (polled_ends carrier_stands carrier_left carrier_condition post_stands post_left post_condition pair w side kind kept all (WireOut kind now h.is_full h.out h.state) s.ends h.stands)
      (λ role. subst (λ b. given_main (at role (w ▷ (side, WireOut kind now h.is_full h.out h.state))) ≡ taken_main (at (other role) (w ▷ (side, WireOut kind now h.is_full h.out h.state))) ++ b) (sym (same_from role side kind kept all pair)) (still_under_way role side w kind now h.is_full h.out h.state (from role pair) (s.under_way role)))
      (polled_given pair side kind kept all (if_given side h.out) h.all_are now h.is_full h.out h.state (own_kind kind side now h.is_full h.out h.state)) tt,
)

polled_result : {C P E : Type 0} (carrier_stands : C → Trace link.Entry → Type 0) (carrier_left : C → List ℕ) (carrier_condition : C → LinkState) (post_stands : P → Trace link.Entry → Type 0) (post_left : P → List (List ℕ)) (post_condition : P → LinkState) (pair : Joined C P) (w : Trace (Role × Entry)) (side : Role) (kind : Kind) (now : ℕ) (result : Result Bool E) (kept : Kept C P) (all : List (Role × List ℕ))
    → PairStands carrier_stands carrier_left carrier_condition post_stands post_left post_condition pair w → IfOk result (λ is_given. Gives carrier_stands carrier_left carrier_condition post_stands post_left post_condition side (at side w) kind now is_given kept (on kind pair) all)
    → IfOk result (λ is_given. (is_full : Bool) × (out : Option (List ℕ)) × (state : LinkState) × (is_given ≡ is_some out) × PairStands carrier_stands carrier_left carrier_condition post_stands post_left post_condition (with_given side kind kept all pair) (w ▷ (side, WireOut kind now is_full out state)))
polled_result carrier_stands carrier_left carrier_condition post_stands post_left post_condition pair w side kind now (Ok is_given) kept all s h = polled carrier_stands carrier_left carrier_condition post_stands post_left post_condition pair w side kind now is_given kept all s h
polled_result carrier_stands carrier_left carrier_condition post_stands post_left post_condition pair w side kind now (Err why) kept all s h = h

-- a side was polled on one of its links
pub polled_ok : {C P E : Type 0} (carrier_stands : C → Trace link.Entry → Type 0) (carrier_left : C → List ℕ) (carrier_condition : C → LinkState) (post_stands : P → Trace link.Entry → Type 0) (post_left : P → List (List ℕ)) (post_condition : P → LinkState) (pair : Joined C P) (w : Trace (Role × Entry)) (asked side : Role) (wanted kind : Kind) (now : ℕ) (result : Result Bool E) (kept : Kept C P) (all : List (Role × List ℕ))
    → asked ≡ side → wanted ≡ kind → PairStands carrier_stands carrier_left carrier_condition post_stands post_left post_condition pair w
    → (is_attached kind (acts side (at side w)) ≡ true → IfOk result (λ is_given. Gives carrier_stands carrier_left carrier_condition post_stands post_left post_condition side (at side w) kind now is_given kept (on kind pair) all))
    → is_attached wanted (acts asked (at asked w)) ≡ true
    → IfOk result (λ is_given. (is_full : Bool) × (out : Option (List ℕ)) × (state : LinkState) × (is_given ≡ is_some out) × PairStands carrier_stands carrier_left carrier_condition post_stands post_left post_condition (with_given side kind kept all pair) (w ▷ (asked, WireOut wanted now is_full out state)))
polled_ok carrier_stands carrier_left carrier_condition post_stands post_left post_condition pair w asked side wanted kind now result kept all is_side is_kind s gave on =
    let here = ap (λ r. is_attached kind (acts r (at r w))) (sym is_side) ∙ ap (λ k. is_attached k (acts asked (at asked w))) (sym is_kind) ∙ on in
    subst (λ r. IfOk result (λ is_given. (is_full : Bool) × (out : Option (List ℕ)) × (state : LinkState) × (is_given ≡ is_some out) × PairStands carrier_stands carrier_left carrier_condition post_stands post_left post_condition (with_given side kind kept all pair) (w ▷ (r, WireOut wanted now is_full out state)))) (sym is_side)
    (subst (λ k. IfOk result (λ is_given. (is_full : Bool) × (out : Option (List ℕ)) × (state : LinkState) × (is_given ≡ is_some out) × PairStands carrier_stands carrier_left carrier_condition post_stands post_left post_condition (with_given side kind kept all pair) (w ▷ (side, WireOut k now is_full out state)))) (sym is_kind) (polled_result carrier_stands carrier_left carrier_condition post_stands post_left post_condition pair w side kind now result kept all s (gave here)))

-- ---- a datagram came

brought_ends : {C P : Type 0} (carrier_stands : C → Trace link.Entry → Type 0) (carrier_left : C → List ℕ) (carrier_condition : C → LinkState) (post_stands : P → Trace link.Entry → Type 0) (post_left : P → List (List ℕ)) (post_condition : P → LinkState) (pair : Joined C P) (w : Trace (Role × Entry)) (side : Role) (kept : Kept C P) (entry : Entry)
    → ((role : Role) → EndStands carrier_stands carrier_left carrier_condition post_stands post_left post_condition (end_of role pair) role (at role w)) → EndStands carrier_stands carrier_left carrier_condition post_stands post_left post_condition kept (other side) (at (other side) w ▷ entry)
    → (role : Role) → EndStands carrier_stands carrier_left carrier_condition post_stands post_left post_condition (end_of role (with_end (other side) kept pair)) role (at role (w ▷ (other side, entry)))
brought_ends carrier_stands carrier_left carrier_condition post_stands post_left post_condition pair w Server kept entry ends e Server = ends Server
brought_ends carrier_stands carrier_left carrier_condition post_stands post_left post_condition pair w Server kept entry ends e Client = e
brought_ends carrier_stands carrier_left carrier_condition post_stands post_left post_condition pair w Client kept entry ends e Server = e
brought_ends carrier_stands carrier_left carrier_condition post_stands post_left post_condition pair w Client kept entry ends e Client = ends Client

same_on : {C P : Type 0} (k : Kind) (side : Role) (kept : Kept C P) (pair : Joined C P) → on k (with_end side kept pair) ≡ on k pair ++ []
same_on Reliable Server kept pair = sym (append-nil pair.reliable)
same_on Reliable Client kept pair = sym (append-nil pair.reliable)
same_on Lossy Server kept pair = sym (append-nil pair.lossy)
same_on Lossy Client kept pair = sym (append-nil pair.lossy)

from_end : {C P : Type 0} (role side : Role) (kept : Kept C P) (pair : Joined C P) → from role (with_end side kept pair) ≡ from role pair
from_end Server Server kept pair = refl
from_end Server Client kept pair = refl
from_end Client Server kept pair = refl
from_end Client Client kept pair = refl

moves_nothing : (role side : Role) (w : Trace (Role × Entry)) (kind : Kind) (now : ℕ) (datagram : List ℕ) (took : Took) (load : ℕ) (came : Came) (pulls : Trace Pull) (parts : Trace Handed) (lack : Option (Trace Act)) (bytes : List ℕ) → given_main (at role w) ≡ taken_main (at (other role) w) ++ bytes
    → given_main (at role (w ▷ (side, WireIn kind now datagram took load came pulls parts lack))) ≡ taken_main (at (other role) (w ▷ (side, WireIn kind now datagram took load came pulls parts lack))) ++ bytes
moves_nothing Server Server w kind now datagram took load came pulls parts lack bytes e = e
moves_nothing Server Client w kind now datagram took load came pulls parts lack bytes e = e
moves_nothing Client Server w kind now datagram took load came pulls parts lack bytes e = e
moves_nothing Client Client w kind now datagram took load came pulls parts lack bytes e = e

other_twice : (side : Role) → other (other side) ≡ side
other_twice Server = refl
other_twice Client = refl

brought : {C P : Type 0} (carrier_stands : C → Trace link.Entry → Type 0) (carrier_left : C → List ℕ) (carrier_condition : C → LinkState) (post_stands : P → Trace link.Entry → Type 0) (post_left : P → List (List ℕ)) (post_condition : P → LinkState) (pair : Joined C P) (w : Trace (Role × Entry)) (side : Role) (kind : Kind) (number now : ℕ) (took : Took) (kept : Kept C P)
    → PairStands carrier_stands carrier_left carrier_condition post_stands post_left post_condition pair w → Brings carrier_stands carrier_left carrier_condition post_stands post_left post_condition side number (on kind pair) (other side) (at (other side) w) kind now took kept
    → (v : Trace (Role × Entry)) × Delivers side kind number now took w v × PairStands carrier_stands carrier_left carrier_condition post_stands post_left post_condition (with_end (other side) kept pair) v
brought carrier_stands carrier_left carrier_condition post_stands post_left post_condition pair w side kind number now took kept s h =
    let entry = WireIn kind now h.datagram took h.load h.came h.pulls h.parts h.lack in
    let due = subst (λ all. IsDue side number all h.datagram) (s.given kind) h.due in (
      w ▷ (other side, entry),
      record {
        datagram = h.datagram;
        due = due;
        load = h.load;
        came = h.came;
        pulls = h.pulls;
        parts = h.parts;
        lack = h.lack;
        list_is = refl;
      },
      grows carrier_stands carrier_left carrier_condition post_stands post_left post_condition pair (with_end (other side) kept pair) w (other side) entry s (brought_ends carrier_stands carrier_left carrier_condition post_stands post_left post_condition pair w side kept entry s.ends h.stands)
          (λ role. subst (λ b. given_main (at role (w ▷ (other side, entry))) ≡ taken_main (at (other role) (w ▷ (other side, entry))) ++ b) (sym (from_end role (other side) kept pair)) (moves_nothing role (other side) w kind now h.datagram took h.load h.came h.pulls h.parts h.lack (from role pair) (s.under_way role)))
          (λ k. same_on k (other side) kept pair)
          (λ long. (due.behind, due.in_time, subst (λ r. WasGiven r h.datagram due.behind (given_on kind w)) (sym (other_twice side)) (was_given side number (given_on kind w) h.datagram due.behind due.datagram_is due.behind_is))),
    )

brought_result : {C P E : Type 0} (carrier_stands : C → Trace link.Entry → Type 0) (carrier_left : C → List ℕ) (carrier_condition : C → LinkState) (post_stands : P → Trace link.Entry → Type 0) (post_left : P → List (List ℕ)) (post_condition : P → LinkState) (pair : Joined C P) (w : Trace (Role × Entry)) (side : Role) (kind : Kind) (number now : ℕ) (result : Result Took E) (kept : Kept C P)
    → PairStands carrier_stands carrier_left carrier_condition post_stands post_left post_condition pair w → IfOk result (λ took. Brings carrier_stands carrier_left carrier_condition post_stands post_left post_condition side number (on kind pair) (other side) (at (other side) w) kind now took kept)
    → IfOk result (λ took. (v : Trace (Role × Entry)) × Delivers side kind number now took w v × PairStands carrier_stands carrier_left carrier_condition post_stands post_left post_condition (with_end (other side) kept pair) v)
brought_result carrier_stands carrier_left carrier_condition post_stands post_left post_condition pair w side kind number now (Ok took) kept s h = brought carrier_stands carrier_left carrier_condition post_stands post_left post_condition pair w side kind number now took kept s h
brought_result carrier_stands carrier_left carrier_condition post_stands post_left post_condition pair w side kind number now (Err why) kept s h = h

-- a datagram that was asked for came
pub brought_ok : {C P E : Type 0} (carrier_stands : C → Trace link.Entry → Type 0) (carrier_left : C → List ℕ) (carrier_condition : C → LinkState) (post_stands : P → Trace link.Entry → Type 0) (post_left : P → List (List ℕ)) (post_condition : P → LinkState) (pair : Joined C P) (w : Trace (Role × Entry)) (asked side : Role) (wanted kind : Kind) (number now : ℕ) (result : Result Took E) (kept : Kept C P)
    → asked ≡ side → wanted ≡ kind → PairStands carrier_stands carrier_left carrier_condition post_stands post_left post_condition pair w
    → IfOk result (λ took. Brings carrier_stands carrier_left carrier_condition post_stands post_left post_condition side number (on kind pair) (other side) (at (other side) w) kind now took kept)
    → IfOk result (λ took. (v : Trace (Role × Entry)) × Delivers asked wanted number now took w v × PairStands carrier_stands carrier_left carrier_condition post_stands post_left post_condition (with_end (other side) kept pair) v)
brought_ok carrier_stands carrier_left carrier_condition post_stands post_left post_condition pair w asked side wanted kind number now result kept is_side is_kind s h =
    subst (λ r. IfOk result (λ took. (v : Trace (Role × Entry)) × Delivers r wanted number now took w v × PairStands carrier_stands carrier_left carrier_condition post_stands post_left post_condition (with_end (other side) kept pair) v)) (sym is_side)
    (subst (λ k. IfOk result (λ took. (v : Trace (Role × Entry)) × Delivers side k number now took w v × PairStands carrier_stands carrier_left carrier_condition post_stands post_left post_condition (with_end (other side) kept pair) v)) (sym is_kind) (brought_result carrier_stands carrier_left carrier_condition post_stands post_left post_condition pair w side kind number now result kept s h))

-- or it did not
pub refused_at : {C P : Type 0} (carrier_stands : C → Trace link.Entry → Type 0) (carrier_left : C → List ℕ) (carrier_condition : C → LinkState) (post_stands : P → Trace link.Entry → Type 0) (post_left : P → List (List ℕ)) (post_condition : P → LinkState) (pair : Joined C P) (w : Trace (Role × Entry)) (asked side : Role) (wanted kind : Kind) (number : ℕ) (result : Result Took DeliverRefusal)
    → asked ≡ side → wanted ≡ kind → PairStands carrier_stands carrier_left carrier_condition post_stands post_left post_condition pair w → IfErr result (WhyNotDelivered side number (on kind pair)) → IfErr result (WhyNotDelivered asked number (given_on wanted w))
refused_at carrier_stands carrier_left carrier_condition post_stands post_left post_condition pair w asked side wanted kind number result is_side is_kind s h =
    subst (λ r. IfErr result (WhyNotDelivered r number (given_on wanted w))) (sym is_side) (subst (λ k. IfErr result (WhyNotDelivered side number (given_on k w))) (sym is_kind) (subst (λ all. IfErr result (WhyNotDelivered side number all)) (s.given kind) h))

-- the end stands for some list
pub brought_lawful : {C P E : Type 0} (carrier_stands : C → Trace link.Entry → Type 0) (carrier_left : C → List ℕ) (carrier_condition : C → LinkState) (post_stands : P → Trace link.Entry → Type 0) (post_left : P → List (List ℕ)) (post_condition : P → LinkState) (old kept : Kept C P) (side role : Role) (all : List (Role × List ℕ)) (kind : Kind) (number now : ℕ) (result : Result Took E)
    → (e : (t : Trace Entry) × EndStands carrier_stands carrier_left carrier_condition post_stands post_left post_condition old role t) → IfOk result (λ took. Brings carrier_stands carrier_left carrier_condition post_stands post_left post_condition side number all role e.0 kind now took kept) → OnErr result (kept ≡ old)
    → (t : Trace Entry) × EndStands carrier_stands carrier_left carrier_condition post_stands post_left post_condition kept role t
brought_lawful carrier_stands carrier_left carrier_condition post_stands post_left post_condition old kept side role all kind number now (Ok took) e h same = (e.0 ▷ WireIn kind now h.datagram took h.load h.came h.pulls h.parts h.lack, h.stands)
brought_lawful carrier_stands carrier_left carrier_condition post_stands post_left post_condition old kept side role all kind number now (Err why) e h same = (e.0, subst (λ k. EndStands carrier_stands carrier_left carrier_condition post_stands post_left post_condition k role e.0) (sym same) e.1)

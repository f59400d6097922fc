-- What comes at an end in time comes in time on the links of each kind.
use Rattle.std.proofs.Common.{◌≡◌, ℕ, ◌<◌, ◌≤◌, Bool, true, false, cond, List, [], ◌∷◌, ◌++◌, length, take, option_map, Option, refl, sym, ap, subst, ◌∙◌, append-nil}
use Rattle.mt_base.specs.declared.kinds.Kind.{Kind}
use Rattle.mt_base.specs.declared.kinds.Kind.TheVariants.{Reliable, Lossy}
use Rattle.mt_base.specs.declared.kinds.Role.{Role}
use Rattle.mt_base.specs.Ends.{other}
use Rattle.mt_base.specs.Trace.{Trace, Start, ◌▷◌}
use Rattle.carrier.specs.declared.state.Took.{Took}
use Rattle.carrier.specs.declared.state.LinkState.{LinkState}
use Rattle.carrier.specs.Entries.{In, Polled}
use Rattle.carrier.specs.Entries as link
use Rattle.carrier.specs.Joined.{Step, At, Timely}
use Rattle.udp_open.specs.LinkTrace.{with_entries}
use Rattle.udp_open.specs.TwoLinks.{with_steps}
use Rattle.mt_endpoint.specs.Acts.{Act}
use Rattle.mt_endpoint.specs.Tunnels.{is_attached}
use Rattle.end_calls.specs.Streams.{written}
use Rattle.end_calls.specs.Calls.{Came, Entry, Own, MainIn, MainOut, WireIn, WireOut, Pull, Handed, read_count, before_poll, if_steps, story, past, acts}
use Rattle.end_calls.specs.Law.{outset}
use Rattle.end_calls.specs.Links.{gives_all, linked, reads_in, takes_in}
use Rattle.end_calls.specs.Net.{at}
use Rattle.end_wires.specs.Wires.{AreInTime, IsInTime, WasGiven, given_on, gives, if_given}
use Rattle.end_net.specs.Network.{steps}
use Rattle.linked_ends.proofs.Quiet.{AreQuiet, Quiet, joined, made_is, main, none, own, read, with_last}
use Rattle.linked_ends.proofs.Stepwise.{AllSent, polled, sent_quiet, steps_last, timely_quiet}

-- all that was given was sent, and what came came in time
record Sound (late : ℕ) (all : List (Role × List ℕ)) (v : Trace Step) : Type 0 where
  sent : AllSent all v
  timely : Timely late v

-- ---- the three ways in which the calls of a link go on

by_quiet : (late : ℕ) (all : List (Role × List ℕ)) (v : Trace Step) (side : Role) (es : List link.Entry) → AreQuiet es → Sound late all v → Sound late all (with_steps v side es)
by_quiet late all v side es q s = record {
  sent = λ r k datagram g. sent_quiet es v side r k datagram q (s.sent r k datagram g);
  timely = timely_quiet late es v side q s.timely;
}

by_poll : (late : ℕ) (all : List (Role × List ℕ)) (v : Trace Step) (side : Role) (now : ℕ) (out : Option (List ℕ)) → Sound late all v → Sound late (all ++ if_given side out) (v ▷ At side (Polled now out))
by_poll late all v side now out s = record { sent = polled all v side now out s.sent; timely = s.timely }

abbrev IsDue : ℕ → Role → List (Role × List ℕ) → List ℕ → Type 0
IsDue late side all datagram = 8 ≤ length datagram → (behind : ℕ) × (behind < late) × WasGiven (other side) datagram behind all

by_coming : (late : ℕ) (all : List (Role × List ℕ)) (v : Trace Step) (side : Role) (now : ℕ) (datagram : List ℕ) (took : Took) → IsDue late side all datagram → Sound late all v → Sound late all (v ▷ At side (In now datagram took))
by_coming late all v side now datagram took due s = record {
  sent = λ r k bytes g. s.sent r k bytes g;
  timely = (λ long. let d = due long in (d.0, d.1, s.sent (other side) d.0 datagram d.2), s.timely);
}

-- ---- a call of an end

abbrev Follows : ℕ → Kind → Trace (Role × Entry) → Type 0
Follows late kind w = Sound late (given_on kind w) (steps kind w)

-- with these calls of its link
stepped : (kind : Kind) (w : Trace (Role × Entry)) (side : Role) (entry : Entry) (es : List link.Entry) → linked kind side (at side w ▷ entry) ≡ with_entries (linked kind side (at side w)) es → steps kind (w ▷ (side, entry)) ≡ with_steps (steps kind w) side es
stepped kind w side entry es are = ap (λ x. with_steps (steps kind w) side x) (made_is kind side (at side w) entry es are)

quietly : (late : ℕ) (kind : Kind) (w : Trace (Role × Entry)) (side : Role) (entry : Entry) → gives kind side entry ≡ [] → Quiet (linked kind side (at side w)) (linked kind side (at side w ▷ entry)) → Follows late kind w → Follows late kind (w ▷ (side, entry))
quietly late kind w side entry empty q s =
    subst (λ x. Sound late x (steps kind (w ▷ (side, entry)))) (sym (ap (λ x. given_on kind w ++ x) empty ∙ append-nil (given_on kind w)))
    (subst (λ v. Sound late (given_on kind w) v) (sym (stepped kind w side entry q.more q.are)) (by_quiet late (given_on kind w) (steps kind w) side q.more q.quiet s))

-- a poll of this link, behind what is given to it
poll_list : (l k : Trace link.Entry) (now : ℕ) (out : Option (List ℕ)) (q : Quiet l k) → k ▷ Polled now out ≡ with_entries l (q.more ++ Polled now out ∷ [])
poll_list l k now out q = ap (λ x. x ▷ Polled now out) q.are ∙ sym (with_last l q.more (Polled now out))

poll_own : (late : ℕ) (kind : Kind) (w : Trace (Role × Entry)) (side : Role) (entry : Entry) (k : Trace link.Entry) (now : ℕ) (out : Option (List ℕ)) → gives kind side entry ≡ if_given side out → linked kind side (at side w ▷ entry) ≡ k ▷ Polled now out → Quiet (linked kind side (at side w)) k → Follows late kind w → Follows late kind (w ▷ (side, entry))
poll_own late kind w side entry k now out given is q s =
    let l = linked kind side (at side w) in
    let v = steps kind w in
    let steps_are = stepped kind w side entry (q.more ++ Polled now out ∷ []) (is ∙ poll_list l k now out q) ∙ steps_last q.more v side (Polled now out) in
    subst (λ x. Sound late (given_on kind w ++ x) (steps kind (w ▷ (side, entry)))) (sym given)
    (subst (λ u. Sound late (given_on kind w ++ if_given side out) u) (sym steps_are)
    (by_poll late (given_on kind w) (with_steps v side q.more) side now out (by_quiet late (given_on kind w) v side q.more q.quiet s)))

-- a datagram that comes on this link, and what is read then
came_own : (late : ℕ) (kind : Kind) (w : Trace (Role × Entry)) (side : Role) (entry : Entry) (now : ℕ) (datagram : List ℕ) (took : Took) → gives kind side entry ≡ [] → IsDue late side (given_on kind w) datagram → Quiet (linked kind side (at side w) ▷ In now datagram took) (linked kind side (at side w ▷ entry)) → Follows late kind w → Follows late kind (w ▷ (side, entry))
came_own late kind w side entry now datagram took empty due q s =
    subst (λ x. Sound late x (steps kind (w ▷ (side, entry)))) (sym (ap (λ x. given_on kind w ++ x) empty ∙ append-nil (given_on kind w)))
    (subst (λ v. Sound late (given_on kind w) v) (sym (stepped kind w side entry (In now datagram took ∷ q.more) q.are))
    (by_quiet late (given_on kind w) (steps kind w ▷ At side (In now datagram took)) side q.more q.quiet
    (by_coming late (given_on kind w) (steps kind w) side now datagram took due s)))

-- ---- each call

comes : (late : ℕ) (kind made : Kind) (w : Trace (Role × Entry)) (side : Role) (now : ℕ) (datagram : List ℕ) (took : Took) (load : ℕ) (came : Came) (pulls : Trace Pull) (parts : Trace Handed) (lack : Option (Trace Act)) (b : Bool)
    → is_attached made (acts side (at side w)) ≡ b → IsDue late side (given_on made w) datagram → Follows late kind w → Follows late kind (w ▷ (side, WireIn made now datagram took load came pulls parts lack))
comes late kind made w side now datagram took load came pulls parts lack false off due s =
    let t = at side w in
    let l = linked kind side t in
    let is = ap (λ x. cond x (reads_in kind side (outset side t load) pulls parts lack (takes_in kind made now datagram took l)) l) off in
    quietly late kind w side (WireIn made now datagram took load came pulls parts lack) refl (subst (λ k. Quiet l k) (sym is) (none l)) s
comes late Reliable Reliable w side now datagram took load came pulls parts lack true on due s =
    let t = at side w in
    let l = linked Reliable side t in
    let m = l ▷ In now datagram took in
    let is = ap (λ x. cond x (reads_in Reliable side (outset side t load) pulls parts lack m) l) on in
    came_own late Reliable w side (WireIn Reliable now datagram took load came pulls parts lack) now datagram took refl due
    (subst (λ k. Quiet m k) (sym is) (read Reliable side (outset side t load) pulls parts lack m)) s
comes late Lossy Lossy w side now datagram took load came pulls parts lack true on due s =
    let t = at side w in
    let l = linked Lossy side t in
    let m = l ▷ In now datagram took in
    let is = ap (λ x. cond x (reads_in Lossy side (outset side t load) pulls parts lack m) l) on in
    came_own late Lossy w side (WireIn Lossy now datagram took load came pulls parts lack) now datagram took refl due
    (subst (λ k. Quiet m k) (sym is) (read Lossy side (outset side t load) pulls parts lack m)) s
comes late Reliable Lossy w side now datagram took load came pulls parts lack true on due s =
    let t = at side w in
    let l = linked Reliable side t in
    let is = ap (λ x. cond x (reads_in Reliable side (outset side t load) pulls parts lack l) l) on in
    quietly late Reliable w side (WireIn Lossy now datagram took load came pulls parts lack) refl
    (subst (λ k. Quiet l k) (sym is) (read Reliable side (outset side t load) pulls parts lack l)) s
comes late Lossy Reliable w side now datagram took load came pulls parts lack true on due s =
    let t = at side w in
    let l = linked Lossy side t in
    let is = ap (λ x. cond x (reads_in Lossy side (outset side t load) pulls parts lack l) l) on in
    quietly late Lossy w side (WireIn Reliable now datagram took load came pulls parts lack) refl
    (subst (λ k. Quiet l k) (sym is) (read Lossy side (outset side t load) pulls parts lack l)) s

-- what a poll gives before it
abbrev before : (kind made : Kind) (side : Role) (t : Trace Entry) (now : ℕ) (is_full : Bool) → Trace link.Entry
before kind made side t now is_full = gives_all kind side (past side t) (if_steps side (before_poll made (past side t).acts (story side t).postings now is_full) (past side t)) (linked kind side t)

before_quiet : (kind made : Kind) (side : Role) (t : Trace Entry) (now : ℕ) (is_full : Bool) → Quiet (linked kind side t) (before kind made side t now is_full)
before_quiet kind made side t now is_full = joined kind (written kind side (past side t) (if_steps side (before_poll made (past side t).acts (story side t).postings now is_full) (past side t))) (linked kind side t)

goes : (late : ℕ) (kind made : Kind) (w : Trace (Role × Entry)) (side : Role) (now : ℕ) (is_full : Bool) (out : Option (List ℕ)) (state : LinkState) → Follows late kind w → Follows late kind (w ▷ (side, WireOut made now is_full out state))
goes late Reliable Reliable w side now is_full out state s =
    poll_own late Reliable w side (WireOut Reliable now is_full out state) (before Reliable Reliable side (at side w) now is_full) now out refl refl (before_quiet Reliable Reliable side (at side w) now is_full) s
goes late Lossy Lossy w side now is_full out state s =
    poll_own late Lossy w side (WireOut Lossy now is_full out state) (before Lossy Lossy side (at side w) now is_full) now out refl refl (before_quiet Lossy Lossy side (at side w) now is_full) s
goes late Reliable Lossy w side now is_full out state s =
    quietly late Reliable w side (WireOut Lossy now is_full out state) refl (before_quiet Reliable Lossy side (at side w) now is_full) s
goes late Lossy Reliable w side now is_full out state s =
    quietly late Lossy w side (WireOut Reliable now is_full out state) refl (before_quiet Lossy Reliable side (at side w) now is_full) s

call : (late : ℕ) (kind : Kind) (w : Trace (Role × Entry)) (side : Role) (entry : Entry) → IsInTime late side w entry → Follows late kind w → Follows late kind (w ▷ (side, entry))
call late kind w side (Own act) due s =
    let t = at side w in
    quietly late kind w side (Own act) refl (own kind act (written kind side (past side t) (past side (t ▷ Own act))) (linked kind side t)) s
call late kind w side (MainIn offered count load lack) due s =
    let t = at side w in
    quietly late kind w side (MainIn offered count load lack) refl
    (main kind side (take (read_count count lack) offered) (option_map (λ (l : ℕ × Trace Act). l.1) lack) (past side t) (linked kind side t)) s
call late kind w side (MainOut room bytes) due s = quietly late kind w side (MainOut room bytes) refl (none (linked kind side (at side w))) s
call late kind w side (WireIn made now datagram took load came pulls parts lack) due s =
    comes late kind made w side now datagram took load came pulls parts lack (is_attached made (acts side (at side w))) refl due s
call late kind w side (WireOut made now is_full out state) due s = goes late kind made w side now is_full out state s

nothing_given : (side : Role) (datagram : List ℕ) (behind : ℕ) → WasGiven side datagram behind [] → ⊥
nothing_given side datagram behind g = no_front g.before g.all_are where
  no_front : (front : List (Role × List ℕ)) → [] ≡ front ++ (side, datagram) ∷ g.after → ⊥
  no_front [] h = let no : [] ≡ (side, datagram) ∷ g.after = h in cc
  no_front (b ∷ front) h = let no : [] ≡ b ∷ (front ++ (side, datagram) ∷ g.after) = h in cc

sound : (late : ℕ) (kind : Kind) (w : Trace (Role × Entry)) → AreInTime late w → Follows late kind w
sound late kind Start h = record { sent = λ s k datagram g. nothing_given s datagram k g; timely = tt }
sound late kind (w ▷ (side, entry)) h = call late kind w side entry h.0 (sound late kind w h.1)

pub timely_of : (late : ℕ) (kind : Kind) (w : Trace (Role × Entry)) → AreInTime late w → Timely late (steps kind w)
timely_of late kind w h = (sound late kind w h).timely

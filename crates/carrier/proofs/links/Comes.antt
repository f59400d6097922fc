-- What a datagram that comes does to both directions.
use Rattle.std.proofs.Common.{◌≡◌, ℕ, ◌+◌, ◌<◌, ◌≤◌, ◌⊎◌, inl, inr, Bool, true, false, ltb, leb, cond, List, length, Option, Some, None, refl, sym, ap, ◌∙◌, subst, arith}
use Rattle.std.proofs.lemmas.Bool.{cases_lt}
use Rattle.std.proofs.lemmas.Bool.Decides.{nat_tests}
use Rattle.mt_base.specs.Trace.{Trace, ◌▷◌}
use Rattle.carrier.specs.declared.state.Took.{Took}
use Rattle.carrier.specs.declared.state.Reason.TheVariants as reason
use Rattle.carrier.specs.Entries.{Entry, In, pulled}
use Rattle.carrier.specs.Layout.{Layout, Bounds, Carried, Datagram, Received, Refuses, Shows, Shown, Telling, named_in, with_named, read_near, tells}
use Rattle.carrier.specs.Receiving.{reading, shown_in, effect, has_effect, received, receives, parts_with, seen_with, taken_of, Arrival, floor, floor_of, floor_read, floor_shown, last_told}
use Rattle.carrier.specs.Sending.{acts, hears, hears_named, hears_telling, tell_all, told_reference}
use Rattle.carrier.specs.LayoutLaw.{IsLayout, shown_of, load_shown, telling_shown, low_part}
use Rattle.carrier.proofs.links.Invariant.{Even, Follows, FliesLoad, Told, Hears, Accepts}
use Rattle.carrier.proofs.links.Informed.{informs_hears, even_informs}
use Rattle.carrier.proofs.links.Steps.{way_hears, accepts_nothing, takes, way_takes}
use Rattle.carrier.proofs.links.Facing.{Facing, same_window}
use Rattle.carrier.proofs.links.Hears.{hears_nothing, hears_all, named_with, with_again, with_own}
use Rattle.carrier.proofs.links.Reading.{told_behind, named_is, arrives}
use Rattle.carrier.proofs.links.Ends.{Spelled, Both}

-- what comes has no effect, or shows what this datagram means, which is under way
pub data Comes (late : ℕ) (m : Layout) (R : ℕ → Datagram → Type 0) (o : Option Shown) : Type 0 where
  Quiet : o ≡ None → Comes late m R o
  Heard : (k : ℕ) (f : Datagram) → k < late → R k f → o ≡ Some (shown_of m f) → Comes late m R o

-- a telling that is heard
pub hears_telling_is : (late : ℕ) (l m : Layout) (t u : Trace Entry) (k : ℕ) (telling : Telling) (tells_it : Bool) → Facing late l m → Even l.bounds.windows l.own (acts l t)
    → Follows l.tells_parts l.bounds.windows l.own (acts l t) (received m u) (length (pulled u))
    → k < late → Told l.tells_parts l.bounds.windows l.bounds.tell l.own k (acts l t) (received m u) telling
    → Hears l.tells_parts l.bounds.windows l.own (acts l t) (hears_telling l (acts l t) (telling_shown m tells_it telling)) (received m u)
hears_telling_is late l m t u k telling false f even now soon h = hears_nothing l.tells_parts l.bounds.windows l.own (acts l t) (received m u)
hears_telling_is late l m t u k telling true f even now soon h =
    let a = acts l t in
    let shown = with_named (low_part m (named_in telling)) telling in
    let number : read_near l (told_reference l a) (named_in shown) ≡ Some (named_in telling) =
    ap (read_near l (told_reference l a)) (named_with (low_part m (named_in telling)) telling)
    ∙ named_is late l m f a (received m u) (length (pulled u)) k even now soon telling h in
    let meant_is : with_named (named_in telling) shown ≡ telling = with_again (named_in telling) (low_part m (named_in telling)) telling ∙ with_own telling in
    let same = ap (hears_named l a shown) number ∙ ap (λ x. tell_all l a (tells x)) meant_is in
    subst (λ b. Hears l.tells_parts l.bounds.windows l.own a b (received m u)) (sym same)
    (hears_all l.tells_parts l.bounds.windows l.own a (received m u) (length (pulled u)) (tells telling) now (λ q is. h.got (l.own + q) (omega arith) is))

-- a part that is taken, or none, at the end with the layout l
pub takes_load : (late : ℕ) (l m : Layout) (t u : Trace Entry) (k : ℕ) (shown : Shown) (load : Option Carried) → Facing late m l → Even m.bounds.windows m.own (acts m u)
    → Follows m.tells_parts m.bounds.windows m.own (acts m u) (received l t) (length (pulled t))
    → k < late → FliesLoad m.bounds.windows m.own k (acts m u) load
    → Follows m.tells_parts m.bounds.windows m.own (acts m u) (receives l (received l t) (length (pulled t)) (Some (record shown { load = load_shown m load }))) (length (pulled t))
    × Accepts m.tells_parts m.own (received l t) (receives l (received l t) (length (pulled t)) (Some (record shown { load = load_shown m load })))
takes_load late l m t u k shown None g even now soon h = (now, accepts_nothing m.tells_parts m.own (received l t))
takes_load late l m t u k shown (Some c) g even now soon h =
    let r = received l t in
    let n = length (pulled t) in
    let a : Arrival = record { part = c.part; transmission = cond l.tells_parts l.peer c.transmission; bytes = c.bytes } in
    let is = arrives late m l g (acts m u) r n k even now soon c h in
    let first = g.first in
    let number : c.part ≡ l.peer + h.place = omega (arith, h.number, first) in
    subst (λ o. Follows m.tells_parts m.bounds.windows m.own (acts m u) (record { parts = parts_with l r n o; seen = seen_with r.seen (taken_of l r n o) }) n
    × Accepts m.tells_parts m.own r (record { parts = parts_with l r n o; seen = seen_with r.seen (taken_of l r n o) })) (sym is)
    (takes m.tells_parts m.bounds.windows l.bounds.windows.window l.peer m.own (acts m u) r n a.part a.transmission a.bytes now (same_window late m l g)
    (record {
      facing = first;
      some_own = g.here.some_own;
      place = h.place;
      number = number;
      cut = h.cut;
      is = h.bytes;
      sent = h.sent;
      sending = λ e. ap (λ b. cond b l.peer c.transmission) (g.kinds ∙ e) ∙ h.sending;
      made = h.made;
      stands = h.stands;
    }))

-- what a datagram that comes does to both directions
pub record Effects (l m : Layout) (t u : Trace Entry) (o : Option Shown) : Type 0 where
  pub heard : Hears l.tells_parts l.bounds.windows l.own (acts l t) (hears l (acts l t) o) (received m u)
  pub takes_it : Follows m.tells_parts m.bounds.windows m.own (acts m u) (receives l (received l t) (length (pulled t)) o) (length (pulled t))
  pub accepts : Accepts m.tells_parts m.own (received l t) (receives l (received l t) (length (pulled t)) o)

pub effects : (late : ℕ) (l m : Layout) (t u : Trace Entry) (S R : ℕ → Datagram → Type 0) (T U : ℕ → List ℕ → Type 0) (o : Option Shown) → Facing late l m → Facing late m l → Both l m t u S R T U → Comes late m R o → Effects l m t u o
effects late l m t u S R T U o f g h (Quiet e) = subst (Effects l m t u) (sym e) (record {
  heard = hears_nothing l.tells_parts l.bounds.windows l.own (acts l t) (received m u);
  takes_it = h.back.now;
  accepts = accepts_nothing m.tells_parts m.own (received l t);
})
effects late l m t u S R T U o f g h (Heard k d soon sent e) =
    let hearing = hears_telling_is late l m t u k d.telling d.tells f h.here h.out.now soon (h.out.tellings k d sent) in
    let taking = takes_load late l m t u k (shown_of m d) d.load g h.there h.back.now soon (h.back.loads k d sent) in
    subst (Effects l m t u) (sym e) (record { heard = hearing; takes_it = taking.0; accepts = taking.1 })

-- the floor stays within what was received
floor_low : (l : Layout) (r : Received) (n : ℕ) (after : Received) (old : ℕ) (o : Option Shown) → old ≤ last_told l after → floor_shown l r n after old o ≤ last_told l after
floor_low l r n after old None h = h
floor_low l r n after old (Some shown) h = by_floor shown.floor
  where
    by_test : (x : ℕ) (b : Bool) → leb x (last_told l after) ≡ b → cond b x old ≤ last_told l after
    by_test x true e = grind (arith, nat_tests)
    by_test x false e = h

    by_number : (x : Option ℕ) → floor_of (last_told l after) old x ≤ last_told l after
    by_number None = h
    by_number (Some x) = by_test x (leb x (last_told l after)) refl

    by_floor : (low : Option ℕ) → floor_shown l r n after old (Some (record shown { floor = low })) ≤ last_told l after
    by_floor None = h
    by_floor (Some low) = by_number (floor_read l r n low)

pub comes : (late : ℕ) (l m : Layout) (t u : Trace Entry) (now : ℕ) (datagram : List ℕ) (took : Took) (S R : ℕ → Datagram → Type 0) (T U : ℕ → List ℕ → Type 0) → Facing late l m → Facing late m l
    → Comes late m R (effect l took datagram) → Both l m t u S R T U → Both l m (t ▷ In now datagram took) u S R T U
comes late l m t u now datagram took S R T U f g c h =
    let o = effect l took datagram in
    let x = effects late l m t u S R T U o f g h c in
    let informed = informs_hears l (acts l t) o in
    let after = receives l (received l t) (length (pulled t)) o in
    record {
      out = way_hears l.tells_parts l.bounds.windows l.bounds.tell l.own (acts l t) (hears l (acts l t) o) (received m u) (length (pulled u)) S R h.out x.heard;
      back = way_takes m.tells_parts m.bounds.windows m.bounds.tell m.own (acts m u) (received l t) after (length (pulled t)) R S h.back x.takes_it x.accepts;
      here = even_informs l.bounds.windows l.own (acts l t) (hears l (acts l t) o) informed h.here;
      there = h.there;
      given_here = informed.given_is ∙ h.given_here;
      given_there = h.given_there;
      low_here = floor_low l (received l t) (length (pulled t)) after (floor l t) o
          (omega (arith, h.low_here, told_behind late m l g (received l t), told_behind late m l g after, x.accepts.far));
      low_there = h.low_there;
      means_here = h.means_here;
      means_there = h.means_there;
    }

-- ---- how a datagram that comes is read

pub reading_is : (late : ℕ) (l m : Layout) (f : Datagram) (datagram : List ℕ) → Facing late m l → Spelled m f datagram → reading l datagram ≡ Shows (shown_of m f)
reading_is late l m f datagram g s =
    let fits : length datagram ≤ l.bounds.datagram = subst (λ (b : Bounds). length datagram ≤ b.datagram) (sym g.bounds) s.fits in
    let short : ltb l.bounds.datagram (length datagram) ≡ false = grind (arith, nat_tests) in
    ap (λ b. cond b (Refuses reason.TooLong) (l.read datagram)) short ∙ g.reads datagram ∙ s.shows

-- a datagram of fewer than eight bytes shows nothing
pub tiny_effect : (l : Layout) (took : Took) (datagram : List ℕ) → IsLayout l → length datagram < 8 → effect l took datagram ≡ None
tiny_effect l took datagram is less = of_took (has_effect took)
  where
    of_length : (b : Bool) → shown_in (cond b (Refuses reason.TooLong) (l.read datagram)) ≡ None
    of_length true = refl
    of_length false = is.tiny datagram less

    of_took : (b : Bool) → cond b (shown_in (reading l datagram)) None ≡ None
    of_took true = of_length (ltb l.bounds.datagram (length datagram))
    of_took false = refl

-- a datagram that came in time has the effect of what it means, or none
pub came : (late : ℕ) (l m : Layout) (took : Took) (datagram : List ℕ) (R : ℕ → Datagram → Type 0) (U : ℕ → List ℕ → Type 0) → Facing late m l → ((k : ℕ) (d : List ℕ) → U k d → (f : Datagram) × R k f × Spelled m f d)
    → (8 ≤ length datagram → (k : ℕ) × (k < late) × U k datagram) → Comes late m R (effect l took datagram)
came late l m took datagram R U g means timely = by_length (cases_lt (length datagram) 8)
  where
    of_took : (k : ℕ) (f : Datagram) → k < late → R k f → reading l datagram ≡ Shows (shown_of m f) → (b : Bool) → Comes late m R (cond b (shown_in (reading l datagram)) None)
    of_took k f soon sent is true = Heard k f soon sent (ap shown_in is)
    of_took k f soon sent is false = Quiet refl

    by_length : (length datagram < 8) ⊎ (8 ≤ length datagram) → Comes late m R (effect l took datagram)
    by_length (inl less) = Quiet (tiny_effect l took datagram g.there less)
    by_length (inr ge) =
        let in_time = timely ge in
        let f = means in_time.0 datagram in_time.2 in
        of_took in_time.0 f.0 in_time.1 f.1 (reading_is late l m f.0 datagram g f.2) (has_effect took)

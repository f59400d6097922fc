-- What one call does to what holds in one direction.
use Rattle.std.proofs.Common.{◌≡◌, ℕ, zero, suc, ◌+◌, ◌-◌, ◌<◌, ◌≤◌, ◌⊎◌, inl, inr, Bool, true, false, ltb, cond, List, ◌∷◌, Option, Some, None, is_some, refl, sym, ap, ◌∙◌, arith}
use Rattle.std.proofs.lemmas.Bool.{cases_eq}
use Rattle.mt_base.specs.Trace.{Trace}
use Rattle.mt_windows.specs.declared.receive.Accept.{Accept}
use Rattle.mt_windows.specs.declared.receive.Accept.TheVariants.{New, Again, Beyond}
use Rattle.mt_windows.specs.Arrived.{Parts, part_at, put, end_of, verdict, with_part}
use Rattle.mt_windows.specs.Noted.{is_noted}
use Rattle.mt_windows.specs.Sending.{Act, Limits, cuts, is_open, part_of, piece, settled, told, lowest_or_next, transmissions}
use Rattle.mt_windows.proofs.Order.{end_of-put, part_at-put_same, part_at-put_other, verdict_new}
use Rattle.carrier.specs.Layout.{Carried, Datagram, Received, Telling}
use Rattle.carrier.specs.Receiving.{is_taken, seen_with}
use Rattle.carrier.specs.TwoLinks.{WasMade}
use Rattle.carrier.proofs.links.Invariant.{Even, Follows, FliesLoad, LowFloor, Told, Way, Grown, Keeps, Hears, Accepts, behind, count, has}
use Rattle.carrier.proofs.links.Numbers.{below_lowest, lowest_or_all}
use Rattle.carrier.proofs.links.Noted.{noted_more, noted_cases, greatest_grows}
use Rattle.carrier.proofs.links.Parts.{again_there, at_below_end, end_is_there, drained_grows, drained_put, new_below}

-- ---- one datagram later

pub load_on : (l : Limits) (own k : ℕ) (a b : Trace Act) (c : Option Carried) → Grown l a b → FliesLoad l own k a c → FliesLoad l own (suc k) b c
load_on l own k a b None g h = tt
load_on l own k a b (Some c) g h = record {
  place = h.place;
  number = h.number;
  cut = omega (arith, h.cut, g.more);
  bytes = h.bytes ∙ sym (g.same h.place h.cut);
  near = omega (arith, h.near, g.most);
  sent = h.sent;
  sending = h.sending;
  made = omega (arith, h.made, g.made_more);
  stands = g.stands h.sent h.made ∙ h.stands;
  recent = omega (arith, h.recent, g.made_most);
}

pub floor_on : (kind : Bool) (l : Limits) (own k : ℕ) (a b : Trace Act) (f : Option ℕ) → Grown l a b → LowFloor kind l own k a f → LowFloor kind l own (suc k) b f
floor_on kind l own k a b None g h = tt
floor_on kind l own k a b (Some f) g h = record {
  place = h.place;
  number = h.number;
  cut = λ e. omega (arith, h.cut e, g.more);
  below = λ e q less. g.settles q ∙ h.below e q less;
  near = λ e. omega (arith, h.near e, g.most);
  made = λ e. omega (arith, h.made e, g.made_more);
  recent = λ e. omega (arith, h.recent e, g.made_most);
}

count_most : (kind : Bool) (l : Limits) (a b : Trace Act) → Grown l a b → count kind b ≤ count kind a + 1
count_most true l a b g = g.most
count_most false l a b g = g.made_most

pub told_on : (kind : Bool) (l : Limits) (tell own k : ℕ) (a b : Trace Act) (r : Received) (t : Telling) → Grown l a b → Told kind l tell own k a r t → Told kind l tell own (suc k) b r t
told_on kind l tell own k a b r t g h = record { got = h.got; within = h.within; near = omega (arith, h.near, count_most kind l a b g) }

pub stays : (l : Limits) (a : Trace Act) → Grown l a a
stays l a = record {
  more = omega arith;
  most = omega arith;
  made_more = omega arith;
  made_most = omega arith;
  same = λ p less. refl;
  stands = λ j less. refl;
  settles = λ p. refl;
  knows = λ j. refl;
  given_is = refl;
}

was_on : (l : Limits) (own : ℕ) (a b : Trace Act) (parts : Parts) (q : ℕ) → Grown l a b → WasMade own a parts q → WasMade own b parts q
was_on l own a b parts q g h = record {
  place = h.place;
  number = h.number;
  made = omega (arith, h.made, g.made_more);
  came = ap (λ p. is_some (part_at parts p)) (g.stands h.place h.made) ∙ h.came;
}

pub follows_sends : (kind : Bool) (l : Limits) (own : ℕ) (a b : Trace Act) (r : Received) (n : ℕ) → Grown l a b → Follows kind l own a r n → Follows kind l own b r n
follows_sends kind l own a b r n g h = record {
  same = λ p bytes is. let old = h.same p bytes is in (omega (arith, old.0, g.more), old.1 ∙ sym (g.same p old.0));
  got = λ p is. h.got p (sym (g.settles p) ∙ is);
  room = h.room;
  seen = λ e q is. was_on l own a b r.parts q g (h.seen e q is);
  known = λ e j is. h.known e j (sym (g.knows j) ∙ is);
}

-- the sender sends a datagram
pub way_sends : (kind : Bool) (l : Limits) (tell own : ℕ) (a b : Trace Act) (r : Received) (n : ℕ) (S R S' R' : ℕ → Datagram → Type 0) → Way kind l tell own a r n S R → Grown l a b
    → ((f : Datagram) → S' 0 f → FliesLoad l own 0 b f.load) → ((f : Datagram) → S' 0 f → LowFloor kind l own 0 b f.floor)
    → ((k : ℕ) (f : Datagram) → S' (suc k) f → S k f) → ((f : Datagram) → R' 0 f → ⊥) → ((k : ℕ) (f : Datagram) → R' (suc k) f → R k f) → Way kind l tell own b r n S' R'
way_sends kind l tell own a b r n S R S' R' h g load floor older none told = record {
  now = follows_sends kind l own a b r n g h.now;
  loads = loads;
  floors = floors;
  tellings = tellings;
}
  where
    loads : (k : ℕ) (f : Datagram) → S' k f → FliesLoad l own k b f.load
    loads zero f s = load f s
    loads (suc k) f s = load_on l own k a b f.load g (h.loads k f (older k f s))

    floors : (k : ℕ) (f : Datagram) → S' k f → LowFloor kind l own k b f.floor
    floors zero f s = floor f s
    floors (suc k) f s = floor_on kind l own k a b f.floor g (h.floors k f (older k f s))

    tellings : (k : ℕ) (f : Datagram) → R' k f → Told kind l tell own k b r f.telling
    tellings zero f t = absurd (none f t)
    tellings (suc k) f t = told_on kind l tell own k a b r f.telling g (h.tellings k f (told k f t))

-- the receiver sends a datagram
pub way_tells : (kind : Bool) (l : Limits) (tell own : ℕ) (a : Trace Act) (r : Received) (n : ℕ) (S R S' R' : ℕ → Datagram → Type 0) → Way kind l tell own a r n S R
    → ((f : Datagram) → R' 0 f → Told kind l tell own 0 a r f.telling) → ((k : ℕ) (f : Datagram) → R' (suc k) f → R k f)
    → ((f : Datagram) → S' 0 f → ⊥) → ((k : ℕ) (f : Datagram) → S' (suc k) f → S k f) → Way kind l tell own a r n S' R'
way_tells kind l tell own a r n S R S' R' h telling told none older = record {
  now = h.now;
  loads = loads;
  floors = floors;
  tellings = tellings;
}
  where
    loads : (k : ℕ) (f : Datagram) → S' k f → FliesLoad l own k a f.load
    loads zero f s = absurd (none f s)
    loads (suc k) f s = load_on l own k a a f.load (stays l a) (h.loads k f (older k f s))

    floors : (k : ℕ) (f : Datagram) → S' k f → LowFloor kind l own k a f.floor
    floors zero f s = absurd (none f s)
    floors (suc k) f s = floor_on kind l own k a a f.floor (stays l a) (h.floors k f (older k f s))

    tellings : (k : ℕ) (f : Datagram) → R' k f → Told kind l tell own k a r f.telling
    tellings zero f t = telling f t
    tellings (suc k) f t = told_on kind l tell own k a a r f.telling (stays l a) (h.tellings k f (told k f t))

-- ---- the sender hears a telling, or is given bytes

load_hears : (l : Limits) (own k : ℕ) (a b : Trace Act) (c : Option Carried) → Keeps l a b → FliesLoad l own k a c → FliesLoad l own k b c
load_hears l own k a b None g h = tt
load_hears l own k a b (Some c) g h = record {
  place = h.place;
  number = h.number;
  cut = omega (arith, h.cut, g.cuts_are);
  bytes = h.bytes ∙ sym (g.pieces_are h.place);
  near = omega (arith, h.near, g.cuts_are);
  sent = h.sent;
  sending = h.sending;
  made = omega (arith, h.made, g.made_are);
  stands = g.stands h.sent ∙ h.stands;
  recent = omega (arith, h.recent, g.made_are);
}

floor_hears : (kind : Bool) (l : Limits) (own k : ℕ) (a b : Trace Act) (f : Option ℕ) → Keeps l a b → LowFloor kind l own k a f → LowFloor kind l own k b f
floor_hears kind l own k a b None g h = tt
floor_hears kind l own k a b (Some f) g h = record {
  place = h.place;
  number = h.number;
  cut = λ e. omega (arith, h.cut e, g.cuts_are);
  below = λ e q less. g.settles q (h.below e q less);
  near = λ e. omega (arith, h.near e, g.cuts_are);
  made = λ e. omega (arith, h.made e, g.made_are);
  recent = λ e. omega (arith, h.recent e, g.made_are);
}

count_same : (kind : Bool) (l : Limits) (a b : Trace Act) → Keeps l a b → count kind b ≡ count kind a
count_same true l a b g = g.cuts_are
count_same false l a b g = g.made_are

pub way_hears : (kind : Bool) (l : Limits) (tell own : ℕ) (a b : Trace Act) (r : Received) (n : ℕ) (S R : ℕ → Datagram → Type 0) → Way kind l tell own a r n S R → Hears kind l own a b r → Way kind l tell own b r n S R
way_hears kind l tell own a b r n S R h g = record {
  now = record {
    same = λ p bytes is. let old = h.now.same p bytes is in (omega (arith, old.0, g.keeps.cuts_are), old.1 ∙ sym (g.keeps.pieces_are p));
    got = λ p is. of_told p (g.settled_by p is);
    room = h.now.room;
    seen = λ e q is. was (h.now.seen e q is);
    known = λ e j is. of_known e j (g.known_by e j is);
  };
  loads = λ k f s. load_hears l own k a b f.load g.keeps (h.loads k f s);
  floors = λ k f s. floor_hears kind l own k a b f.floor g.keeps (h.floors k f s);
  tellings = λ k f t. let old = h.tellings k f t in record { got = old.got; within = old.within; near = omega (arith, old.near, count_same kind l a b g.keeps) };
}
  where
    was : {q : ℕ} → WasMade own a r.parts q → WasMade own b r.parts q
    was old = record {
      place = old.place;
      number = old.number;
      made = omega (arith, old.made, g.keeps.made_are);
      came = ap (λ p. is_some (part_at r.parts p)) (g.keeps.stands old.place) ∙ old.came;
    }

    of_told : (p : ℕ) → (settled l a p ≡ true) ⊎ (is_some (part_at r.parts p) ≡ true) → is_some (part_at r.parts p) ≡ true
    of_told p (inl e) = h.now.got p e
    of_told p (inr e) = e

    of_known : kind ≡ false → (j : ℕ) → (told l a j ≡ true) ⊎ (is_noted (own + j) r.seen ≡ true) → is_noted (own + j) r.seen ≡ true
    of_known k j (inl e) = h.now.known k j e
    of_known k j (inr e) = e

-- ---- the receiver takes a part, or pulls

-- what was received, with this part under this transmission
abbrev pub with_arrival : Accept → Received → ℕ → ℕ → List ℕ → Received
with_arrival v r place transmission bytes = record {
  parts = with_part v r.parts place bytes;
  seen = seen_with r.seen (cond (is_taken v) (Some transmission) None);
}

-- a part that was cut arrives, where transmissions are told under the one that carried it
pub record Arrives (kind : Bool) (l : Limits) (first own : ℕ) (a : Trace Act) (part transmission : ℕ) (bytes : List ℕ) : Type 0 where
  pub facing : first ≡ own
  pub some_own : 1 ≤ own
  pub place : ℕ
  pub number : part ≡ first + place
  pub cut : place < cuts a
  pub is : bytes ≡ piece l a place
  pub sent : ℕ
  pub sending : kind ≡ false → transmission ≡ own + sent
  pub made : sent < transmissions a
  pub stands : part_of a sent ≡ place

pub accepts_nothing : (kind : Bool) (own : ℕ) (r : Received) → Accepts kind own r r
accepts_nothing kind own r = record { stay = λ p is. is; kept = λ q is. is; far = omega arith }

pub takes : (kind : Bool) (l : Limits) (window first own : ℕ) (a : Trace Act) (r : Received) (n part transmission : ℕ) (bytes : List ℕ) → Follows kind l own a r n → window ≡ l.window → Arrives kind l first own a part transmission bytes
    → Follows kind l own a (with_arrival (verdict window first r.parts n part) r (part - first) transmission bytes) n × Accepts kind own r (with_arrival (verdict window first r.parts n part) r (part - first) transmission bytes)
takes kind l window first own a r n part transmission bytes h wins c = by_answer (verdict window first r.parts n part) refl
  where
    same : (p : ℕ) (b : List ℕ) → (p ≡ part - first) ⊎ (p ≡ part - first → ⊥) → part_at (put r.parts (part - first) bytes) p ≡ Some b → (p < cuts a) × (b ≡ piece l a p)
    same p b (inl e) at =
        let here : c.place ≡ p = omega (arith, e, c.number) in
        let there : Some bytes ≡ Some b = sym (part_at-put_same r.parts (part - first) bytes) ∙ sym (ap (part_at (put r.parts (part - first) bytes)) e) ∙ at in
        let same_bytes : bytes ≡ b = cc in
        (omega (arith, c.cut, here), sym same_bytes ∙ c.is ∙ ap (piece l a) here)
    same p b (inr ne) at = h.same p b (sym (part_at-put_other r.parts (part - first) p bytes ne) ∙ at)

    there : (p : ℕ) → (p ≡ part - first) ⊎ (p ≡ part - first → ⊥) → is_some (part_at r.parts p) ≡ true → is_some (part_at (put r.parts (part - first) bytes) p) ≡ true
    there p (inl e) old = ap (λ q. is_some (part_at (put r.parts (part - first) bytes) q)) e ∙ ap is_some (part_at-put_same r.parts (part - first) bytes)
    there p (inr ne) old = ap is_some (part_at-put_other r.parts (part - first) p bytes ne) ∙ old

    put_there : is_some (part_at (put r.parts (part - first) bytes) c.place) ≡ true
    put_there =
        let e : c.place ≡ part - first = omega (arith, c.number) in
        ap (λ q. is_some (part_at (put r.parts (part - first) bytes) q)) e ∙ ap is_some (part_at-put_same r.parts (part - first) bytes)

    -- what was seen, where the parts that were accepted stay so
    seen_too : (parts : Parts) → ((p : ℕ) → is_some (part_at r.parts p) ≡ true → is_some (part_at parts p) ≡ true) → is_some (part_at parts c.place) ≡ true
        → kind ≡ false → (q : ℕ) → is_noted q (transmission ∷ r.seen) ≡ true → WasMade own a parts q
    seen_too parts stay came e q is = by_place (noted_cases q transmission r.seen is)
      where
        by_place : (q ≡ transmission) ⊎ (is_noted q r.seen ≡ true) → WasMade own a parts q
        by_place (inl now) = record {
          place = c.sent;
          number = now ∙ c.sending e;
          made = c.made;
          came = ap (λ p. is_some (part_at parts p)) c.stands ∙ came;
        }
        by_place (inr before) =
            let old = h.seen e q before in
            record { place = old.place; number = old.number; made = old.made; came = stay (part_of a old.place) old.came }

    far_by : (k : Bool) (parts : Parts) → (k ≡ false → transmission ≡ own + c.sent) → end_of r.parts ≤ end_of parts → behind k own r ≤ behind k own (record { parts = parts; seen = transmission ∷ r.seen })
    far_by true parts sending more = omega (arith, more)
    far_by false parts sending more = greatest_grows r.seen own transmission (omega (arith, sending refl))

    by_answer : (v : Accept) → verdict window first r.parts n part ≡ v → Follows kind l own a (with_arrival v r (part - first) transmission bytes) n × Accepts kind own r (with_arrival v r (part - first) transmission bytes)
    by_answer New e =
        let fresh = verdict_new window first r.parts n part e in
        let below = new_below window first r.parts n part e in
        let stay : (p : ℕ) → is_some (part_at r.parts p) ≡ true → is_some (part_at (put r.parts (part - first) bytes) p) ≡ true = λ p old. there p (cases_eq p (part - first)) old in (
          record {
            same = λ p b at. same p b (cases_eq p (part - first)) at;
            got = λ p s. stay p (h.got p s);
            room = omega (arith, end_of-put r.parts (part - first) bytes, drained_put r.parts (part - first) n bytes fresh.1, h.room, below, wins, c.number);
            seen = seen_too (put r.parts (part - first) bytes) stay put_there;
            known = λ k j is. noted_more (own + j) transmission r.seen (h.known k j is);
          },
          record {
            stay = stay;
            kept = λ q is. noted_more q transmission r.seen is;
            far = far_by kind (put r.parts (part - first) bytes) c.sending (omega (arith, end_of-put r.parts (part - first) bytes));
          },
        )
    by_answer Again e = (
      record {
        same = h.same;
        got = h.got;
        room = h.room;
        seen = seen_too r.parts (λ p is. is) (again_there window first r.parts n part c.place c.number e);
        known = λ k j is. noted_more (own + j) transmission r.seen (h.known k j is);
      },
      record {
        stay = λ p is. is;
        kept = λ q is. noted_more q transmission r.seen is;
        far = far_by kind r.parts c.sending (omega arith);
      },
    )
    by_answer (Beyond limit) e = (h, accepts_nothing kind own r)

has_stays : (kind : Bool) (own : ℕ) (old new : Received) (q : ℕ) → Accepts kind own old new → has kind own old q ≡ true → has kind own new q ≡ true
has_stays true own old new q g is = by_test (ltb q own) is
  where
    by_test : (b : Bool) → cond b false (is_some (part_at old.parts (q - own))) ≡ true → cond b false (is_some (part_at new.parts (q - own))) ≡ true
    by_test true e = e
    by_test false e = g.stay (q - own) e
has_stays false own old new q g is = g.kept q is

pub way_takes : (kind : Bool) (l : Limits) (tell own : ℕ) (a : Trace Act) (r new : Received) (n : ℕ) (S R : ℕ → Datagram → Type 0) → Way kind l tell own a r n S R → Follows kind l own a new n → Accepts kind own r new → Way kind l tell own a new n S R
way_takes kind l tell own a r new n S R h now g = record {
  now = now;
  loads = h.loads;
  floors = h.floors;
  tellings = λ k f t. let old = h.tellings k f t in record { got = λ q le is. has_stays kind own r new q g (old.got q le is); within = omega (arith, old.within, g.far); near = old.near };
}

pub way_pulls : (kind : Bool) (l : Limits) (tell own : ℕ) (a : Trace Act) (r : Received) (n m : ℕ) (S R : ℕ → Datagram → Type 0) → Way kind l tell own a r n S R → n ≤ m → Way kind l tell own a r m S R
way_pulls kind l tell own a r n m S R h le = record {
  now = record { same = h.now.same; got = h.now.got; room = omega (arith, h.now.room, drained_grows r.parts n m le); seen = h.now.seen; known = h.now.known };
  loads = h.loads;
  floors = h.floors;
  tellings = h.tellings;
}

-- ---- how far the ends are apart

-- each part below the lowest unsettled one was accepted
pub lowest_arrived : (kind : Bool) (l : Limits) (own : ℕ) (a : Trace Act) (r : Received) (n p : ℕ) → Follows kind l own a r n → p < lowest_or_next l a → is_some (part_at r.parts p) ≡ true
lowest_arrived kind l own a r n p h less = h.got p (below_lowest l a p less)

-- parts that are settled up to a place were accepted up to there
pub reached : (kind : Bool) (l : Limits) (own : ℕ) (a : Trace Act) (r : Received) (n f : ℕ) → Follows kind l own a r n → ((q : ℕ) → q < f → settled l a q ≡ true) → f ≤ end_of r.parts
reached kind l own a r n zero h below = omega arith
reached kind l own a r n (suc f) h below = at_below_end r.parts f (h.got f (below f (omega arith)))

pub end_within : (kind : Bool) (l : Limits) (own : ℕ) (a : Trace Act) (r : Received) (n : ℕ) → Follows kind l own a r n → end_of r.parts ≤ cuts a
end_within kind l own a r n h = of_end (end_of r.parts) refl
  where
    some : (o : Option (List ℕ)) (p : ℕ) → part_at r.parts p ≡ o → is_some o ≡ true → p < cuts a
    some None p e is = absurd (cc)
    some (Some b) p e is = (h.same p b e).0

    of_end : (e : ℕ) → end_of r.parts ≡ e → e ≤ cuts a
    of_end zero e = omega arith
    of_end (suc p) e = some (part_at r.parts p) p refl (end_is_there r.parts p e)

-- the parts end at most a window above the lowest unsettled one
pub cuts_within : (l : Limits) (own : ℕ) (a : Trace Act) → Even l own a → cuts a ≤ lowest_or_next l a + l.window
cuts_within l own a h = of_place (lowest_or_all l a)
  where
    of_place : (is_open l a (lowest_or_next l a) ≡ true) ⊎ (cuts a ≤ lowest_or_next l a) → cuts a ≤ lowest_or_next l a + l.window
    of_place (inl e) = h.window (lowest_or_next l a) e
    of_place (inr le) = omega (arith, le)

-- What one call at one end does to both directions.
use Rattle.std.proofs.Common.{◌≡◌, ℕ, zero, suc, ◌<◌, ◌≤◌, inl, true, List, [], ◌++◌, length, All, Option, Some, None, option_map, refl, sym, ap, ◌∙◌, subst, append_assoc, arith, length-append}
use Rattle.std.proofs.lemmas.List.Elements.{All-append, All-nil}
use Rattle.mt_base.specs.Trace.{Trace, Start, ◌▷◌}
use Rattle.mt_windows.specs.Sending.Act.{Gave as GaveBytes}
use Rattle.mt_windows.specs.Arrived.{part_at, passed}
use Rattle.mt_windows.specs.Sending.{Act, given as given_to, pieces, piece, waiting, settled}
use Rattle.mt_windows.proofs.Counts.{pieces_count}
use Rattle.mt_windows.proofs.Pieces.{pieces_and_rest}
use Rattle.carrier.specs.Entries.{Entry, Gave, Polled, Pulled, given, pulled}
use Rattle.carrier.specs.Layout.{Layout, Datagram, Shows}
use Rattle.carrier.specs.Receiving.{received, accepted, floor, last_told}
use Rattle.carrier.specs.Sending.{acts, sends}
use Rattle.carrier.specs.Due.{meant, due}
use Rattle.carrier.specs.LayoutLaw.{shown_of}
use Rattle.carrier.proofs.links.Invariant.{Even, FliesLoad, LowFloor, Told, Way}
use Rattle.carrier.proofs.links.Numbers.{open_cut}
use Rattle.carrier.proofs.links.Parts.{some_at, passed_front}
use Rattle.carrier.proofs.links.Steps.{way_sends, way_tells, way_hears, way_pulls}
use Rattle.carrier.proofs.links.Facing.{Facing, alone}
use Rattle.carrier.proofs.links.Sends.{Says, says, outcome}
use Rattle.carrier.proofs.links.Reading.{told_now}

-- these bytes show what this datagram means
pub record Spelled (l : Layout) (f : Datagram) (datagram : List ℕ) : Type 0 where
  pub shows : l.read datagram ≡ Shows (shown_of l f)
  pub fits : length datagram ≤ l.bounds.datagram

-- Two ends: `S k f` and `R k f` say that the first and the second end sent what f means, after which k
-- datagrams were sent; `T` and `U` say the same of the bytes.
pub record Both (l m : Layout) (t u : Trace Entry) (S R : ℕ → Datagram → Type 0) (T U : ℕ → List ℕ → Type 0) : Type 0 where
  pub out : Way l.tells_parts l.bounds.windows l.bounds.tell l.own (acts l t) (received m u) (length (pulled u)) S R
  pub back : Way m.tells_parts m.bounds.windows m.bounds.tell m.own (acts m u) (received l t) (length (pulled t)) R S
  pub here : Even l.bounds.windows l.own (acts l t)
  pub there : Even m.bounds.windows m.own (acts m u)
  pub given_here : given_to (acts l t) ≡ given t
  pub given_there : given_to (acts m u) ≡ given u
  pub low_here : floor l t ≤ last_told l (received l t)
  pub low_there : floor m u ≤ last_told m (received m u)
  pub means_here : (k : ℕ) (datagram : List ℕ) → T k datagram → (f : Datagram) × S k f × Spelled l f datagram
  pub means_there : (k : ℕ) (datagram : List ℕ) → U k datagram → (f : Datagram) × R k f × Spelled m f datagram

pub swap : (l m : Layout) (t u : Trace Entry) (S R : ℕ → Datagram → Type 0) (T U : ℕ → List ℕ → Type 0) → Both l m t u S R T U → Both m l u t R S U T
swap l m t u S R T U h = record {
  out = h.back;
  back = h.out;
  here = h.there;
  there = h.here;
  given_here = h.given_there;
  given_there = h.given_here;
  low_here = h.low_there;
  low_there = h.low_here;
  means_here = h.means_there;
  means_there = h.means_here;
}

-- ---- bytes are given, or pulled

pub gives : (l m : Layout) (t u : Trace Entry) (S R : ℕ → Datagram → Type 0) (T U : ℕ → List ℕ → Type 0) (bytes : List ℕ) → All (λ b. b < 256) bytes → Both l m t u S R T U → Both l m (t ▷ Gave bytes) u S R T U
gives l m t u S R T U bytes is h = record {
  out = way_hears l.tells_parts l.bounds.windows l.bounds.tell l.own (acts l t) (acts l t ▷ GaveBytes bytes) (received m u) (length (pulled u)) S R h.out
      (record {
        keeps = record { cuts_are = refl; made_are = refl; pieces_are = λ p. refl; stands = λ j. refl; settles = λ p e. e; knows = λ j e. e };
        settled_by = λ p e. inl e;
        known_by = λ k j e. inl e;
      });
  back = h.back;
  here = record {
    window = h.here.window;
    numbers = h.here.numbers;
    made = h.here.made;
    reaches = h.here.reaches;
    bytes = All-append (λ b. b < 256) (given_to (acts l t)) bytes h.here.bytes is;
    pieces = h.here.pieces;
  };
  there = h.there;
  given_here = ap (λ xs. xs ++ bytes) h.given_here;
  given_there = h.given_there;
  low_here = h.low_here;
  low_there = h.low_there;
  means_here = h.means_here;
  means_there = h.means_there;
}

pub pulls : (l m : Layout) (t u : Trace Entry) (S R : ℕ → Datagram → Type 0) (T U : ℕ → List ℕ → Type 0) (room : ℕ) (bytes : List ℕ) → Both l m t u S R T U → Both l m (t ▷ Pulled room bytes) u S R T U
pulls l m t u S R T U room bytes h = record {
  out = h.out;
  back = way_pulls m.tells_parts m.bounds.windows m.bounds.tell m.own (acts m u) (received l t) (length (pulled t)) (length (pulled t ++ bytes)) R S h.back (omega (arith, length-append (pulled t) bytes));
  here = h.here;
  there = h.there;
  given_here = h.given_here;
  given_there = h.given_there;
  low_here = h.low_here;
  low_there = h.low_there;
  means_here = h.means_here;
  means_there = h.means_there;
}

-- a call that neither end looks at again
pub same_ends : (l m : Layout) (t v u : Trace Entry) (S R : ℕ → Datagram → Type 0) (T U : ℕ → List ℕ → Type 0) → acts l v ≡ acts l t → received l v ≡ received l t → pulled v ≡ pulled t → given v ≡ given t → floor l v ≡ floor l t → Both l m t u S R T U → Both l m v u S R T U
same_ends l m t v u S R T U acts_are received_are pulled_are given_are floor_is h = record {
  out = subst (λ a. Way l.tells_parts l.bounds.windows l.bounds.tell l.own a (received m u) (length (pulled u)) S R) (sym acts_are) h.out;
  back = subst (λ r. Way m.tells_parts m.bounds.windows m.bounds.tell m.own (acts m u) r (length (pulled v)) R S) (sym received_are)
      (subst (λ xs. Way m.tells_parts m.bounds.windows m.bounds.tell m.own (acts m u) (received l t) (length xs) R S) (sym pulled_are) h.back);
  here = subst (λ a. Even l.bounds.windows l.own a) (sym acts_are) h.here;
  there = h.there;
  given_here = ap given_to acts_are ∙ h.given_here ∙ sym given_are;
  given_there = h.given_there;
  low_here = subst (λ r. floor l v ≤ last_told l r) (sym received_are) (subst (λ n. n ≤ last_told l (received l t)) (sym floor_is) h.low_here);
  low_there = h.low_there;
  means_here = h.means_here;
  means_there = h.means_there;
}

-- ---- a poll

-- the sets after one datagram more, sent by the first end
pub record Later (l : Layout) (t : Trace Entry) (now : ℕ) (datagram : List ℕ) (S R S' R' : ℕ → Datagram → Type 0) (T U T' U' : ℕ → List ℕ → Type 0) : Type 0 where
  pub sent : (f : Datagram) → S' 0 f → meant l t now ≡ Some f
  pub sends_now : (f : Datagram) → meant l t now ≡ Some f → S' 0 f
  pub older : (k : ℕ) (f : Datagram) → S' (suc k) f → S k f
  pub old : (k : ℕ) (f : Datagram) → S k f → S' (suc k) f
  pub none : (f : Datagram) → R' 0 f → ⊥
  pub older_there : (k : ℕ) (f : Datagram) → R' (suc k) f → R k f
  pub old_there : (k : ℕ) (f : Datagram) → R k f → R' (suc k) f
  pub bytes : (d : List ℕ) → T' 0 d → datagram ≡ d
  pub older_bytes : (k : ℕ) (d : List ℕ) → T' (suc k) d → T k d
  pub no_bytes : (d : List ℕ) → U' 0 d → ⊥
  pub older_bytes_there : (k : ℕ) (d : List ℕ) → U' (suc k) d → U k d

-- what a poll sent was meant
pub was_meant : (l : Layout) (o : Option Datagram) (datagram : List ℕ) → Some datagram ≡ option_map l.spell o → (f : Datagram) × (o ≡ Some f) × (datagram ≡ l.spell f)
was_meant l None datagram h = absurd (cc)
was_meant l (Some f) datagram h = (f, refl, (let e : datagram ≡ l.spell f = cc in e))

pub polls : (late : ℕ) (l m : Layout) (t u : Trace Entry) (now : ℕ) (datagram : List ℕ) (S R S' R' : ℕ → Datagram → Type 0) (T U T' U' : ℕ → List ℕ → Type 0) → Facing late l m → Facing late m l
    → Some datagram ≡ due l t now → Later l t now datagram S R S' R' T U T' U' → Both l m t u S R T U → Both l m (t ▷ Polled now (Some datagram)) u S' R' T' U'
polls late l m t u now datagram S R S' R' T U T' U' f g is_due sets h =
    let was = was_meant l (meant l t now) datagram is_due in
    let x = says l t (alone late l m f) h.here was.0 (outcome l t _ was.0 was.1) in
    let after = sends l (acts l t) (l.read datagram) in
    let same : sends l (acts l t) (l.read (l.spell was.0)) ≡ after = ap (λ d. sends l (acts l t) (l.read d)) (sym was.2) in
    let s : Says l t was.0 after = subst (λ b. Says l t was.0 b) same x in
    record {
      out = way_sends l.tells_parts l.bounds.windows l.bounds.tell l.own (acts l t) after (received m u) (length (pulled u)) S R S' R' h.out s.grown
          (λ e here. subst (λ (y : Datagram). FliesLoad l.bounds.windows l.own 0 after y.load) (one e was.0 (sets.sent e here) was.1) s.load)
          (λ e here. subst (λ (y : Datagram). LowFloor l.tells_parts l.bounds.windows l.own 0 after y.floor) (one e was.0 (sets.sent e here) was.1) s.low)
          sets.older sets.none sets.older_there;
      back = way_tells m.tells_parts m.bounds.windows m.bounds.tell m.own (acts m u) (received l t) (length (pulled t)) R S R' S' h.back
          (λ e here. subst (λ (y : Datagram). Told m.tells_parts m.bounds.windows m.bounds.tell m.own 0 (acts m u) (received l t) y.telling) (one e was.0 (sets.sent e here) was.1)
          (subst (λ y. Told m.tells_parts m.bounds.windows m.bounds.tell m.own 0 (acts m u) (received l t) y) (sym s.telling)
          (told_now late m l g (acts m u) (received l t) (length (pulled t)) h.there h.back.now (floor l t) h.low_here)))
          sets.older sets.none sets.older_there;
      here = s.even;
      there = h.there;
      given_here = s.grown.given_is ∙ h.given_here;
      given_there = h.given_there;
      low_here = h.low_here;
      low_there = h.low_there;
      means_here = means_here was.0 s was.1 was.2;
      means_there = means_there;
    }
  where
    one : (e y : Datagram) → meant l t now ≡ Some e → meant l t now ≡ Some y → y ≡ e
    one e y a b = cc

    means_here : {b : Trace Act} (y : Datagram) → Says l t y b → meant l t now ≡ Some y → datagram ≡ l.spell y → (k : ℕ) (d : List ℕ) → T' k d → (e : Datagram) × S' k e × Spelled l e d
    means_here y s is spells zero d here =
        let same = sym spells ∙ sets.bytes d here in
        (y, sets.sends_now y is, record { shows = ap l.read (sym same) ∙ s.shows; fits = subst (λ d. length d ≤ l.bounds.datagram) same s.fits })
    means_here y s is spells (suc k) d here = let old = h.means_here k d (sets.older_bytes k d here) in (old.0, sets.old k old.0 old.1, old.2)

    means_there : (k : ℕ) (d : List ℕ) → U' k d → (e : Datagram) × R' k e × Spelled m e d
    means_there zero d there = absurd (sets.no_bytes d there)
    means_there (suc k) d there = let old = h.means_there k d (sets.older_bytes_there k d there) in (old.0, sets.old_there k old.0 old.1, old.2)

-- ---- the beginning, and what follows for one direction

pub even_start : (late : ℕ) (l m : Layout) → Facing late l m → Even l.bounds.windows l.own Start
even_start late l m f = record {
  window = λ p is. absurd (let less = open_cut l.bounds.windows Start p is in omega (arith, less));
  numbers = λ less. omega (arith, less);
  made = λ less. omega (arith, less);
  reaches = omega arith;
  bytes = All-nil (λ b. b < 256);
  pieces = λ p. (omega arith, All-nil (λ b. b < 256));
}

pub way_start : (l m : Layout) (S R : ℕ → Datagram → Type 0) → ((k : ℕ) (f : Datagram) → S k f → ⊥) → ((k : ℕ) (f : Datagram) → R k f → ⊥) → Way l.tells_parts l.bounds.windows l.bounds.tell l.own Start (record { parts = []; seen = [] }) 0 S R
way_start l m S R none never = record {
  now = record { same = λ p bytes is. absurd (cc); got = λ p is. absurd (cc); room = omega arith; seen = λ e q is. absurd (cc); known = λ e j is. absurd (cc) };
  loads = λ k f s. absurd (none k f s);
  floors = λ k f s. absurd (none k f s);
  tellings = λ k f r. absurd (never k f r);
}

pub both_start : (late : ℕ) (l m : Layout) (S R : ℕ → Datagram → Type 0) (T U : ℕ → List ℕ → Type 0) → Facing late l m → Facing late m l → ((k : ℕ) (f : Datagram) → S k f → ⊥) → ((k : ℕ) (f : Datagram) → R k f → ⊥)
    → ((k : ℕ) (d : List ℕ) → T k d → ⊥) → ((k : ℕ) (d : List ℕ) → U k d → ⊥) → Both l m Start Start S R T U
both_start late l m S R T U f g no_s no_r no_t no_u = record {
  out = way_start l m S R no_s no_r;
  back = way_start m l R S no_r no_s;
  here = even_start late l m f;
  there = even_start late m l g;
  given_here = refl;
  given_there = refl;
  low_here = omega arith;
  low_there = omega arith;
  means_here = λ k d t. absurd (no_t k d t);
  means_there = λ k d u. absurd (no_u k d u);
}

-- what is settled arrived, with the same bytes
pub settled_arrived : (l m : Layout) (t u : Trace Entry) (S R : ℕ → Datagram → Type 0) (T U : ℕ → List ℕ → Type 0) (p : ℕ) → Both l m t u S R T U → settled l.bounds.windows (acts l t) p ≡ true → part_at (accepted m u) p ≡ Some (piece l.bounds.windows (acts l t) p)
settled_arrived l m t u S R T U p h is =
    let there = some_at (accepted m u) p (h.out.now.got p is) in
    there.1 ∙ ap Some (h.out.now.same p there.0 there.1).1

-- what was passed is the beginning of what was given
pub passed_given : (l m : Layout) (t u : Trace Entry) (S R : ℕ → Datagram → Type 0) (T U : ℕ → List ℕ → Type 0) → Both l m t u S R T U → (more : List ℕ) × (given t ≡ passed (accepted m u) ++ more)
passed_given l m t u S R T U h =
    let a = acts l t in
    let front = passed_front (accepted m u) (pieces l.bounds.windows a) (λ p bytes is. let same = h.out.now.same p bytes is in (omega (arith, same.0, pieces_count l.bounds.windows a), same.1)) in (
      front.0 ++ waiting l.bounds.windows a,
      sym h.given_here ∙ sym (pieces_and_rest l.bounds.windows a) ∙ ap (λ xs. xs ++ waiting l.bounds.windows a) front.1 ∙ append_assoc (passed (accepted m u)) front.0 (waiting l.bounds.windows a),
    )

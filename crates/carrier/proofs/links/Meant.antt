-- A datagram that comes in time is read as it was meant.
use Rattle.std.proofs.Common.{◌≡◌, ℕ, ◌<◌, Bool, true, false, cond, List, length, Option, Some, None, is_some, option_map, refl, ap, ◌∙◌}
use Rattle.mt_base.specs.Trace.{Trace}
use Rattle.carrier.specs.Entries.{Entry, pulled}
use Rattle.carrier.specs.Layout.{Layout, Carried, Datagram, Telling, named_in, read_near}
use Rattle.carrier.specs.Receiving.{received}
use Rattle.carrier.specs.Sending.{acts, told_reference}
use Rattle.carrier.specs.LayoutLaw.{shown_of, load_shown, telling_shown, low_part}
use Rattle.carrier.specs.TwoLinks.{Reads, LoadRead, TellingRead, FloorRead, LoadNear, FloorNear}
use Rattle.carrier.proofs.links.Invariant.{FliesLoad, LowFloor, Told}
use Rattle.carrier.proofs.links.Facing.{Facing, same_window}
use Rattle.carrier.proofs.links.Hears.{named_with, with_again, with_own}
use Rattle.carrier.proofs.links.Reading.{arrives, floor_is, floor_lies, named_is, named_lies, part_lies, transmission_lies}
use Rattle.carrier.proofs.links.Ends.{Both}
use Rattle.carrier.proofs.links.Comes.{reading_is}

-- `l` is the layout where it comes, `m` that of the end that sent it
module _ (late : ℕ) (l m : Layout) (t u : Trace Entry) (S R : ℕ → Datagram → Type 0) (T U : ℕ → List ℕ → Type 0) (k : ℕ) (f : Facing late l m) (g : Facing late m l) (h : Both l m t u S R T U) (soon : k < late) where
  load_is : (load : Option Carried) → FliesLoad m.bounds.windows m.own k (acts m u) load → LoadRead l t (load_shown m load) load
  load_is None fly = refl
  load_is (Some c) fly = (
    record { part = c.part; transmission = cond l.tells_parts l.peer c.transmission; bytes = c.bytes },
    arrives late m l g (acts m u) (received l t) (length (pulled t)) k h.there h.back.now soon c fly,
    refl,
    refl,
    λ e. ap (λ b. cond b l.peer c.transmission) e,
  )

  low_is : (floor : Option ℕ) → LowFloor m.tells_parts m.bounds.windows m.own k (acts m u) floor → FloorRead l t (option_map (low_part m) floor) floor
  low_is None fly = refl
  low_is (Some x) fly = (low_part m x, refl, floor_is late m l g (acts m u) (received l t) (length (pulled t)) k h.there h.back.now soon x fly)

  load_lies : (load : Option Carried) → FliesLoad m.bounds.windows m.own k (acts m u) load → LoadNear late l t load
  load_lies None fly = tt
  load_lies (Some c) fly = (
    part_lies late m l g (acts m u) (received l t) (length (pulled t)) k h.there h.back.now soon c fly,
    λ e. transmission_lies late m l g (acts m u) (received l t) (length (pulled t)) k h.there h.back.now soon c fly e,
  )

  low_lies : (floor : Option ℕ) → LowFloor m.tells_parts m.bounds.windows m.own k (acts m u) floor → FloorNear late l t floor
  low_lies None fly = tt
  low_lies (Some x) fly = floor_lies late m l g (acts m u) (received l t) (length (pulled t)) k h.there h.back.now soon x fly

  tells_is : (b : Bool) (telling : Telling) → is_some (telling_shown m b telling) ≡ b
  tells_is true telling = refl
  tells_is false telling = refl

  telling_is : (b : Bool) (telling : Telling) → Told l.tells_parts l.bounds.windows l.bounds.tell l.own k (acts l t) (received m u) telling → TellingRead l t (telling_shown m b telling) telling
  telling_is false telling told = tt
  telling_is true telling told = (
    named_in telling,
    ap (read_near l (told_reference l (acts l t))) (named_with (low_part m (named_in telling)) telling)
        ∙ named_is late l m f (acts l t) (received m u) (length (pulled u)) k h.here h.out.now soon telling told,
    with_again (named_in telling) (low_part m (named_in telling)) telling ∙ with_own telling,
  )

  pub meant_is : (datagram : List ℕ) → U k datagram → (d : Datagram) × R k d × Reads late l t datagram d
  meant_is datagram sent =
      let it = h.means_there k datagram sent in (
        it.0,
        it.1,
        record {
          shown = shown_of m it.0;
          window = ap Some (same_window late l m f);
          shows = reading_is late l m it.0 datagram g it.2;
          load = load_is it.0.load (h.back.loads k it.0 it.1);
          tells = tells_is it.0.tells it.0.telling;
          telling = telling_is it.0.tells it.0.telling (h.out.tellings k it.0 it.1);
          floor = low_is it.0.floor (h.back.floors k it.0 it.1);
          load_near = load_lies it.0.load (h.back.loads k it.0 it.1);
          telling_near = named_lies late l m f (acts l t) (received m u) (length (pulled u)) k h.here h.out.now soon it.0.telling (h.out.tellings k it.0 it.1);
          floor_near = low_lies it.0.floor (h.back.floors k it.0 it.1);
        },
      )

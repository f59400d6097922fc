-- An end on its way: how its loop over frames goes on, and how it ends.
use Rattle.std.proofs.Common.{◌≡◌, ◌⊎◌, inl, inr, ℕ, ◌+◌, ◌<◌, ◌≤◌, Bool, true, false, cond, ◌&&◌, ◌||◌, is_some, List, [], ◌∷◌, ◌++◌, length, take, drop, Option, Some, None, refl, sym, ap, subst, ◌∙◌, arith, append_assoc, length-append}
use Rattle.std.specs.List.{flat_map}
use Rattle.std.proofs.Math.Seq.{drop-append_seam, drop-length, take-append_seam}
use Rattle.std.proofs.lemmas.List.{length-take-le, take-append-drop}
use Rattle.mt_base.specs.declared.kinds.Kind.TheVariants.{Reliable}
use Rattle.mt_base.specs.declared.kinds.Role.{Role}
use Rattle.mt_base.specs.Trace.{Trace}
use Rattle.carrier.specs.declared.state.LinkState.{LinkState}
use Rattle.carrier.specs.Entries as link
use Rattle.mt_endpoint.specs.Acts.{Act}
use Rattle.mt_endpoint.specs.Writing.{carried, tunneled}
use Rattle.end_calls.specs.declared.fault.Fault.TheVariants as fault
use Rattle.end_calls.specs.Calls.{after_bytes}
use Rattle.end_calls.specs.Links.{by_bytes}
use Rattle.end_calls.specs.Stops.{Outset, count_from, is_empty, is_stopped}
use Rattle.end_calls.specs.Streams.{Past, is_broken, with_main, written}
use Rattle.end_reader.specs.Taking.{OneFrame}
use Rattle.end_reader.specs.declared.reader.Reader.{Reader}
use Rattle.end_reader.proofs.Counting.{counted}
use Rattle.endpoint.specs.MainRead.{AllRead, WayBy, begins_with}
use Rattle.endpoint.specs.OnWay.{OnWay, Reached}
use Rattle.endpoint.proofs.GoingOn.{after_both, halts, looks_behind, looks_first, one_further}

-- so many of the bytes were read without a fault, and those behind them count as they did
pub record Going {L : Type 0} (stands : L → Trace link.Entry → Type 0) (left : L → List ℕ) (condition : L → LinkState) (load : L → ℕ) (unread sent : List ℕ) (role : Role) (p : Past) (l : Trace link.Entry) (queued : ℕ) (bytes : List ℕ) (taken : ℕ) (r : Reader) (c : Option L) : Type 0 where
  pub done : List ℕ
  pub rest : List ℕ
  pub split : bytes ≡ done ++ rest
  pub long : length done ≡ taken
  pub way : WayBy stands left condition load unread sent role p l queued done None r c
  pub counts : count_from role (begins_with sent queued p) true p bytes ≡ taken + count_from role (begins_with sent queued p) (is_empty done) (after_bytes role p done) rest
  pub looks : halts role (begins_with sent queued p) (is_empty done) (after_bytes role p done) ≡ is_broken (after_bytes role p done) || is_stopped role (begins_with sent queued p) (after_bytes role p done)

none_written : (role : Role) (p : Past) (queued : ℕ) → queued + length (flat_map tunneled (written Reliable role p p)) ≡ queued
none_written role p queued = omega (arith, ap (λ ds. length (flat_map tunneled ds)) (drop-length (carried Reliable role p.acts)))

-- at the beginning
pub going_first : {L : Type 0} (stands : L → Trace link.Entry → Type 0) (left : L → List ℕ) (condition : L → LinkState) (load : L → ℕ) (unread sent : List ℕ) (role : Role) (p : Past) (l : Trace link.Entry) (queued : ℕ) (bytes : List ℕ) (r : Reader) (c : Option L)
    → OnWay stands left condition load unread sent role p l queued r c → Going stands left condition load unread sent role p l queued bytes 0 r c
going_first stands left condition load unread sent role p l queued bytes r c way = record {
  done = [];
  rest = bytes;
  split = refl;
  long = refl;
  way = subst (λ n. OnWay stands left condition load unread sent role p l n r c) (sym (none_written role p queued)) way;
  counts = omega arith;
  looks = looks_first role (begins_with sent queued p) p;
}

pub rest_is : {A : Type 0} (bytes done rest : List A) (taken : ℕ) → bytes ≡ done ++ rest → length done ≡ taken → drop taken bytes ≡ rest
rest_is bytes done rest taken split long = ap (λ n. drop n bytes) (sym long) ∙ ap (drop (length done)) split ∙ drop-append_seam done rest

front_is : {A : Type 0} (bytes done rest : List A) (taken : ℕ) → bytes ≡ done ++ rest → length done ≡ taken → take taken bytes ≡ done
front_is bytes done rest taken split long = ap (λ n. take n bytes) (sym long) ∙ ap (take (length done)) split ∙ take-append_seam done rest

-- where a stop stands: those that were read are taken
pub ended_by_stop : {L : Type 0} (stands : L → Trace link.Entry → Type 0) (left : L → List ℕ) (condition : L → LinkState) (load : L → ℕ) (unread sent : List ℕ) (role : Role) (p : Past) (l : Trace link.Entry) (queued : ℕ) (bytes : List ℕ) (taken : ℕ) (r : Reader) (c : Option L)
    → Going stands left condition load unread sent role p l queued bytes taken r c
    → ((g : Going stands left condition load unread sent role p l queued bytes taken r c) → (length g.rest ≡ 0) ⊎ (is_broken (after_bytes role p g.done) || is_stopped role (begins_with sent queued p) (after_bytes role p g.done) ≡ true))
    → AllRead stands left condition load unread sent role p l queued bytes taken r c
ended_by_stop stands left condition load unread sent role p l queued bytes taken r c g ends = record {
  lack = None;
  counts = sym (g.counts ∙ ap (λ n. taken + n) (none_count g.rest (ends g)) ∙ plus_none taken);
  lacks = tt;
  way = subst (λ b. WayBy stands left condition load unread sent role p l queued b None r c) (sym (front_is bytes g.done g.rest taken g.split g.long)) g.way;
}
  where
    outset : Outset
    outset = begins_with sent queued p

    plus_none : (n : ℕ) → n + 0 ≡ n
    plus_none n = omega arith

    halted : (u : Past) (is_first : Bool) (bytes : List ℕ) → halts role outset is_first u ≡ true → count_from role outset is_first u bytes ≡ 0
    halted u is_first [] h = refl
    halted u is_first (byte ∷ bytes) h = ap (λ b. cond b 0 (1 + count_from role outset false (with_main role u byte) bytes)) h

    none_count : (rest : List ℕ) → (length rest ≡ 0) ⊎ (is_broken (after_bytes role p g.done) || is_stopped role outset (after_bytes role p g.done) ≡ true) → count_from role outset (is_empty g.done) (after_bytes role p g.done) rest ≡ 0
    none_count [] h = refl
    none_count (byte ∷ rest) (inl none) = absurd (omega (arith, none))
    none_count (byte ∷ rest) (inr stop) = halted (after_bytes role p g.done) (is_empty g.done) (byte ∷ rest) (g.looks ∙ stop)

-- ---- one frame more

and_false : (b : Bool) → b && false ≡ false
and_false true = refl
and_false false = refl

or_first : (a b : Bool) → a || b ≡ false → a ≡ false
or_first false b h = refl
or_first true b h = absurd (let no : true ≡ false = h in cc)

or_second : (a b : Bool) → a || b ≡ false → b ≡ false
or_second false b h = h
or_second true b h = absurd (let no : true ≡ false = h in cc)

pub none_of : {A : Type 0} (o : Option A) → is_some o ≡ false → o ≡ None
none_of None h = refl
none_of (Some x) h = absurd (let no : true ≡ false = h in cc)

not_empty : {A : Type 0} (xs ys : List A) → 0 < length ys → is_empty (xs ++ ys) ≡ false
not_empty [] [] some = absurd (omega (arith, some))
not_empty [] (y ∷ ys) some = refl
not_empty (x ∷ xs) ys some = refl

-- what one frame more makes of the bytes that count
pub counts_on : (role : Role) (outset : Outset) (p : Past) (bytes done rest : List ℕ) (taken count : ℕ) → count_from role outset true p bytes ≡ taken + count_from role outset (is_empty done) (after_bytes role p done) rest
    → is_broken (after_bytes role p done) || is_stopped role outset (after_bytes role p done) ≡ false → 0 < count → count ≤ length rest → OneFrame role (after_bytes role p done) rest count
    → count_from role outset true p bytes ≡ (taken + count) + count_from role outset false (after_bytes role p (done ++ take count rest)) (drop count rest)
counts_on role outset p bytes done rest taken count before goes some within one =
    let q = after_bytes role p done in
    let held : (is_empty done || is_empty q.main.bytes) && is_stopped role outset q ≡ false =
    ap (λ b. (is_empty done || is_empty q.main.bytes) && b) (or_second (is_broken q) (is_stopped role outset q) goes) ∙ and_false (is_empty done || is_empty q.main.bytes) in
    let more = counted role outset (is_empty done) q rest count (none_of q.broken (or_first (is_broken q) (is_stopped role outset q) goes)) some within one held in
    let same = ap (λ u. count_from role outset false u (drop count rest)) (after_both role p done (take count rest)) in
    omega (arith, before, more, same)

pub split_on : {A : Type 0} (bytes done rest : List A) (count : ℕ) → bytes ≡ done ++ rest → bytes ≡ (done ++ take count rest) ++ drop count rest
split_on bytes done rest count split = split ∙ ap (λ xs. done ++ xs) (sym (take-append-drop count rest)) ∙ sym (append_assoc done (take count rest) (drop count rest))

pub long_on : {A : Type 0} (done rest : List A) (taken count : ℕ) → length done ≡ taken → count ≤ length rest → length (done ++ take count rest) ≡ taken + count
long_on done rest taken count long within = omega (arith, long, length-append done (take count rest), length-take-le count rest within)

-- it goes on
pub going_further : {L : Type 0} (stands : L → Trace link.Entry → Type 0) (left : L → List ℕ) (condition : L → LinkState) (load : L → ℕ) (unread sent : List ℕ) (role : Role) (p : Past) (l : Trace link.Entry) (queued : ℕ) (bytes : List ℕ) (taken count : ℕ) (r now : Reader) (c d : Option L)
    → (g : Going stands left condition load unread sent role p l queued bytes taken r c)
    → is_broken (after_bytes role p g.done) || is_stopped role (begins_with sent queued p) (after_bytes role p g.done) ≡ false → 0 < count → count ≤ length g.rest → OneFrame role (after_bytes role p g.done) g.rest count
    → Reached stands left condition load unread sent role (after_bytes role p g.done) (by_bytes Reliable role p g.done None l) (queued + length (flat_map tunneled (written Reliable role p (after_bytes role p g.done)))) g.rest count now d
    → (now.session).broken ≡ None → Going stands left condition load unread sent role p l queued bytes (taken + count) now d
going_further stands left condition load unread sent role p l queued bytes taken count r now c d g goes some within one h whole =
    by_lack h.lack (one_further stands left condition load unread sent role p l queued g.done g.rest count now d some within one h) where
      by_lack : (lack : Option (Trace Act)) → WayBy stands left condition load unread sent role p l queued (g.done ++ take count g.rest) lack now d → Going stands left condition load unread sent role p l queued bytes (taken + count) now d
      by_lack (Some reached) way = absurd (let no : None ≡ Some fault.NoMemory = sym whole ∙ (way.reads).broken_is in cc)
      by_lack None way =
          let first : is_empty (g.done ++ take count g.rest) ≡ false = not_empty g.done (take count g.rest) (omega (arith, some, length-take-le count g.rest within)) in
          let still : is_stopped role (begins_with sent queued p) (after_bytes role p g.done) ≡ false = or_second (is_broken (after_bytes role p g.done)) (is_stopped role (begins_with sent queued p) (after_bytes role p g.done)) goes in
          let both = after_both role p g.done (take count g.rest) in
          let unbroken : (after_bytes role p (g.done ++ take count g.rest)).broken ≡ None = sym (way.reads).broken_is ∙ whole in record {
            done = g.done ++ take count g.rest;
            rest = drop count g.rest;
            split = split_on bytes g.done g.rest count g.split;
            long = long_on g.done g.rest taken count g.long within;
            way = way;
            counts =
                subst (λ b. count_from role (begins_with sent queued p) true p bytes ≡ (taken + count) + count_from role (begins_with sent queued p) b (after_bytes role p (g.done ++ take count g.rest)) (drop count g.rest)) (sym first)
                (counts_on role (begins_with sent queued p) p bytes g.done g.rest taken count g.counts goes some within one);
            looks =
                subst (λ b. halts role (begins_with sent queued p) b (after_bytes role p (g.done ++ take count g.rest)) ≡ is_broken (after_bytes role p (g.done ++ take count g.rest)) || is_stopped role (begins_with sent queued p) (after_bytes role p (g.done ++ take count g.rest))) (sym first)
                (subst (λ u. halts role (begins_with sent queued p) false u ≡ is_broken u || is_stopped role (begins_with sent queued p) u) (sym both)
                (looks_behind role (begins_with sent queued p) (after_bytes role p g.done) g.rest count some within one still (ap (λ (u : Past). u.broken) (sym both) ∙ unbroken)));
          }

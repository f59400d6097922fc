-- A turn of the loop over the frames of the main stream.
use Rattle.std.proofs.Common.{◌≡◌, ℕ, ◌+◌, ◌-◌, ◌<◌, ◌≤◌, true, false, ◌||◌, is_some, List, length, take, drop, Option, Some, None, refl, sym, ap, subst, ◌∙◌}
use Rattle.std.specs.List.{flat_map}
use Rattle.std.proofs.Math.Seq.{take-length}
use Rattle.std.proofs.lemmas.List.{length-drop}
use Rattle.mt_base.specs.declared.kinds.Kind.TheVariants.{Reliable}
use Rattle.mt_base.specs.declared.kinds.Role.{Role}
use Rattle.mt_base.specs.Trace.{Trace}
use Rattle.carrier.specs.declared.state.LinkState.{LinkState}
use Rattle.carrier.specs.Entries as link
use Rattle.mt_endpoint.specs.Writing.{tunneled}
use Rattle.end_calls.specs.Calls.{after_bytes}
use Rattle.end_calls.specs.Links.{by_bytes}
use Rattle.end_calls.specs.Stops.{is_stopped}
use Rattle.end_calls.specs.Streams.{Past, is_broken, written}
use Rattle.end_reader.specs.Taking.{OneFrame}
use Rattle.end_reader.specs.declared.reader.Reader.{Reader}
use Rattle.endpoint.specs.MainRead.{AllRead, begins_with}
use Rattle.endpoint.specs.OnWay.{OnWay, Reached}
use Rattle.endpoint.proofs.Ahead.{Going, going_further, rest_is}
use Rattle.endpoint.proofs.Broken.{ended_broken}

-- the bytes from a place on, as a slice gives them
abbrev pub slice : ℕ → List ℕ → List ℕ
slice taken bytes = take (length bytes - taken) (drop taken bytes)

pub slice_is : (taken : ℕ) (bytes : List ℕ) → slice taken bytes ≡ drop taken bytes
slice_is taken bytes = ap (λ n. take n (drop taken bytes)) (sym (length-drop taken bytes)) ∙ take-length (drop taken bytes)

-- it goes on
pub turns_on : {L : Type 0} (stands : L → Trace link.Entry → Type 0) (left : L → List ℕ) (condition : L → LinkState) (load : L → ℕ) (unread sent : List ℕ) (role : Role) (p : Past) (l : Trace link.Entry) (queued : ℕ) (bytes : List ℕ) (taken count : ℕ) (r now : Reader) (c d : Option L)
    → Going stands left condition load unread sent role p l queued bytes taken r c
    → ((q : Past) (m : Trace link.Entry) → OnWay stands left condition load unread sent role q m (queued + length (flat_map tunneled (written Reliable role p q))) r c → false ≡ is_broken q || is_stopped role (begins_with sent queued p) q)
    → ((q : Past) (m : Trace link.Entry) (n : ℕ) → OnWay stands left condition load unread sent role q m n r c → Reached stands left condition load unread sent role q m n (slice taken bytes) count now d)
    → ((q : Past) (m : Trace link.Entry) (n : ℕ) → OnWay stands left condition load unread sent role q m n r c → OneFrame role q (slice taken bytes) count)
    → (0 < count) × (count ≤ length (slice taken bytes))
    → (now.session).broken ≡ None → Going stands left condition load unread sent role p l queued bytes (taken + count) now d
turns_on stands left condition load unread sent role p l queued bytes taken count r now c d g stopped reached frame some whole =
    let q = after_bytes role p g.done in
    let m = by_bytes Reliable role p g.done None l in
    let n = queued + length (flat_map tunneled (written Reliable role p q)) in
    let rest = slice_is taken bytes ∙ rest_is bytes g.done g.rest taken g.split g.long in
    going_further stands left condition load unread sent role p l queued bytes taken count r now c d g (sym (stopped q m g.way)) some.0 (subst (λ b. count ≤ length b) rest some.1)
    (subst (λ b. OneFrame role q b count) rest (frame q m n g.way)) (subst (λ b. Reached stands left condition load unread sent role q m n b count now d) rest (reached q m n g.way)) whole

some_of : {A : Type 0} (o : Option A) → is_some o ≡ true → (x : A) × (o ≡ Some x)
some_of None h = absurd (let no : false ≡ true = h in cc)
some_of (Some x) h = (x, refl)

-- or breaks the end
pub turns_broken : {L : Type 0} (stands : L → Trace link.Entry → Type 0) (left : L → List ℕ) (condition : L → LinkState) (load : L → ℕ) (unread sent : List ℕ) (role : Role) (p : Past) (l : Trace link.Entry) (queued : ℕ) (bytes : List ℕ) (taken count : ℕ) (r now : Reader) (c d : Option L)
    → Going stands left condition load unread sent role p l queued bytes taken r c
    → ((q : Past) (m : Trace link.Entry) → OnWay stands left condition load unread sent role q m (queued + length (flat_map tunneled (written Reliable role p q))) r c → false ≡ is_broken q || is_stopped role (begins_with sent queued p) q)
    → ((q : Past) (m : Trace link.Entry) (n : ℕ) → OnWay stands left condition load unread sent role q m n r c → Reached stands left condition load unread sent role q m n (slice taken bytes) count now d)
    → ((q : Past) (m : Trace link.Entry) (n : ℕ) → OnWay stands left condition load unread sent role q m n r c → OneFrame role q (slice taken bytes) count)
    → (0 < count) × (count ≤ length (slice taken bytes))
    → is_some (now.session).broken ≡ true → AllRead stands left condition load unread sent role p l queued bytes (length bytes) now d
turns_broken stands left condition load unread sent role p l queued bytes taken count r now c d g stopped reached frame some broken =
    let why = some_of (now.session).broken broken in
    let q = after_bytes role p g.done in
    let m = by_bytes Reliable role p g.done None l in
    let n = queued + length (flat_map tunneled (written Reliable role p q)) in
    let rest = slice_is taken bytes ∙ rest_is bytes g.done g.rest taken g.split g.long in
    ended_broken stands left condition load unread sent role p l queued bytes taken count r now c d why.0 g (sym (stopped q m g.way)) some.0 (subst (λ b. count ≤ length b) rest some.1)
    (subst (λ b. OneFrame role q b count) rest (frame q m n g.way)) (subst (λ b. Reached stands left condition load unread sent role q m n b count now d) rest (reached q m n g.way)) why.1

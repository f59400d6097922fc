-- An end that bytes of the main stream break: all that is offered counts as taken.
use Rattle.std.proofs.Common.{◌≡◌, ℕ, ◌+◌, ◌-◌, ◌<◌, ◌≤◌, true, false, ◌||◌, List, [], ◌∷◌, ◌++◌, length, take, drop, Option, Some, None, refl, sym, ap, subst, ◌∙◌, arith, append-nil, length-append}
use Rattle.std.specs.List.{flat_map}
use Rattle.std.proofs.Math.Seq.{drop-length, take-append-add, take-length}
use Rattle.std.proofs.lemmas.List.{length-drop}
use Rattle.mt_base.specs.declared.kinds.Kind.TheVariants.{Reliable}
use Rattle.mt_base.specs.declared.kinds.Role.{Role}
use Rattle.mt_base.specs.Trace.{Trace}
use Rattle.carrier.specs.declared.state.LinkState.{LinkState}
use Rattle.carrier.specs.Entries as link
use Rattle.mt_endpoint.specs.Acts.{Act, Drawn}
use Rattle.mt_endpoint.specs.Writing.{carried, tunneled}
use Rattle.end_calls.specs.declared.fault.Fault.{Fault}
use Rattle.end_calls.specs.Calls.{after_bytes}
use Rattle.end_calls.specs.Law.{IsLack}
use Rattle.end_calls.specs.Links.{by_bytes, gives_all, gives_joined}
use Rattle.end_calls.specs.Stops.{count_from, is_stopped}
use Rattle.end_calls.specs.Streams.{Past, is_broken, written}
use Rattle.end_calls.proofs.Running.{broken_bytes}
use Rattle.end_reader.specs.Taking.{OneFrame}
use Rattle.end_reader.specs.declared.reader.Reader.{Reader}
use Rattle.end_reader.proofs.Counting.{all_count}
use Rattle.endpoint.specs.MainRead.{AllRead, WayBy, begins_with}
use Rattle.endpoint.specs.OnWay.{IsFrameLack, OnWay, Reached}
use Rattle.endpoint.proofs.Ahead.{Going, counts_on, split_on}
use Rattle.endpoint.proofs.GoingOn.{after_both, one_further}
use Rattle.endpoint.proofs.Links.{joins_none}
use Rattle.endpoint.proofs.MainBytes.{bytes_then}

gives_self : (role : Role) (u : Past) (l : Trace link.Entry) → gives_all Reliable role u u l ≡ l
gives_self role u l = ap (λ (ds : List Drawn). gives_joined Reliable ds l) (drop-length (carried Reliable role u.acts)) ∙ joins_none Reliable l

-- a broken end gives its link nothing
given_broken : (role : Role) (u : Past) (why : Fault) (rest : List ℕ) (l : Trace link.Entry) → u.broken ≡ Some why → by_bytes Reliable role u rest None l ≡ l
given_broken role u why [] l e = refl
given_broken role u why (x ∷ []) l e = ap (λ v. gives_all Reliable role u v l) (broken_bytes role u why (x ∷ []) e) ∙ gives_self role u l
given_broken role u why (x ∷ y ∷ rest) l e =
    ap (λ v. by_bytes Reliable role v (y ∷ rest) None (gives_all Reliable role u v l)) (broken_bytes role u why (x ∷ []) e)
    ∙ ap (λ k. by_bytes Reliable role u (y ∷ rest) None k) (gives_self role u l) ∙ given_broken role u why (y ∷ rest) l e

given_behind : (role : Role) (p : Past) (why : Fault) (done rest : List ℕ) (l : Trace link.Entry) → (after_bytes role p done).broken ≡ Some why → by_bytes Reliable role p (done ++ rest) None l ≡ by_bytes Reliable role p done None l
given_behind role p why done [] l e = ap (λ bytes. by_bytes Reliable role p bytes None l) (append-nil done)
given_behind role p why done (y ∷ rest) l e = bytes_then Reliable role done y rest None p l ∙ given_broken role (after_bytes role p done) why (y ∷ rest) (by_bytes Reliable role p done None l) e

past_behind : (role : Role) (p : Past) (why : Fault) (done rest : List ℕ) → (after_bytes role p done).broken ≡ Some why → after_bytes role p (done ++ rest) ≡ after_bytes role p done
past_behind role p why done rest e = after_both role p done rest ∙ broken_bytes role (after_bytes role p done) why rest e

way_behind : {L : Type 0} (stands : L → Trace link.Entry → Type 0) (left : L → List ℕ) (condition : L → LinkState) (load : L → ℕ) (unread sent : List ℕ) (role : Role) (p : Past) (l : Trace link.Entry) (queued : ℕ) (why : Fault) (done rest : List ℕ) (r : Reader) (c : Option L)
    → (after_bytes role p done).broken ≡ Some why → WayBy stands left condition load unread sent role p l queued done None r c → WayBy stands left condition load unread sent role p l queued (done ++ rest) None r c
way_behind stands left condition load unread sent role p l queued why done rest r c e way =
    subst (λ k. OnWay stands left condition load unread sent role (after_bytes role p (done ++ rest)) k (queued + length (flat_map tunneled (written Reliable role p (after_bytes role p (done ++ rest))))) r c) (sym (given_behind role p why done rest l e))
    (subst (λ u. OnWay stands left condition load unread sent role u (by_bytes Reliable role p done None l) (queued + length (flat_map tunneled (written Reliable role p u))) r c) (sym (past_behind role p why done rest e)) way)

taken_of : {A : Type 0} (bytes done rest : List A) (taken m : ℕ) → bytes ≡ done ++ rest → length done ≡ taken → take (taken + m) bytes ≡ done ++ take m rest
taken_of bytes done rest taken m split long = ap (λ n. take (n + m) bytes) (sym long) ∙ ap (take (length done + m)) split ∙ take-append-add done rest m

pub ended_broken : {L : Type 0} (stands : L → Trace link.Entry → Type 0) (left : L → List ℕ) (condition : L → LinkState) (load : L → ℕ) (unread sent : List ℕ) (role : Role) (p : Past) (l : Trace link.Entry) (queued : ℕ) (bytes : List ℕ) (taken count : ℕ) (r now : Reader) (c d : Option L) (why : Fault)
    → (g : Going stands left condition load unread sent role p l queued bytes taken r c)
    → is_broken (after_bytes role p g.done) || is_stopped role (begins_with sent queued p) (after_bytes role p g.done) ≡ false → 0 < count → count ≤ length g.rest → OneFrame role (after_bytes role p g.done) g.rest count
    → Reached stands left condition load unread sent role (after_bytes role p g.done) (by_bytes Reliable role p g.done None l) (queued + length (flat_map tunneled (written Reliable role p (after_bytes role p g.done)))) g.rest count now d
    → (now.session).broken ≡ Some why → AllRead stands left condition load unread sent role p l queued bytes (length bytes) now d
ended_broken stands left condition load unread sent role p l queued bytes taken count r now c d why g goes some within one h broken =
    by_lack h.lack h.lacks (one_further stands left condition load unread sent role p l queued g.done g.rest count now d some within one h) where
      counts : count_from role (begins_with sent queued p) true p bytes ≡ (taken + count) + count_from role (begins_with sent queued p) false (after_bytes role p (g.done ++ take count g.rest)) (drop count g.rest)
      counts = counts_on role (begins_with sent queued p) p bytes g.done g.rest taken count g.counts goes some within one

      size : length bytes ≡ taken + length g.rest
      size = ap (λ (b : List ℕ). length b) g.split ∙ length-append g.done g.rest ∙ ap (λ n. n + length g.rest) g.long

      by_lack : (lack : Option (Trace Act)) → IsFrameLack role (after_bytes role p g.done) g.rest count lack → WayBy stands left condition load unread sent role p l queued (g.done ++ take count g.rest) lack now d → AllRead stands left condition load unread sent role p l queued bytes (length bytes) now d
      by_lack None lacks way =
          let done = g.done ++ take count g.rest in
          let rest = drop count g.rest in
          let split = split_on bytes g.done g.rest count g.split in
          let fault_is : (after_bytes role p (g.done ++ take count g.rest)).broken ≡ Some why = sym (way.reads).broken_is ∙ broken in
          let all = all_count role (begins_with sent queued p) (after_bytes role p (g.done ++ take count g.rest)) (drop count g.rest) why fault_is in record {
            lack = None;
            counts = omega (arith, counts, all, size, length-drop count g.rest, within);
            lacks = tt;
            way = subst (λ b. WayBy stands left condition load unread sent role p l queued b None now d) (sym (take-length bytes ∙ split)) (way_behind stands left condition load unread sent role p l queued why done rest now d fault_is way);
          }
      by_lack (Some reached) lacks way =
          let here = taken_of bytes g.done g.rest taken count g.split g.long in
          let before = taken_of bytes g.done g.rest taken (count - 1) g.split g.long in record {
            lack = Some (taken + count, reached);
            counts = (refl, omega (arith, counts));
            lacks = (
              taken + (count - 1),
              omega (arith, some),
              omega (arith, size, within),
              subst (λ b. IsLack (after_bytes role p (take (taken + (count - 1)) bytes)) (after_bytes role p b) reached) (sym here)
                  (subst (λ b. IsLack (after_bytes role p b) (after_bytes role p (g.done ++ take count g.rest)) reached) (sym before)
                  (subst (λ u. IsLack (after_bytes role p (g.done ++ take (count - 1) g.rest)) u reached) (sym (after_both role p g.done (take count g.rest)))
                  (subst (λ u. IsLack u (after_bytes role (after_bytes role p g.done) (take count g.rest)) reached) (sym (after_both role p g.done (take (count - 1) g.rest))) lacks))),
            );
            way = subst (λ b. WayBy stands left condition load unread sent role p l queued b (Some reached) now d) (sym here) way;
          }

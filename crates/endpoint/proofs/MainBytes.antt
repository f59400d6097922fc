-- Bytes of the main stream up to the end of a frame: what they make an end give to its links.
use Rattle.std.proofs.Common.{◌≡◌, ◌≢◌, ℕ, zero, suc, ◌+◌, ◌≤◌, Bool, true, false, cond, List, [], ◌∷◌, ◌++◌, length, take, Option, Some, None, Result, Ok, Err, refl, ap, ◌∙◌, arith}
use Rattle.std.proofs.Math.Seq.{drop-length}
use Rattle.mt_base.specs.declared.kinds.Kind.{Kind}
use Rattle.mt_base.specs.declared.kinds.Role.{Role}
use Rattle.mt_base.specs.Trace.{Trace}
use Rattle.carrier.specs.Entries as link
use Rattle.dvc_pdus.specs.declared.pdu.DvcRefusal.{DvcRefusal}
use Rattle.tunnel_pdus.specs.declared.part.Part.{Part}
use Rattle.tunnel_pdus.specs.declared.part.Part.TheVariants.{Whole, More}
use Rattle.tunnel_pdus.specs.declared.part.TunnelRefusal.{TunnelRefusal}
use Rattle.tunnel_pdus.specs.Reading.{frame_reading}
use Rattle.tunnel_pdus.specs.Value.{Frame}
use Rattle.mt_endpoint.specs.Acts.{Act, Drawn, Heard, Hears}
use Rattle.mt_endpoint.specs.Faults.{Why, main_fault}
use Rattle.mt_endpoint.specs.Writing.{carried}
use Rattle.end_calls.specs.declared.fault.Fault.TheVariants as fault
use Rattle.end_calls.specs.Calls.{after_bytes, lacking}
use Rattle.end_calls.specs.Links.{by_bytes, gives_all, gives_joined}
use Rattle.end_calls.specs.Streams.{Past, heard_by, is_broken, main_reads, on_main, reads, reads_heard, with_main, written}
use Rattle.end_reader.specs.Taking.{OneFrame}
use Rattle.endpoint.proofs.Links.{joins_none}

-- ---- bytes behind bytes

pub bytes_then : (kind : Kind) (role : Role) (xs : List ℕ) (y : ℕ) (ys : List ℕ) (lack : Option (Trace Act)) (p : Past) (l : Trace link.Entry)
    → by_bytes kind role p (xs ++ y ∷ ys) lack l ≡ by_bytes kind role (after_bytes role p xs) (y ∷ ys) lack (by_bytes kind role p xs None l)
bytes_then kind role [] y ys lack p l = refl
bytes_then kind role (x ∷ []) y ys lack p l = refl
bytes_then kind role (x ∷ z ∷ xs) y ys lack p l = bytes_then kind role (z ∷ xs) y ys lack (with_main role p x) (gives_all kind role p (with_main role p x) l)

-- ---- a byte that neither ends a frame nor is a fault makes no act

heard_main : (role : Role) (at : ℕ) (r : Result Heard DvcRefusal) (p : Past) → (reads_heard role at r p).main.bytes ≡ p.main.bytes
heard_main role at (Err refusal) p = refl
heard_main role at (Ok heard) p = by_fault (main_fault role p.acts heard) where
  by_fault : (w : Option Why) → (reads role (on_main at) w (Hears heard) p).main.bytes ≡ p.main.bytes
  by_fault (Some w) = refl
  by_fault None = refl

reads_none : (role : Role) (bytes : List ℕ) (r : Result (Part Frame) TunnelRefusal) (p : Past) → (main_reads role bytes r p).broken ≡ None → (main_reads role bytes r p).main.bytes ≢ [] → (main_reads role bytes r p).acts ≡ p.acts
reads_none role bytes (Ok (More need)) p whole some = refl
reads_none role bytes (Ok (Whole frame used)) p whole some = absurd (some (heard_main role p.main.at (heard_by role frame) (record p { main = record { at = p.main.at + length bytes; bytes = [] } })))
reads_none role bytes (Err refusal) p whole some = absurd (let no : Some (fault.Stream (on_main p.main.at) refusal) ≡ None = whole in cc)

under_way : (role : Role) (p : Past) (byte : ℕ) → (with_main role p byte).broken ≡ None → (with_main role p byte).main.bytes ≢ [] → (with_main role p byte).acts ≡ p.acts
unfolding with_main
under_way role p byte = by_broken (is_broken p) where
  by_broken : (b : Bool) → (cond b p (main_reads role (p.main.bytes ++ byte ∷ []) (frame_reading (p.main.bytes ++ byte ∷ [])) p)).broken ≡ None
      → (cond b p (main_reads role (p.main.bytes ++ byte ∷ []) (frame_reading (p.main.bytes ++ byte ∷ [])) p)).main.bytes ≢ []
      → (cond b p (main_reads role (p.main.bytes ++ byte ∷ []) (frame_reading (p.main.bytes ++ byte ∷ [])) p)).acts ≡ p.acts
  by_broken true whole some = refl
  by_broken false whole some = reads_none role (p.main.bytes ++ byte ∷ []) (frame_reading (p.main.bytes ++ byte ∷ [])) p whole some

-- ---- bytes of which only the last one can end a frame

-- the next one does not
first_of : (role : Role) (p : Past) (x y : ℕ) (xs : List ℕ) (k : ℕ) → OneFrame role p (x ∷ y ∷ xs) (suc (suc k)) → ((with_main role p x).broken ≡ None) × ((with_main role p x).main.bytes ≢ [])
first_of role p x y xs k one = one 1 (omega arith) (omega arith)

rest_of : (role : Role) (p : Past) (x y : ℕ) (xs : List ℕ) (k : ℕ) → OneFrame role p (x ∷ y ∷ xs) (suc (suc k)) → OneFrame role (with_main role p x) (y ∷ xs) (suc k)
rest_of role p x y xs k one m some less = one (suc m) (omega arith) (omega (arith, less))

gives_same : (kind : Kind) (role : Role) (p q r : Past) (l : Trace link.Entry) → q.acts ≡ p.acts → gives_all kind role q r (gives_all kind role p q l) ≡ gives_all kind role p r l
gives_same kind role p q r l same =
    ap (λ (t : Trace Act). gives_joined kind (written kind role (record p { acts = t }) r) (gives_joined kind (written kind role p (record q { acts = t })) l)) same
    ∙ ap (λ (drawn : List Drawn). gives_joined kind (written kind role p r) (gives_joined kind drawn l)) (drop-length (carried kind role p.acts))
    ∙ ap (gives_joined kind (written kind role p r)) (joins_none kind l)

-- what they write is given at once
pub gives_stretch : (kind : Kind) (role : Role) (bytes : List ℕ) (k : ℕ) (lack : Option (Trace Act)) (p : Past) (l : Trace link.Entry) → suc k ≤ length bytes → OneFrame role p bytes (suc k)
    → by_bytes kind role p (take (suc k) bytes) lack l ≡ gives_all kind role p (lacking lack (after_bytes role p (take (suc k) bytes))) l
gives_stretch kind role [] k lack p l within one = absurd (omega (arith, within))
gives_stretch kind role (x ∷ bytes) zero lack p l within one = refl
gives_stretch kind role (x ∷ []) (suc k) lack p l within one = absurd (omega (arith, within))
gives_stretch kind role (x ∷ y ∷ bytes) (suc k) lack p l within one =
    let q = with_main role p x in
    let first = first_of role p x y bytes k one in
    gives_stretch kind role (y ∷ bytes) k lack q (gives_all kind role p q l) (omega (arith, within)) (rest_of role p x y bytes k one)
    ∙ gives_same kind role p q (lacking lack (after_bytes role q (take (suc k) (y ∷ bytes)))) l (under_way role p x first.0 first.1)

-- where the last of them does not end it either, no act is made
pub acts_stay : (role : Role) (bytes : List ℕ) (k : ℕ) (p : Past) → suc k ≤ length bytes → OneFrame role p bytes (suc k) → (after_bytes role p (take (suc k) bytes)).broken ≡ None → (after_bytes role p (take (suc k) bytes)).main.bytes ≢ []
    → (after_bytes role p (take (suc k) bytes)).acts ≡ p.acts
acts_stay role [] k p within one whole some = absurd (omega (arith, within))
acts_stay role (x ∷ bytes) zero p within one whole some = under_way role p x whole some
acts_stay role (x ∷ []) (suc k) p within one whole some = absurd (omega (arith, within))
acts_stay role (x ∷ y ∷ bytes) (suc k) p within one whole some =
    let first = first_of role p x y bytes k one in
    acts_stay role (y ∷ bytes) k (with_main role p x) (omega (arith, within)) (rest_of role p x y bytes k one) whole some ∙ under_way role p x first.0 first.1

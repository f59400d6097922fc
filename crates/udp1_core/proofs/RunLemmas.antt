-- Elements that find no place: the flags have more of them than the buffer has bytes.
use Rattle.std.proofs.Common.{◌≡◌, ◌<◌, Bool, List, [], ◌∷◌, ◌++◌, length, OnErr, Result, Ok, Err, refl, sym, ap, ◌∙◌, append-nil, arith, length-append}
use Rattle.mt_base.specs.declared.errors.NoRoom.{NoRoom}
use Rattle.mt_base.specs.Writing.{Spot, Writes, put}
use Rattle.mt_base.proofs.Bytes.{under_way_short}
use Rattle.ack_vector.specs.Longest.{elements_of}
use Rattle.ack_vector.specs.RunWriting.{decided, kept, Stands}
use Rattle.ack_vector.specs.declared.writer.RunWriter.{RunWriter}
use Rattle.ack_vector.proofs.WriterLemmas.{loop_short}
use Rattle.link_machine.specs.Flags.{size_of}
use Rattle.link_machine.proofs.FlagLemmas.{spot_way}

-- those that one flag more decides
pub flag_short : (w : RunWriter) (flags : List Bool) (r : Bool) (s t : Spot) (answer : Result (Unit {0}) NoRoom)
    → Stands w flags s.before → Writes t answer (put (decided (kept w ++ r ∷ [])) s)
    → OnErr answer (size_of s < length (elements_of (flags ++ r ∷ [])))
flag_short w flags r s t (Ok done) stands written = tt
flag_short w flags r s t (Err e) stands refused =
    let whole = elements_of (flags ++ r ∷ []) in
    let less = loop_short whole (s.before ++ s.after) w r (r ∷ []) [] s e refl
    (spot_way whole (elements_of (kept w ++ r ∷ [])) s (sym (stands.so_far (r ∷ [])))) refused in
    omega (arith, less, length-append s.before s.after)

-- those of the flags that are kept at the end
pub end_short : (w : RunWriter) (flags : List Bool) (s t : Spot) (answer : Result (Unit {0}) NoRoom)
    → Stands w flags s.before → Writes t answer (put (elements_of (kept w)) s)
    → OnErr answer (size_of s < length (elements_of flags))
end_short w flags s t (Ok done) stands written = tt
end_short w flags s t (Err e) stands refused =
    let so_far : s.before ++ (elements_of (kept w) ++ []) ≡ elements_of flags =
    ap (λ x. s.before ++ x) (append-nil (elements_of (kept w)) ∙ ap elements_of (sym (append-nil (kept w))))
    ∙ sym (stands.so_far []) ∙ ap elements_of (append-nil flags) in
    let less = under_way_short (elements_of flags) (elements_of (kept w)) [] (s.before ++ s.after) s e
    (spot_way (elements_of flags) (elements_of (kept w) ++ []) s so_far) refused in
    omega (arith, less, length-append s.before s.after)

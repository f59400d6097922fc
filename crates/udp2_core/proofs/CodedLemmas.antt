-- Coded bytes that find no place: the flags have more of them than the buffer.
use Rattle.std.proofs.Common.{◌≡◌, ◌<◌, Bool, List, [], ◌∷◌, ◌++◌, length, OnErr, Result, Ok, Err, refl, sym, ap, ◌∙◌, append-nil, arith}
use Rattle.std.proofs.lemmas.List.{length-append}
use Rattle.mt_base.specs.declared.errors.NoRoom.{NoRoom}
use Rattle.mt_base.specs.Writing.{Spot, Writes, put, puts}
use Rattle.coded_vector.specs.Written.{coded_of, singles}
use Rattle.coded_vector.specs.CodedWriting.{decided, kept, Stands}
use Rattle.coded_vector.specs.declared.writer.CodedWriter.{CodedWriter}
use Rattle.coded_vector.proofs.WriterLemmas.{bytes_short, loop_short}
use Rattle.link_machine.specs.Flags.{size_of}
use Rattle.link_machine.proofs.FlagLemmas.{spot_way}

-- those that one flag more decides
pub flag_short : (w : CodedWriter) (flags : List Bool) (r : Bool) (s t : Spot) (answer : Result (Unit {0}) NoRoom)
    → Stands w flags s.before → Writes t answer (put (decided (kept w ++ r ∷ [])) s)
    → OnErr answer (size_of s < length (coded_of (flags ++ r ∷ [])))
flag_short w flags r s t (Ok done) stands written = tt
flag_short w flags r s t (Err e) stands refused =
    let whole = coded_of (flags ++ r ∷ []) in
    let less = loop_short whole (s.before ++ s.after) w r (r ∷ []) [] s e refl
    (spot_way whole (coded_of (kept w ++ r ∷ [])) s (sym (stands.so_far (r ∷ [])))) refused in
    omega (arith, less, length-append s.before s.after)

-- those of the flags that are kept at the end
pub end_short : (w : CodedWriter) (flags : List Bool) (s t : Spot) (answer : Result (Unit {0}) NoRoom)
    → Stands w flags s.before → Writes t answer (puts (singles (coded_of (kept w))) s)
    → OnErr answer (size_of s < length (coded_of flags))
end_short w flags s t (Ok done) stands written = tt
end_short w flags s t (Err e) stands refused =
    let so_far : s.before ++ coded_of (kept w) ≡ coded_of flags =
    ap (λ x. s.before ++ coded_of x) (sym (append-nil (kept w)))
    ∙ sym (stands.so_far []) ∙ ap coded_of (append-nil flags) in
    let less = bytes_short (coded_of flags) (coded_of (kept w)) (s.before ++ s.after) s e
    (spot_way (coded_of flags) (coded_of (kept w)) s so_far) refused in
    omega (arith, less, length-append s.before s.after)

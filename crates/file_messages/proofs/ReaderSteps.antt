-- Lemmas on a reader of file messages: what a message does to what it stands for.
use Rattle.std.proofs.Common.{◌≡◌, ◌≢◌, ℕ, ◌+◌, ◌≤◌, ◌<◌, Bool, true, false, List, [], ◌∷◌, ◌++◌, length, Result, Ok, Err, is_ok, sym, ap, ◌∙◌, subst, arith}
use Rattle.std.specs.Prelude.{IfOk, OnOk, OnErr}
use Rattle.file_messages.specs.declared.reader.FileReader.{FileReader}
use Rattle.file_messages.specs.declared.reader.BadFileMessage.{BadFileMessage}
use Rattle.file_messages.specs.declared.reader.FileStep.{FileStep}
use Rattle.file_messages.specs.declared.reader.FileStep.TheVariants.{Begins, Adds, Ends}
use Rattle.file_messages.specs.Files.{Message, File, IsName, IsPiece, name_message, piece_message, AreUnderWay, HaveCome}
use Rattle.file_messages.specs.Read.{HasRead, IsBeginning, IsAdding, added, after, after_beginning}
use Rattle.file_messages.proofs.Coming.{Fits, begins, adds, begun_one, added_one, added_count, length-more, ended_stops, unfit_stops}

-- the messages of a reader that is not ended are under way
under_way : (r : FileReader) (ms : List Message) (fs : List File) → r.is_ended ≡ false → HasRead r ms fs → AreUnderWay ms fs
under_way r ms fs going read = subst (λ b. HaveCome b ms fs) going read.have_come

-- ---- no message behind the end

pub ended_refuses : (r : FileReader) (ms : List Message) (fs gs : List File) (m : Message) (ended : Bool) → r.is_ended ≡ true → HasRead r ms fs → HaveCome ended (ms ++ (m ∷ [])) gs → ⊥
ended_refuses r ms fs gs m ended is read come = ended_stops ms fs gs m ended (subst (λ b. HaveCome b ms fs) is read.have_come) come

-- ---- the empty message

pub end_read : (r : FileReader) (ms : List Message) (fs : List File) (m : Message) → r.is_ended ≡ false → m ≡ [] → HasRead r ms fs → HasRead (record { files = r.files; is_ended = true }) (ms ++ (m ∷ [])) fs
end_read r ms fs m going empty read = record {
  have_come = record { before = ms; messages_are = ap (λ t. ms ++ (t ∷ [])) empty; are_under_way = under_way r ms fs going read };
  count_is = read.count_is;
}

-- ---- a name

name_taken : (r : FileReader) (ms : List Message) (fs : List File) (m : Message) (rest name : List ℕ) → r.is_ended ≡ false → m ≡ name_message rest → name ≡ rest → IsName rest × (r.files < 256)
    → HasRead r ms fs → HasRead (record { files = r.files + 1; is_ended = r.is_ended }) (ms ++ (m ∷ [])) (fs ++ (record { name = name; content = [] } ∷ []))
name_taken r ms fs m rest name going is same good read =
    let count = read.count_is in
    let few = good.1 in
    let w : AreUnderWay (ms ++ (name_message rest ∷ [])) (fs ++ (record { name = rest; content = [] } ∷ [])) = begun_one ms fs rest (under_way r ms fs going read) good.0 (omega (arith, count, few)) in
    let more = length-more fs (record { name = name; content = [] }) in
    record {
      have_come = subst (λ b. HaveCome b (ms ++ (m ∷ [])) (fs ++ (record { name = name; content = [] } ∷ []))) (sym going)
          (subst (λ t. AreUnderWay (ms ++ (t ∷ [])) (fs ++ (record { name = name; content = [] } ∷ []))) (sym is)
          (subst (λ t. AreUnderWay (ms ++ (name_message rest ∷ [])) (fs ++ (record { name = t; content = [] } ∷ []))) (sym same) w));
      count_is = omega (arith, count, more);
    }

pub name_read : (result : Result FileStep BadFileMessage) (old new : FileReader) (m : Message) (rest : List ℕ) → old.is_ended ≡ false → m ≡ name_message rest → IfOk result (IsBeginning rest)
    → new ≡ after_beginning (is_ok result) old → OnOk result (IsName rest × (old.files < 256))
    → (ms : List Message) (fs : List File) → HasRead old ms fs → IfOk result (λ step. HasRead new (ms ++ (m ∷ [])) (after step fs))
name_read (Ok (Begins name)) old new m rest going is step new_is good ms fs read =
    subst (λ r. HasRead r (ms ++ (m ∷ [])) (fs ++ (record { name = name.now; content = [] } ∷ []))) (sym new_is) (name_taken old ms fs m rest name.now going is step good read)
name_read (Ok (Adds bytes)) old new m rest going is step new_is good ms fs read = absurd step
name_read (Ok Ends) old new m rest going is step new_is good ms fs read = absurd step
name_read (Err e) old new m rest going is step new_is good ms fs read = tt

fits_name : (n : ℕ) (m : Message) (rest : List ℕ) → m ≡ name_message rest → Fits n m → IsName rest × (n < 256)
fits_name n m rest is (begins name same good few) =
    let both : name_message name ≡ name_message rest = sym same ∙ is in
    let e : name ≡ rest = cc in
    (subst IsName e good, few)
fits_name n m rest is (adds piece same good some) = let both : 68 ∷ piece ≡ 78 ∷ rest = sym same ∙ is in let firsts : ◌≡◌ {A = ℕ} 68 78 = cc in absurd (omega (arith, firsts))

pub name_refused : (result : Result FileStep BadFileMessage) (old : FileReader) (m : Message) (rest : List ℕ) → old.is_ended ≡ false → m ≡ name_message rest → OnErr result (¬ (IsName rest × (old.files < 256)))
    → OnErr result ((ms : List Message) (fs : List File) → HasRead old ms fs → (ended : Bool) (gs : List File) → ¬ HaveCome ended (ms ++ (m ∷ [])) gs)
name_refused (Ok step) old m rest going is bad = tt
name_refused (Err e) old m rest going is bad = λ ms fs read ended gs come.
    unfit_stops ms fs gs m ended (under_way old ms fs going read) (λ h. let both : name_message rest ≡ [] = sym is ∙ h in cc)
    (λ fits. bad (subst (λ n. IsName rest × (n < 256)) (sym read.count_is) (fits_name (length fs) m rest is fits))) come

-- ---- a piece

piece_taken : (r : FileReader) (ms : List Message) (fs : List File) (m : Message) (rest bytes : List ℕ) → r.is_ended ≡ false → m ≡ piece_message rest → bytes ≡ rest → IsPiece rest × (1 ≤ r.files)
    → HasRead r ms fs → HasRead r (ms ++ (m ∷ [])) (added bytes fs)
piece_taken r ms fs m rest bytes going is same good read =
    let count = read.count_is in
    let some = good.1 in
    let w : AreUnderWay (ms ++ (piece_message rest ∷ [])) (added rest fs) = added_one ms fs rest (under_way r ms fs going read) good.0 (omega (arith, count, some)) in
    record {
      have_come = subst (λ b. HaveCome b (ms ++ (m ∷ [])) (added bytes fs)) (sym going)
          (subst (λ t. AreUnderWay (ms ++ (t ∷ [])) (added bytes fs)) (sym is) (subst (λ t. AreUnderWay (ms ++ (piece_message rest ∷ [])) (added t fs)) (sym same) w));
      count_is = count ∙ sym (added_count bytes fs);
    }

pub piece_read : (result : Result FileStep BadFileMessage) (r : FileReader) (m : Message) (rest : List ℕ) → r.is_ended ≡ false → m ≡ piece_message rest → IfOk result (IsAdding rest)
    → OnOk result (IsPiece rest × (1 ≤ r.files))
    → (ms : List Message) (fs : List File) → HasRead r ms fs → IfOk result (λ step. HasRead r (ms ++ (m ∷ [])) (after step fs))
piece_read (Ok (Begins name)) r m rest going is step good ms fs read = absurd step
piece_read (Ok (Adds bytes)) r m rest going is step good ms fs read = piece_taken r ms fs m rest bytes.now going is step good read
piece_read (Ok Ends) r m rest going is step good ms fs read = absurd step
piece_read (Err e) r m rest going is step good ms fs read = tt

fits_piece : (n : ℕ) (m : Message) (rest : List ℕ) → m ≡ piece_message rest → Fits n m → IsPiece rest × (1 ≤ n)
fits_piece n m rest is (begins name same good few) = let both : 78 ∷ name ≡ 68 ∷ rest = sym same ∙ is in let firsts : ◌≡◌ {A = ℕ} 78 68 = cc in absurd (omega (arith, firsts))
fits_piece n m rest is (adds piece same good some) =
    let both : piece_message piece ≡ piece_message rest = sym same ∙ is in
    let e : piece ≡ rest = cc in
    (subst IsPiece e good, some)

pub piece_refused : (result : Result FileStep BadFileMessage) (r : FileReader) (m : Message) (rest : List ℕ) → r.is_ended ≡ false → m ≡ piece_message rest → OnErr result (¬ (IsPiece rest × (1 ≤ r.files)))
    → OnErr result ((ms : List Message) (fs : List File) → HasRead r ms fs → (ended : Bool) (gs : List File) → ¬ HaveCome ended (ms ++ (m ∷ [])) gs)
piece_refused (Ok step) r m rest going is bad = tt
piece_refused (Err e) r m rest going is bad = λ ms fs read ended gs come.
    unfit_stops ms fs gs m ended (under_way r ms fs going read) (λ h. let both : piece_message rest ≡ [] = sym is ∙ h in cc)
    (λ fits. bad (subst (λ n. IsPiece rest × (1 ≤ n)) (sym read.count_is) (fits_piece (length fs) m rest is fits))) come

-- ---- another first byte

pub other_refused : (r : FileReader) (m : Message) (first : ℕ) (rest : List ℕ) → r.is_ended ≡ false → m ≡ first ∷ rest → first ≢ 78 → first ≢ 68
    → (ms : List Message) (fs : List File) → HasRead r ms fs → (ended : Bool) (gs : List File) → HaveCome ended (ms ++ (m ∷ [])) gs → ⊥
other_refused r m first rest going is no_name no_piece ms fs read ended gs come =
    unfit_stops ms fs gs m ended (under_way r ms fs going read) (λ h. let both : first ∷ rest ≡ [] = sym is ∙ h in cc) unfit come
  where
    unfit : Fits (length fs) m → ⊥
    unfit (begins name same good few) = let both : first ∷ rest ≡ name_message name = sym is ∙ same in no_name cc
    unfit (adds piece same good some) = let both : first ∷ rest ≡ piece_message piece = sym is ∙ same in no_piece cc

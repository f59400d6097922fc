-- From what a command came to, to its row of the table, of which all or a front was printed.
use Rattle.std.proofs.Common.{◌≡◌, ◌≢◌, ℕ, inl, inr, List, Option, Result, Ok, Err, sym, ◌∙◌, subst, arith}
use Rattle.std.specs.Prelude.{IsErrOf}
use Rattle.mt_outside.specs.Faults.{Counts, Rose}
use Rattle.mt_outside.specs.Files.{Contents}
use Rattle.rdpmt_program.specs.declared.fault.Fault.{Fault}
use Rattle.rdpmt_program.specs.declared.fault.Fault.TheVariants.{Usage, Refused, Broken, File, Limit, NoMemory}
use Rattle.rdpmt_program.specs.Table.{Row, done, usage, refused, broken, file_fault, no_memory, limit, RefusesLine, BreaksRule, Reports, WritesAll, WritesFront}
use Rattle.rdpmt_program.specs.Fate.{Runs, Tells, Printed}

-- the counts of a store and a sink
abbrev pub counts : ℕ → ℕ → Counts
counts store sink = record { store = store; sink = sink }

-- what a command came to, as its row
row_of : (ws : List (List ℕ)) (told : Option Contents) (before after : Counts) (result : Result (List ℕ) Fault) (status : ℕ) (output : List ℕ)
    → Runs ws told before.store after.store result → Tells result status output → Row ws told before after status output
row_of ws told before after (Ok report) status output h t = done (subst (Reports ws told) (sym t.1) h) t.0
row_of ws told before after (Err Usage) status output h t = usage h t.1 t.0
row_of ws told before after (Err (Refused line)) status output h t = refused (subst (RefusesLine ws told) (sym t.1) h) t.0
row_of ws told before after (Err (Broken line)) status output h t = broken (subst (BreaksRule ws told) (sym t.1) h) t.0
row_of ws told before after (Err File) status output h t = file_fault h.0 h.1 t.1 t.0
row_of ws told before after (Err NoMemory) status output h t = no_memory h t.1 t.0
row_of ws told before after (Err Limit) status output h t = limit h t.1 t.0

-- no row has the status 4
not_four : {ws : List (List ℕ)} {told : Option Contents} {before after : Counts} {status : ℕ} {output : List ℕ} → Row ws told before after status output → status ≢ 4
not_four (done reports s) four = omega (arith, s, four)
not_four (usage none out s) four = omega (arith, s, four)
not_four (refused why s) four = omega (arith, s, four)
not_four (broken why s) four = omega (arith, s, four)
not_four (file_fault is rose out s) four = omega (arith, s, four)
not_four (no_memory is out s) four = omega (arith, s, four)
not_four (limit passes out s) four = omega (arith, s, four)

-- the row of status 0
pub of_done : {ws : List (List ℕ)} {told : Option Contents} {before after : Counts} {status : ℕ} {output : List ℕ} → Row ws told before after status output → status ≡ 0 → Reports ws told output
of_done (done reports s) zero = reports
of_done (usage none out s) zero = absurd (omega (arith, s, zero))
of_done (refused why s) zero = absurd (omega (arith, s, zero))
of_done (broken why s) zero = absurd (omega (arith, s, zero))
of_done (file_fault is rose out s) zero = absurd (omega (arith, s, zero))
of_done (no_memory is out s) zero = absurd (omega (arith, s, zero))
of_done (limit passes out s) zero = absurd (omega (arith, s, zero))

-- a call with words and a store, of whose row all or a front was printed
pub record Ended (ws : List (List ℕ)) (told : Option Contents) (before after : Counts) (answer : ℕ) (old new : Option (List ℕ)) : Type 0 where
  pub status : ℕ
  pub output : List ℕ
  pub row : Row ws told before after status output
  pub printed : Printed status output answer old new before.sink after.sink

pub ended_of : (ws : List (List ℕ)) (told : Option Contents) (store_before store_after : ℕ) (result : Result (List ℕ) Fault) (answer : ℕ) (old new : Option (List ℕ)) (sink_before sink_after : ℕ)
    → Runs ws told store_before store_after result
    → (status : ℕ) × (output : List ℕ) × Tells result status output × Printed status output answer old new sink_before sink_after
    → Ended ws told (counts store_before sink_before) (counts store_after sink_after) answer old new
ended_of ws told store_before store_after result answer old new sink_before sink_after runs t =
    record { status = t.0; output = t.1; row = row_of ws told (counts store_before sink_before) (counts store_after sink_after) result t.0 t.1 runs t.2; printed = t.3 }

module _ {ws : List (List ℕ)} {told : Option Contents} {before after : Counts} {answer : ℕ} {old new : Option (List ℕ)} where
  pub answered : Ended ws told before after answer old new → answer ≢ 4 → WritesAll (Row ws told before after answer) old new
  answered e other =
      elim e.printed [
        | inl h ↦ (e.output, subst (λ s. Row ws told before after s e.output) (sym h.0) e.row, h.1)
        | inr h ↦ absurd (other h.0)
      ]

  pub not_printed : Ended ws told before after answer old new → answer ≡ 4 → Rose before.sink after.sink
  not_printed e four = elim e.printed [ inl h ↦ absurd (not_four e.row (sym h.0 ∙ four)) | inr h ↦ h.1 ]

  pub front_printed : Ended ws told before after answer old new → answer ≡ 4 → (status : ℕ) × WritesFront (Row ws told before after status) old new
  front_printed e four =
      elim e.printed [ inl h ↦ absurd (not_four e.row (sym h.0 ∙ four)) | inr h ↦ (e.status, (e.output, e.row, h.2, h.3)) ]

  pub played_to_end : Ended ws told before after answer old new → answer ≡ 0 → WritesAll (Reports ws told) old new
  played_to_end e zero =
      elim e.printed [
        | inl h ↦ (e.output, of_done e.row (sym h.0 ∙ zero), h.1)
        | inr h ↦ absurd (omega (arith, h.0, zero))
      ]

  -- with any other answer than 4 the sink met no fault
  pub calm_sink : Ended ws told before after answer old new → answer ≢ 4 → after.sink ≡ before.sink
  calm_sink e other = elim e.printed [ inl h ↦ h.2 | inr h ↦ absurd (other h.0) ]

  -- a fact of the status that is answered, where it holds of 4 and of the row's status
  pub either : Ended ws told before after answer old new → (P : ℕ → Type 0) → ((status : ℕ) (output : List ℕ) → Row ws told before after status output → P status)
      → (Rose before.sink after.sink → P 4) → P answer
  either e P of_row of_four =
      elim e.printed [
        | inl h ↦ subst P (sym h.0) (of_row e.status e.output e.row)
        | inr h ↦ subst P (sym h.0) (of_four h.1)
      ]

-- with any other answer than 3 and 4 the store met no fault
pub calm_store : (result : Result (List ℕ) Fault) (before after answer : ℕ) (old new : Option (List ℕ)) (sink_before sink_after : ℕ) → (¬ IsErrOf result File → after ≡ before)
    → (status : ℕ) × (output : List ℕ) × Tells result status output × Printed status output answer old new sink_before sink_after → answer ≢ 3 → answer ≢ 4 → after ≡ before
calm_store result before after answer old new sink_before sink_after kept t three four =
    kept (λ is.
    let told : Tells (Err File) t.0 t.1 = subst (λ (r : Result (List ℕ) Fault). Tells r t.0 t.1) is t.2 in
    elim t.3 [ inl h ↦ three (h.0 ∙ told.0) | inr h ↦ four h.0 ])

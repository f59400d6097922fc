-- What a call of the program comes to, as far as the counts of its devices' faults tell of it.
use Rattle.std.specs.Prelude.{◌≡◌, ◌≢◌, ◌⊎◌, ℕ, List, Option}
use Rattle.mt_outside.specs.Faults.{Counts, Rose, Calm}
use Rattle.mt_outside.specs.Files.{Contents}
use Rattle.rdpmt_program.specs.Command.{IsPlay, IsShow, IsCheck}
use Rattle.rdpmt_program.specs.Table.{Row, WritesAll, WritesFront, Names, IsPlayable, IsShowable, IsHolding}

-- A call with these words answered this status. The store told this of its files, the counts of
-- faults were `before` and are `after`, and the sink told `old` as written and tells `new`.
pub record Outcome (words : List (List ℕ)) (told : Option Contents) (before after : Counts) (old new : Option (List ℕ)) (status : ℕ) : Type 0 where
  -- each status but 4 has its row of the table, and all of the row's output was printed
  pub row : status ≢ 4 → WritesAll (Row words told before after status) old new
  -- 4 is for a sink that failed, which took a front of some row's output
  pub sink_failed : status ≡ 4 → Rose before.sink after.sink
  pub front : status ≡ 4 → (meant : ℕ) × WritesFront (Row words told before after meant) old new
  -- no fault of a device is overcome: a count that rose shows in the status
  pub no_file_fault_is_overcome : status ≢ 3 → status ≢ 4 → after.store ≡ before.store
  pub no_sink_fault_is_overcome : status ≢ 4 → after.sink ≡ before.sink
  -- where no device failed, a script that is played to its end gets its report
  pub complete : (text : List ℕ) → Names (IsPlay words) told text → IsPlayable text → Calm before after → (status ≡ 0) ⊎ (status ≡ 9)
  -- so does a show file whose lines keep the grammar get its answers
  pub complete_show : (text : List ℕ) → Names (IsShow words) told text → IsShowable text → Calm before after → (status ≡ 0) ⊎ (status ≡ 9)
  -- and a capture that keeps its rules is said to
  pub complete_check : (text : List ℕ) → Names (IsCheck words) told text → IsHolding text → Calm before after → (status ≡ 0) ⊎ (status ≡ 9)

-- What a tally keeps of messages: how many there are, and a hasher that holds their bytes.
use Rattle.std.specs.Prelude.{◌≡◌, ℕ, min, List, length}
use Rattle.sha2.specs.Hashers.{Holds256}
use Rattle.mt_base.specs.Writing.{joined}
use Rattle.play_report.specs.declared.tally.Tally.{Tally}

-- a count stops at the greatest u64
abbrev pub told_count : ℕ → ℕ
told_count n = min n 18446744073709551615

-- this value is the tally of these messages
pub record Counts (tally : Tally) (messages : List (List ℕ)) : Type 0 where
  pub count_is : tally.count ≡ told_count (length messages)
  pub hashed : Holds256 tally.hasher (joined messages)

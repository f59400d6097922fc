-- Bytes of the main stream that were taken.
use Rattle.std.specs.Prelude.{◌≡◌, ◌≢◌, ℕ, ◌-◌, ◌<◌, List, [], take, None}
use Rattle.mt_base.specs.declared.kinds.Role.{Role}
use Rattle.end_calls.specs.Calls.{after_bytes}
use Rattle.end_calls.specs.Streams.{Past}
use Rattle.end_session.specs.Standing.{Gone}
use Rattle.end_reader.specs.declared.reader.Reader.{Reader}
use Rattle.end_reader.specs.Standing.{GoesTo}

-- so many of the bytes were read; memory can be wanting at the frame that the last of them ends
abbrev pub TookMain : Role → Past → List ℕ → ℕ → Gone → Reader → Type 0
TookMain role p bytes count gone r = GoesTo (after_bytes role p (take (count - 1) bytes)) (after_bytes role p (take count bytes)) gone r

-- before the last of them no fault was met, and the frame under way did not end
abbrev pub OneFrame : Role → Past → List ℕ → ℕ → Type 0
OneFrame role p bytes count =
    (m : ℕ) → 0 < m → m < count → ((after_bytes role p (take m bytes)).broken ≡ None) × ((after_bytes role p (take m bytes)).main.bytes ≢ [])

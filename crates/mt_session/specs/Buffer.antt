-- The bytes that wait in a buffer.
use Rattle.std.specs.Prelude.{ℕ, List, take, drop}
use Rattle.mt_session.specs.declared.buffer.Buffer.{Buffer}

abbrev pub held : Buffer → List ℕ
held buffer = drop buffer.start (take buffer.end buffer.room.items)

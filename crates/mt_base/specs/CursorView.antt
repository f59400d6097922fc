-- A cursor as the place and the bytes that are left.
use Rattle.mt_base.specs.Reading.{Left}
use Rattle.mt_base.specs.declared.input.Cursor.{Cursor}

abbrev pub left : Cursor → Left
left c = record { at = c.at; bytes = c.bytes.now }

-- The room that is left in an output, as its numbers.
use Rattle.mt_base.specs.declared.room.Room.{Room}
use Rattle.mt_base.specs.Space.{Space}

abbrev pub space : Room → Space
space r = record { before = r.at; behind = r.left }

-- The runs that an iterator has left.
use Rattle.std.specs.Prelude.{List, map}
use Rattle.ack_vector.specs.declared.reader.Run.{Run}
use Rattle.ack_vector.specs.declared.reader.Runs.{Runs}
use Rattle.ack_vector.specs.Elements.{run_of}

abbrev pub runs_left : Runs → List Run
runs_left r = map run_of r.elements.now

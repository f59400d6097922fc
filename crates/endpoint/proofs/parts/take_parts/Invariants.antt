use Rattle.std.proofs.Common.{ℕ, ◌+◌, cond, List, length}
use Rattle.mt_base.specs.declared.kinds.Role.{Role}
use Rattle.mt_base.specs.Trace.{Trace}
use Rattle.carrier.specs.Entries.{Entry as Called}
use Rattle.end_calls.specs.Stops.{Outset}
use Rattle.end_calls.specs.Streams.{Past}
use Rattle.endpoint.specs.Handed.{LoadAt, PartWay, SomePart}
use Rattle.endpoint.specs.Laws.{SameLaw}
use Rattle.endpoint.specs.MainRead.{KeepsRoom}
use Rattle.endpoint.proofs.PartsOn.{Going}
use Rattle.endpoint.proofs.parts.take_parts.Given as goal

-- so many parts were handed out and read
abbrev pub invariant-loop-has_part : goal.invariant-loop-has_part
invariant-loop-has_part g l = record {
  lawful : SomePart g.P.Post.stands g.P.Post.left g.P.Post.condition l.reader l.link;
  room : KeepsRoom l.initial.reader.session l.reader.session;
  law : SameLaw g.P.Post.law l.initial.link l.link;
  going : (unhanded : List (List ℕ)) (sent : List ℕ) (role : Role) (outset : Outset) (p : Past) (m : Trace Called) → PartWay g.P.Post.stands g.P.Post.left g.P.Post.condition unhanded sent role p m l.initial.reader l.initial.link → LoadAt role outset sent p l.load
      → Going g.P.Post.stands g.P.Post.left g.P.Post.condition g.P.Post.load l.initial.link unhanded sent role outset p m l.has_part l.reader l.link;
}

abbrev pub decreases-loop-has_part : goal.decreases-loop-has_part
decreases-loop-has_part g l = length (g.P.Post.left l.link) + cond l.has_part 1 0

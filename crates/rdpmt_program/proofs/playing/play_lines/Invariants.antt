use Rattle.std.proofs.Common.{◌≡◌, drop}
use Rattle.mt_base.specs.declared.kinds.Role.{Role}
use Rattle.mt_base.specs.Trace.{Trace}
use Rattle.mt_world.specs.Acts.{Entry}
use Rattle.mt_world.specs.Play.{start, play}
use Rattle.mt_world.specs.WorldView.{Stands}
use Rattle.rdpmt_program.proofs.playing.play_lines.Given as goal

-- the world stands for a list from which the lines that are left give what all give from the start
abbrev pub invariant-loop-line : goal.invariant-loop-line
invariant-loop-line l =
    (list : Trace (Role × Entry)) × Stands l.world list × (play list (drop l.line-index l.lines) ≡ play start l.lines)

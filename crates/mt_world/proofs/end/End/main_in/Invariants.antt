use Rattle.std.proofs.Common.{ℕ, List, take, fold}
use Rattle.mt_base.specs.declared.kinds.Role.{Role}
use Rattle.mt_world.specs.Acts.{Past, with_byte}
use Rattle.mt_world.specs.EndView.{StandsFor}
use Rattle.mt_world.proofs.end.End.main_in.Given as goal

-- what the bytes so far have done
abbrev pub invariant-loop-byte : goal.invariant-loop-byte
invariant-loop-byte l =
    (role : Role) (p : Past) (left : List ℕ) (handed : List (List ℕ)) → StandsFor l.fn.self role p left handed →
    StandsFor l.self role (fold (with_byte role) p (take l.byte-index l.bytes)) left handed

use Rattle.std.proofs.Common.{◌/◌, ◌^◌, ◌==◌, Some, ap, ◌∙◌, arith}
use Rattle.std.proofs.lemmas.Nat.{and_mask}
use Rattle.coded_vector.proofs.FlagLemmas.{flag_low, flag_high}
use Rattle.coded_vector.proofs.bytes.flag_at.Goals as goal

pub returns-then-byte-lt128-clause-flag : goal.returns-then-byte-lt128-clause-flag
returns-then-byte-lt128-clause-flag c =
    ap (λ b. Some (b == 1)) (and_mask (c.args.byte / 2 ^ c.args.index) 1)
    ∙ flag_low c.args.byte c.args.index (omega arith) (omega arith)

pub returns-else-byte-lt128-clause-flag : goal.returns-else-byte-lt128-clause-flag
returns-else-byte-lt128-clause-flag c =
    flag_high c.args.byte c.args.index (omega arith) (omega arith) (omega arith)

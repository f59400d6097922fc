use Rattle.std.proofs.Common.{◌++◌, length, take, fold, sym, ap, ◌∙◌, arith}
use Rattle.std.proofs.lemmas.List.{take_all}
use Rattle.mt_world.specs.Acts.{past, given, taken, took, with_byte}
use Rattle.mt_world.proofs.Steps.{at_past}
use Rattle.mt_world.proofs.ReadBytes.{sent-reads}
use Rattle.mt_world.proofs.side.Side.main_in.Goals as goal

pub returns : goal.returns
returns c role t s =
    let bytes = c.args.bytes.now in
    let whole = sym (take_all (length bytes) bytes (omega arith)) in
    record {
      end_is = at_past c.main_in.new.self role (given t) (took 1 t) _ _ (ap (fold (with_byte role) (past role t)) whole) (c.in_ok-main_in.ensures role (past role t) (given t) (took 1 t) s.end_is);
      sent_are = s.sent_are ∙ sym (sent-reads 1 role (past role t) (take (length bytes) bytes));
      received_are = s.received_are;
      arrived_is = c.in_ok-extend_from_slice.ensures.items ∙ ap (λ x. x ++ bytes) s.arrived_is ∙ ap (λ x. taken t ++ x) whole;
    }

use Rattle.mt_endpoint.specs.Tunnels.{is_attached}
use Rattle.end_calls.specs.Calls.{WireOut, acts}
use Rattle.end_pair.proofs.Polled.{still_some}
use Rattle.end_pair.proofs.wires.give.Goals as goal

pub returns-in_default-clause-lawful : goal.returns-in_default-clause-lawful
returns-in_default-clause-lawful g c =
    let k = c.requires.lawful in
    still_some _ _ _ _ _ _ c.args.end.now c.wire_out.new.self c.args.side k.0 (is_attached c.args.kind (acts c.args.side k.0)) (λ state. WireOut c.args.kind c.args.now _ _ state) _ k.1 (c.wire_out.ensures.polled c.args.side k.0 k.1) (λ off. (c.wire_out.ensures.none c.args.side k.0 k.1 off).1)

pub returns-in_err-push-clause-lawful : goal.returns-in_err-push-clause-lawful
returns-in_err-push-clause-lawful g c =
    let k = c.requires.lawful in
    still_some _ _ _ _ _ _ c.args.end.now c.wire_out.new.self c.args.side k.0 (is_attached c.args.kind (acts c.args.side k.0)) (λ state. WireOut c.args.kind c.args.now _ _ state) _ k.1 (c.wire_out.ensures.polled c.args.side k.0 k.1) (λ off. (c.wire_out.ensures.none c.args.side k.0 k.1 off).1)

pub returns-clause-lawful : goal.returns-clause-lawful
returns-clause-lawful g c =
    let k = c.requires.lawful in
    still_some _ _ _ _ _ _ c.args.end.now c.wire_out.new.self c.args.side k.0 (is_attached c.args.kind (acts c.args.side k.0)) (λ state. WireOut c.args.kind c.args.now _ _ state) _ k.1 (c.wire_out.ensures.polled c.args.side k.0 k.1) (λ off. (c.wire_out.ensures.none c.args.side k.0 k.1 off).1)

use Rattle.std.proofs.Common.{◌≡◌, Err, arith, sym, ◌∙◌, rules}
use Rattle.tunnel_pdus.specs.Reading.{sub_headers_at}
use Rattle.tunnel_pdus.proofs.SubHeaders.{sub_done, sub_pass, sub_stop}
use Rattle.tunnel_pdus.proofs.tunnel.pass_sub_headers.Goals as goal

pub loop-at-preserved : goal.loop-at-preserved
loop-at-preserved c = record {
  same = sym (sub_pass c.loop-at.at c.args.end c.args.bytes.now c.in_ok-at.field-0 c.loop-at-test.true c.in_ok-at.ensures.seen) ∙ c.loop-at.invariant.same;
  small = omega (arith, c.in_ok-at.ensures.within);
}

pub returns-clause-seen : goal.returns-clause-seen
returns-clause-seen c = sym c.loop-at.invariant.same ∙ sub_done c.loop-at.at c.args.end c.args.bytes.now c.loop-at-test.false

pub returns-in_err-at-clause-seen : goal.returns-in_err-at-clause-seen
returns-in_err-at-clause-seen c =
    let stopped : sub_headers_at 4 c.args.end c.args.bytes.now ≡ Err c.in_err-at.field-0.0 = sym c.loop-at.invariant.same ∙ sub_stop c.loop-at.at c.args.end c.args.bytes.now _ c.loop-at-test.true c.in_err-at.ensures.seen in
    search rules

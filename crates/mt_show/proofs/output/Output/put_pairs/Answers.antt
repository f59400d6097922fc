use Rattle.std.proofs.Common.{sym, append-nil, refl}
use Rattle.hex.specs.Hex.{encode_with}
use Rattle.mt_show.proofs.Joining.{one_more_byte, all_bytes}
use Rattle.mt_show.proofs.output.Output.put_pairs.Goals as goal

pub loop-byte-init : goal.loop-byte-init
unfolding encode_with
loop-byte-init c = sym (append-nil c.args.self.now.bytes.items)

pub loop-byte-preserved : goal.loop-byte-preserved
loop-byte-preserved c =
    one_more_byte c.args.bytes.now c.loop-byte.byte-index _ c.digit.result c.digit-in-loop-byte.result c.args.self.now.bytes.items c.loop-byte.self.bytes.items c.put.new.self.bytes.items
    c.loop-byte-test.true refl c.digit.ensures c.digit-in-loop-byte.ensures c.loop-byte.invariant c.in_ok-put.ensures

pub returns : goal.returns
returns c = all_bytes c.args.bytes.now c.loop-byte.byte-index c.args.self.now.bytes.items c.loop-byte.self.bytes.items c.loop-byte-test.false c.loop-byte.invariant

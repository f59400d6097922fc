use Rattle.std.proofs.Common.{◌<◌, length, get_or, take, refl, arith}
use Rattle.std.proofs.lemmas.Option.{slice_get-get_or}
use Rattle.dvc_pdus.specs.Value.{Close}
use Rattle.dvc_channels.specs.Fragments.{fragments_of}
use Rattle.endpoint.proofs.KeepsLaws.{law_then}
use Rattle.endpoint.proofs.MessagesGiven.{gives_next}
use Rattle.endpoint.proofs.sending.give_message.Goals as goal

pub loop-k-preserved : goal.loop-k-preserved
loop-k-preserved g c =
    let before = c.loop-k.invariant in
    let pdus = fragments_of c.args.id c.args.message.now in
    let k = c.loop-k.k in
    let less : k < length pdus = omega (arith, c.loop-k-test.true, c.fragments-k-end.ensures c.args.message.now refl) in
    let pdu = get_or pdus k (Close 0) in
    let at = slice_get-get_or pdus k (Close 0) less in
    let gave = c.give_waiting.ensures in
    record {
      gives = gives_next g.C.Carrier.stands g.C.Carrier.left g.C.Carrier.condition g.C.Carrier.load pdus k pdu (take c.wrap_fragment-count.result c.wrap_fragment-count.new.out) c.args.link.now c.loop-k.link c.give_waiting.new.link before.gives at
          (c.wrap_fragment-count.ensures.bytes pdu at) gave.trace gave.load gave.left gave.state;
      law = law_then g.C.Carrier.law c.args.link.now c.loop-k.link c.give_waiting.new.link before.law gave.law;
    }

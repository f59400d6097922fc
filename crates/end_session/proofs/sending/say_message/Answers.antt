use Rattle.std.proofs.Common.{◌<◌, length, length-append, get_or, take, refl, ap, arith}
use Rattle.std.proofs.lemmas.List.Folds.{length-flat_map-take}
use Rattle.std.proofs.lemmas.Option.{slice_get-get_or}
use Rattle.dvc_pdus.specs.Value.{Close, spelled}
use Rattle.dvc_channels.specs.Fragments.{fragments_of}
use Rattle.dvc_channels.proofs.Sending.{length-take-below}
use Rattle.mt_endpoint.specs.Acts.{Spoken}
use Rattle.mt_endpoint.specs.Writing.{framed}
use Rattle.end_calls.proofs.Spelled.{spelled_some}
use Rattle.end_session.specs.MessageGiven.{frames_of}
use Rattle.end_session.specs.Outgoing.{Outgoing}
use Rattle.end_session.proofs.ChannelsOpened.{frame_size_is}
use Rattle.end_session.proofs.MessagesSent.{said_more}
use Rattle.end_session.proofs.sending.say_message.Goals as goal

pub say-requires-clause-size : goal.say-requires-clause-size
say-requires-clause-size c =
    let pdus = fragments_of c.args.id c.args.message.now in
    let less : c.loop-k.k < length pdus = omega (arith, c.loop-k-test.true, c.fragments-k-end.ensures c.args.message.now refl) in
    let bytes = c.fragment_of-count.ensures.spelled (get_or pdus c.loop-k.k (Close 0)) (slice_get-get_or pdus c.loop-k.k (Close 0) less) in
    (omega (arith, ap length bytes, spelled_some (get_or pdus c.loop-k.k (Close 0))), omega (arith, length-take-below c.fragment_of-count.result c.fragment_of-count.new.out, c.fragment_of-count.ensures.bound))

pub say-requires-clause-room : goal.say-requires-clause-room
say-requires-clause-room c =
    let pdus = fragments_of c.args.id c.args.message.now in
    let k = c.loop-k.k in
    let less : k < length pdus = omega (arith, c.loop-k-test.true, c.fragments-k-end.ensures c.args.message.now refl) in
    let pdu = get_or pdus k (Close 0) in
    let bytes = c.fragment_of-count.ensures.spelled pdu (slice_get-get_or pdus k (Close 0) less) in
    let fits = length-flat_map-take (λ x. framed (Spoken x)) pdus k (Close 0) less in
    omega (
      arith,
      ap length bytes,
      fits,
      frame_size_is (spelled pdu),
      c.requires.room,
      ap (λ (o : Outgoing). length o.main) c.loop-k.invariant,
      length-append (c.args.outgoing.now).main (frames_of (take k pdus)),
    )

pub loop-k-preserved : goal.loop-k-preserved
loop-k-preserved c =
    let pdus = fragments_of c.args.id c.args.message.now in
    let k = c.loop-k.k in
    let less : k < length pdus = omega (arith, c.loop-k-test.true, c.fragments-k-end.ensures c.args.message.now refl) in
    let pdu = get_or pdus k (Close 0) in
    let at = slice_get-get_or pdus k (Close 0) less in
    said_more c.args.outgoing.now c.loop-k.outgoing c.say.new.self pdus k pdu (take c.fragment_of-count.result c.fragment_of-count.new.out) c.loop-k.invariant c.say.ensures (c.fragment_of-count.ensures.spelled pdu at) at

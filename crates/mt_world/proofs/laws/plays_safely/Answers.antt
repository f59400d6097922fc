use Rattle.mt_world.specs.Play.{play, start}
use Rattle.mt_world.proofs.Outgoing.{PduLaws}
use Rattle.mt_world.proofs.Arriving.{main_arrives}
use Rattle.mt_world.proofs.PlayedNet.{plays_net, play_good, start_good, script_events}
use Rattle.mt_world.proofs.laws.plays_safely.Goals as goal

pub returns-clause-net : goal.returns-clause-net
returns-clause-net c text lines reads =
    let laws : PduLaws = record {
      fits = λ from bytes pdu all is. ((c.reading_by_layout.ensures.pdu from bytes pdu all).0 is).0.fits;
      back = λ from pdu is. c.written_is_read.ensures.read from pdu is;
    } in
    plays_net laws text lines reads

pub returns-clause-safe : goal.returns-clause-safe
returns-clause-safe c text lines reads =
    let laws : PduLaws = record {
      fits = λ from bytes pdu all is. ((c.reading_by_layout.ensures.pdu from bytes pdu all).0 is).0.fits;
      back = λ from pdu is. c.written_is_read.ensures.read from pdu is;
    } in
    c.net_is_safe.ensures (play start lines).0 (plays_net laws text lines reads)

pub returns-clause-arrives : goal.returns-clause-arrives
returns-clause-arrives c text lines side v reads is id =
    let laws : PduLaws = record {
      fits = λ from bytes pdu all is. ((c.reading_by_layout.ensures.pdu from bytes pdu all).0 is).0.fits;
      back = λ from pdu is. c.written_is_read.ensures.read from pdu is;
    } in
    main_arrives laws id side (play start lines).0 v (play_good laws lines start start_good (script_events text lines reads)) is

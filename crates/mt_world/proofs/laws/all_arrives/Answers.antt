use Rattle.mt_base.specs.declared.kinds.Role.TheVariants.{Server, Client}
use Rattle.mt_world.specs.Net.{at}
use Rattle.mt_world.proofs.Outgoing.{PduLaws}
use Rattle.mt_world.proofs.Safety.{arrived_one_way}
use Rattle.mt_world.proofs.laws.all_arrives.Goals as goal

pub returns-clause-to_server : goal.returns-clause-to_server
returns-clause-to_server c w net all id =
    let laws : PduLaws = record {
      fits = λ from bytes pdu all is. ((c.reading_by_layout.ensures.pdu from bytes pdu all).0 is).0.fits;
      back = λ from pdu is. c.written_is_read.ensures.read from pdu is;
    } in
    arrived_one_way laws id Server (at Server w) (at Client w) net.client all

pub returns-clause-to_client : goal.returns-clause-to_client
returns-clause-to_client c w net all id =
    let laws : PduLaws = record {
      fits = λ from bytes pdu all is. ((c.reading_by_layout.ensures.pdu from bytes pdu all).0 is).0.fits;
      back = λ from pdu is. c.written_is_read.ensures.read from pdu is;
    } in
    arrived_one_way laws id Client (at Client w) (at Server w) net.server all

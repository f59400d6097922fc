use Rattle.mt_base.specs.declared.kinds.Role.TheVariants.{Server, Client}
use Rattle.mt_world.specs.Net.{at}
use Rattle.mt_world.proofs.Outgoing.{PduLaws}
use Rattle.mt_world.proofs.Safety.{safe_one_way}
use Rattle.mt_world.proofs.laws.net_is_safe.Goals as goal

pub returns : goal.returns
returns c w net =
    let laws : PduLaws = record {
      fits = λ from bytes pdu all is. ((c.reading_by_layout.ensures.pdu from bytes pdu all).0 is).0.fits;
      back = λ from pdu is. c.written_is_read.ensures.read from pdu is;
    } in
    record {
      to_server = λ id. safe_one_way laws id Server (at Server w) (at Client w) net.client net.to_server;
      to_client = λ id. safe_one_way laws id Client (at Client w) (at Server w) net.server net.to_client;
    }

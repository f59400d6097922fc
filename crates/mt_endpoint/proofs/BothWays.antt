-- Two ends at one moment: what each delivered the other sent.
use Rattle.std.proofs.Common.{◌≡◌, ℕ, ◌++◌, sym, ap, ◌∙◌}
use Rattle.mt_base.specs.declared.kinds.Role.TheVariants.{Server, Client}
use Rattle.mt_base.specs.Trace.{Trace}
use Rattle.soft_sync.specs.declared.kinds.Path.TheVariants.{Main}
use Rattle.mt_endpoint.specs.Acts.{Act}
use Rattle.mt_endpoint.specs.Moving.{all_told, made_by, read_by}
use Rattle.mt_base.specs.Prefix.{IsPrefixOf}
use Rattle.mt_endpoint.specs.World.{hears, SafeWay}
use Rattle.mt_endpoint.specs.Meeting.{AreJoined}
use Rattle.mt_endpoint.proofs.ChannelPdus.{spoken_pdus, spoken_pdus-append, out}
use Rattle.mt_endpoint.proofs.Words.{requests_in, requests-append}
use Rattle.mt_endpoint.proofs.Written.{words_are}
use Rattle.mt_endpoint.proofs.Reading.{heard, heard_words}
use Rattle.mt_endpoint.proofs.Late.{fitting}
use Rattle.mt_endpoint.proofs.LossyWay.{one_way}

-- the server made the requests that the client read
begun : (server client : Trace Act) → AreJoined server client → IsPrefixOf (all_told read_by client) (all_told made_by server)
begun server client j =
    let m = j.to_client.main in
    let rest = spoken_pdus m.0 in
    let split : out Main Server server ≡ heard client ++ rest = ap spoken_pdus m.1 ∙ spoken_pdus-append (hears client) m.0 in
    (requests_in rest, sym (words_are Server server).requests_are ∙ ap requests_in split ∙ requests-append (heard client) rest ∙ ap (λ l. l ++ requests_in rest) (heard_words Client client).0)

pub both_ways : (server client : Trace Act) → AreJoined server client → (id : ℕ) → SafeWay Client id server client × SafeWay Server id client server
both_ways server client j id = (
  one_way Client client server id (record { here_fits = fitting Client client j.client_acts; there_fits = fitting Server server j.server_acts; main = j.to_client.main; reliable = j.to_client.reliable; lossy = j.to_client.lossy; begin = tt }),
  one_way Server server client id (record { here_fits = fitting Server server j.server_acts; there_fits = fitting Client client j.client_acts; main = j.to_server.main; reliable = j.to_server.reliable; lossy = j.to_server.lossy; begin = begun server client j }),
)

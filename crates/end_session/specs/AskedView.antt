-- A request for a tunnel, as the code keeps it.
use Rattle.mt_endpoint.specs.Tunnels.{Request}
use Rattle.end_session.specs.declared.tunnel.Asked.{Asked}

abbrev pub request_of : Asked → Request
request_of asked = record { id = asked.id; cookie = asked.cookie }

use Rattle.mt_world.proofs.Steps.{on_ok, server_reads_capabilities, client_reads_capabilities}
use Rattle.mt_world.proofs.end.End.read_capabilities.Goals as goal

pub returns-in-Server : goal.returns-in-Server
returns-in-Server c role p left handed s version charges =
    server_reads_capabilities c.args.self.now role p left handed version charges c.in-Server.is s

pub returns-in-Client : goal.returns-in-Client
returns-in-Client c role p left handed s =
    on_ok c.write_frame.result (λ grown version charges. client_reads_capabilities c.args.self.now c.write_frame.new.queue role p left handed version charges c.in-Client.is grown s) c.write_frame.ensures

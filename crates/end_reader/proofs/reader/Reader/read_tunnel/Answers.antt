use Rattle.end_reader.proofs.Anywhere.{quiet_of, rests_of}
use Rattle.end_reader.proofs.TunnelRead.{pulled}
use Rattle.end_reader.proofs.reader.Reader.read_tunnel.Goals as goal

pub look_at_tunnel-requires-clause-rests : goal.look_at_tunnel-requires-clause-rests
look_at_tunnel-requires-clause-rests c = rests_of c.args.self.now c.requires.reads c.requires.whole

pub look_at_tunnel-requires-clause-quiet : goal.look_at_tunnel-requires-clause-quiet
look_at_tunnel-requires-clause-quiet c = quiet_of c.args.self.now c.requires.reads c.requires.whole

pub returns-clause-took : goal.returns-clause-took
returns-clause-took c p gone rd =
    let wanted = c.wanted-wanted in
    pulled c.args.self.now c.look_at_tunnel.new.self c.take.new.self p gone c.args.bytes.now c.take.result wanted.result rd c.requires.whole c.requires.wanted wanted.ensures.wants wanted.ensures.way c.take.ensures.count c.take.ensures.bytes
    c.look_at_tunnel.ensures.came

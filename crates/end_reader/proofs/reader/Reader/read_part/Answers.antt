use Rattle.end_reader.proofs.Anywhere.{quiet_of, rests_of}
use Rattle.end_reader.proofs.TunnelRead.{part_came}
use Rattle.end_reader.proofs.reader.Reader.read_part.Goals as goal

pub draw_part-requires-clause-rests : goal.draw_part-requires-clause-rests
draw_part-requires-clause-rests c = rests_of c.args.self.now c.requires.reads c.requires.whole

pub draw_part-requires-clause-quiet : goal.draw_part-requires-clause-quiet
draw_part-requires-clause-quiet c = quiet_of c.args.self.now c.requires.reads c.requires.whole

pub returns-clause-took : goal.returns-clause-took
returns-clause-took c p gone rd = part_came c.args.self.now c.draw_part.new.self p gone c.args.bytes.now c.args.is_full rd c.requires.whole c.draw_part.ensures.same c.draw_part.ensures.drawn

use Rattle.endpoint.specs.Attached.{load_in}
use Rattle.session_end.proofs.session_end.SessionEndEnd.main_in.Goals as goal

pub returns-clause-adds : goal.returns-clause-adds
returns-clause-adds g c = λ role t h.
    let read = c.main_in.ensures.reads role t h in
    (load_in g.C.Carrier.load c.args.self.now.endpoint.reliable, read.0, read.1)

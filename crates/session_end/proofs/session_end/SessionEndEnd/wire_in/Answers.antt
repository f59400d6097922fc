use Rattle.session_end.proofs.session_end.SessionEndEnd.wire_in.Goals as goal

pub returns : goal.returns
returns g c = record {
  adds = λ role t h.
      let read = c.wire_in.ensures.read role t h in
      (record { load = read.load; came = read.came; pulls = read.pulls; parts = read.parts; lack = read.lack }, read.stands);
}

use Rattle.link_machine.proofs.Receiving.{kept_window, with_window}
use Rattle.link_machine.proofs.receiver.Receiver.pull.Goals as goal

pub returns-clause-stands : goal.returns-clause-stands
returns-clause-stands g c got n floor owed h =
    let window = kept_window _ c.args.self.now got n floor owed c.self.view_is h in
    with_window _ c.args.self.now c.pull.new.self got got.parts n _ floor owed c.self.view_is h
    (c.pull.ensures.holds c.args.self.now.config.peer got.parts n window)

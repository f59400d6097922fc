use Rattle.std.proofs.Common.{Some, sym, ap, ◌∙◌}
use Rattle.link_machine.specs.ReceiverView.{load_of}
use Rattle.lossy_mode.specs.Thin.{floor_read, with_window}
use Rattle.lossy_mode.proofs.ArrivalLemmas.{window_set, shown_is}
use Rattle.lossy_mode.proofs.arrivals.Arrivals.take.Goals as goal

pub returns-clause-answer : goal.returns-clause-answer
returns-clause-answer c g n h =
    c.take_load-took.ensures.answer (with_window (Some c.args.window) g) n (window_set _ c.args.self.now g n c.args.window c.self.view_is h)

pub returns-clause-holds : goal.returns-clause-holds
returns-clause-holds c g n shown same_load same_floor same_window h =
    let set = window_set _ c.args.self.now g n c.args.window c.self.view_is h in
    let loaded = c.take_load-took.ensures.holds (with_window (Some c.args.window) g) n set in
    let raised = c.raise.ensures.holds _ n loaded in
    let floor = c.read_floor-floor.ensures g n h ∙ ap (floor_read c.args.peer g.numbers) (sym same_floor) in
    shown_is c.raise.new.self c.args.peer _ n c.args.window g shown (load_of c.args.load) _ same_load same_window floor raised

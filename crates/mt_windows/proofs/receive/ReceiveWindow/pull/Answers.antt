use Rattle.std.proofs.Common.{ℕ, ◌+◌, ◌≤◌, length, sym, ap, subst, arith}
use Rattle.circular_buffer.specs.Buffer.{Buffer}
use Rattle.mt_windows.specs.ArrivedView.{Inbox, Keeps, Receives}
use Rattle.mt_windows.proofs.Order.{keeps_drawn, receives_left}
use Rattle.mt_windows.proofs.Marked.{inbox, used_bound}
use Rattle.mt_windows.proofs.receive.ReceiveWindow.pull.Goals as goal

pub overflow_add-self : goal.overflow_add-self
overflow_add-self g c = omega (arith, used_bound _ c.self.invariant.sound, c.read_into-count.ensures.count)

pub returns-clause-next : goal.returns-clause-next
returns-clause-next g c first parts n h = receives_left _ first parts n h

pub returns-clause-holds : goal.returns-clause-holds
returns-clause-holds g c first parts n h =
    let w = c.self.inside in
    let v : Inbox = inbox w.first w.passed w.lengths.items w.used w.ordered.items w.greatest w.slots in
    let r = c.read_into-count.result in
    let now = subst (λ u. Receives u first parts n) (sym c.self.view_is) h in
    let items = ap (λ (b : Buffer ℕ). b.items) c.read_into-count.ensures.items in
    let le : r ≤ length w.ordered.items = omega (arith, c.read_into-count.ensures.count) in
    let moved = subst (λ xs. Keeps (inbox w.first w.passed w.lengths.items (w.used + r) xs w.greatest w.slots) first parts (n + r)) (sym items) (keeps_drawn v first parts n r le now.keeps) in
    c.pass_drained.ensures.holds first parts (n + r) moved now.gap

use Rattle.std.proofs.Common.{List, [], ◌∷◌, ◌++◌, OnOk, sym, subst}
use Rattle.capture_check.specs.declared.entry.Entry.{Entry}
use Rattle.capture_check.specs.declared.entry.Entry.TheVariants.{Word}
use Rattle.mt_base.specs.declared.kinds.Kind.TheVariants.{Lossy}
use Rattle.capture_check.specs.FlowsSoFar.{AreDeliveries}
use Rattle.capture_check.proofs.Delivering.{on_ok, server_moved, client_moved}
use Rattle.capture_check.proofs.deliveries.Deliveries.word_for_lossy.Goals as goal

pub returns-in-Server : goal.returns-in-Server
returns-in-Server c =
    let d = c.args.self.now in
    let new = c.move_to_lossy.new.self in
    subst (λ s. OnOk c.move_to_lossy.result ((before : List Entry) → AreDeliveries before d → AreDeliveries (before ++ Word s Lossy c.args.id ∷ []) (record { server = new; client = d.client }))) (sym c.in-Server.is)
    (on_ok c.move_to_lossy.result (λ here others before are. server_moved before c.args.id d new here others are) c.move_to_lossy.ensures.here c.move_to_lossy.ensures.others)

pub returns-in-Client : goal.returns-in-Client
returns-in-Client c =
    let d = c.args.self.now in
    let new = c.move_to_lossy-in-Client.new.self in
    subst (λ s. OnOk c.move_to_lossy-in-Client.result ((before : List Entry) → AreDeliveries before d → AreDeliveries (before ++ Word s Lossy c.args.id ∷ []) (record { server = d.server; client = new }))) (sym c.in-Client.is)
    (on_ok c.move_to_lossy-in-Client.result (λ here others before are. client_moved before c.args.id d new here others are) c.move_to_lossy-in-Client.ensures.here c.move_to_lossy-in-Client.ensures.others)

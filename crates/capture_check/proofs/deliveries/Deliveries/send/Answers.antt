use Rattle.std.proofs.Common.{List, [], ◌∷◌, ◌++◌, OnOk, sym, subst}
use Rattle.capture_check.specs.declared.entry.Entry.{Entry}
use Rattle.capture_check.specs.declared.entry.Entry.TheVariants.{Sent}
use Rattle.capture_check.specs.FlowsSoFar.{AreDeliveries}
use Rattle.capture_check.proofs.Delivering.{on_ok, server_sent, client_sent}
use Rattle.capture_check.proofs.deliveries.Deliveries.send.Goals as goal

pub returns-in-Server : goal.returns-in-Server
returns-in-Server c =
    let d = c.args.self.now in
    let new = c.send.new.self in
    subst (λ s. OnOk c.send.result ((before : List Entry) → AreDeliveries before d → AreDeliveries (before ++ Sent s c.args.id c.args.message.now ∷ []) (record { server = new; client = d.client }))) (sym c.in-Server.is)
    (on_ok c.send.result (λ here others before are. server_sent before c.args.id c.args.message.now d new here others are) c.send.ensures.here c.send.ensures.others)

pub returns-in-Client : goal.returns-in-Client
returns-in-Client c =
    let d = c.args.self.now in
    let new = c.send-in-Client.new.self in
    subst (λ s. OnOk c.send-in-Client.result ((before : List Entry) → AreDeliveries before d → AreDeliveries (before ++ Sent s c.args.id c.args.message.now ∷ []) (record { server = d.server; client = new }))) (sym c.in-Client.is)
    (on_ok c.send-in-Client.result (λ here others before are. client_sent before c.args.id c.args.message.now d new here others are) c.send-in-Client.ensures.here c.send-in-Client.ensures.others)

use Rattle.std.proofs.Common.{[], ◌∷◌, ◌++◌, sym, subst}
use Rattle.mt_base.specs.declared.kinds.Role.TheVariants.{Server, Client}
use Rattle.capture_check.specs.declared.entry.Entry.TheVariants.{Got}
use Rattle.capture_check.specs.Messages.{WasSent}
use Rattle.capture_check.specs.Flows.{flow_of}
use Rattle.capture_check.specs.FlowsSoFar.{AreDeliveries}
use Rattle.capture_check.proofs.Flowing.{was_sent, was_not_sent}
use Rattle.capture_check.proofs.Delivering.{server_got, client_got}
use Rattle.capture_check.proofs.deliveries.Deliveries.deliver.Goals as goal

pub returns-in-Server-clause-kept : goal.returns-in-Server-clause-kept
returns-in-Server-clause-kept c before are held =
    let d = c.args.self.now in
    let new = c.deliver.new.self in
    let told = c.deliver.ensures.yes held in
    subst (λ s. WasSent before (Got s c.args.id c.args.message.now) × AreDeliveries (before ++ Got s c.args.id c.args.message.now ∷ []) (record { server = d.server; client = new })) (sym c.in-Server.is) (
      was_sent Server c.args.id before c.args.message.now (flow_of d.client c.args.id) told.0 told.1 (are Client c.args.id),
      server_got before c.args.id c.args.message.now d new told.0 told.2 told.1 c.deliver.ensures.others are,
    )

pub returns-in-Server-clause-broken : goal.returns-in-Server-clause-broken
returns-in-Server-clause-broken c before are fails =
    subst (λ s. ¬ WasSent before (Got s c.args.id c.args.message.now)) (sym c.in-Server.is)
    (was_not_sent Server c.args.id before c.args.message.now (flow_of c.args.self.now.client c.args.id) (c.deliver.ensures.no fails) (are Client c.args.id))

pub returns-in-Client-clause-kept : goal.returns-in-Client-clause-kept
returns-in-Client-clause-kept c before are held =
    let d = c.args.self.now in
    let new = c.deliver-in-Client.new.self in
    let told = c.deliver-in-Client.ensures.yes held in
    subst (λ s. WasSent before (Got s c.args.id c.args.message.now) × AreDeliveries (before ++ Got s c.args.id c.args.message.now ∷ []) (record { server = new; client = d.client })) (sym c.in-Client.is) (
      was_sent Client c.args.id before c.args.message.now (flow_of d.server c.args.id) told.0 told.1 (are Server c.args.id),
      client_got before c.args.id c.args.message.now d new told.0 told.2 told.1 c.deliver-in-Client.ensures.others are,
    )

pub returns-in-Client-clause-broken : goal.returns-in-Client-clause-broken
returns-in-Client-clause-broken c before are fails =
    subst (λ s. ¬ WasSent before (Got s c.args.id c.args.message.now)) (sym c.in-Client.is)
    (was_not_sent Client c.args.id before c.args.message.now (flow_of c.args.self.now.server c.args.id) (c.deliver-in-Client.ensures.no fails) (are Server c.args.id))

use Rattle.std.proofs.Common.{cond, None, Some, sym, ap, subst, ◌∙◌}
use Rattle.dvc_channels.specs.Table as channels
use Rattle.soft_sync.specs.Words.{inward}
use Rattle.mt_endpoint.specs.Channels.{is_known_in}
use Rattle.mt_endpoint.specs.Faults.{SyncUnknown}
use Rattle.end_session.specs.Store.{Store}
use Rattle.end_session.proofs.MovesHeard.{by_state, listed_before}
use Rattle.end_session.proofs.session.Session.id_cause.Goals as goal

pub returns-in-Tunnel-clause-found : goal.returns-in-Tunnel-clause-found
returns-in-Tunnel-clause-found c t gone seen kind st e =
    listed_before c.args.self.now t gone seen c.args.id kind c.in-Tunnel.field-0 c.inward.result c.requires.client
    (c.inward.ensures ∙ ap (λ (s : Store). inward c.args.id s.paths) c.self.view_is) c.in-Tunnel.is st

pub returns-in-Unknown-clause-found : goal.returns-in-Unknown-clause-found
returns-in-Unknown-clause-found c t gone seen kind st e =
    by_state c.args.self.now t gone seen c.args.id kind c.inward.result c.state.result c.args.is_repeated c.requires.client e c.if-is_repeated.false
    (c.inward.ensures ∙ ap (λ (s : Store). inward c.args.id s.paths) c.self.view_is) c.in-Main.is (λ u k. c.state.ensures u (subst (λ (s : Store). channels.Stands s.channels u) (sym c.self.view_is) k)) st
    ∙ ap (λ r. cond (is_known_in r) None (Some (SyncUnknown c.args.id))) c.in-Unknown.is

pub returns-in-Asked-clause-found : goal.returns-in-Asked-clause-found
returns-in-Asked-clause-found c t gone seen kind st e =
    by_state c.args.self.now t gone seen c.args.id kind c.inward.result c.state.result c.args.is_repeated c.requires.client e c.if-is_repeated.false
    (c.inward.ensures ∙ ap (λ (s : Store). inward c.args.id s.paths) c.self.view_is) c.in-Main.is (λ u k. c.state.ensures u (subst (λ (s : Store). channels.Stands s.channels u) (sym c.self.view_is) k)) st
    ∙ ap (λ r. cond (is_known_in r) None (Some (SyncUnknown c.args.id))) c.in-Asked.is

pub returns-in-Open-clause-found : goal.returns-in-Open-clause-found
returns-in-Open-clause-found c t gone seen kind st e =
    by_state c.args.self.now t gone seen c.args.id kind c.inward.result c.state.result c.args.is_repeated c.requires.client e c.if-is_repeated.false
    (c.inward.ensures ∙ ap (λ (s : Store). inward c.args.id s.paths) c.self.view_is) c.in-Main.is (λ u k. c.state.ensures u (subst (λ (s : Store). channels.Stands s.channels u) (sym c.self.view_is) k)) st
    ∙ ap (λ r. cond (is_known_in r) None (Some (SyncUnknown c.args.id))) c.in-Open.is

pub returns-in-Refused-clause-found : goal.returns-in-Refused-clause-found
returns-in-Refused-clause-found c t gone seen kind st e =
    by_state c.args.self.now t gone seen c.args.id kind c.inward.result c.state.result c.args.is_repeated c.requires.client e c.if-is_repeated.false
    (c.inward.ensures ∙ ap (λ (s : Store). inward c.args.id s.paths) c.self.view_is) c.in-Main.is (λ u k. c.state.ensures u (subst (λ (s : Store). channels.Stands s.channels u) (sym c.self.view_is) k)) st
    ∙ ap (λ r. cond (is_known_in r) None (Some (SyncUnknown c.args.id))) c.in-Refused.is

pub returns-in-Closed-clause-found : goal.returns-in-Closed-clause-found
returns-in-Closed-clause-found c t gone seen kind st e =
    by_state c.args.self.now t gone seen c.args.id kind c.inward.result c.state.result c.args.is_repeated c.requires.client e c.if-is_repeated.false
    (c.inward.ensures ∙ ap (λ (s : Store). inward c.args.id s.paths) c.self.view_is) c.in-Main.is (λ u k. c.state.ensures u (subst (λ (s : Store). channels.Stands s.channels u) (sym c.self.view_is) k)) st
    ∙ ap (λ r. cond (is_known_in r) None (Some (SyncUnknown c.args.id))) c.in-Closed.is

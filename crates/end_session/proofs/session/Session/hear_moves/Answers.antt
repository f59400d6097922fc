use Rattle.std.proofs.Common.{◌≡◌, ℕ, ◌+◌, None, sym, ap, subst, ◌∙◌, arith}
use Rattle.mt_base.specs.Trace.{Trace, ◌▷◌}
use Rattle.dvc_pdus.specs.ListViews.{lists_left}
use Rattle.dvc_pdus.specs.Value.{SyncRequest}
use Rattle.mt_endpoint.specs.Acts.{Act, Hears, Spoken}
use Rattle.mt_endpoint.specs.Moving.{channels_listed}
use Rattle.end_session.specs.Causes.{why_in}
use Rattle.end_session.specs.Standing.{Gone, Stands}
use Rattle.end_session.specs.contracts.session.Session.{the_view}
use Rattle.end_session.proofs.Heard.{fine}
use Rattle.end_session.proofs.MovesHeard.{MayHear, are_new, few_channels, few_owed, few_read, heard, may_hear}
use Rattle.end_session.proofs.session.Session.hear_moves.Goals as goal
use Rattle.end_session.proofs.session.Session.hear_moves.Goals.{After-moves_cause, After-take_request}

-- it may be heard, by the acts that the end stands for
may : (c : After-moves_cause) → c.moves_cause.result ≡ None → MayHear (the_view c.self.inside) (c.self.invariant).0.0 (lists_left c.args.lists)
may c none =
    let s = the_view c.self.inside in
    let w = c.self.invariant in
    let lists = lists_left c.args.lists in
    may_hear s w.0.0 0 0 lists
    (fine s c.args.self.now w.0.0 (Spoken (SyncRequest 0 0 lists)) c.moves_cause.result c.self.view_is (c.moves_cause.ensures.found w.0.0 w.0.1 0 0 (subst (λ s. Stands s w.0.0 w.0.1) c.self.view_is w.0.2)) none)

pub take_request-requires-clause-few : goal.take_request-requires-clause-few
take_request-requires-clause-few c =
    let w = c.self.invariant in
    few_read (the_view c.self.inside) w.0.0 w.0.1 (lists_left c.args.lists) w.0.2 (may (goal.at.take_request-requires-clause-few c).After-moves_cause c.in_default.is)

pub take_request-requires-clause-new : goal.take_request-requires-clause-new
take_request-requires-clause-new c =
    let w = c.self.invariant in
    let m = may (goal.at.take_request-requires-clause-new c).After-moves_cause c.in_default.is in
    are_new (the_view c.self.inside) w.0.0 w.0.1 (channels_listed (lists_left c.args.lists)) m.is_client w.0.2 m.fine

pub returns-clause-few : goal.returns-clause-few
returns-clause-few c =
    let w = c.self.invariant in
    few_channels (the_view c.self.inside) w.0.0 w.0.1 (lists_left c.args.lists) w.0.2 (may (goal.at.returns-clause-few c).After-moves_cause c.in_default.is)

-- the end that it leaves, which stands for one act more
stands : (c : After-take_request) (t : Trace Act) (gone : Gone) (flags tunnels : ℕ) → Stands c.args.self.now t gone
    → Stands (record (the_view c.self.inside) { paths = c.take_request.new.paths; owed = (the_view c.self.inside).owed + 1 }) (t ▷ Hears (Spoken (SyncRequest flags tunnels (lists_left c.args.lists)))) gone
stands c t gone flags tunnels st =
    let s = the_view c.self.inside in
    let lists = lists_left c.args.lists in
    let none = fine s c.args.self.now t (Spoken (SyncRequest flags tunnels lists)) c.moves_cause.result c.self.view_is (c.moves_cause.ensures.found t gone flags tunnels st) c.in_default.is in
    heard s t gone flags tunnels lists c.take_request.new.paths (subst (λ s. Stands s t gone) (sym c.self.view_is) st) none c.take_request.ensures

pub invariant_of-self : goal.invariant_of-self
invariant_of-self c =
    let w = c.self.invariant in
    let owed = few_owed (the_view c.self.inside) w.0.0 w.0.1 (lists_left c.args.lists) w.0.2 (may (goal.at.invariant_of-self c).After-moves_cause c.in_default.is) in
    ((w.0.0 ▷ Hears (Spoken (SyncRequest 0 0 (lists_left c.args.lists))), w.0.1, stands (goal.at.invariant_of-self c).After-take_request w.0.0 w.0.1 0 0 (subst (λ s. Stands s w.0.0 w.0.1) c.self.view_is w.0.2)), omega (arith, owed))

pub returns-clause-heard : goal.returns-clause-heard
returns-clause-heard c t gone flags tunnels st = (c.moves_cause.ensures.found t gone flags tunnels st ∙ ap why_in c.in_default.is, stands (goal.at.returns-clause-heard c).After-take_request t gone flags tunnels st)

use Rattle.std.proofs.Common.{◌≡◌, None, OnOk, IfErr, sym, subst}
use Rattle.mt_base.specs.Trace.{◌▷◌}
use Rattle.dvc_pdus.specs.Views.{pdu_of}
use Rattle.mt_endpoint.specs.Acts.{Hears, Spoken}
use Rattle.mt_endpoint.specs.Faults.{main_fault}
use Rattle.end_session.specs.Causes.{IsCause}
use Rattle.end_session.specs.Standing.{Stands}
use Rattle.end_session.proofs.session.Session.hear_pdu.Goals as goal

pub returns-in-Caps-clause-heard : goal.returns-in-Caps-clause-heard
returns-in-Caps-clause-heard c t gone st =
    subst (λ p. OnOk c.hear_capabilities.result ((main_fault c.args.self.now.role t (Spoken (pdu_of p)) ≡ None) × Stands c.hear_capabilities.new.self (t ▷ Hears (Spoken (pdu_of p))) gone)) (sym c.in-Caps.is)
    (c.hear_capabilities.ensures.heard t gone c.in-Caps.charges st)

pub returns-in-Caps-clause-refused : goal.returns-in-Caps-clause-refused
returns-in-Caps-clause-refused c t gone st =
    subst (λ p. IfErr c.hear_capabilities.result (λ cause. IsCause (main_fault c.args.self.now.role t (Spoken (pdu_of p))) cause)) (sym c.in-Caps.is) (c.hear_capabilities.ensures.refused t gone c.in-Caps.charges st)

pub returns-in-CreateRequest-clause-heard : goal.returns-in-CreateRequest-clause-heard
returns-in-CreateRequest-clause-heard c t gone st =
    subst (λ p. OnOk c.hear_create.result ((main_fault c.args.self.now.role t (Spoken (pdu_of p)) ≡ None) × Stands c.hear_create.new.self (t ▷ Hears (Spoken (pdu_of p))) gone)) (sym c.in-CreateRequest.is)
    (c.hear_create.ensures.heard t gone c.in-CreateRequest.priority st)

pub returns-in-CreateResponse-clause-heard : goal.returns-in-CreateResponse-clause-heard
returns-in-CreateResponse-clause-heard c t gone st =
    subst (λ p. OnOk c.hear_created.result ((main_fault c.args.self.now.role t (Spoken (pdu_of p)) ≡ None) × Stands c.hear_created.new.self (t ▷ Hears (Spoken (pdu_of p))) gone)) (sym c.in-CreateResponse.is)
    (c.hear_created.ensures.heard t gone st)

pub returns-in-CreateResponse-clause-refused : goal.returns-in-CreateResponse-clause-refused
returns-in-CreateResponse-clause-refused c t gone st =
    subst (λ p. IfErr c.hear_created.result (λ cause. IsCause (main_fault c.args.self.now.role t (Spoken (pdu_of p))) cause)) (sym c.in-CreateResponse.is) (c.hear_created.ensures.refused t gone st)

pub returns-in-Close-clause-refused : goal.returns-in-Close-clause-refused
returns-in-Close-clause-refused c t gone st =
    subst (λ p. IfErr c.hear_close.result (λ cause. IsCause (main_fault c.args.self.now.role t (Spoken (pdu_of p))) cause)) (sym c.in-Close.is) (c.hear_close.ensures.refused t gone st)

pub returns-in-SyncRequest-clause-heard : goal.returns-in-SyncRequest-clause-heard
returns-in-SyncRequest-clause-heard c t gone st =
    subst (λ p. OnOk c.hear_moves.result ((main_fault c.args.self.now.role t (Spoken (pdu_of p)) ≡ None) × Stands c.hear_moves.new.self (t ▷ Hears (Spoken (pdu_of p))) gone)) (sym c.in-SyncRequest.is)
    (c.hear_moves.ensures.heard t gone c.in-SyncRequest.flags c.in-SyncRequest.tunnels st)

pub returns-in-SyncRequest-clause-refused : goal.returns-in-SyncRequest-clause-refused
returns-in-SyncRequest-clause-refused c t gone st =
    subst (λ p. IfErr c.hear_moves.result (λ cause. IsCause (main_fault c.args.self.now.role t (Spoken (pdu_of p))) cause)) (sym c.in-SyncRequest.is) (c.hear_moves.ensures.refused t gone c.in-SyncRequest.flags c.in-SyncRequest.tunnels st)

pub returns-in-SyncResponse-clause-refused : goal.returns-in-SyncResponse-clause-refused
returns-in-SyncResponse-clause-refused c t gone st =
    subst (λ p. IfErr c.hear_moved.result (λ cause. IsCause (main_fault c.args.self.now.role t (Spoken (pdu_of p))) cause)) (sym c.in-SyncResponse.is) (c.hear_moved.ensures.refused t gone st)

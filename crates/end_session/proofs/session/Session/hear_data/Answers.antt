use Rattle.std.proofs.Common.{◌≡◌, None, sym, subst}
use Rattle.dvc_pdus.specs.Views.{pdu_of}
use Rattle.mt_endpoint.specs.Acts.{Spoken}
use Rattle.mt_endpoint.specs.Faults.{main_fault}
use Rattle.end_session.specs.Standing.{Stands}
use Rattle.end_session.specs.Store.{Store}
use Rattle.end_session.specs.contracts.session.Session.{the_view}
use Rattle.end_session.proofs.DataHeard.{FoundData, data_fine, data_lawful, data_taken, err_on, ok_on}
use Rattle.end_session.proofs.session.Session.hear_data.Goals as goal
use Rattle.end_session.proofs.session.Session.hear_data.Goals.{in-Ok, in-Err}

pub invariant_of-self : goal.invariant_of-self
invariant_of-self c =
    data_lawful (the_view c.self.inside) c.args.id (pdu_of c.args.pdu.now) c.accept.new.self c.data_cause.result c.accept.result c.requires.brings
    (subst (λ s. FoundData s c.args.id c.data_cause.result) (sym c.self.view_is) c.data_cause.ensures.found) c.in_default.is c.accept.ensures.answer c.accept.ensures.came c.accept.ensures.unchanged c.self.invariant

pub returns-clause-heard : goal.returns-clause-heard
returns-clause-heard c t gone st =
    let s = the_view c.self.inside in
    let pdu = pdu_of c.args.pdu.now in
    let here = subst (λ s. Stands s t gone) (sym c.self.view_is) st in
    let found = subst (λ s. FoundData s c.args.id c.data_cause.result) (sym c.self.view_is) c.data_cause.ensures.found in
    elim c.match-accept.branch [
      | in-Ok w ↦ ok_on c.match-accept.result _ w.result-is (
        subst (λ (s : Store). main_fault s.role t (Spoken pdu) ≡ None) c.self.view_is
            (data_fine s t gone c.args.id pdu c.data_cause.result c.accept.result _ c.requires.brings found c.in_default.is w.in-Ok.is c.accept.ensures.answer here),
        data_taken s t gone c.args.id pdu c.accept.new.self c.data_cause.result c.accept.result _ c.requires.brings found c.in_default.is w.in-Ok.is c.accept.ensures.answer c.accept.ensures.came here,
      )
      | in-Err w ↦ err_on _ c.match-accept.result _ w.result-is
    ]

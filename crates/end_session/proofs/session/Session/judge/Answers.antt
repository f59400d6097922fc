use Rattle.std.proofs.Common.{ℕ, ◌||◌, is_some, sym, ap, subst, ◌∙◌, if◌then◌else◌}
use Rattle.mt_base.specs.Trace.{Trace, ◌▷◌}
use Rattle.tunnel_cookies.specs.Entries.{entry_of}
use Rattle.mt_endpoint.specs.Acts.{Act, Judges, CreateAnswered}
use Rattle.mt_endpoint.specs.Writing.{is_full_for}
use Rattle.end_calls.specs.Streams.{verdict_by}
use Rattle.end_session.specs.OfKind.{tunnel_of}
use Rattle.end_session.specs.Outgoing.{carries}
use Rattle.end_session.specs.Standing.{Gone, Stands}
use Rattle.end_session.specs.Store.{Store}
use Rattle.end_session.specs.contracts.session.Session.{the_view}
use Rattle.end_session.proofs.Judged.{IsJudged, judged_lossy, judged_reliable, verdict_of}
use Rattle.end_session.proofs.session.Session.judge.Goals as goal

-- what the call left, by the kind of the link
left_reliable : (c : goal.After-open_by) → IsJudged (the_view c.self.inside) c.link_of.result c.args.kind c.args.id c.args.cookie.now c.open-verdict.result c.args.is_full c.gets_no_answer-gets_none.result
    c.open-verdict.new.self (the_view c.self.inside).reliable c.open_by.new.tunnel c.open_by.new.paths c.answer.new.outgoing
left_reliable c = record {
  is_server = ap (λ (s : Store). s.role) c.self.view_is ∙ c.requires.server;
  number = c.link_of.ensures;
  verdict_is = c.open-verdict.ensures.verdict;
  entries_are = c.open-verdict.ensures.table;
  tunnel_is = c.open_by.ensures.tunnel;
  words_are = c.open_by.ensures.paths;
  quiet_is = c.gets_no_answer-gets_none.ensures ∙ ap (λ (s : Store). is_some (tunnel_of c.args.kind s).silence || is_full_for c.args.kind c.args.is_full) (sym c.self.view_is);
  written_is =
      c.answer.ensures
      ∙ ap (λ hr. if c.gets_no_answer-gets_none.result then (the_view c.self.inside).outgoing else carries c.args.kind (CreateAnswered hr) (the_view c.self.inside).outgoing) c.create_code.ensures;
}

left_lossy : (c : goal.After-open_by-in-Lossy) → IsJudged (the_view c.self.inside) c.link_of.result c.args.kind c.args.id c.args.cookie.now c.open-verdict.result c.args.is_full c.gets_no_answer-gets_none.result
    c.open-verdict.new.self (the_view c.self.inside).lossy c.open_by-in-Lossy.new.tunnel c.open_by-in-Lossy.new.paths c.answer.new.outgoing
left_lossy c = record {
  is_server = ap (λ (s : Store). s.role) c.self.view_is ∙ c.requires.server;
  number = c.link_of.ensures;
  verdict_is = c.open-verdict.ensures.verdict;
  entries_are = c.open-verdict.ensures.table;
  tunnel_is = c.open_by-in-Lossy.ensures.tunnel;
  words_are = c.open_by-in-Lossy.ensures.paths;
  quiet_is = c.gets_no_answer-gets_none.ensures ∙ ap (λ (s : Store). is_some (tunnel_of c.args.kind s).silence || is_full_for c.args.kind c.args.is_full) (sym c.self.view_is);
  written_is =
      c.answer.ensures
      ∙ ap (λ hr. if c.gets_no_answer-gets_none.result then (the_view c.self.inside).outgoing else carries c.args.kind (CreateAnswered hr) (the_view c.self.inside).outgoing) c.create_code.ensures;
}

by_reliable : (c : goal.After-open_by) (t : Trace Act) (gone : Gone) (at : ℕ) → Stands (the_view c.self.inside) t gone
    → Stands (record (the_view c.self.inside) { issued = c.open-verdict.new.self; reliable = c.open_by.new.tunnel; paths = c.open_by.new.paths; outgoing = c.answer.new.outgoing })
    (t ▷ Judges c.args.kind at c.args.id c.args.cookie.now c.open-verdict.result c.args.is_full) gone
by_reliable c t gone at st =
    judged_reliable (the_view c.self.inside) t gone c.link_of.result c.args.kind at c.args.id c.args.cookie.now c.open-verdict.result c.args.is_full c.gets_no_answer-gets_none.result
    c.open-verdict.new.self c.open_by.new.tunnel c.open_by.new.paths c.answer.new.outgoing c.in-Reliable.is (left_reliable c) st

by_lossy : (c : goal.After-open_by-in-Lossy) (t : Trace Act) (gone : Gone) (at : ℕ) → Stands (the_view c.self.inside) t gone
    → Stands (record (the_view c.self.inside) { issued = c.open-verdict.new.self; lossy = c.open_by-in-Lossy.new.tunnel; paths = c.open_by-in-Lossy.new.paths; outgoing = c.answer.new.outgoing })
    (t ▷ Judges c.args.kind at c.args.id c.args.cookie.now c.open-verdict.result c.args.is_full) gone
by_lossy c t gone at st =
    judged_lossy (the_view c.self.inside) t gone c.link_of.result c.args.kind at c.args.id c.args.cookie.now c.open-verdict.result c.args.is_full c.gets_no_answer-gets_none.result
    c.open-verdict.new.self c.open_by-in-Lossy.new.tunnel c.open_by-in-Lossy.new.paths c.answer.new.outgoing c.in-Lossy.is (left_lossy c) st

pub returns-in-Reliable-clause-stands : goal.returns-in-Reliable-clause-stands
returns-in-Reliable-clause-stands c t gone at st = by_reliable c t gone at (subst (λ s. Stands s t gone) (sym c.self.view_is) st)

pub returns-in-Lossy-clause-stands : goal.returns-in-Lossy-clause-stands
returns-in-Lossy-clause-stands c t gone at st = by_lossy c t gone at (subst (λ s. Stands s t gone) (sym c.self.view_is) st)

pub invariant_of-self : goal.invariant_of-self
invariant_of-self c =
    let w = c.self.invariant in
    ((w.0.0 ▷ Judges c.args.kind 0 c.args.id c.args.cookie.now c.open-verdict.result c.args.is_full, w.0.1, by_reliable c w.0.0 w.0.1 0 w.0.2), w.1)

pub invariant_of-self-in-Lossy : goal.invariant_of-self-in-Lossy
invariant_of-self-in-Lossy c =
    let w = c.self.invariant in
    ((w.0.0 ▷ Judges c.args.kind 0 c.args.id c.args.cookie.now c.open-verdict.result c.args.is_full, w.0.1, by_lossy c w.0.0 w.0.1 0 w.0.2), w.1)

pub returns-in-Reliable-clause-verdict : goal.returns-in-Reliable-clause-verdict
returns-in-Reliable-clause-verdict c =
    verdict_of c.link_of.result c.args.kind c.args.cookie.now (entry_of c.args.id (the_view c.self.inside).issued) c.open-verdict.result c.link_of.ensures c.open-verdict.ensures.verdict
    ∙ ap (λ (s : Store). verdict_by c.args.kind c.args.cookie.now (entry_of c.args.id s.issued)) c.self.view_is

pub returns-in-Lossy-clause-verdict : goal.returns-in-Lossy-clause-verdict
returns-in-Lossy-clause-verdict c =
    verdict_of c.link_of.result c.args.kind c.args.cookie.now (entry_of c.args.id (the_view c.self.inside).issued) c.open-verdict.result c.link_of.ensures c.open-verdict.ensures.verdict
    ∙ ap (λ (s : Store). verdict_by c.args.kind c.args.cookie.now (entry_of c.args.id s.issued)) c.self.view_is

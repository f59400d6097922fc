use Rattle.std.proofs.Common.{refl, sym, ◌∙◌}
use Rattle.mt_base.specs.Trace.{◌▷◌}
use Rattle.mt_session.specs.Steps.{Pulls, Passes, entries}
use Rattle.mt_session.proofs.Stepping.{on_pulls, on_passes}
use Rattle.mt_session.proofs.datagrams.pull.Goals as goal

pub returns-then-attached : goal.returns-then-attached
returns-then-attached g c = record {
  steps = λ first seen s h at.
      let there = sym (c.attached.ensures first.role (entries s) h.end) ∙ c.if-attached.true in
      let read = c.wire_in.ensures.adds first.role (entries s) h.end in
      (s ▷ Pulls c.wire_in.result read.0, on_pulls (record seen { now = c.args.now }) first s c.wire_in.result read.0 h at there read.1, (refl, refl, record { heard = refl; turn = refl }));
}

pub returns-else-attached : goal.returns-else-attached
returns-else-attached g c = record {
  steps = λ first seen s h at.
      let absent = sym (c.attached.ensures first.role (entries s) h.end) ∙ c.if-attached.false in
      (s ▷ Passes, on_passes (record seen { now = c.args.now }) first s h at absent h.end, (refl, refl, record { heard = refl; turn = refl }));
}

use Rattle.std.proofs.Common.{refl}
use Rattle.mt_base.specs.Trace.{◌▷◌}
use Rattle.mt_session.specs.Steps.{Fills, Writes, entries}
use Rattle.mt_session.specs.Buffer.{held}
use Rattle.mt_session.specs.Live.{Seen}
use Rattle.mt_session.proofs.Stepping.{on_fills, on_writes, on_same}
use Rattle.mt_session.proofs.Tallies.{goes_on}
use Rattle.mt_session.proofs.main_stream.deliver.Goals as goal

pub returns-in-Ok-clause-steps : goal.returns-in-Ok-clause-steps
returns-in-Ok-clause-steps g c = λ first seen s h at.
    let s0 : Seen = record seen { unwritten = held c.args.output.now; tally = c.args.tally.now; stream = g.S.Stream.told c.args.main.now } in
    let f = c.fill.ensures in
    let full = on_fills s0 first s f.0 f.1 (held c.fill.new.output) h at f.2 f.3 f.4 (f.5 first.role (entries s) h.end) in
    let s1 : Seen = record s0 { unwritten = held c.fill.new.output } in
    let w = c.in-Ok.field-0 in
    (s ▷ Fills f.0 f.1 ▷ Writes w, on_writes s1 first (s ▷ Fills f.0 f.1) w (held c.write_once.new.output) c.write_once.new.tally (g.S.Stream.told c.write_once.new.main) full refl c.in-Ok.ensures.asked c.in-Ok.ensures.unwritten c.in-Ok.ensures.tally c.in-Ok.ensures.tells, (tt, record { heard = refl; turn = refl }))

pub returns-in-Err-clause-steps : goal.returns-in-Err-clause-steps
returns-in-Err-clause-steps g c = λ first seen s h at.
    let s0 : Seen = record seen { unwritten = held c.args.output.now; tally = c.args.tally.now; stream = g.S.Stream.told c.args.main.now } in
    let f = c.fill.ensures in
    let full = on_fills s0 first s f.0 f.1 (held c.fill.new.output) h at f.2 f.3 f.4 (f.5 first.role (entries s) h.end) in
    let s1 : Seen = record s0 { unwritten = held c.fill.new.output } in
    let same = c.in-Err.ensures.same in
    (s ▷ Fills f.0 f.1, on_same s1 first (s ▷ Fills f.0 f.1) s1.kept (held c.write_once.new.output) c.write_once.new.tally (g.S.Stream.told c.write_once.new.main) full refl same.1 same.2 same.0, (tt, record { heard = refl; turn = refl }))

pub returns-in-Ok-clause-goes : goal.returns-in-Ok-clause-goes
returns-in-Ok-clause-goes g c = λ old h. goes_on old c.args.tally.now c.write_once.new.tally c.in-Ok.field-0 h c.in-Ok.ensures.tally

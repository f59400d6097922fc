use Rattle.std.proofs.Common.{◌++◌, ◌∷◌, [], refl, ap, ◌∙◌}
use Rattle.mt_base.specs.Trace.{◌▷◌}
use Rattle.mt_session.specs.Steps.{Begins, Reads, Offers, begun, entries}
use Rattle.mt_session.specs.Buffer.{held}
use Rattle.mt_session.specs.Live.{Seen}
use Rattle.mt_session.specs.Answers.{answer_of, read_tally}
use Rattle.mt_session.proofs.Stepping.{on_begins, on_reads, on_offers, on_same}
use Rattle.mt_session.proofs.Tallies.{grew_read, heard_end}
use Rattle.mt_session.proofs.main_stream.hear.Goals as goal

pub returns-in-Ok-clause-steps : goal.returns-in-Ok-clause-steps
returns-in-Ok-clause-steps g c = λ first seen s now h over.
    let s0 : Seen = record seen { kept = held c.args.input.now; tally = c.args.tally.now; stream = g.S.Stream.told c.args.main.now } in
    let waiting = held c.read_once.new.input in
    let a = answer_of c.in-Ok.got waiting in
    let begins = on_begins s0 first s now h over in
    let s1 : Seen = record s0 { moments = seen.moments ++ now ∷ []; now = now; tally = begun c.args.tally.now } in
    let reads = on_reads s1 first (s ▷ Begins now) a waiting c.read_once.new.tally (g.S.Stream.told c.read_once.new.main) begins refl c.in-Ok.ensures.asked c.in-Ok.ensures.kept (c.in-Ok.ensures.tally ∙ ap (read_tally a) c.begin.ensures) c.in-Ok.ensures.tells in
    let s2 : Seen = record s1 { kept = waiting; tally = c.read_once.new.tally; stream = g.S.Stream.told c.read_once.new.main } in
    let took = c.offer.ensures.adds first.role (entries (s ▷ Begins now ▷ Reads a)) reads.end in
    (s ▷ Begins now ▷ Reads a ▷ Offers c.offer.result took.0 took.1, on_offers s2 first (s ▷ Begins now ▷ Reads a) c.offer.result took.0 took.1 (held c.offer.new.input) reads refl c.offer.ensures.bound c.offer.ensures.kept took.2, (refl, refl, refl, heard_end c.in-Ok.got waiting, refl))

pub returns-in-Err-clause-steps : goal.returns-in-Err-clause-steps
returns-in-Err-clause-steps g c = λ first seen s now h over.
    let s0 : Seen = record seen { kept = held c.args.input.now; tally = c.args.tally.now; stream = g.S.Stream.told c.args.main.now } in
    let begins = on_begins s0 first s now h over in
    let s1 : Seen = record s0 { moments = seen.moments ++ now ∷ []; now = now; tally = begun c.args.tally.now } in
    let same = c.in-Err.ensures.same in
    (s ▷ Begins now, on_same s1 first (s ▷ Begins now) (held c.read_once.new.input) s1.unwritten c.read_once.new.tally (g.S.Stream.told c.read_once.new.main) begins same.1 refl (same.2 ∙ c.begin.ensures) same.0, refl)

pub returns-in-Ok-clause-grew : goal.returns-in-Ok-clause-grew
returns-in-Ok-clause-grew g c =
    let a = answer_of c.in-Ok.got (held c.read_once.new.input) in
    grew_read a (begun c.args.tally.now) c.read_once.new.tally (c.in-Ok.ensures.tally ∙ ap (read_tally a) c.begin.ensures)

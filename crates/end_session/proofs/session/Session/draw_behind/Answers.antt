use Rattle.std.proofs.Common.{◌<◌, sym, ◌∙◌, arith}
use Rattle.std.proofs.lemmas.List.Elements.{All-from_get_or}
use Rattle.mt_base.specs.Ends.{other}
use Rattle.dvc_pdus.specs.Views.{pdu_of}
use Rattle.mt_endpoint.specs.Holding.{held}
use Rattle.end_session.proofs.Behind.{came_as, close_passed, data_passed, not_passed, open_close, passing_close, passing_of}
use Rattle.end_session.proofs.Reread.{was_read}
use Rattle.end_session.proofs.session.Session.draw_behind.Goals as goal

pub returns-in_default-clause-came : goal.returns-in_default-clause-came
returns-in_default-clause-came c t gone place is st =
    let passing = passing_of c.args.self.now c.args.kind c.args.bytes.now (pdu_of c.args.pdu.now) (All-from_get_or (λ b. b < 256) c.args.bytes.now 0 (λ i within. omega (arith, c.type_inv.bytes i))) c.requires.read c.requires.behind c.requires.rests c.requires.quiet c.requires.allowed in
    not_passed c.args.self.now t gone c.args.kind place c.args.bytes.now (pdu_of c.args.pdu.now) passing (c.in_default.ensures.held t gone c.args.bytes.now st) st

pub pass_close-requires-clause-passing : goal.pass_close-requires-clause-passing
pass_close-requires-clause-passing c =
    let passing = passing_of c.args.self.now c.args.kind c.args.bytes.now (pdu_of c.args.pdu.now) (All-from_get_or (λ b. b < 256) c.args.bytes.now 0 (λ i within. omega (arith, c.type_inv.bytes i))) c.requires.read c.requires.behind c.requires.rests c.requires.quiet c.requires.allowed in
    (c.args.bytes.now, passing_close c.args.kind c.args.bytes.now (pdu_of c.args.pdu.now) c.in-Some.id c.args.self.now passing (c.in-Some.ensures.ending (sym c.is_close.ensures ∙ c.if-is_close.true)) (close_passed c.args.kind c.args.bytes.now (pdu_of c.args.pdu.now) c.in-Some.id c.args.self.now passing c.in-Some.ensures.channel (sym c.is_close.ensures ∙ c.if-is_close.true)))

pub pass_close-requires-clause-open_one : goal.pass_close-requires-clause-open_one
pass_close-requires-clause-open_one c t gone st =
    let passing = passing_of c.args.self.now c.args.kind c.args.bytes.now (pdu_of c.args.pdu.now) (All-from_get_or (λ b. b < 256) c.args.bytes.now 0 (λ i within. omega (arith, c.type_inv.bytes i))) c.requires.read c.requires.behind c.requires.rests c.requires.quiet c.requires.allowed in
    open_close c.args.self.now.role c.args.kind t c.args.bytes.now (pdu_of c.args.pdu.now) c.in-Some.id (held c.args.self.now.role c.args.kind t) (c.in-Some.ensures.ending (sym c.is_close.ensures ∙ c.if-is_close.true)) (close_passed c.args.kind c.args.bytes.now (pdu_of c.args.pdu.now) c.in-Some.id c.args.self.now passing c.in-Some.ensures.channel (sym c.is_close.ensures ∙ c.if-is_close.true)) (c.in-Some.ensures.held t gone c.args.bytes.now st)

pub returns-then-is_close-clause-came : goal.returns-then-is_close-clause-came
returns-then-is_close-clause-came c t gone place is st =
    let passing = passing_of c.args.self.now c.args.kind c.args.bytes.now (pdu_of c.args.pdu.now) (All-from_get_or (λ b. b < 256) c.args.bytes.now 0 (λ i within. omega (arith, c.type_inv.bytes i))) c.requires.read c.requires.behind c.requires.rests c.requires.quiet c.requires.allowed in
    let closes = (close_passed c.args.kind c.args.bytes.now (pdu_of c.args.pdu.now) c.in-Some.id c.args.self.now passing c.in-Some.ensures.channel (sym c.is_close.ensures ∙ c.if-is_close.true)) in
    let kind_is = (c.in-Some.ensures.ending (sym c.is_close.ensures ∙ c.if-is_close.true)) in
    came_as c.args.self.now.role t gone c.args.kind place c.args.bytes.now (pdu_of c.args.pdu.now) c.in-Some.id c.pass_close.new.self kind_is closes
    (c.pass_close.ensures.came c.args.bytes.now t gone place (passing_close c.args.kind c.args.bytes.now (pdu_of c.args.pdu.now) c.in-Some.id c.args.self.now passing kind_is closes) st)

pub pass_data-requires-clause-passing : goal.pass_data-requires-clause-passing
pass_data-requires-clause-passing c =
    passing_of c.args.self.now c.args.kind c.args.bytes.now (pdu_of c.args.pdu.now) (All-from_get_or (λ b. b < 256) c.args.bytes.now 0 (λ i within. omega (arith, c.type_inv.bytes i))) c.requires.read c.requires.behind c.requires.rests c.requires.quiet c.requires.allowed

pub pass_data-requires-clause-data : goal.pass_data-requires-clause-data
pass_data-requires-clause-data c =
    let passing = passing_of c.args.self.now c.args.kind c.args.bytes.now (pdu_of c.args.pdu.now) (All-from_get_or (λ b. b < 256) c.args.bytes.now 0 (λ i within. omega (arith, c.type_inv.bytes i))) c.requires.read c.requires.behind c.requires.rests c.requires.quiet c.requires.allowed in
    (data_passed c.args.kind c.args.bytes.now (pdu_of c.args.pdu.now) c.in-Some.id c.args.self.now passing c.in-Some.ensures.channel (sym c.is_close.ensures ∙ c.if-is_close.false)).1

pub pass_data-requires-clause-short : goal.pass_data-requires-clause-short
pass_data-requires-clause-short c =
    (was_read (other c.args.self.now.role) c.args.bytes.now (pdu_of c.args.pdu.now) (All-from_get_or (λ b. b < 256) c.args.bytes.now 0 (λ i within. omega (arith, c.type_inv.bytes i))) c.requires.read).1

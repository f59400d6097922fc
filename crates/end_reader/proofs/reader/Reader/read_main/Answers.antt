use Rattle.std.proofs.Common.{◌≡◌, ℕ, ◌<◌, List, length, min, Ok, ap, subst, ◌∙◌}
use Rattle.tunnel_pdus.specs.declared.part.Part.TheVariants.{More}
use Rattle.tunnel_pdus.specs.Reading.{frame_reading}
use Rattle.end_reader.specs.Wanting.{GoesOn, frame_wants}
use Rattle.end_reader.proofs.MainRead.{one_frame, takes, took}
use Rattle.end_reader.proofs.reader.Reader.read_main.Goals as goal

pub returns-clause-took : goal.returns-clause-took
returns-clause-took c p gone rd =
    let r = c.args.self.now in
    let wanted = c.frame_wanted-wanted in
    let t = takes r p gone c.args.bytes.now wanted.result c.take-count.result rd c.requires.whole c.requires.some (wanted.ensures.wants ∙ ap frame_wants c.bytes.ensures.bytes)
    (subst (λ (l : List ℕ). (need : ℕ) → frame_reading l ≡ Ok (More need) → (length l < need) × GoesOn frame_reading l need) c.bytes.ensures.bytes wanted.ensures.way) c.take-count.ensures.count in
    took r c.look_at_main.new.self c.take-count.new.self p gone c.args.bytes.now c.take-count.result t.0 rd t.1 c.take-count.ensures.bytes c.look_at_main.ensures.came

pub returns-clause-frame : goal.returns-clause-frame
returns-clause-frame c p gone rd =
    let r = c.args.self.now in
    let wanted = c.frame_wanted-wanted in
    let t = takes r p gone c.args.bytes.now wanted.result c.take-count.result rd c.requires.whole c.requires.some (wanted.ensures.wants ∙ ap frame_wants c.bytes.ensures.bytes)
    (subst (λ (l : List ℕ). (need : ℕ) → frame_reading l ≡ Ok (More need) → (length l < need) × GoesOn frame_reading l need) c.bytes.ensures.bytes wanted.ensures.way) c.take-count.ensures.count in
    one_frame r (r.session).role p c.args.bytes.now c.take-count.result t.0 t.1

pub returns-clause-wanted : goal.returns-clause-wanted
returns-clause-wanted c =
    c.take-count.ensures.count ∙ ap (λ (n : ℕ). min (length c.args.bytes.now) n) (c.frame_wanted-wanted.ensures.wants ∙ ap frame_wants c.bytes.ensures.bytes)

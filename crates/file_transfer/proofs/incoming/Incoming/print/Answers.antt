use Rattle.std.proofs.Common.{◌≡◌, ◌∙◌, ◌++◌, List, ap, sym, length, take, arith}
use Rattle.std.specs.Prelude.{flat_map}
use Rattle.std.proofs.lemmas.List.{take_all}
use Rattle.mt_outside.specs.Told.{added}
use Rattle.file_messages.specs.Files.{Message, File, AreFiles}
use Rattle.file_transfer.specs.Keeping.{HasKept}
use Rattle.file_transfer.specs.Lines.{kept_line, done_line, got_lines}
use Rattle.file_transfer.proofs.Keeping.{lines_are, whole_at_end}
use Rattle.file_transfer.proofs.incoming.Incoming.print.Goals as goal

pub returns-in_default-write_all-clause-part : goal.returns-in_default-write_all-clause-part
returns-in_default-write_all-clause-part g c = λ messages files h are.
    let mark = c.args.mark.now in
    let i = c.args.self.now in
    let text = c.deref.ensures.value ∙ c.in-Ok.ensures ∙ ap (λ w. flat_map (kept_line mark) w ++ done_line mark) c.files.ensures ∙ ap (λ l. l ++ done_line mark) (lines_are mark i.arrivals.whole.items files (whole_at_end i messages files h are)) in
    let part = c.in_default-write_all.ensures.prefix in
    (part.0, part.2 ∙ ap (λ t. added (g.K.Sink.written c.args.out.now) (take part.0 t)) text)

pub returns-clause-lines : goal.returns-clause-lines
returns-clause-lines g c = λ messages files h are.
    let mark = c.args.mark.now in
    let i = c.args.self.now in
    let text = c.deref.ensures.value ∙ c.in-Ok.ensures ∙ ap (λ w. flat_map (kept_line mark) w ++ done_line mark) c.files.ensures ∙ ap (λ l. l ++ done_line mark) (lines_are mark i.arrivals.whole.items files (whole_at_end i messages files h are)) in
    c.in-Ok-write_all.ensures.all ∙ ap (added (g.K.Sink.written c.args.out.now)) text

pub returns-clause-part : goal.returns-clause-part
returns-clause-part g c = λ messages files h are.
    let mark = c.args.mark.now in
    let i = c.args.self.now in
    let text = c.deref.ensures.value ∙ c.in-Ok.ensures ∙ ap (λ w. flat_map (kept_line mark) w ++ done_line mark) c.files.ensures ∙ ap (λ l. l ++ done_line mark) (lines_are mark i.arrivals.whole.items files (whole_at_end i messages files h are)) in
    let whole = got_lines mark files in
    (length whole, c.in-Ok-write_all.ensures.all ∙ ap (added (g.K.Sink.written c.args.out.now)) text ∙ ap (added (g.K.Sink.written c.args.out.now)) (sym (take_all (length whole) whole (omega arith))))

use Rattle.std.proofs.Common.{◌≡◌, ◌∙◌, refl, sym, ap, subst, string_bytes}
use Rattle.mt_outside.specs.Reading.{Reaches}
use Rattle.mt_outside.specs.declared.reading.Reading.{Reading}
use Rattle.mt_outside.proofs.real_files.RealFiles.read_open.Goals as goal

pub returns-clause-stands : goal.returns-clause-stands
returns-clause-stands g c = λ kept content was named reaches.
    let file = g.R.File in
    let is = c.in_ok-reading.ensures.kept kept was named in
    let same : c.in_ok-reading.reading ≡ kept = cc in
    let there = subst (λ (r : Reading g.row.R-File.Denot). Reaches file.Read.remaining file.Seek.stream_position file.Seek.stream_bytes r.file content r.at c.args.at) (sym same) reaches in
    (c.read_at.new.self, refl, ap string_bytes c.in_ok-count.ensures.name ∙ c.in_ok-reading.ensures.name, c.in_ok-count.ensures.stands content there)

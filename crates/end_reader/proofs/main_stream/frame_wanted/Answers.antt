use Rattle.std.proofs.Common.{Ok, sym, ap, ◌∙◌, ◌<◌, arith}
use Rattle.std.proofs.lemmas.List.Elements.{All-from_get_or}
use Rattle.tunnel_pdus.specs.Reading.{seen}
use Rattle.tunnel_pdus.specs.Views.{frame_of}
use Rattle.end_reader.proofs.Needs.{frame_needs, frame_under_way}
use Rattle.end_reader.proofs.main_stream.frame_wanted.Goals as goal

pub returns-in-Ok-More-clause-room : goal.returns-in-Ok-More-clause-room
returns-in-Ok-More-clause-room c =
    let bytes = c.args.bytes.now in
    let good = All-from_get_or (λ b. b < 256) bytes 0 (λ i within. omega (arith, c.type_inv.bytes i)) in
    omega (arith, frame_needs bytes _ good (sym c.in-Ok-More.ensures.exact ∙ ap (λ x. seen frame_of (Ok x)) c.in-Ok-More.field-0-is), c.requires, c.saturating_sub.ensures)

pub returns-in-Ok-More-clause-way : goal.returns-in-Ok-More-clause-way
returns-in-Ok-More-clause-way c need is =
    let bytes = c.args.bytes.now in
    frame_under_way bytes need (All-from_get_or (λ b. b < 256) bytes 0 (λ i within. omega (arith, c.type_inv.bytes i))) is

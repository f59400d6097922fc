use Rattle.std.proofs.Common.{◌%◌, sym, ap, ◌∙◌, subst}
use Rattle.mt_windows.specs.BitsView.{is_set}
use Rattle.mt_windows.specs.ArrivedView.{Receives}
use Rattle.mt_windows.proofs.Marked.{marked_parts}
use Rattle.mt_windows.proofs.receive.ReceiveWindow.words.Goals as goal

pub returns-clause-bits : goal.returns-clause-bits
returns-clause-bits g c first parts n h part low high =
    ap (λ ws. is_set ws (part % 64)) c.words.ensures
    ∙ marked_parts c.self.inside.accepted _ first parts n c.self.invariant.marks (subst (λ w. Receives w first parts n) (sym c.self.view_is) h) part low high

use Rattle.std.proofs.Common.{◌≡◌, length, sym, ap, ◌∙◌, arith}
use Rattle.std.proofs.lemmas.Bool.Decides.{nat_tests}
use Rattle.mt_script.proofs.Spellings.{hex_text-injective}
use Rattle.mt_script.proofs.values.cookie_of.Goals as goal

pub returns-then-bytes-ne16 : goal.returns-then-bytes-ne16
returns-then-bytes-ne16 c = λ cookie h is.
    let read = c.in_ok-spelled.ensures in
    let same = hex_text-injective cookie c.in_ok-spelled.spelled h.0 read.0 (sym is ∙ read.1) in
    let long : length c.in_ok-spelled.spelled ≡ 16 = sym (ap length same) ∙ h.1 in
    let bytes = c.bytes-bytes.ensures in
    grind (arith, nat_tests, c.if-bytes-ne16.true)

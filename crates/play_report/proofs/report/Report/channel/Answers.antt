use Rattle.std.proofs.Common.{◌≡◌, ℕ, List, [], ◌∷◌, ◌++◌, codes, ap, ◌∙◌, append_assoc}
use Rattle.std.proofs.lemmas.Result.{on_ok_weaker}
use Rattle.std.specs.Fmt.{decimal}
use Rattle.mt_script.specs.Spelling.{side_name}
use Rattle.play_report.specs.Lines.{counted, channel_line}
use Rattle.play_report.proofs.report.Report.channel.Goals as goal

-- pieces behind a text, one by one or all at once
pieces : (old a b c d e f s t u v w : List ℕ)
    → old ++ a ++ b ++ c ++ d ++ e ++ f ++ s ++ t ++ u ++ v ++ w ≡ old ++ (a ++ b ++ c ++ d ++ e ++ f ++ s ++ t ++ u ++ v ++ w)
pieces old a b c d e f s t u v w = simp append_assoc

pub returns : goal.returns
unfolding channel_line
returns c sent delivered sent_is delivered_is =
    on_ok_weaker c.words-3.result (λ ended. ended ∙ ap (λ x. x ++ codes "\n")
    (c.in_ok-counted-2.ensures delivered delivered_is ∙ ap (λ x. x ++ counted delivered)
    (c.in_ok-words-2.ensures ∙ ap (λ x. x ++ codes " delivered ")
    (c.in_ok-counted.ensures sent sent_is ∙ ap (λ x. x ++ counted sent)
    (c.in_ok-words.ensures ∙ ap (λ x. x ++ codes " sent ") c.in_ok-heading.ensures))))
    ∙ pieces c.args.self.now (codes "channel ") (decimal c.args.id) (codes " ") c.args.name.now (codes " ") (side_name c.args.side)
    (codes " sent ") (counted sent) (codes " delivered ") (counted delivered) (10 ∷ [])) c.words-3.ensures

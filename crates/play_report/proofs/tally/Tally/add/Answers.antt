use Rattle.std.proofs.Common.{◌≡◌, ℕ, ◌+◌, min, List, [], ◌∷◌, ◌++◌, length, sym, ap, ◌∙◌, subst, arith, length-append}
use Rattle.sha2.specs.Hashers.{Holds256}
use Rattle.mt_base.proofs.Fill.{joined-push}
use Rattle.play_report.specs.Tallying.{told_count}
use Rattle.play_report.proofs.tally.Tally.add.Goals as goal

-- a count that stops goes on from where it stands
min_more : (most n : ℕ) → min (min n most + 1) most ≡ min (n + 1) most
min_more most n = omega arith

-- what is told of one message more
told_more : (messages : List (List ℕ)) (message : List ℕ) (count : ℕ) → count ≡ told_count (length messages)
    → min (count + 1) 18446744073709551615 ≡ told_count (length (messages ++ message ∷ []))
told_more messages message count is =
    ap (λ x. min (x + 1) 18446744073709551615) is ∙ min_more 18446744073709551615 (length messages)
    ∙ ap told_count (sym (length-append messages (message ∷ [])))

pub returns : goal.returns
returns c messages counts = record {
  count_is = c.saturating_add-self.ensures ∙ told_more messages c.args.message.now c.args.self.now.count counts.count_is;
  hashed = subst (Holds256 c.update.new.self) (sym (joined-push messages c.args.message.now)) (c.update.ensures _ counts.hashed);
}

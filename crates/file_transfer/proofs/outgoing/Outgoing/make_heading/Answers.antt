use Rattle.std.proofs.Common.{◌≡◌, ◌∙◌, ◌+◌, ◌≤◌, ◌<◌, ◌∷◌, [], ◌++◌, Some, length, drop, sym, ap, subst, arith}
use Rattle.file_messages.specs.Files.{name_message}
use Rattle.file_transfer.specs.Sending.{FollowAt, steps_left}
use Rattle.file_transfer.specs.declared.outgoing.Stage.TheVariants as stage
use Rattle.file_transfer.proofs.Made.{begun, begun_follows, ended, ended_follows}
use Rattle.file_transfer.proofs.Stages.{made_at, none_waits, from_there}
use Rattle.file_transfer.proofs.outgoing.Outgoing.make_heading.Goals as goal

pub returns-then-is_made-clause-sent : goal.returns-then-is_made-clause-sent
returns-then-is_made-clause-sent c = λ sent files h. (files, h, λ told contents held f. f)

pub returns-then-self-len-clause-sent : goal.returns-then-self-len-clause-sent
returns-then-self-len-clause-sent c = λ sent files h.
    let o = c.args.self.now in
    let own = c.index-file.result.now in
    let none = none_waits o.draft (sym c.is_made.ensures ∙ c.if-is_made.false) in
    let there : o.made < length o.files.items = omega arith in
    let m = made_at o.stage stage.Between o.draft o.files.items o.made o.at sent files c.in-Between.is none h in
    let is : c.put_name.new.self ≡ Some (name_message own.name) = c.put_name.ensures ∙ ap (λ n. Some (name_message n)) c.name.ensures.name in (
      files ++ record { name = own.name; content = [] } ∷ [],
      (own, drop (o.made + 1) o.files.items, from_there o.files.items o.made own there c.index-file.ensures, begun _ own sent files c.put_name.new.self c.name.ensures.is_own.1 is m),
      λ told contents held f. begun_follows o.made contents files own.name (subst (λ s. FollowAt s o.made o.at contents files) c.in-Between.is f),
    )

pub returns-else-self-len-clause-sent : goal.returns-else-self-len-clause-sent
returns-else-self-len-clause-sent c = λ sent files h.
    let o = c.args.self.now in
    let none = none_waits o.draft (sym c.is_made.ensures ∙ c.if-is_made.false) in
    let all : length o.files.items ≤ o.made = omega arith in
    let m = made_at o.stage stage.Between o.draft o.files.items o.made o.at sent files c.in-Between.is none h in (
      files,
      ended o.files.items o.made sent files c.put_end.new.self all c.put_end.ensures m,
      λ told contents held f. ended_follows told o.files.items o.made contents files all held (subst (λ s. FollowAt s o.made o.at contents files) c.in-Between.is f),
    )

pub returns-then-self-len-clause-goes : goal.returns-then-self-len-clause-goes
returns-then-self-len-clause-goes c = let left = ap steps_left c.in-Between.is in omega (arith, left)

pub returns-then-self-len-clause-begins : goal.returns-then-self-len-clause-begins
returns-then-self-len-clause-begins c = λ none here. let left = ap steps_left c.in-Between.is in omega (arith, left)

pub returns-else-self-len-clause-goes : goal.returns-else-self-len-clause-goes
returns-else-self-len-clause-goes c = let left = ap steps_left c.in-Between.is in omega (arith, left)

pub returns-else-self-len-clause-begins : goal.returns-else-self-len-clause-begins
returns-else-self-len-clause-begins c = λ none here. let left = ap steps_left c.in-Between.is in omega (arith, left)

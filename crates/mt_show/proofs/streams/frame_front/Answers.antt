use Rattle.std.proofs.Common.{◌≡◌, ◌-◌, Ok, rules, sym, subst}
use Rattle.tunnel_pdus.specs.declared.part.Part.TheVariants.{Whole}
use Rattle.tunnel_pdus.specs.Views.{frame_of}
use Rattle.tunnel_pdus.specs.Reading.{seen}
use Rattle.mt_show.specs.StreamWords.{frame_words, then_words, front_words}
use Rattle.mt_show.specs.Steps.{AddsWords}
use Rattle.mt_show.proofs.Joining.{more_words}
use Rattle.mt_show.proofs.streams.frame_front.Goals as goal

pub returns-in_ok-behind-in-Ok-Whole : goal.returns-in_ok-behind-in-Ok-Whole
returns-in_ok-behind-in-Ok-Whole c =
    let left : AddsWords (then_words (c.args.long - c.in-Ok-Whole.used)) c.frame.new.out.bytes.items c.behind.new.out.bytes.items = rw c.saturating_sub.ensures at c.in_ok-behind-in-Ok-Whole.ensures in
    let same : c.args.front ≡ Ok (Whole c.in-Ok-Whole.value c.in-Ok-Whole.used) = search rules in
    subst (λ front. AddsWords (front_words frame_words c.args.long (seen frame_of front)) c.args.out.now.bytes.items c.behind.new.out.bytes.items) (sym same)
    (more_words (frame_words (frame_of c.in-Ok-Whole.value)) (then_words (c.args.long - c.in-Ok-Whole.used)) c.args.out.now.bytes.items c.frame.new.out.bytes.items c.behind.new.out.bytes.items
    c.in_ok-frame-in-Ok-Whole.ensures left)

use Rattle.std.proofs.Common.{[], ◌∷◌, ◌++◌, map, codes}
use Rattle.dvc_pdus.specs.ListViews.{lists_left}
use Rattle.mt_show.specs.Words.{number_field, digits_field}
use Rattle.mt_show.specs.ChannelWords.{list_word}
use Rattle.mt_show.specs.Steps.{AddsWords}
use Rattle.mt_show.proofs.Joining.{more_words}
use Rattle.mt_show.proofs.channels.request.Goals as goal

pub returns : goal.returns
returns c =
    let head : AddsWords (codes "sync" ∷ []) c.args.out.now.bytes.items c.word.new.self.bytes.items = cc (c.in_ok-word.ensures) in
    let flags : AddsWords (digits_field (codes "flags=") c.args.flags ∷ []) c.word.new.self.bytes.items c.digits.new.self.bytes.items = cc (c.in_ok-digits.ensures) in
    let tunnels : AddsWords (number_field (codes "tunnels=") c.args.tunnels ∷ []) c.digits.new.self.bytes.items c.number.new.self.bytes.items = cc (c.in_ok-number.ensures, c.from.ensures) in
    let lists = map list_word (lists_left c.args.lists) in
    let last = c.channel_lists.new.out.bytes.items in
    let a = more_words (number_field (codes "tunnels=") c.args.tunnels ∷ []) lists c.digits.new.self.bytes.items c.number.new.self.bytes.items last tunnels c.in_ok-channel_lists.ensures in
    let b = more_words (digits_field (codes "flags=") c.args.flags ∷ []) ((number_field (codes "tunnels=") c.args.tunnels ∷ []) ++ lists) c.word.new.self.bytes.items c.digits.new.self.bytes.items last flags a in
    more_words (codes "sync" ∷ []) ((digits_field (codes "flags=") c.args.flags ∷ []) ++ ((number_field (codes "tunnels=") c.args.tunnels ∷ []) ++ lists)) c.args.out.now.bytes.items c.word.new.self.bytes.items last head b

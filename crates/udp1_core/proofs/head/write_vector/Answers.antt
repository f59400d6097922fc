use Rattle.std.proofs.Common.{◌≡◌, ◌+◌, ◌-◌, ◌∙◌, ap, arith}
use Rattle.ack_vector.specs.Longest.{elements_of}
use Rattle.mt_windows.specs.Arrived.{has_part}
use Rattle.link_machine.specs.Flags.{flags_from}
use Rattle.udp1_core.specs.FirstLayout.{named_of, told_from}
use Rattle.udp1_core.proofs.head.write_vector.Goals as goal
use Rattle.udp1_core.proofs.head.write_vector.Goals.{then-from-named, else-from-named}

pub returns-clause-elements : goal.returns-clause-elements
returns-clause-elements c parts n h =
    let peer = c.args.got.now.peer in
    let y = named_of peer parts in
    let told = told_from peer c.args.got.now.floor y in
    let named : c.named-named.result ≡ y = c.named-named.ensures parts n h in
    let from : c.max-from.result ≡ told = omega (arith, named) in
    let count : c.if-from-named.count ≡ y + 1 - told =
    elim c.if-from-named.branch [
      | then-from-named w ↦ omega (arith, w.count-is, w.if-from-named.true, named, from)
      | else-from-named w ↦ omega (arith, w.count-is, w.if-from-named.false, named, from)
    ] in
    c.write_flags.ensures.elements parts n h
    ∙ ap elements_of (ap (λ m. flags_from (has_part peer parts) m c.if-from-named.count) from
    ∙ ap (flags_from (has_part peer parts) told) count)

use Rattle.std.proofs.Common.{◌≡◌, ◌∙◌, ℕ, Some, sym, ap}
use Rattle.std.specs.Option.{option_copied}
use Rattle.mt_windows.specs.Arrived.{Parts}
use Rattle.mt_windows.specs.ArrivedView.{Receives}
use Rattle.udp1_packets.specs.Views.{packet_of}
use Rattle.udp1_core.specs.FirstLayout.{packet_with, telling_of, vector_in}
use Rattle.udp1_core.proofs.Heads.{same_written}
use Rattle.udp1_core.specs.FirstLayout.{bytes_left_out}
use Rattle.udp1_core.proofs.Heads.{head_is}
use Rattle.udp1_core.proofs.head.write_head.Goals as goal
use Rattle.udp1_core.proofs.head.write_head.Goals.{then-tells, else-tells}

-- the vector is there where something is told
vector_is : (c : goal.In-Ok) (parts : Parts) (n : ℕ)
    → Receives c.args.got.now.window.now c.args.got.now.peer parts n
    → option_copied c.if-tells.vector
    ≡ vector_in c.args.tells (telling_of c.args.got.now.peer c.args.got.now.floor parts)
vector_is c parts n h =
    let told = telling_of c.args.got.now.peer c.args.got.now.floor parts in
    elim c.if-tells.branch [
      | then-tells w ↦ ap (λ v. option_copied v) w.vector-is
          ∙ ap Some (w.write_vector-count.ensures.elements parts n h)
          ∙ sym (ap (λ b. vector_in b told) w.if-tells.true)
      | else-tells w ↦ ap (λ v. option_copied v) w.vector-is ∙ sym (ap (λ b. vector_in b told) w.if-tells.false)
    ]

pub returns-clause-text : goal.returns-clause-text
returns-clause-text c parts n h =
    let told = telling_of c.args.got.now.peer c.args.got.now.floor parts in
    let d = bytes_left_out told c.args.tells c.args.above c.args.numbers in
    let packet : packet_of c.head_packet-packet.result ≡ packet_with d =
    c.head_packet-packet.ensures
    ∙ head_is c.args.got.now.peer parts c.args.got.now.floor c.args.tells c.args.above c.args.numbers c.named-named.result _
    (c.named-named.ensures parts n h) (vector_is c parts n h) in
    same_written (packet_of c.head_packet-packet.result) (packet_with d) c.in-Ok.length
    c.args.out.now c.write1.new.out packet c.in-Ok.ensures.ok

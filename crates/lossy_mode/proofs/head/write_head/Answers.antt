use Rattle.std.proofs.Common.{◌≡◌, ◌∙◌, ℕ, List, Some, None, option_map, sym, ap}
use Rattle.std.specs.Option.{option_copied}
use Rattle.ack_vector.specs.Longest.{elements_of}
use Rattle.mt_windows.specs.NotedView.{Notes}
use Rattle.udp1_packets.specs.Views.{packet_of}
use Rattle.udp1_core.specs.FirstLayout.{bytes_left_out, packet_with, told_from, vector_in}
use Rattle.udp1_core.proofs.Heads.{same_written}
use Rattle.lossy_mode.specs.LossyView.{both_numbers}
use Rattle.lossy_mode.specs.Thin.{last_number, telling_of}
use Rattle.lossy_mode.proofs.HeadLemmas.{flags_told, head_is}
use Rattle.lossy_mode.proofs.head.write_head.Goals as goal
use Rattle.lossy_mode.proofs.head.write_head.Goals.{then-tells, else-tells}

-- the vector is there where something is told
vector_is : (c : goal.In-Ok) (peer floor : ℕ) (numbers : List ℕ) → Notes c.args.seen.now numbers
    → c.args.last ≡ last_number peer numbers → c.args.from ≡ told_from peer floor c.args.last
    → option_copied c.if-tells.vector ≡ vector_in c.args.tells (telling_of peer numbers floor)
vector_is c peer floor numbers h last from =
    let told = telling_of peer numbers floor in
    elim c.if-tells.branch [
      | then-tells w ↦ ap (λ v. option_copied v) w.vector-is
          ∙ ap Some (w.write_vector-count.ensures.elements numbers h ∙ ap elements_of (flags_told peer floor numbers c.args.from c.args.last last from))
          ∙ sym (ap (λ b. vector_in b told) w.if-tells.true)
      | else-tells w ↦ ap (λ v. option_copied v) w.vector-is ∙ sym (ap (λ b. vector_in b told) w.if-tells.false)
    ]

pub returns-clause-text : goal.returns-clause-text
returns-clause-text c peer floor numbers h last from =
    let d = bytes_left_out (telling_of peer numbers floor) c.args.tells None (option_map both_numbers c.args.number) in
    let packet : packet_of c.head_packet-packet.result ≡ packet_with d =
    c.head_packet-packet.ensures
    ∙ head_is peer floor numbers c.args.tells c.args.number c.args.last _ last (vector_is c peer floor numbers h last from) in
    same_written (packet_of c.head_packet-packet.result) (packet_with d) c.in-Ok.length
    c.args.out.now c.write1.new.out packet c.in-Ok.ensures.ok

use Rattle.std.proofs.Common.{[], ◌∷◌, ◌++◌, codes}
use Rattle.std.specs.Option.{option_map}
use Rattle.udp2_packets.specs.Layout.{ack_in, vector_in, number_in, kind}
use Rattle.udp2_packets.specs.Views.{telling_of, delay_of, body_of}
use Rattle.mt_show.specs.Words.{number_field, where_there}
use Rattle.mt_show.specs.SecondWords.{words_there, ack_words, delay_word, vector_words, last_words}
use Rattle.mt_show.specs.Steps.{AddsWords}
use Rattle.mt_show.proofs.Joining.{more_words}
use Rattle.mt_show.proofs.second.second_packet.Goals as goal

pub returns : goal.returns
returns c =
    let h0 : AddsWords (number_field (codes "type=") (kind (body_of c.args.packet.body)) ∷ []) c.args.out.now.bytes.items c.number.new.self.bytes.items = cc (c.in_ok-number.ensures, c.kind.ensures) in
    let h1 : AddsWords (number_field (codes "log=") c.args.packet.log_window ∷ []) c.number.new.self.bytes.items c.number-2.new.self.bytes.items = cc (c.in_ok-number-2.ensures, c.from.ensures) in
    let h2 : AddsWords (words_there ack_words (ack_in (telling_of c.args.packet.telling))) c.number-2.new.self.bytes.items c.ack.new.out.bytes.items = cc (c.in_ok-ack.ensures) in
    let h3 : AddsWords (where_there (number_field (codes "overhead=")) c.args.packet.overhead) c.ack.new.out.bytes.items c.overhead.new.out.bytes.items = cc (c.in_ok-overhead.ensures) in
    let h4 : AddsWords (where_there delay_word (option_map delay_of c.args.packet.delay)) c.overhead.new.out.bytes.items c.delay.new.out.bytes.items = cc (c.in_ok-delay.ensures) in
    let h5 : AddsWords (where_there (number_field (codes "aoa=")) c.args.packet.aoa) c.delay.new.out.bytes.items c.number-3.new.out.bytes.items = cc (c.in_ok-number-3.ensures) in
    let h6 : AddsWords (where_there (number_field (codes "number=")) (number_in (body_of c.args.packet.body))) c.number-3.new.out.bytes.items c.number-4.new.out.bytes.items = cc (c.in_ok-number-4.ensures, c.transmission.ensures) in
    let h7 : AddsWords (words_there vector_words (vector_in (telling_of c.args.packet.telling))) c.number-4.new.out.bytes.items c.vector.new.out.bytes.items = cc (c.in_ok-vector.ensures) in
    let h8 : AddsWords (last_words (body_of c.args.packet.body)) c.vector.new.out.bytes.items c.last.new.out.bytes.items = cc (c.in_ok-last.ensures) in
    let m7 = more_words (words_there vector_words (vector_in (telling_of c.args.packet.telling))) (last_words (body_of c.args.packet.body)) c.number-4.new.out.bytes.items c.vector.new.out.bytes.items c.last.new.out.bytes.items h7 h8 in
    let m6 = more_words (where_there (number_field (codes "number=")) (number_in (body_of c.args.packet.body))) ((words_there vector_words (vector_in (telling_of c.args.packet.telling))) ++ (last_words (body_of c.args.packet.body))) c.number-3.new.out.bytes.items c.number-4.new.out.bytes.items c.last.new.out.bytes.items h6 m7 in
    let m5 = more_words (where_there (number_field (codes "aoa=")) c.args.packet.aoa) ((where_there (number_field (codes "number=")) (number_in (body_of c.args.packet.body))) ++ ((words_there vector_words (vector_in (telling_of c.args.packet.telling))) ++ (last_words (body_of c.args.packet.body)))) c.delay.new.out.bytes.items c.number-3.new.out.bytes.items c.last.new.out.bytes.items h5 m6 in
    let m4 = more_words (where_there delay_word (option_map delay_of c.args.packet.delay)) ((where_there (number_field (codes "aoa=")) c.args.packet.aoa) ++ ((where_there (number_field (codes "number=")) (number_in (body_of c.args.packet.body))) ++ ((words_there vector_words (vector_in (telling_of c.args.packet.telling))) ++ (last_words (body_of c.args.packet.body))))) c.overhead.new.out.bytes.items c.delay.new.out.bytes.items c.last.new.out.bytes.items h4 m5 in
    let m3 = more_words (where_there (number_field (codes "overhead=")) c.args.packet.overhead) ((where_there delay_word (option_map delay_of c.args.packet.delay)) ++ ((where_there (number_field (codes "aoa=")) c.args.packet.aoa) ++ ((where_there (number_field (codes "number=")) (number_in (body_of c.args.packet.body))) ++ ((words_there vector_words (vector_in (telling_of c.args.packet.telling))) ++ (last_words (body_of c.args.packet.body)))))) c.ack.new.out.bytes.items c.overhead.new.out.bytes.items c.last.new.out.bytes.items h3 m4 in
    let m2 = more_words (words_there ack_words (ack_in (telling_of c.args.packet.telling))) ((where_there (number_field (codes "overhead=")) c.args.packet.overhead) ++ ((where_there delay_word (option_map delay_of c.args.packet.delay)) ++ ((where_there (number_field (codes "aoa=")) c.args.packet.aoa) ++ ((where_there (number_field (codes "number=")) (number_in (body_of c.args.packet.body))) ++ ((words_there vector_words (vector_in (telling_of c.args.packet.telling))) ++ (last_words (body_of c.args.packet.body))))))) c.number-2.new.self.bytes.items c.ack.new.out.bytes.items c.last.new.out.bytes.items h2 m3 in
    let m1 = more_words (number_field (codes "log=") c.args.packet.log_window ∷ []) ((words_there ack_words (ack_in (telling_of c.args.packet.telling))) ++ ((where_there (number_field (codes "overhead=")) c.args.packet.overhead) ++ ((where_there delay_word (option_map delay_of c.args.packet.delay)) ++ ((where_there (number_field (codes "aoa=")) c.args.packet.aoa) ++ ((where_there (number_field (codes "number=")) (number_in (body_of c.args.packet.body))) ++ ((words_there vector_words (vector_in (telling_of c.args.packet.telling))) ++ (last_words (body_of c.args.packet.body)))))))) c.number.new.self.bytes.items c.number-2.new.self.bytes.items c.last.new.out.bytes.items h1 m2 in
    let m0 = more_words (number_field (codes "type=") (kind (body_of c.args.packet.body)) ∷ []) ((number_field (codes "log=") c.args.packet.log_window ∷ []) ++ ((words_there ack_words (ack_in (telling_of c.args.packet.telling))) ++ ((where_there (number_field (codes "overhead=")) c.args.packet.overhead) ++ ((where_there delay_word (option_map delay_of c.args.packet.delay)) ++ ((where_there (number_field (codes "aoa=")) c.args.packet.aoa) ++ ((where_there (number_field (codes "number=")) (number_in (body_of c.args.packet.body))) ++ ((words_there vector_words (vector_in (telling_of c.args.packet.telling))) ++ (last_words (body_of c.args.packet.body))))))))) c.args.out.now.bytes.items c.number.new.self.bytes.items c.last.new.out.bytes.items h0 m1 in
    m0

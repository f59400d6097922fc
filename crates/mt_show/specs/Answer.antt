-- What is printed of a show file: the answer to each of its lines, or why there is none.
use Rattle.std.specs.Prelude.{◌≡◌, ℕ, ◌+◌, ◌<◌, List, [], ◌∷◌, ◌++◌, length, All, Result, Ok, Err}
use Rattle.std.specs.List.{join_with_byte}
use Rattle.carrier.specs.declared.first_layout.Refusal1.{Refusal1}
use Rattle.carrier.specs.declared.second_layout.Refusal2.{Refusal2}
use Rattle.mt_script.specs.Lines.{lines_of, ended}
use Rattle.mt_script.specs.Meaning.{IsShort, line_limit}
use Rattle.udp1_packets.specs.Value.{Packet}
use Rattle.udp1_packets.specs.Layout.{Spells}
use Rattle.udp1_packets.specs.Faults.{Refused}
use Rattle.udp2_packets.specs.Value.{Packet as SecondPacket}
use Rattle.udp2_packets.specs.Layout.{Spells as SpellsSecond}
use Rattle.udp2_packets.specs.Faults.{Refused as RefusedSecond}
use Rattle.tunnel_pdus.specs.declared.part.Part.{Part}
use Rattle.tunnel_pdus.specs.declared.part.TunnelRefusal.{TunnelRefusal}
use Rattle.tunnel_pdus.specs.Value.{Pdu, Frame}
use Rattle.tunnel_pdus.specs.Layout.{Spells as SpellsPdu, SpellsFrame}
use Rattle.tunnel_pdus.specs.Faults.{Refused as RefusedPdu, RefusedFrame}
use Rattle.tunnel_pdus.specs.Streams.{Front}
use Rattle.mt_base.specs.declared.kinds.Role.{Role}
use Rattle.dvc_pdus.specs.declared.pdu.DvcRefusal.{DvcRefusal}
use Rattle.dvc_pdus.specs.Value.{Pdu as ChannelPdu}
use Rattle.dvc_pdus.specs.Layout.{Encodes}
use Rattle.dvc_pdus.specs.Faults.{Refused as RefusedChannel}
use Rattle.mt_show.specs.declared.asked.Asked.{Asked}
use Rattle.mt_show.specs.declared.asked.Asked.TheVariants.{FirstLayout, SecondLayout, Tunnel, MainStream, Channel}
use Rattle.mt_show.specs.declared.refusal.ShowRefusal.{ShowRefusal}
use Rattle.mt_show.specs.declared.refusal.ShowRefusal.TheVariants.{BadLine, TooManyLines, NoMemory}
use Rattle.mt_show.specs.Grammar.{first_word, spelled, IsAsked, Keeps, Breaks}
use Rattle.mt_show.specs.Words.{packet_words, refusal_words}
use Rattle.mt_show.specs.SecondWords.{second_words, second_refusal_words}
use Rattle.mt_show.specs.StreamWords.{pdu_words, frame_words, front_words}
use Rattle.mt_show.specs.ChannelWords.{channel_words, channel_refusal_words}

-- bytes as a datagram of the first layout: the packet that they spell, or their first fault
pub data ShownFirst (bytes : List ℕ) (words : List (List ℕ)) : Type 0 where
  packet : (p : Packet) → Spells bytes p → words ≡ packet_words p → ShownFirst bytes words
  refused : (r : Refusal1) → Refused bytes r → words ≡ refusal_words r → ShownFirst bytes words

-- the same of the second layout
pub data ShownSecond (bytes : List ℕ) (words : List (List ℕ)) : Type 0 where
  second_packet : (p : SecondPacket) → SpellsSecond bytes p → words ≡ second_words p → ShownSecond bytes words
  second_refused : (r : Refusal2) → RefusedSecond bytes r → words ≡ second_refusal_words r → ShownSecond bytes words

-- bytes as what the stream of a tunnel begins with, or the main stream
abbrev pub ShownTunnel : List ℕ → List (List ℕ) → Type 0
ShownTunnel bytes words =
    (front : Result (Part Pdu) TunnelRefusal) × Front SpellsPdu RefusedPdu bytes front × (words ≡ front_words pdu_words (length bytes) front)

abbrev pub ShownFrame : List ℕ → List (List ℕ) → Type 0
ShownFrame bytes words =
    (front : Result (Part Frame) TunnelRefusal) × Front SpellsFrame RefusedFrame bytes front × (words ≡ front_words frame_words (length bytes) front)

-- bytes as a channel PDU of this end: the PDU that they are, or their first fault
pub data ShownChannel (from : Role) (bytes : List ℕ) (words : List (List ℕ)) : Type 0 where
  channel : (p : ChannelPdu) → Encodes from bytes p → words ≡ channel_words p → ShownChannel from bytes words
  channel_refused : (r : DvcRefusal) → RefusedChannel from bytes r → words ≡ channel_refusal_words r → ShownChannel from bytes words

-- these words are shown of what was asked for
abbrev pub Shown : Asked → List (List ℕ) → Type 0
Shown (FirstLayout bytes) words = ShownFirst bytes words
Shown (SecondLayout bytes) words = ShownSecond bytes words
Shown (Tunnel bytes) words = ShownTunnel bytes words
Shown (MainStream bytes) words = ShownFrame bytes words
Shown (Channel from bytes) words = ShownChannel from bytes words

-- A line keeps the grammar, and this is its answer: its first word and the words that are shown,
-- with one blank between each two.
pub record Answers (line answer : List ℕ) : Type 0 where
  pub asked : Asked
  pub words : List (List ℕ)
  pub is_asked : IsAsked asked
  pub line_is : line ≡ spelled asked
  pub shown : Shown asked words
  pub answer_is : answer ≡ join_with_byte 32 (first_word asked ∷ words)

-- each line is answered by what stands at its place
abbrev pub AreAnswered : List (List ℕ) → List (List ℕ) → Type 0
AreAnswered [] [] = Unit {0}
AreAnswered (line ∷ lines) (answer ∷ answers) = Answers line answer × AreAnswered lines answers
AreAnswered [] (answer ∷ answers) = ⊥
AreAnswered (line ∷ lines) [] = ⊥

-- the first line that breaks the grammar has this number
pub record FirstBroken (lines : List (List ℕ)) (number : ℕ) : Type 0 where
  pub before : List (List ℕ)
  pub line : List ℕ
  pub after : List (List ℕ)
  pub parts : lines ≡ before ++ line ∷ after
  pub kept : All Keeps before
  pub broken : Breaks line
  pub number_is : number ≡ length before + 1

-- What is printed of a whole text: the answers to its lines, each ended; or its first line that
-- breaks the grammar. That it has too many lines is looked at before its lines are.
abbrev pub ShownAs : List ℕ → Result (List ℕ) ShowRefusal → Type 0
ShownAs text (Ok output) =
    IsShort text × (answers : List (List ℕ)) × AreAnswered (lines_of text) answers × (output ≡ ended answers)
ShownAs text (Err (BadLine number)) = IsShort text × FirstBroken (lines_of text) number
ShownAs text (Err (TooManyLines limit)) = (limit ≡ line_limit) × (line_limit < length (lines_of text))
ShownAs text (Err NoMemory) = ⊥

-- what was answered is what is printed, where memory sufficed
abbrev pub Shows : List ℕ → Result (List ℕ) ShowRefusal → Type 0
Shows text (Ok output) = ShownAs text (Ok output)
Shows text (Err NoMemory) = Unit {0}
Shows text (Err refusal) = ShownAs text (Err refusal)

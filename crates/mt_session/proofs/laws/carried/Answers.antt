use Rattle.std.proofs.Common.{◌++◌, sym, ◌∙◌, ap}
use Rattle.end_calls.specs.Law.{taken_main}
use Rattle.mt_outside.specs.Streams.{StreamTold}
use Rattle.mt_outside.specs.Wires.{WireTold}
use Rattle.mt_session.specs.Carried.{bytes_written}
use Rattle.mt_session.specs.Steps.{entries}
use Rattle.mt_session.specs.declared.tally.Tally.{Tally}
use Rattle.mt_session.proofs.Counts.{read_counts, written_counts, taken_counts}
use Rattle.mt_session.proofs.Lists.{reads, offers, writes, gives, takes, sends, wire_quiets, wire_opened, quiets, endings, stream_opened, stucks}
use Rattle.mt_session.proofs.laws.carried.Goals as goal

pub returns : goal.returns
returns g c = λ e now first s h. record {
  law = g.met.E.End.lawful e first.role (entries s) h.end;
  turns = h.order;
  read = ap {A = StreamTold} (λ t. t.read) h.stream_is ∙ reads first.stream s;
  offered = offers s ∙ ap (λ l. taken_main (entries s) ++ l) (sym h.kept_is);
  written = ap {A = StreamTold} (λ t. t.written) h.stream_is ∙ writes first.stream s;
  given = gives s ∙ ap (λ l. bytes_written s ++ l) (sym h.unwritten_is);
  taken = ap {A = WireTold} (λ t. t.taken) h.wire_is ∙ takes first.wire s;
  sent = ap {A = WireTold} (λ t. t.sent) h.wire_is ∙ sends first.wire s;
  quiet = ap {A = StreamTold} (λ t. t.quiet) h.stream_is ∙ quiets first.stream s;
  stuck = ap {A = StreamTold} (λ t. t.stuck) h.stream_is ∙ stucks first.stream first.role s h.order;
  ended = ap {A = StreamTold} (λ t. t.ended) h.stream_is ∙ endings first.stream s;
  wire_quiet = ap {A = WireTold} (λ t. t.quiet) h.wire_is ∙ wire_quiets first.wire s;
  read_count = ap {A = Tally} (λ t. t.read) h.tally_is ∙ read_counts s;
  written_count = ap {A = Tally} (λ t. t.written) h.tally_is ∙ written_counts first.role s h.order;
  taken_count = ap {A = Tally} (λ t. t.taken) h.tally_is ∙ taken_counts s;
  stream_opened = ap {A = StreamTold} (λ t. t.opened) h.stream_is ∙ stream_opened first.stream s;
  wire_opened = ap {A = WireTold} (λ t. t.opened) h.wire_is ∙ wire_opened first.wire s;
}

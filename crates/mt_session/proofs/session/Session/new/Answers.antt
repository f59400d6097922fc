use Rattle.std.proofs.Common.{◌∙◌}
use Rattle.mt_session.proofs.Lists.{nothing_kept, nothing_unwritten, nothing_counted, nothing_told, nothing_sent, no_moments, no_moment, called_in_turns}
use Rattle.mt_session.proofs.session.Session.new.Goals as goal

pub returns : goal.returns
returns g c = record {
  live = λ role acts stream wire stands. record {
    end = stands;
    kept_is = c.in_ok-input.ensures ∙ nothing_kept acts;
    unwritten_is = c.in_ok-output.ensures ∙ nothing_unwritten acts;
    tally_is = c.new-3.ensures ∙ nothing_counted acts;
    stream_is = nothing_told stream acts;
    wire_is = nothing_sent wire acts;
    moments_are = no_moments acts;
    now_is = no_moment acts;
    order = called_in_turns role acts;
  };
}

use Rattle.capture_check.proofs.Framing.{no_bytes}
use Rattle.capture_check.proofs.main_streams.MainStreams.note.Goals as goal

pub returns-in_default : goal.returns-in_default
returns-in_default c =
    record {
      kept = λ before are held. no_bytes before c.args.self.now are c.args.entry.now (λ side bytes. c.in_default.not-Main side bytes);
      broken = λ before are fails. absurd (cc);
    }

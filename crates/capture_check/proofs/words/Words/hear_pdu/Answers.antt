use Rattle.std.proofs.Common.{ap}
use Rattle.dvc_pdus.specs.Views.{pdu_of}
use Rattle.capture_check.specs.Sayings.{said_by}
use Rattle.capture_check.proofs.Speaking.{data_said, quiet}
use Rattle.capture_check.proofs.words.Words.hear_pdu.Goals as goal

pub returns-in-Caps-clause-kept : goal.returns-in-Caps-clause-kept
returns-in-Caps-clause-kept c said are held = quiet said c.args.self.now (said_by c.args.side (pdu_of c.args.pdu)) (ap (λ p. said_by c.args.side (pdu_of p)) c.in-Caps.is) are

pub returns-in-CreateRequest-clause-kept : goal.returns-in-CreateRequest-clause-kept
returns-in-CreateRequest-clause-kept c said are held = quiet said c.args.self.now (said_by c.args.side (pdu_of c.args.pdu)) (ap (λ p. said_by c.args.side (pdu_of p)) c.in-CreateRequest.is) are

pub returns-in-CreateResponse-clause-kept : goal.returns-in-CreateResponse-clause-kept
returns-in-CreateResponse-clause-kept c said are held = quiet said c.args.self.now (said_by c.args.side (pdu_of c.args.pdu)) (ap (λ p. said_by c.args.side (pdu_of p)) c.in-CreateResponse.is) are

pub returns-in-Close-clause-kept : goal.returns-in-Close-clause-kept
returns-in-Close-clause-kept c said are held = quiet said c.args.self.now (said_by c.args.side (pdu_of c.args.pdu)) (ap (λ p. said_by c.args.side (pdu_of p)) c.in-Close.is) are

pub returns-in-DataFirst-clause-kept : goal.returns-in-DataFirst-clause-kept
returns-in-DataFirst-clause-kept c said are held =
    data_said said c.args.self.now (said_by c.args.side (pdu_of c.args.pdu)) c.args.side c.in-DataFirst.id (ap (λ p. said_by c.args.side (pdu_of p)) c.in-DataFirst.is) ((c.may_send.ensures said are).0 held) are

pub returns-in-Data-clause-kept : goal.returns-in-Data-clause-kept
returns-in-Data-clause-kept c said are held =
    data_said said c.args.self.now (said_by c.args.side (pdu_of c.args.pdu)) c.args.side c.in-Data.id (ap (λ p. said_by c.args.side (pdu_of p)) c.in-Data.is) ((c.may_send-in-Data.ensures said are).0 held) are

pub returns-in-CompressedFirst-clause-kept : goal.returns-in-CompressedFirst-clause-kept
returns-in-CompressedFirst-clause-kept c said are held =
    data_said said c.args.self.now (said_by c.args.side (pdu_of c.args.pdu)) c.args.side c.in-CompressedFirst.id (ap (λ p. said_by c.args.side (pdu_of p)) c.in-CompressedFirst.is) ((c.may_send-in-CompressedFirst.ensures said are).0 held) are

pub returns-in-Compressed-clause-kept : goal.returns-in-Compressed-clause-kept
returns-in-Compressed-clause-kept c said are held =
    data_said said c.args.self.now (said_by c.args.side (pdu_of c.args.pdu)) c.args.side c.in-Compressed.id (ap (λ p. said_by c.args.side (pdu_of p)) c.in-Compressed.is) ((c.may_send-in-Compressed.ensures said are).0 held) are

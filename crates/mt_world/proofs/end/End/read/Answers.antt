use Rattle.std.proofs.Common.{ap}
use Rattle.dvc_pdus.specs.Views.{pdu_of}
use Rattle.mt_world.proofs.Steps.{on_ok, at_pdu}
use Rattle.mt_world.proofs.end.End.read.Goals as goal

pub returns-in-Caps : goal.returns-in-Caps
returns-in-Caps c role acts left handed s =
    on_ok c.read_capabilities.result (λ h. at_pdu c.read_capabilities.new.self role _ left handed _ _ (ap pdu_of c.in-Caps.is) (h _ _)) (c.read_capabilities.ensures role _ left handed s)

pub returns-in-CreateRequest : goal.returns-in-CreateRequest
returns-in-CreateRequest c role acts left handed s =
    on_ok c.read_create.result (λ h. at_pdu c.read_create.new.self role _ left handed _ _ (ap pdu_of c.in-CreateRequest.is) (h _ _)) (c.read_create.ensures role _ left handed s)

pub returns-in-CreateResponse : goal.returns-in-CreateResponse
returns-in-CreateResponse c role acts left handed s =
    at_pdu c.read_answer.new.self role _ left handed _ _ (ap pdu_of c.in-CreateResponse.is) (c.read_answer.ensures role _ left handed s)

pub returns-in-Data : goal.returns-in-Data
returns-in-Data c role acts left handed s =
    on_ok c.read_data.result (λ h. at_pdu c.read_data.new.self role _ left handed _ _ (ap pdu_of c.in-Data.is) h) (c.read_data.ensures role _ left handed s)

use Rattle.std.proofs.Common.{map, take}
use Rattle.dvc_channels.specs.Fragments.{fragments_of}
use Rattle.end_session.specs.MessageGiven.{carrying}
use Rattle.endpoint.specs.Laws.{SameLaw}
use Rattle.endpoint.proofs.MessagesGiven.{Gives}
use Rattle.endpoint.proofs.sending.give_message.Given as goal

abbrev pub invariant-loop-k : goal.invariant-loop-k
invariant-loop-k g l = record {
  gives : Gives g.C.Carrier.stands g.C.Carrier.left g.C.Carrier.condition g.C.Carrier.load (map carrying (take l.k (fragments_of l.id l.message))) l.initial.link l.link;
  law : SameLaw g.C.Carrier.law l.initial.link l.link;
}

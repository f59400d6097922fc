use Rattle.std.proofs.Common.{◌≡◌, ◌++◌, take}
use Rattle.dvc_channels.specs.Fragments.{fragments_of}
use Rattle.end_session.specs.MessageGiven.{frames_of}
use Rattle.end_session.proofs.sending.say_message.Given as goal

abbrev pub invariant-loop-k : goal.invariant-loop-k
invariant-loop-k l = l.outgoing ≡ record l.initial.outgoing { main = (l.initial.outgoing).main ++ frames_of (take l.k (fragments_of l.id l.message)) }

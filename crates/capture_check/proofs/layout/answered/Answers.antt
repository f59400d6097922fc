use Rattle.udp1_packets.specs.Views.{syn_of}
use Rattle.capture_check.proofs.Openings.{unanswering}
use Rattle.capture_check.proofs.layout.answered.Goals as goal

pub returns-else-syn-clause-none : goal.returns-else-syn-clause-none
returns-else-syn-clause-none c layout answers = unanswering c.args.datagram.now (syn_of c.in-Some.syn) layout c.if-syn.false c.in-Some.ensures.only answers

pub returns-in-None-clause-none : goal.returns-in-None-clause-none
returns-in-None-clause-none c layout answers = c.in-None.ensures.only answers.0 answers.1

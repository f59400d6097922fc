use Rattle.dvc_channels.proofs.Making.{cuts_make}
use Rattle.dvc_channels.proofs.Sending.{sent_are_cut}
use Rattle.dvc_channels.proofs.laws.fragments_make_messages.Goals as goal

pub returns-clause-in_order : goal.returns-clause-in_order
returns-clause-in_order c id sent = (cuts_make _ sent (sent_are_cut id sent)).in_order

pub returns-clause-messages : goal.returns-clause-messages
returns-clause-messages c id sent = (cuts_make _ sent (sent_are_cut id sent)).messages_are

pub returns-clause-whole : goal.returns-clause-whole
returns-clause-whole c id sent = (cuts_make _ sent (sent_are_cut id sent)).after_is

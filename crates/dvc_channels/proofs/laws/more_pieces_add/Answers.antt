use Rattle.std.proofs.Common.{None}
use Rattle.dvc_channels.proofs.Further.{messages_behind, under_way_behind, first_in_order}
use Rattle.dvc_channels.proofs.laws.more_pieces_add.Goals as goal

pub returns-clause-messages : goal.returns-clause-messages
returns-clause-messages c pieces more = messages_behind None pieces more

pub returns-clause-under_way : goal.returns-clause-under_way
returns-clause-under_way c pieces more = under_way_behind None pieces more

pub returns-clause-in_order : goal.returns-clause-in_order
returns-clause-in_order c pieces more h = first_in_order None pieces more h

use Rattle.std.proofs.Common.{ap}
use Rattle.std.specs.Option.{option_copied}
use Rattle.capture_check.proofs.Asking.{carries_data, asks_wrongly, carries_none}
use Rattle.capture_check.proofs.requests.Requests.ask.Goals as goal

pub returns-in-Some-clause-kept : goal.returns-in-Some-clause-kept
returns-in-Some-clause-kept c before agreed are held number =
    carries_data before c.args.self.now are number c.args.datagram.now (option_copied c.carried.result) c.in-Some.bytes.now (ap option_copied c.in-Some.is) (c.carried.ensures before agreed) ((c.may_carry-may.ensures before are).0 held)

pub returns-in-Some-clause-broken : goal.returns-in-Some-clause-broken
returns-in-Some-clause-broken c before agreed are fails number =
    asks_wrongly before c.args.self.now are number c.args.datagram.now (option_copied c.carried.result) c.in-Some.bytes.now c.may_carry-may.result (ap option_copied c.in-Some.is) (c.carried.ensures before agreed) (c.may_carry-may.ensures before are) fails

pub returns-in-None-clause-kept : goal.returns-in-None-clause-kept
returns-in-None-clause-kept c before agreed are held number =
    carries_none before c.args.self.now are number c.args.datagram.now (option_copied c.carried.result) (ap option_copied c.in-None.is) (c.carried.ensures before agreed)

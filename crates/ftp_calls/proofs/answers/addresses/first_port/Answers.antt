use Rattle.ftp_calls.proofs.PortFacts.{no_extended, port_is, too_large}
use Rattle.ftp_calls.proofs.answers.addresses.first_port.Goals as goal

pub returns-in_default : goal.returns-in_default
returns-in_default c = no_extended c.args.text.now c.in_default.ensures

pub returns-in-Some-number : goal.returns-in-Some-number
returns-in-Some-number c = port_is c.args.text.now c.in-Some.span c.in-Some-number.port c.in-Some.ensures c.in-Some-number.ensures.within

pub returns-in-None : goal.returns-in-None
returns-in-None c = too_large c.args.text.now c.in-Some.span c.in-Some.ensures c.in-None.ensures.within

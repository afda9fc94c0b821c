-- What a task is told that waits in two places.
use Rattle.ftp_transport.specs.declared.waiting.Waiting.{Waiting}
use Rattle.ftp_transport.specs.declared.waiting.Waiting.TheVariants.{Nothing, Registered, Over}

-- the wait is over where it is over in either place; else the task is registered where it is in either
abbrev pub first_over : Waiting → Waiting → Waiting
first_over Over other = Over
first_over Registered Over = Over
first_over Registered Registered = Registered
first_over Registered Nothing = Registered
first_over Nothing other = other

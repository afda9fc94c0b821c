use Rattle.std.proofs.Common.{arith}
use Rattle.std.specs.Prelude.{None}
use Rattle.std.proofs.lemmas.Str.Pattern.{strip_suffix_char}
use Rattle.ftp_calls.proofs.QuoteFacts.{no_return}
use Rattle.ftp_calls.proofs.answers.second_line.before_return.Goals as goal

pub returns-in-None : goal.returns-in-None
returns-in-None c = no_return c.args.line.now (strip_suffix_char 13 c.args.line.now None c.in-None.ensures.cases (omega arith))

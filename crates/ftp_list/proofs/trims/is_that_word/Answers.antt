use Rattle.std.proofs.Common.{sym, arith}
use Rattle.ftp_list.proofs.TextFacts.{is_word_length}
use Rattle.ftp_list.proofs.trims.is_that_word.Goals as goal

pub returns-then-text-word : goal.returns-then-text-word
returns-then-text-word c = sym (is_word_length c.args.word.now c.args.text.now (λ e. omega (arith, e)))

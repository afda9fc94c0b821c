use Rattle.std.proofs.Common.{◌≡◌, List, ℕ, sym, ◌∙◌, ap, true}
use Rattle.std.specs.Prelude.{Ok}
use Rattle.std.specs.List.{list_all}
use Rattle.std.proofs.lemmas.List.{take_all}
use Rattle.ftp_base.specs.Latin1.{is_latin1}
use Rattle.ftp_base.proofs.Latin1Lemmas.{numbers_are}
use Rattle.ftp_base.proofs.encoding.latin1.bytes_of.Goals as goal

pub returns-clause-ok : goal.returns-clause-ok
returns-clause-ok c =
    let letters = c.args.letters.now in
    let whole = take_all c.loop-letter.letter-index letters c.loop-letter-test.false in
    let all : list_all is_latin1 letters ≡ true = ap (list_all is_latin1) (sym whole) ∙ c.loop-letter.invariant.1 in
    numbers_are letters all ∙ ap (λ (bytes : List ℕ). Ok bytes) (sym whole ∙ sym c.loop-letter.invariant.0)

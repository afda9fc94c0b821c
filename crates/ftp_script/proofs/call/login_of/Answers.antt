use Rattle.std.proofs.Common.{◌≡◌, sym, subst, IfOk}
use Rattle.ftp_script.proofs.Splitting.{words-one, words-two, words-three}
use Rattle.ftp_script.proofs.call.login_of.Goals as goal

pub returns-in_default : goal.returns-in_default
returns-in_default c = sym (words-one _ _ c.in_default.ensures.parts)

pub returns-in-Some-cut : goal.returns-in-Some-cut
returns-in-Some-cut c =
    sym (words-three _ _ _ _ 32 c.in-Some-cut.field-0.1.now c.in-Some.ensures.parts c.in-Some-cut.ensures.parts)

pub returns-in-None : goal.returns-in-None
returns-in-None c =
    subst (λ w. IfOk c.pair_of.result (λ call. call ≡ w)) (sym (words-two _ _ _ _ c.in-Some.ensures.parts c.in-None.ensures.parts)) c.pair_of.ensures

use Rattle.std.proofs.Common.{◌∷◌, ◌==◌, ◌+◌, ◌-◌, suc, take, drop, length, ◌≡◌, ◌∙◌, sym, ap, add-one}
use Rattle.std.specs.List.{slice_split}
use Rattle.std.proofs.lemmas.List.{take_rest}
use Rattle.ftp_script.proofs.Splitting.{split-at, split-none}
use Rattle.ftp_script.proofs.cut.cut.Goals as goal

pub returns-in-Some-clause-parts : goal.returns-in-Some-clause-parts
returns-in-Some-clause-parts c =
    let bytes = c.args.bytes.now in
    let n = c.in-Some.end in
    let same : drop (suc n) bytes ≡ take (length bytes - (n + 1)) (drop (n + 1) bytes) = ap (λ k. drop k bytes) (sym (add-one n)) ∙ sym (take_rest bytes (n + 1)) in
    split-at _ bytes n c.in-Some.ensures.0.high (λ k low high is. c.in-Some.ensures.0.before k low high is) c.in-Some.ensures.1
    ∙ ap (λ l. take n bytes ∷ slice_split (λ b. b == c.args.separator) l) same

pub returns-in-None-clause-parts : goal.returns-in-None-clause-parts
returns-in-None-clause-parts c = split-none _ _ (λ k low high is. c.in-None.ensures k low high is)

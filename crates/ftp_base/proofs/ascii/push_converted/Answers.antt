use Rattle.std.proofs.Common.{◌≡◌, ℕ, false, List, [], ◌∷◌, ◌++◌, ◌-◌, length, take, drop, sym, ap, ◌∙◌, subst}
use Rattle.std.proofs.Math.Seq.{take-length}
use Rattle.ftp_base.specs.Ascii.{converted}
use Rattle.ftp_base.proofs.AsciiLemmas.{front_plain, front_kept, line_left, line_written}
use Rattle.ftp_base.proofs.ascii.push_converted.Goals as goal

pub push_line-requires : goal.push_line-requires
push_line-requires c = record {
  plain =
      let P : List ℕ → Type 0 = λ l. converted c.loop-end.after_return l ≡ l in
      subst P (sym c.split_at.ensures.front) (front_plain c.loop-end.rest.now c.in-Some.end (λ k low high is. c.in-Some.ensures.0.before k low high is) c.loop-end.after_return);
}

pub loop-end-preserved : goal.loop-end-preserved
loop-end-preserved c =
    let invariant = c.loop-end.invariant in
    let out = c.loop-end.out.items in
    let after = c.loop-end.after_return in
    let rest = c.loop-end.rest.now in
    let behind = c.split_at.result.1.now in
    let less = c.in-Some.ensures.0.high in
    let is = c.in-Some.ensures.1 in
    let added : c.push_line.new.out.items ≡ out ++ converted after (take c.in-Some.end rest ++ 10 ∷ []) =
    c.in_ok-push_line.ensures.written ∙ ap (λ l. out ++ converted after (l ++ 10 ∷ [])) c.split_at.ensures.front in
    record {
      written = ap (λ l. l ++ converted false (take (length behind - 1) (drop 1 behind))) added ∙ line_written after rest behind c.in-Some.end less is c.split_at.ensures.back out ∙ invariant.written;
      last = line_left after rest behind c.in-Some.end less is c.split_at.ensures.back ∙ invariant.last;
      front = ap (take (length c.args.out.now.items)) added ∙ front_kept c.args.out.now.items out (converted after (take c.in-Some.end rest ++ 10 ∷ [])) invariant.front;
    }

pub returns-clause-written : goal.returns-clause-written
returns-clause-written c =
    let out = c.loop-end.out.items in
    let after = c.loop-end.after_return in
    let rest = c.loop-end.rest.now in
    let all = take-length rest in
    let plain : converted after rest ≡ rest =
    ap (converted after) (sym all) ∙ front_plain rest (length rest) (λ k low high is. c.in_default.ensures k low high is) after ∙ all in
    c.in_ok-extend_from_slice.ensures.items ∙ ap (λ l. out ++ l) (sym plain) ∙ c.loop-end.invariant.written

use Rattle.std.proofs.Common.{◌≡◌, ◌-◌, take, get_or, arith, sym, ◌∙◌, ap}
use Rattle.ftp_list.specs.declared.class.Class.TheVariants.{Blank}
use Rattle.ftp_list.specs.Shapes.{is_in}
use Rattle.ftp_list.specs.Texts.{trim_back}
use Rattle.std.proofs.Common.{true, false}
use Rattle.ftp_list.proofs.TextFacts.{trim_back_blank, trim_back_stop, last_taken}
use Rattle.ftp_list.proofs.trims.trimmed_back.Goals as goal
use Rattle.ftp_list.proofs.trims.trimmed_back.Goals.{then-loop-count-test+else-contains, else-loop-count-test}

pub loop-count-preserved : goal.loop-count-preserved
loop-count-preserved c =
    let text = c.args.text.now in
    let n = c.loop-count.count in
    let x = c.index-text-count.result in
    let cut = last_taken text n x (omega arith) (omega arith) in
    let blank : is_in Blank (get_or text (n - 1) x) ≡ true = ap (is_in Blank) (sym c.index-text-count.is) ∙ sym c.contains.ensures ∙ c.if-contains.true in
    (omega arith, sym (ap trim_back cut ∙ trim_back_blank (take (n - 1) text) (get_or text (n - 1) x) blank) ∙ c.loop-count.invariant.1)

pub returns : goal.returns
returns c =
    let text = c.args.text.now in
    let n = c.loop-count.count in
    c.front.ensures ∙ elim c.loop-count-test.branch [
      | then-loop-count-test+else-contains w ↦
          let x = w.index-text-count.result in
          let cut = last_taken text n x (omega arith) (omega arith) in
          let stop : is_in Blank (get_or text (n - 1) x) ≡ false = ap (is_in Blank) (sym w.index-text-count.is) ∙ sym w.contains.ensures ∙ w.if-contains.false in
          cut ∙ sym (trim_back_stop (take (n - 1) text) (get_or text (n - 1) x) stop) ∙ sym (ap trim_back cut) ∙ c.loop-count.invariant.1
      | else-loop-count-test w ↦
          let none_left : n ≡ 0 = omega arith in
          ap (λ k. take k text) none_left ∙ sym (ap (λ k. trim_back (take k text)) none_left) ∙ c.loop-count.invariant.1
    ]

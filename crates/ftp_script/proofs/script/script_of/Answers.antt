use Rattle.std.proofs.Common.{◌∙◌, refl, sym, arith}
use Rattle.ftp_script.proofs.Reading.{last-line, made_same, right-line, wrong-line}
use Rattle.ftp_script.proofs.script.script_of.Goals as goal

pub returns-in_default-2 : goal.returns-in_default-2
returns-in_default-2 c =
    c.loop-line.invariant.read ∙ wrong-line _ _ _ _ _ _ _ _ c.in-Some.ensures.parts (sym c.in_ok-line.ensures ∙ c.in_default-2.is)

pub loop-line-preserved : goal.loop-line-preserved
loop-line-preserved c = record {
  read =
      c.loop-line.invariant.read
      ∙ right-line _ _ _ _ _ _ _ _ _ _ _ _ _ c.in-Some.ensures.parts (sym c.in_ok-line.ensures ∙ c.in-Some-2.is) c.in_ok-add_line.ensures.server c.in_ok-add_line.ensures.data_conns c.in_ok-add_line.ensures.calls c.in_ok-add_line.ensures.lenient;
  counted = omega (arith, c.loop-line.invariant.counted, c.in-Some.ensures.less);
}

pub returns-in_default-3 : goal.returns-in_default-3
returns-in_default-3 c =
    c.loop-line.invariant.read ∙ wrong-line _ _ _ _ _ _ _ _ c.in_default.ensures.parts (sym c.in_ok-line-2.ensures ∙ c.in_default-3.is)

pub returns : goal.returns
returns c =
    c.loop-line.invariant.read
    ∙ last-line _ _ _ _ _ _ _ _ _ _ _ _ c.in_default.ensures.parts (sym c.in_ok-line-2.ensures ∙ c.in-Some-3.is) c.in_ok-add_line-2.ensures.server c.in_ok-add_line-2.ensures.data_conns c.in_ok-add_line-2.ensures.calls c.in_ok-add_line-2.ensures.lenient
    ∙ made_same _ _ _ _ _ _ _ _ (sym c.from_vec.ensures) (sym c.from_vec-2.ensures) (sym c.from_vec-3.ensures) refl

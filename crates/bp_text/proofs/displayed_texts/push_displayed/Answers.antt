use Rattle.bp_text.proofs.Common.{common_steps, ◌∙◌, ◌++◌, ap, arith}
use Rattle.bp_text.proofs.DisplayedTexts.{all_displayed, displayed_next}
use Rattle.bp_text.proofs.PartsOfTexts.{both_added}
use Rattle.bp_text.proofs.displayed_texts.push_displayed.Goals as goal

pub loop-at-preserved : goal.loop-at-preserved
loop-at-preserved c = grind (arith, common_steps, displayed_next, both_added)

pub returns : goal.returns
returns c = c.loop-at.invariant.0 ∙ ap (λ xs. c.args.line.now.items ++ xs) (all_displayed c.args.text.now c.loop-at.at c.loop-at-test.false)

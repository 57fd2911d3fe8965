use Rattle.bp_text.proofs.Common.{◌∙◌, [], ap, sym, refl, arith, take_all, position_after}
use Rattle.bp_text.proofs.lines.position_of.Goals as goal

pub returns-then-at-text : goal.returns-then-at-text
returns-then-at-text c = c.after_all.ensures [] refl

pub returns : goal.returns
returns c = c.after_all-2.ensures [] refl ∙ ap position_after (sym (take_all c.args.at c.args.text.now (omega (arith, c.if-at-text.false))))

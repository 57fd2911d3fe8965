use Rattle.bp_text.proofs.Common.{drop, displayed, displayed_after}
use Rattle.bp_text.proofs.Givings.{IsLeft}
use Rattle.bp_text.proofs.displayed_texts.put_displayed.Given as goal

abbrev pub invariant-loop-at : goal.invariant-loop-at
invariant-loop-at g l =
    IsLeft g.W.Write.contents l.fn.sink l.sink (displayed l.text) (displayed_after l.left (drop l.at l.text))

use Rattle.bp_text.proofs.Common.{◌≡◌, ◌++◌, take, drop, displayed, displayed_after}
use Rattle.bp_text.proofs.displayed_texts.push_displayed.Given as goal

abbrev pub invariant-loop-at : goal.invariant-loop-at
invariant-loop-at l =
    (l.line.items ≡ l.initial.line.items ++ take l.at (displayed l.text))
    × (drop l.at (displayed l.text) ≡ displayed_after l.left (drop l.at l.text))

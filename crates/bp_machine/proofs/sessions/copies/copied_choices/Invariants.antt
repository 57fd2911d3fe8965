use Rattle.bp_machine.proofs.Common.{◌≡◌, take}
use Rattle.bp_machine.proofs.sessions.copies.copied_choices.Given as goal

abbrev pub invariant-loop-choice : goal.invariant-loop-choice
invariant-loop-choice l = l.copies.items ≡ take l.choice-index l.choices

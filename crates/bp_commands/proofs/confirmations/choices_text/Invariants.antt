use Rattle.bp_commands.proofs.Common.{◌≡◌, flat_map, take, choice_text}
use Rattle.bp_commands.proofs.confirmations.choices_text.Given as goal

abbrev pub invariant-loop-choice : goal.invariant-loop-choice
invariant-loop-choice l = l.text.items ≡ flat_map (choice_text l.json) (take l.choice-index l.choices)

use Rattle.btrun.proofs.Common.{◌≡◌, ◌<◌, ℕ, get_or, Check, NAMED, command_name}
use Rattle.btrun.proofs.arguments.table.command_named.Given as goal

abbrev pub invariant-loop-command : goal.invariant-loop-command
invariant-loop-command l = (k : ℕ) → k < l.command-index → l.name ≡ command_name (get_or NAMED k Check) → ⊥

use Rattle.bp_source.proofs.Common.{◌≡◌, map, take}
use Rattle.bp_source.proofs.statements.statement_positions.Given as goal

abbrev pub invariant-loop-statement : goal.invariant-loop-statement
invariant-loop-statement l = l.positions.items ≡ map (λ statement. statement.position) (take l.statement-index l.statement-items)

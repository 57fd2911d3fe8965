use Rattle.bp_view.proofs.Common.{◌≡◌, Some, length, slice_get, next_at, AreReady, SourceStatement}
use Rattle.bp_machine.specs.declared.tops.Top.{Top}
use Rattle.bp_view.specs.declared.statement_members.StatementMembers.{StatementMembers}
use Rattle.bp_view.proofs.statement_members.members_of_statements.Given as goal

abbrev pub invariant-loop-statement : goal.invariant-loop-statement
invariant-loop-statement l =
    (length l.members.items ≡ l.statement-index)
    × ((x : Top) (s : SourceStatement) (m : StatementMembers) → slice_get l.program.statements.now x.number ≡ Some s
    → slice_get l.members.items x.number ≡ Some m → AreReady (next_at l.program.procs.now s x) m.front.items m.text.items)

use Rattle.bp_syntax.proofs.Common.{◌≡◌, ◌+◌, drop, run, is_continuation}
use Rattle.bp_syntax.proofs.lexemes.run.Given as goal

abbrev pub invariant-loop-i : goal.invariant-loop-i
invariant-loop-i l = l.i + run (is_continuation l.kind) (drop l.i l.text) ≡ run (is_continuation l.kind) l.text

use Rattle.bp_confirm.proofs.Common.{take, AreDeclaredLines, AreKnown, kept_lines}
use Rattle.bp_confirm.proofs.declarations.are_declared.Given as goal

abbrev pub invariant-loop-line : goal.invariant-loop-line
invariant-loop-line l = record {
  lines : AreDeclaredLines l.checked l.setup (kept_lines (take l.line-index l.kept));
  known : AreKnown l.checked l.known.items;
}

use Rattle.bp_view.proofs.Common.{None, take, binding, Grown, variables_text}
use Rattle.bp_view.proofs.setup_lines.push_values.Given as goal

abbrev pub invariant-loop-n : goal.invariant-loop-n
invariant-loop-n l = Grown l.fn.view l.view (variables_text l.format None (binding (take l.n l.globals) l.setup.init))

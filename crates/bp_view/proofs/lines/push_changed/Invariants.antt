use Rattle.bp_view.proofs.Common.{flat_map, take, Grown, entry_of, entry_text}
use Rattle.bp_view.proofs.lines.push_changed.Given as goal

abbrev pub invariant-loop-change : goal.invariant-loop-change
invariant-loop-change l = Grown l.fn.note l.note (flat_map (λ x. entry_text l.format (entry_of x)) (take l.change-index l.changes))

use Rattle.bp_view.proofs.Common.{flat_map, take, string_item, Grown}
use Rattle.bp_view.proofs.setup_lines.push_entries.Given as goal

abbrev pub invariant-loop-thread : goal.invariant-loop-thread
invariant-loop-thread l = Grown l.fn.items l.items (flat_map string_item (take l.thread l.setup.entries))

use Rattle.bp_messages.proofs.Common.{flat_map, take, printed_line, Given}
use Rattle.bp_messages.proofs.replay_lines.put_rows.Given as goal

abbrev pub invariant-loop-row : goal.invariant-loop-row
invariant-loop-row g l =
    Given g.W.Write.contents l.fn.sink l.sink (flat_map printed_line (take l.row-index l.rows))

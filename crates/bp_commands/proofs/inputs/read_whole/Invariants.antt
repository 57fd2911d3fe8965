use Rattle.bp_commands.proofs.Common.{◌+◌, ◌-◌, ◌≤◌, length, Consumes}
use Rattle.bp_commands.proofs.inputs.read_whole.Given as goal

abbrev pub invariant-loop-count : goal.invariant-loop-count
invariant-loop-count g l = record {
  size : length l.chunk ≤ 4096;
  whole : 4096 ≤ length l.chunk;
  short : length l.bytes.items ≤ l.limit;
  taken : Consumes (g.R.Read.remaining l.fn.input) (g.R.Read.remaining l.input) l.bytes.items;
}

abbrev pub decreases-loop-count : goal.decreases-loop-count
decreases-loop-count g l = l.limit + 1 - length l.bytes.items

use Rattle.bp_text.proofs.Common.{length, take, ◌-◌, ◌≤◌, Appends}
use Rattle.bp_text.proofs.sinks.put.Given as goal

abbrev pub invariant-loop-done : goal.invariant-loop-done
invariant-loop-done g l = record {
  within : l.done ≤ length l.bytes;
  grown : Appends (g.W.Write.contents l.fn.out) (g.W.Write.contents l.out) (take l.done l.bytes);
}

abbrev pub decreases-loop-done : goal.decreases-loop-done
decreases-loop-done g l = length l.bytes - l.done

use Rattle.bp_confirm.proofs.Common.{flat_map, take, own_line}
use Rattle.std.specs.Io.KnownBytes.{Appends}
use Rattle.bp_confirm.proofs.noted_steps.put_steps.Given as goal

abbrev pub invariant-loop-step : goal.invariant-loop-step
invariant-loop-step g l =
    Appends (g.W.Write.contents l.fn.out) (g.W.Write.contents l.out) (flat_map own_line (take l.step-index l.steps))

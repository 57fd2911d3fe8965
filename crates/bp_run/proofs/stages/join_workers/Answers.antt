use Rattle.bp_run.proofs.Common.{arith, rules, common_steps}
use Rattle.bp_run.proofs.stages.join_workers.Goals as goal

pub loop-handle-preserved : goal.loop-handle-preserved
loop-handle-preserved g c = record {
  can = tt;
  ends = tt;
  room = search rules;
  threads = grind (arith, common_steps);
}

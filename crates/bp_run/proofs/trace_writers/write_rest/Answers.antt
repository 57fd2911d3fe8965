use Rattle.bp_run.proofs.Played.{rest_begins, rest_more}
use Rattle.bp_run.proofs.trace_writers.write_rest.Goals as goal

pub loop-call-init : goal.loop-call-init
loop-call-init g c = rest_begins _ _ _ c.requires

pub loop-call-preserved : goal.loop-call-preserved
loop-call-preserved g c =
    rest_more _ _ _ _ _ _ _ c.in-Some.call c.loop-call.invariant c.in-Some.ensures.rest c.line.ensures.given

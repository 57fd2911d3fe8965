use Rattle.bp_trace.proofs.EndLineAt.{no_thread_no_call, no_tail_no_call}
use Rattle.bp_trace.proofs.trace_lines.call_at.Goals as goal

pub returns-in_default : goal.returns-in_default
returns-in_default c = no_thread_no_call c.args.threads c.args.text.now c.requires c.in_default.ensures

pub returns-in-None : goal.returns-in-None
returns-in-None c = no_tail_no_call c.args.threads c.args.text.now c.requires c.in-Some.thread c.in-Some.rest.now c.in-Some.ensures c.in-None.ensures

use Rattle.bp_commands.proofs.explanations.of_input.Goals as goal

pub returns-in-Trace-Setup : goal.returns-in-Trace-Setup
returns-in-Trace-Setup c = rw (c.in-Trace-Setup.is-0, c.in-Trace-Setup.is-1) c.explain_trace-in-Trace-Setup.ensures

use Rattle.bp_commands.proofs.trace_commands.TraceCommandPairCommand.apply.Goals as goal

pub returns-in-Replay : goal.returns-in-Replay
returns-in-Replay g c = rw c.in-Replay.is (c.replay_trace.ensures c.args.text.now c.in_ok-code.ensures)

pub returns-in-Migrate : goal.returns-in-Migrate
returns-in-Migrate g c = rw c.in-Migrate.is (c.migrate_trace.ensures c.args.text.now c.in_ok-code.ensures)

pub returns-in-Shrink : goal.returns-in-Shrink
returns-in-Shrink g c = rw c.in-Shrink.is (c.shrink_trace.ensures c.args.text.now c.in_ok-code.ensures)

use Rattle.bp_trace.proofs.replays.migrate.Goals as goal

pub write_with_live_threads-requires : goal.write_with_live_threads-requires
write_with_live_threads-requires g c = rw c.as_slice.ensures.value c.in_ok-replayed.ensures.report.left_live

use Rattle.std.proofs.lemmas.List.Folds.{flat_map-map}
use Rattle.bp_trace.specs.Replays.{row_of}
use Rattle.bp_messages.proofs.Common.{row_line, and_then, written_at_end}
use Rattle.bp_messages.proofs.replay_lines.show_replay.Goals as goal

pub returns : goal.returns
returns g c =
    let rows = rw c.as_slice.ensures.value at c.put_rows.ensures in
    rw (flat_map-map row_line row_of c.args.replayed.now.printed.items)
    (written_at_end _ _ _ _ _ _ c.out-1.given c.new-sink.ensures (and_then rows c.put_outcome.ensures) c.finish.ensures)

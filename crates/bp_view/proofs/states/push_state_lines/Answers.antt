use Rattle.bp_view.proofs.Growth.{and_then, ends}
use Rattle.bp_view.proofs.states.push_state_lines.Goals as goal

pub returns : goal.returns
returns c =
    let threads = ends (rw c.as_slice.ensures.value at c.push_threads.ensures) in
    c.put_pieces.ensures.followed _ _ (and_then c.push_failed_line.ensures (and_then c.push_globals_line.ensures threads))

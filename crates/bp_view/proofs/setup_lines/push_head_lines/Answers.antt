use Rattle.bp_view.proofs.Growth.{and_then}
use Rattle.bp_view.proofs.setup_lines.push_head_lines.Goals as goal

pub returns : goal.returns
returns c =
    let end = and_then (rw c.seed.ensures at c.push_seed.ensures) c.put.ensures in
    and_then c.push_threads.ensures (and_then c.push_globals.ensures (and_then c.push_limit_lines.ensures end))

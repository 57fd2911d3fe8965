use Rattle.bp_view.proofs.Common.{arith}
use Rattle.bp_view.proofs.view_contexts.shown_trace_before.Goals as goal

pub returns : goal.returns
returns c =
    let start = c.in_ok-start.ensures c.in_ok-shown.shown.replayed.history.items in
    let none = start.made in
    (c.in_ok-shown.ensures.0, start.is, omega (arith, none))

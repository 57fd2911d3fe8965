use Rattle.bp_view.proofs.Common.{common_steps, arith}
use Rattle.bp_view.proofs.BegunViews.{line_of_some}
use Rattle.bp_view.proofs.Growth.{and_then}
use Rattle.bp_view.proofs.setup_lines.push_globals.Goals as goal

pub returns : goal.returns
returns c = grind (arith, common_steps, line_of_some, and_then)

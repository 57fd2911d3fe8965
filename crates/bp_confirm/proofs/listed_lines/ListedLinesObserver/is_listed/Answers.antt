use Rattle.bp_confirm.proofs.Common.{eq-eqb, rules}
use Rattle.bp_confirm.proofs.LinesKept.{elsewhere, if_it_sees, step_listed}
use Rattle.bp_confirm.proofs.ValuesSeen.{stands_where}
use Rattle.bp_confirm.proofs.listed_lines.ListedLinesObserver.is_listed.Goals as goal

pub returns-then-not-is_there : goal.returns-then-not-is_there
returns-then-not-is_there c = search (rules, stands_where, step_listed, elsewhere)

pub returns : goal.returns
returns c = search (rules, stands_where, eq-eqb, step_listed, if_it_sees)

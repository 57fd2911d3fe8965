use Rattle.bp_view.proofs.Common.{append_assoc, codes, length-append, rules, take-append-add}
use Rattle.bp_view.proofs.ShownLines.{cut_long}
use Rattle.bp_view.proofs.statement_columns.cut_after.Goals as goal

pub returns : goal.returns
returns c = search (rules, length-append, codes, take-append-add, append_assoc, cut_long)

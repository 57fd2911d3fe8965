use Rattle.bp_code.proofs.Common.{rules}
use Rattle.bp_code.proofs.ErrorsOfParts.{labels_more, pushed_label, no_label}
use Rattle.bp_code.proofs.procedures.gather_labels.Goals as goal
use Rattle.bp_code.proofs.procedures.gather_labels.Goals.{in-Some+in_ok-push-in-Some, in-None}

pub loop-stmt-preserved : goal.loop-stmt-preserved
loop-stmt-preserved c = search (rules, labels_more, in-Some+in_ok-push-in-Some, pushed_label, in-None, no_label)

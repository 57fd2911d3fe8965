use Rattle.bp_code.proofs.Common.{map, expression_of}
use Rattle.bp_code.proofs.ErrorsOfParts.{both_sides}
use Rattle.bp_code.proofs.forms.wrong_sides.Goals as goal

pub returns : goal.returns
returns c =
    rw c.least.ensures (both_sides c.args.targets.now (map expression_of c.args.values.now) _ _
    c.uneven_sides-found.ensures (rw c.in_ok-names.ensures at c.least_repeat.ensures))

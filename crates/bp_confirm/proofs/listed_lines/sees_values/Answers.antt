use Rattle.bp_confirm.proofs.Common.{values_in}
use Rattle.bp_confirm.proofs.LinesKept.{seen_or_not}
use Rattle.bp_confirm.proofs.listed_lines.sees_values.Goals as goal

pub returns : goal.returns
returns c = λ text now i are shown.
    seen_or_not now i c.first_mismatch.result (values_in c.args.values.now) (λ r. r.place) (λ r. r.seen) c.is_none.result c.is_none.ensures
    (c.first_mismatch.ensures.first text now i are shown)

use Rattle.bp_code.proofs.Common.{Limit, IsTwice, IsPast, Only}
use Rattle.bp_code.proofs.ErrorsOfParts.{finds_both}
use Rattle.bp_code.proofs.tables.error_of_names.Goals as goal

pub returns : goal.returns
returns c =
    rw c.least.ensures (finds_both (Only c.args.error (IsTwice c.args.names.now))
    (Only Limit (IsPast c.args.limit c.args.names.now)) _ _ c.least_repeat-found.ensures c.first_past.ensures)

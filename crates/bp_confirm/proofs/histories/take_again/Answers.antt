use Rattle.bp_confirm.proofs.Common.{subst, IsNotFollowed, last_bits}
use Rattle.bp_confirm.proofs.OneStepRefusal.{never_refused}
use Rattle.bp_confirm.proofs.histories.take_again.Goals as goal

pub returns-in-Err-Refusal-clause-refused : goal.returns-in-Err-Refusal-clause-refused
returns-in-Err-Refusal-clause-refused c = λ text other h are well_formed followed.
    let t = c.args.code.now.tree in
    let s = c.args.setup.now in
    let last = last_bits c.args.last in
    let lines = c.args.lines.now in
    let refused = subst (IsNotFollowed text t s last lines) c.in-Err-Refusal.field-0-is (c.in-Err-Refusal.ensures.refused text are) in
    absurd (never_refused text t well_formed s other last lines h followed c.in-Err-Refusal.field-0-0 refused)

use Rattle.bp_code.proofs.Common.{refl}
use Rattle.bp_code.proofs.ErrorsOfParts.{refusal_of}
use Rattle.bp_code.proofs.checks.check.Goals as goal

pub returns-in-Ok-Some : goal.returns-in-Ok-Some
returns-in-Ok-Some c =
    let found = rw (c.globals.ensures.value, c.procs.ensures.value) at c.in-Ok-Some.ensures in
    record { well_formed = (refl, refusal_of c.args.tree c.in-Ok-Some.field-0-0 (rw c.in-Ok-Some.field-0-is at found)) }

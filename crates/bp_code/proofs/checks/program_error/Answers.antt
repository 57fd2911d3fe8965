use Rattle.bp_code.proofs.ErrorsOfParts.{all_parts}
use Rattle.bp_code.proofs.checks.program_error.Goals as goal

pub returns : goal.returns
returns c =
    rw (c.least-2.ensures, c.least.ensures) (all_parts
    (record { globals = c.args.globals.now; procedures = c.args.procs.now }) _ _ _
    (rw c.in_ok-known.ensures at c.error_of_names-first.ensures)
    (rw (c.names.ensures, c.in_ok-callees.ensures) at c.error_of_names-second.ensures)
    (rw (c.in_ok-known.ensures, c.in_ok-callees.ensures) at c.in_ok-third.ensures))

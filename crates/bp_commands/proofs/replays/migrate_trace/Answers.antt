use Rattle.bp_commands.proofs.Common.{err_from_is_err_and, Pair}
use Rattle.bp_commands.proofs.Driven.{migrated, not_migrated}
use Rattle.bp_commands.proofs.replays.migrate_trace.Goals as goal

pub returns-in_err-migrate : goal.returns-in_err-migrate
returns-in_err-migrate g c = λ text of.
    let t = c.args.code.now.tree in
    let p = err_from_is_err_and c.from_residual.result c.from_residual.ensures.1 in
    let given : Pair = record { text = text; input = c.args.trace.now } in
    rw (p.1, p.2) (not_migrated given t of _ _ c.in_err-migrate.field-0.0 c.in_err-migrate.ensures)

pub returns : goal.returns
returns g c = λ text of.
    let t = c.args.code.now.tree in
    let given : Pair = record { text = text; input = c.args.trace.now } in
    migrated given t of _ _ c.in_ok-migrate.field-0 c.in_ok-migrate.ensures

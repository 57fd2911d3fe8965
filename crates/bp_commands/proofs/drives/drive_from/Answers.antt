use Rattle.bp_commands.proofs.Common.{common_steps, arith, err_from_is_err_and, Pair}
use Rattle.bp_commands.proofs.Answered.{refused_with}
use Rattle.bp_commands.proofs.Driven.{driven, not_driven}
use Rattle.bp_commands.proofs.drives.drive_from.Goals as goal

pub returns-in_err-opened : goal.returns-in_err-opened
returns-in_err-opened g c = grind (arith, common_steps, err_from_is_err_and, refused_with)

pub returns-in_err-drive : goal.returns-in_err-drive
returns-in_err-drive g c =
    let p = err_from_is_err_and c.from_residual-in_err-drive.result c.from_residual-in_err-drive.ensures.1 in
    let given : Pair = record { text = c.args.text.now; input = c.args.schedule.now } in
    let x = c.in_ok-opened.opened in
    let is = c.in_ok-opened.ensures in
    rw (p.1, p.2) (not_driven c.args.start.now c.args.named.now given x.code.tree x.setup is.answer _ _
    c.in_err-drive.field-0.0 c.in_err-drive.ensures)

pub returns : goal.returns
returns g c =
    let given : Pair = record { text = c.args.text.now; input = c.args.schedule.now } in
    let x = c.in_ok-opened.opened in
    let is = c.in_ok-opened.ensures in
    driven c.args.start.now c.args.named.now given x.code.tree x.setup is.answer _ _
    c.in_ok-drive.field-0 c.in_ok-drive.ensures

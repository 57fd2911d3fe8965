use Rattle.bp_view.proofs.Common.{◌∙◌, refl, rules, err_from_is_err_and, Memory}
use Rattle.std.proofs.Common.{length-take-le}
use Rattle.bp_view.proofs.BegunViews.{none_begun}
use Rattle.bp_view.proofs.ViewableContexts.{missing, stands_at, stopped, unnamed, viewable, viewed}
use Rattle.bp_view.proofs.views.write_view.Goals as goal

pub returns-in_err-check_thread : goal.returns-in_err-check_thread
returns-in_err-check_thread g c = search (rules, err_from_is_err_and, missing)

pub returns-in-Some : goal.returns-in-Some
returns-in-Some g c = λ text trace shown is before names.
    unnamed shown c.args.options c.args.file.now _ c.in_ok-check_thread.ensures c.in-Some.n (rw names at c.in-Some.ensures)

pub returns-in_err-head : goal.returns-in_err-head
returns-in_err-head g c = λ text trace shown is before names.
    let p = err_from_is_err_and c.from_residual-in_err-head.result c.from_residual-in_err-head.ensures.1 in
    let x = c.view_context_of-context.ensures in
    let history = x.history ∙ c.as_slice-history.ensures.value in
    let can = viewable shown (stands_at c.code.ensures c.is_of_a_program.ensures is.program) c.deref.ensures.value (λ are. x.known text are names) x.widths history in
    rw (p.1, p.2) (stopped shown c.in_ok-check_thread.ensures (rw names at c.in_default.ensures) refl history x.options x.file _ _ Memory (none_begun can))

pub returns-in_err-statements : goal.returns-in_err-statements
returns-in_err-statements g c = λ text trace shown is before names.
    let p = err_from_is_err_and c.from_residual-in_err-statements.result c.from_residual-in_err-statements.ensures.1 in
    let x = c.view_context_of-context.ensures in
    let history = x.history ∙ c.as_slice-history.ensures.value in
    let can = viewable shown (stands_at c.code.ensures c.is_of_a_program.ensures is.program) c.deref.ensures.value (λ are. x.known text are names) x.widths history in
    rw (p.1, p.2) (stopped shown c.in_ok-check_thread.ensures (rw names at c.in_default.ensures) refl history x.options x.file _ _ Memory (none_begun can))

pub returns : goal.returns
returns g c = search (rules, viewable, stands_at, length-take-le, viewed, stopped)

use Rattle.bp_confirm.proofs.Common.{subst, rules, AreDeclaredLines, IsDeclared, kept_lines}
use Rattle.bp_confirm.proofs.OneTextRefusal.{first_undeclared_line}
use Rattle.bp_confirm.proofs.LinesKept.{all_at}
use Rattle.bp_confirm.proofs.declarations.check_lines.Goals as goal

pub returns-then-are_declared : goal.returns-then-are_declared
returns-then-are_declared c =
    let t = c.args.checked.now in
    let s = c.args.setup.now in
    subst (AreDeclaredLines t s) c.lines.view_is
    (all_at (IsDeclared t s) (kept_lines c.lines.inside.kept.items) c.lines.inside.places.items
    (subst (λ xs. AreDeclaredLines t s (kept_lines xs)) c.as_slice.ensures.value (c.are_declared.ensures.lines c.if-are_declared.true)) c.lines.invariant)

pub returns-then-line-threads : goal.returns-then-line-threads
returns-then-line-threads c = search (rules, first_undeclared_line)

pub returns-in-Some : goal.returns-in-Some
returns-in-Some c = search (rules, first_undeclared_line)

use Rattle.bp_view.proofs.Common.{◌≡◌, ◌≤◌, ℕ, List, length, take, Program, skipped, filter_of, HasMade, HaveMembers, IsViewable, view_head}
use Rattle.bp_view.proofs.BegunViews.{HasWritten}
use Rattle.bp_view.proofs.views.write_parts.Given as goal

abbrev pub invariant-loop-n : goal.invariant-loop-n
invariant-loop-n g l =
    let w = l.fn.writer in
    let x = w.context in
    let s = w.session.setup in
    let whole = x.history.now in
    (t : Program) (text : List ℕ) → IsViewable w.session.code t text s l.report x
    → HasMade t (take w.made whole) w → w.made ≤ length whole → w.made ≤ skipped (filter_of x.options) (length whole)
    → w.text.bytes.items ≡ view_head x.options x.program.globals.now s x.widths
    → HaveMembers x.options.format x.program w.statements.items
    → HasWritten t text s x l.n l.writer (g.W.Write.contents l.fn.out) (g.W.Write.contents l.out)

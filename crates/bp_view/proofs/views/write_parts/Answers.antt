use Rattle.bp_view.proofs.Common.{arith, err_from_is_err_and}
use Rattle.bp_view.proofs.BegunViews.{begun_so_far, end_there, line_there, line_written, lines_then, playable_next, rest_cut, whole_cut, whole_written, written_before}
use Rattle.bp_view.proofs.views.write_parts.Goals as goal

pub loop-n-init : goal.loop-n-init
loop-n-init g c = λ t text can made few before same members. written_before made few before same members

pub returns-in_default : goal.returns-in_default
returns-in_default g c = λ t text can made few before same members.
    let has = c.loop-n.invariant t text can made few before same members in
    begun_so_far can _ _ _ _ has.grown has.lines has.few

pub returns-in_err-put_batch : goal.returns-in_err-put_batch
returns-in_err-put_batch g c = λ t text can made few before same members.
    let has = c.loop-n.invariant t text can made few before same members in
    let within = c.loop-n-test.true in
    let line = line_there can has _ within c.in-Ok.ensures.line in
    let p = err_from_is_err_and c.from_residual.result c.from_residual.ensures.1 in
    let (error, part) = c.in_err-put_batch.ensures.sent in
    rw (p.1, p.2, error) (rest_cut can _ _ _ _ has.grown (lines_then can has _ line) within _ part)

pub loop-n-preserved : goal.loop-n-preserved
loop-n-preserved g c = λ t text can made few before same members.
    let has = c.loop-n.invariant t text can made few before same members in
    let within = c.loop-n-test.true in
    let line = line_there can has _ within c.in-Ok.ensures.line in
    let after = c.in-Ok.ensures.made t _ has.made (playable_next can has _ within) in
    line_written can has _ within line after c.in-Ok.ensures.kept c.in_ok-put_batch.ensures.sent

pub returns-in_err-finish : goal.returns-in_err-finish
returns-in_err-finish g c = λ t text can made few before same members.
    let has = c.loop-n.invariant t text can made few before same members in
    let p = err_from_is_err_and c.from_residual-in_err-finish.result c.from_residual-in_err-finish.ensures.1 in
    rw (p.1, p.2) (begun_so_far can _ _ _ _ has.grown has.lines has.few)

pub returns-in_err-put : goal.returns-in_err-put
returns-in_err-put g c = λ t text can made few before same members.
    let has = c.loop-n.invariant t text can made few before same members in
    let past = c.loop-n-test.false in
    let p = err_from_is_err_and c.from_residual-in_err-put.result c.from_residual-in_err-put.ensures.1 in
    let end = end_there can has c.loop-n.writer.text c.push_end.new.view past c.push_end.ensures in
    let cut = rw c.deref.ensures.value at c.in_err-put.ensures in
    rw (p.1, p.2) (whole_cut can _ _ _ _ has.grown has.lines (omega (arith, past, has.few)) _ (end c.in_ok-finish.ensures).1 _ cut)

pub returns : goal.returns
returns g c = λ t text can made few before same members.
    let has = c.loop-n.invariant t text can made few before same members in
    let past = c.loop-n-test.false in
    let end = end_there can has c.loop-n.writer.text c.push_end.new.view past c.push_end.ensures in
    let put = rw c.deref.ensures.value at c.in_ok-put.ensures in
    whole_written can _ _ _ _ has.grown has.lines (omega (arith, past, has.few)) _ (end c.in_ok-finish.ensures).1 _ put

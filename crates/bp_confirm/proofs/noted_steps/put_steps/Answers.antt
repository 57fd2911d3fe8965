use Rattle.bp_confirm.proofs.Common.{sym, subst, err_from_is_err_and, own_line}
use Rattle.bp_text.proofs.Givings.{flat_map_at, AppendsPart_within}
use Rattle.bp_text.specs.Writing.{AppendsPart}
use Rattle.bp_confirm.proofs.noted_steps.put_steps.Goals as goal

pub returns-in_err-put_step : goal.returns-in_err-put_step
returns-in_err-put_step g c =
    let p = err_from_is_err_and c.from_residual.result c.from_residual.ensures.1 in
    rw p.1 (subst (AppendsPart (g.W.Write.contents c.args.out.now) (g.W.Write.contents c.put_step.new.out))
    (sym (flat_map_at own_line c.args.steps.now c.loop-step.step-index _ c.loop-step-test.true))
    (AppendsPart_within _ _ _ _ _ _ c.loop-step.invariant c.in_err-put_step.ensures))

use Rattle.bp_trace.proofs.Common.{common_steps, refl, arith}
use Rattle.bp_trace.proofs.ReplayedTexts.{head_fits, head_opened}
use Rattle.bp_trace.proofs.replays.open.Goals as goal

pub returns-in-Ok-clause-fits : goal.returns-in-Ok-clause-fits
returns-in-Ok-clause-fits c =
    head_fits c.args.text.now c.in_ok-head.head _ c.in_ok-head.ensures refl refl c.if-text-gt-MAX_TRACE.false

pub returns-in-Ok-clause-judged : goal.returns-in-Ok-clause-judged
returns-in-Ok-clause-judged c = grind (arith, common_steps, head_opened)

use Rattle.bp_advice.proofs.Common.{rules}
use Rattle.bp_advice.proofs.AllKinds.{no_gaps, has_no_tokens, after_gap}
use Rattle.bp_advice.proofs.contexts.is_gap.Goals as goal

pub loop-lexeme-preserved : goal.loop-lexeme-preserved
loop-lexeme-preserved c gaps = search (rules, after_gap)

pub returns : goal.returns
returns c is = has_no_tokens _ (c.loop-lexeme.invariant (rw c.in_default.ensures.lexeme no_gaps))

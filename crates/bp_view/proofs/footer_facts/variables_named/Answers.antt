use Rattle.bp_view.proofs.Common.{common_steps, arith}
use Rattle.bp_view.proofs.SingleFacts.{all_mapped}
use Rattle.bp_view.proofs.footer_facts.variables_named.Goals as goal

pub returns : goal.returns
returns c = grind (arith, common_steps, all_mapped)

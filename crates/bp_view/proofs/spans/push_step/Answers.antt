use Rattle.bp_view.proofs.Common.{common_steps, arith, rules, nat_tests, both_added}
use Rattle.bp_view.proofs.SpansOfHistories.{with_step_after}
use Rattle.bp_view.proofs.spans.push_step.Goals as goal

pub returns-then-span-step : goal.returns-then-span-step
returns-then-span-step c = search (rules, nat_tests, with_step_after)

pub returns : goal.returns
returns c = grind (arith, common_steps, nat_tests, with_step_after, both_added)

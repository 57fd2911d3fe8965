use Rattle.bp_run.proofs.Common.{◌∙◌, ◌≡◌, Ok, rules, sym}
use Rattle.bp_run.proofs.runner.run_code.Goals as goal

pub returns : goal.returns
returns g c =
    let own = rw c.new-writer.ensures at c.play-answer.ensures.same_reference in
    let last = c.out-1.given.1 (sym (own ∙ c.new-2.ensures.same_reference)) in
    let played = rw (c.new-writer.ensures, c.new-2.ensures.now) at c.play-answer.ensures.answer in
    let is : c.play-answer.result.answer ≡ Ok c.in_ok-answer.field-0 = search rules in
    rw last (rw is at played)

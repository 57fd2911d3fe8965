use Rattle.bp_machine.proofs.Common.{◌+◌, ap, ◌∙◌, started, increment_of, multiplier_64, pcg32}
use Rattle.bp_machine.proofs.StandsAfterTransition.{at_first_word}
use Rattle.bp_machine.proofs.choices.Choices.new.Goals as goal

pub returns : goal.returns
returns c =
    let begun = c.new-generator.ensures ∙ ap (λ thread. started 64 multiplier_64 c.args.seed (increment_of 64 (54 + thread))) c.from.ensures in
    at_first_word c.args.seed c.args.thread c.next_word.result c.next_word.new.self (c.next_word.ensures ∙ ap pcg32 begun)

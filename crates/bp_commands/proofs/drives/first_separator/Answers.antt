use Rattle.bp_commands.proofs.Common.{arith, ◌∙◌, sym, rules}
use Rattle.bp_commands.proofs.Driven.{HasNoneAt, line_next, none_next, none_within, none_other, split_at}
use Rattle.bp_commands.proofs.drives.first_separator.Goals as goal
use Rattle.bp_commands.proofs.drives.first_separator.Goals.{then-begins+in_default, else-begins}

pub returns-in-Some : goal.returns-in-Some
returns-in-Some c = search (rules, split_at)

pub loop-at-preserved : goal.loop-at-preserved
loop-at-preserved c =
    let none : HasNoneAt c.args.input.now c.loop-at.at = elim c.if-begins.branch [
      | then-begins+in_default w ↦ none_other c.args.input.now c.loop-at.at w.in_default.ensures
      | else-begins w ↦ none_within c.args.input.now c.loop-at.at (sym c.loop-at.invariant.line ∙ w.if-begins.false)
    ] in
    let test = c.loop-at-test.true in
    record {
      within = omega arith;
      line = sym (line_next c.args.input.now c.loop-at.at test);
      none = none_next c.args.input.now c.loop-at.at c.loop-at.invariant.none none;
    }

pub returns : goal.returns
returns c =
    λ front bytes rest line separated whole.
    let least = c.loop-at.invariant.none front bytes rest line separated whole in
    let test = c.loop-at-test.false in
    omega arith

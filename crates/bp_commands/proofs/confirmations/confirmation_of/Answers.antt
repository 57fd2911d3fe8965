use Rattle.bp_commands.proofs.Common.{◌∙◌, ap, refl, choices_text}
use Rattle.bp_commands.proofs.confirmations.confirmation_of.Goals as goal

pub returns : goal.returns
returns c = λ stands.
    let h = c.args.confirmed.now.history.items in
    let reported = c.report-report.ensures c.args.confirmed.now.session.code.tree h stands in
    record {
      reported = reported;
      said = c.in_ok-said.ensures h stands reported;
      choices_are = c.in_ok-choices.ensures ∙ ap (choices_text c.args.task.now.json) c.as_slice.ensures.value;
      expected_is = refl;
      json_is = refl;
    }

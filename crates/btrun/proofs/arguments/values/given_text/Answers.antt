use Rattle.btrun.proofs.Common.{◌∙◌, first_value-rows, found_of}
use Rattle.btrun.proofs.arguments.values.given_text.Goals as goal

pub returns : goal.returns
returns c = c.get_str.ensures ∙ first_value-rows (found_of c.args.arguments.now) c.args.name.now

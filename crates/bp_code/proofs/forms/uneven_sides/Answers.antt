use Rattle.bp_code.proofs.Common.{sym, ◌∙◌, length-map, expression_of}
use Rattle.bp_code.proofs.forms.uneven_sides.Goals as goal

pub returns-then-targets-values : goal.returns-then-targets-values
returns-then-targets-values c = λ g at x. x.1.0 (c.if-targets-values.true ∙ sym (length-map c.args.values.now expression_of))

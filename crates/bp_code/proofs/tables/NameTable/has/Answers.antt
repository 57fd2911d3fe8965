use Rattle.bp_code.proofs.Common.{◌∙◌, ap, is_some}
use Rattle.bp_code.proofs.RepeatedNames.{first_has}
use Rattle.bp_code.proofs.tables.NameTable.has.Goals as goal

pub returns : goal.returns
returns c = c.is_some.ensures ∙ ap is_some c.first.ensures ∙ first_has c.args.text.now 0 c.args.self.now

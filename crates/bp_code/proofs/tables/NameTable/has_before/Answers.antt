use Rattle.bp_code.proofs.Common.{ap, sym, ◌∙◌, zero-add, first_index}
use Rattle.bp_code.proofs.RepeatedNames.{below, first_below}
use Rattle.bp_code.proofs.tables.NameTable.has_before.Goals as goal

pub returns-in-Some : goal.returns-in-Some
returns-in-Some c =
    ap (λ o. below c.args.text.now o c.args.count) c.in-Some.ensures
    ∙ ap (λ n. below c.args.text.now (first_index c.args.self.now c.args.text.now) n) (sym (zero-add c.args.count))
    ∙ first_below c.args.text.now 0 c.args.count c.args.self.now

pub returns-in-None : goal.returns-in-None
returns-in-None c =
    ap (λ o. below c.args.text.now o c.args.count) c.in-None.ensures
    ∙ ap (λ n. below c.args.text.now (first_index c.args.self.now c.args.text.now) n) (sym (zero-add c.args.count))
    ∙ first_below c.args.text.now 0 c.args.count c.args.self.now

use Rattle.bp_code.proofs.Common.{ap, sym, ◌∙◌, rules, procedure_named, first_index}
use Rattle.bp_code.proofs.RepeatedNames.{named_first, named_nowhere, got_at}
use Rattle.bp_code.proofs.uses.Callees.find.Goals as goal

pub returns-in_err-first : goal.returns-in_err-first
returns-in_err-first c = search (rules, named_nowhere)

pub returns : goal.returns
returns c =
    let first = ap (λ ns. first_index ns c.args.text.now) (sym c.self.invariant) ∙ sym c.in_ok-first.ensures in
    got_at c.get.result c.self.inside.procs.now c.in_ok-first.first c.get.ensures.lookup.0 c.get.ensures.lookup.1
    ∙ sym (named_first c.args.text.now c.in_ok-first.first c.self.inside.procs.now first)
    ∙ ap (λ qs. procedure_named qs c.args.text.now) c.self.view_is

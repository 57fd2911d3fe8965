use Rattle.bp_view.proofs.Common.{◌∙◌, ◌++◌, ◌/◌, ◌%◌, ap, subst, sym, decimal, arith, Grown}
use Rattle.std.proofs.lemmas.Fmt.{decimal_digit, decimal_step}
use Rattle.bp_view.proofs.Growth.{and_then}
use Rattle.bp_view.proofs.buffers.Buffer.put_tens.Goals as goal

pub returns : goal.returns
returns c =
    let n = c.args.number in
    let last = ap (λ d. decimal (n / 10) ++ d) (decimal_digit (n % 10) (omega arith)) in
    subst (Grown c.args.self.now c.put_digit-2.new.self) (last ∙ sym (decimal_step n c.requires.0 (omega (arith, c.requires.1)))) (and_then c.put_digit.ensures c.put_digit-2.ensures)

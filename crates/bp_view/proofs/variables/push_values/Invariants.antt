use Rattle.bp_view.proofs.Common.{◌+◌, take, option_map, bits_of, valuation_of, Grown, variables_text}
use Rattle.bp_view.proofs.variables.push_values.Given as goal

abbrev pub invariant-loop-n : goal.invariant-loop-n
invariant-loop-n l =
    let values = valuation_of (take l.n l.names) (λ k. bits_of l.word (l.first + k)) in
    Grown l.fn.line l.line (variables_text l.format (option_map (λ p. p.now) l.owner) values)

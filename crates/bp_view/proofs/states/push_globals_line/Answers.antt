use Rattle.bp_view.proofs.Common.{common_steps, ◌≡◌, ◌++◌, ◌<◌, List, [], ◌∷◌, None, length, codes, refl, arith, Name, Bits, valuation_of, Columns, globals_line, variables_text}
use Rattle.bp_view.proofs.ChangedEntries.{from_first}
use Rattle.bp_view.proofs.Growth.{and_then}
use Rattle.bp_view.proofs.states.push_globals_line.Goals as goal

line_of_some : (xs : List Name) (bits : Bits) → 0 < length xs
    → globals_line (valuation_of xs bits) ≡ (codes "globals" ++ variables_text Columns None (valuation_of xs bits)) ++ codes "\n"
line_of_some [] bits some = absurd (omega (arith, some))
line_of_some (x ∷ xs) bits some = refl

pub returns : goal.returns
returns c = grind (arith, common_steps, from_first, line_of_some, and_then)

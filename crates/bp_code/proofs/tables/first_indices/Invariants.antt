use Rattle.bp_code.proofs.Common.{◌≡◌, List, ℕ, drop, names_of, index_in, first_index_from}
use Rattle.bp_code.proofs.tables.first_indices.Given as goal

abbrev pub invariant-loop-i : goal.invariant-loop-i
invariant-loop-i l = (text : List ℕ) → index_in l.first text ≡ first_index_from l.i (drop l.i (names_of l.names)) text

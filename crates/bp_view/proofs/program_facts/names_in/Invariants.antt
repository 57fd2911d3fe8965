use Rattle.bp_view.proofs.Common.{◌≡◌, ◌++◌, ℕ, List, false, length, map, piece_size, pieces, trimmed}
use Rattle.bp_view.proofs.program_facts.names_in.Given as goal

pub record Split (whole rest : List ℕ) (names : List (List ℕ)) (size : ℕ) : Type 0 where
  pub is : map trimmed (pieces false whole) ≡ names ++ map trimmed (pieces false rest)
  pub size_is : size ≡ piece_size false rest

abbrev pub invariant-loop-size : goal.invariant-loop-size
invariant-loop-size l = Split l.list l.rest (map (λ n. n.now) l.names.items) l.size

abbrev pub decreases-loop-size : goal.decreases-loop-size
decreases-loop-size l = length l.rest

use Rattle.bp_confirm.proofs.Common.{◌≡◌, ℕ, List, length, take, Configuration, AreShown, source_points_of, SeesValues, values_in}
use Rattle.bp_confirm.proofs.ReadLines.{AreReadTo}
use Rattle.bp_confirm.proofs.values.first_mismatch.Given as goal

abbrev pub invariant-loop-value : goal.invariant-loop-value
invariant-loop-value l = record {
  read : AreReadTo l.values l.rest l.place;
  sees : (text : List ℕ) (c : Configuration) (i : ℕ)
      → l.points ≡ source_points_of text l.checked
      → AreShown l.checked c i l.top l.globals
      → SeesValues c i (take l.place (values_in l.values));
}

abbrev pub decreases-loop-value : goal.decreases-loop-value
decreases-loop-value l = length l.rest

use Rattle.bp_confirm.proofs.Common.{length, take, AreDeclared, AreKnown, values_in}
use Rattle.bp_confirm.proofs.ReadLines.{AreReadTo}
use Rattle.bp_confirm.proofs.declarations.undeclared_value.Given as goal

abbrev pub invariant-loop-value : goal.invariant-loop-value
invariant-loop-value l = record {
  read : AreReadTo l.values l.rest l.n;
  first : AreDeclared l.checked (take l.n (values_in l.values));
  known : AreKnown l.checked l.known.items;
}

abbrev pub decreases-loop-value : goal.decreases-loop-value
decreases-loop-value l = length l.rest

use Rattle.bp_confirm.proofs.Common.{◌≤◌, length, AreReadTo, Valuation, value}
use Rattle.bp_confirm.proofs.fields.values_at.Given as goal

abbrev pub invariant-loop-more : goal.invariant-loop-more
invariant-loop-more l = record {
  few : length l.rest ≤ length l.text;
  read : (vs : Valuation) × AreReadTo value l.text vs l.rest;
}

abbrev pub decreases-loop-more : goal.decreases-loop-more
decreases-loop-more l = length l.rest

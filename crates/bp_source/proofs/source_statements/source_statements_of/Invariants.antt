use Rattle.bp_source.proofs.Common.{◌≡◌, take, position_at, places_of, AreSourceStatementsAt, ends}
use Rattle.bp_source.proofs.source_statements.source_statements_of.Given as goal

abbrev pub invariant-loop-start : goal.invariant-loop-start
invariant-loop-start l = record {
  position : l.position ≡ position_at l.text l.at;
  procedure : l.procedure ≡ ends (take l.start-index l.start-items);
  statements : AreSourceStatementsAt l.text l.checked.procedures (take l.start-index (places_of l.checked.procedures)) l.statements.items;
}

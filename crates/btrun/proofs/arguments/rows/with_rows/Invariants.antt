use Rattle.btrun.proofs.Common.{◌≡◌, drop, false, map, app_of, out-Command, row_rule, with_rules}
use Rattle.btrun.proofs.arguments.rows.with_rows.Given as goal

abbrev pub invariant-loop-row : goal.invariant-loop-row
invariant-loop-row l = record {
  shape : with_rules (app_of l.command) (map row_rule (drop l.row-index l.rows)) ≡ with_rules (app_of l.fn.command) (map row_rule l.rows);
  globals : (out-Command l.command).has_globals ≡ false;
}

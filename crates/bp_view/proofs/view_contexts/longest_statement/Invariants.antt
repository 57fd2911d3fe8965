use Rattle.bp_view.proofs.Common.{◌≡◌, ◌<◌, ◌^◌, map, take, shown_texts, shortened, longest}
use Rattle.bp_view.proofs.view_contexts.longest_statement.Given as goal

abbrev pub invariant-loop-statement : goal.invariant-loop-statement
invariant-loop-statement l = record {
  is : l.longest ≡ longest (map (shortened l.room) (shown_texts (take l.statement-index l.statements)));
  fits : l.longest < 2 ^ 63;
}

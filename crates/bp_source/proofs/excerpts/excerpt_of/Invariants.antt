use Rattle.bp_source.proofs.Common.{length, IsOneLine}
use Rattle.bp_source.proofs.OneStatement.{ReadsTo}
use Rattle.bp_source.proofs.excerpts.excerpt_of.Given as goal

abbrev pub invariant-loop-lexeme : goal.invariant-loop-lexeme
invariant-loop-lexeme l = record {
  one_line : IsOneLine l.line.items;
  reads : ReadsTo l.text l.line.items l.had_gap l.reads_choice l.rest;
}

abbrev pub decreases-loop-lexeme : goal.decreases-loop-lexeme
decreases-loop-lexeme l = length l.rest

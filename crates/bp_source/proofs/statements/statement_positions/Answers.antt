use Rattle.bp_source.proofs.Common.{take_all, rules}
use Rattle.bp_source.proofs.SourceStatementLists.{positions_are}
use Rattle.bp_source.proofs.statements.statement_positions.Goals as goal

pub returns : goal.returns
returns c = search (rules, take_all, positions_are)

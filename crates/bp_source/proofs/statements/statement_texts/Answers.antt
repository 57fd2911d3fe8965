use Rattle.bp_source.proofs.Common.{rules}
use Rattle.bp_source.proofs.SourceStatementLists.{texts_are}
use Rattle.bp_source.proofs.statements.statement_texts.Goals as goal

pub returns : goal.returns
returns c = search (rules, texts_are)

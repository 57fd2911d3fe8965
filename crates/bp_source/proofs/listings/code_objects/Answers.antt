use Rattle.bp_source.proofs.Common.{rules}
use Rattle.bp_source.proofs.SourceStatementLists.{place_count, statement_count}
use Rattle.bp_source.proofs.listings.code_objects.Goals as goal

pub push_instructions-requires : goal.push_instructions-requires
push_instructions-requires c = search (rules, statement_count, place_count)

pub returns : goal.returns
returns c = search (rules, statement_count)

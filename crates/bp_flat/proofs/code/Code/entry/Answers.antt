use Rattle.bp_flat.proofs.Common.{rules}
use Rattle.bp_flat.proofs.SlotsOfNames.{entry_found, entry_missing}
use Rattle.bp_flat.proofs.code.Code.entry.Goals as goal

pub returns-in-Some-clause-program : goal.returns-in-Some-clause-program
returns-in-Some-clause-program c = search (rules, entry_found)

pub returns-in-None-clause-program : goal.returns-in-None-clause-program
returns-in-None-clause-program c = search (rules, entry_missing)

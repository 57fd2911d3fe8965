use Rattle.btrun.proofs.Common.{codes, string_bytes, rules, raw_values-rows}
use Rattle.btrun.proofs.NoHelpEntered.{if_ok}
use Rattle.btrun.proofs.GivenArguments.{names_read, no_names_read}
use Rattle.btrun.proofs.arguments.values.entries.Goals as goal

pub returns-in-Some : goal.returns-in-Some
returns-in-Some c = search (rules, names_read, raw_values-rows, codes, if_ok, string_bytes)

pub returns-in-None : goal.returns-in-None
returns-in-None c = search (rules, no_names_read, raw_values-rows, codes, if_ok, string_bytes)

use Rattle.bp_confirm.proofs.Common.{rules}
use Rattle.bp_confirm.proofs.ValuesSeen.{by_no_name, by_own_name, by_qualified_name}
use Rattle.bp_confirm.proofs.values.own_value.Goals as goal

pub returns-in-Some : goal.returns-in-Some
returns-in-Some c = search (rules, by_own_name)

pub returns-in-Some-own_name : goal.returns-in-Some-own_name
returns-in-Some-own_name c = search (rules, by_qualified_name)

pub returns-in-None : goal.returns-in-None
returns-in-None c = search (rules, by_no_name)

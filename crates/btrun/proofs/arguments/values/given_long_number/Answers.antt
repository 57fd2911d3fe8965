use Rattle.btrun.proofs.Common.{found_of, one_of, one_text-rows, rows_of, rules}
use Rattle.btrun.proofs.GivenArguments.{IsNumberIn, number_is, number_read}
use Rattle.btrun.proofs.arguments.values.given_long_number.Goals as goal

pub returns : goal.returns
returns c =
    let text = one_of c.args.name.now (rows_of (found_of c.args.arguments.now)) in
    let read : IsNumberIn 64 text c.get_one.result = search (rules, one_text-rows, number_read) in
    number_is 64 text c.get_one.result read

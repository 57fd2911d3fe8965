use Rattle.bp_machine.proofs.Common.{rules, err_from_is_err_and}
use Rattle.bp_machine.proofs.SessionAnswers.{within_threads}
use Rattle.bp_machine.proofs.SetupInRange.{stands_for_own}
use Rattle.bp_machine.proofs.PrintsAlike.{nothing_printed, none_printed, instruction_printed}
use Rattle.bp_machine.proofs.sessions.Session.next_print.Goals as goal

pub returns-in_default-top : goal.returns-in_default-top
returns-in_default-top c = search (rules, within_threads, nothing_printed, stands_for_own)

pub returns-in_default-get : goal.returns-in_default-get
returns-in_default-get c = search (rules, within_threads, none_printed, stands_for_own)

pub returns-in_err-printed : goal.returns-in_err-printed
returns-in_err-printed c = search (rules, instruction_printed, stands_for_own, err_from_is_err_and, within_threads)

pub returns : goal.returns
returns c = search (rules, instruction_printed, stands_for_own, within_threads)

use Rattle.bp_machine.proofs.Common.{ap, arith, rules, Flat, SessionOf}
use Rattle.bp_machine.proofs.SessionAnswers.{global_here, no_global}
use Rattle.bp_machine.proofs.SetupInRange.{few_globals, stands_for_own}
use Rattle.bp_machine.proofs.sessions.Session.global.Goals as goal

pub returns-then-n-globals : goal.returns-then-n-globals
returns-then-n-globals c = search (rules, no_global, stands_for_own)

pub overflow_cast-n : goal.overflow_cast-n
overflow_cast-n c = omega (arith, c.if-n-globals.false, c.globals.ensures.value, few_globals c.code.result.now c.is_of_a_program.ensures, ap (λ (k : Flat). k.globals) c.code.ensures, ap (λ (y : SessionOf). y.code.globals) c.self.view_is)

pub global-requires : goal.global-requires
global-requires c = omega (arith, c.if-n-globals.false, c.globals.ensures.value, few_globals c.code.result.now c.is_of_a_program.ensures, ap (λ (k : Flat). k.globals) c.code.ensures, ap (λ (y : SessionOf). y.code.globals) c.self.view_is)

pub returns : goal.returns
returns c = search (rules, global_here, stands_for_own)

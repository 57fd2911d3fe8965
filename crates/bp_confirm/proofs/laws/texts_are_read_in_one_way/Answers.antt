use Rattle.bp_confirm.proofs.Common.{none_bad, one_bad, one_reading}
use Rattle.bp_confirm.proofs.laws.texts_are_read_in_one_way.Goals as goal

pub returns-clause-one : goal.returns-clause-one
returns-clause-one c = λ text xs ys p q. one_reading p q

pub returns-clause-one_bad : goal.returns-clause-one_bad
returns-clause-one_bad c = λ text m n p q. one_bad p q

pub returns-clause-none : goal.returns-clause-none
returns-clause-none c = λ text xs n p q. none_bad p q

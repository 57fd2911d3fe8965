use Rattle.bp_test.proofs.Common.{rules}
use Rattle.std.proofs.lemmas.Slice.Eq.{slice_eq-Decides}
use Rattle.bp_test.proofs.ShrunkHistories.{waits_Decides, same_waits}
use Rattle.bp_test.proofs.shrinks.is_same.Goals as goal

pub returns-in-Deadlock-Deadlock : goal.returns-in-Deadlock-Deadlock
returns-in-Deadlock-Deadlock c = search (rules, slice_eq-Decides, waits_Decides, same_waits)

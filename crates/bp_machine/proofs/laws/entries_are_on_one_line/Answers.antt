use Rattle.bp_machine.proofs.SetupInRange.{entries_hold_no_feed}
use Rattle.bp_machine.proofs.laws.entries_are_on_one_line.Goals as goal

pub returns : goal.returns
returns c = λ t s of_text fits. entries_hold_no_feed t s of_text fits

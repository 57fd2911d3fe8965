use Rattle.bp_explore.proofs.Common.{◌-◌, length}
use Rattle.bp_explore.proofs.cells.+read_number.Given as goal

abbrev pub decreases-read_number : goal.decreases-read_number
decreases-read_number l = length l.cells.now - l.at.now

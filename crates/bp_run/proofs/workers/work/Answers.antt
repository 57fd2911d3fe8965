use Rattle.bp_run.proofs.Common.{rules}
use Rattle.bp_run.proofs.workers.work.Goals.{in-None, in-Some+then-not-is_open, in-Some+else-not-is_open+then-is_halted, in-Some+else-not-is_open+else-is_halted+in-Err-Memory, in-Some+else-not-is_open+else-is_halted+in-Err}
use Rattle.bp_run.proofs.workers.work.Goals as goal

pub returns-clause-refused : goal.returns-clause-refused
returns-clause-refused g c = elim c.match-next.branch [
  | in-None w ↦ search rules
  | in-Some+then-not-is_open w ↦ search rules
  | in-Some+else-not-is_open+then-is_halted w ↦ search rules
  | in-Some+else-not-is_open+else-is_halted+in-Err-Memory w ↦ search rules
  | in-Some+else-not-is_open+else-is_halted+in-Err w ↦ search rules
]

pub returns-clause-stopped : goal.returns-clause-stopped
returns-clause-stopped g c = elim c.match-next.branch [
  | in-None w ↦ search rules
  | in-Some+then-not-is_open w ↦ search rules
  | in-Some+else-not-is_open+then-is_halted w ↦ search rules
  | in-Some+else-not-is_open+else-is_halted+in-Err-Memory w ↦ search rules
  | in-Some+else-not-is_open+else-is_halted+in-Err w ↦ search rules
]

use Rattle.bp_code.proofs.Common.{◌≡◌, ◌+◌, ◌++◌, drop, HaveFew, procedures_size, headings_from}
use Rattle.bp_code.proofs.programs.headings_of.Given as goal

abbrev pub invariant-loop-proc : goal.invariant-loop-proc
invariant-loop-proc l = record {
  size : l.entry + procedures_size (drop l.proc-index l.procs) ≡ procedures_size l.procs;
  few : HaveFew (drop l.proc-index l.procs);
  headings : l.headings.items ++ headings_from l.entry (drop l.proc-index l.procs) ≡ headings_from 0 l.procs;
}
